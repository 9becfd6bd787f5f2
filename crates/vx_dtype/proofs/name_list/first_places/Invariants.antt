use Rattle.vx_dtype.proofs.FirstPlaces.{TellsFrom}
use Rattle.vx_dtype.proofs.name_list.first_places.Given as goal

abbrev pub invariant-loop-i : goal.invariant-loop-i
invariant-loop-i l = TellsFrom l.i l.index l.names
