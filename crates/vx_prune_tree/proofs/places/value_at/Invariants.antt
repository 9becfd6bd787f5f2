use Rattle.std.proofs.Common.{◌≡◌, drop}
use Rattle.vx_value.specs.Views.{value_of}
use Rattle.vx_prune_tree.specs.Lent.{at_places}
use Rattle.vx_prune_tree.proofs.places.value_at.Given as goal

abbrev pub invariant-loop-place : goal.invariant-loop-place
invariant-loop-place l = at_places (drop l.place-index l.places) (value_of l.value) ≡ at_places l.places (value_of l.row)
