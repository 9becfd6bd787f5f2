use Rattle.std.proofs.Common.{◌≡◌, drop, length}
use Rattle.vx_dtype.specs.Returns.{projected}
use Rattle.vx_dtype.specs.Views.{fields_view}
use Rattle.vx_dtype.proofs.Built.{after}
use Rattle.vx_dtype.proofs.fields.types_of.Given as goal

abbrev pub invariant-loop-i : goal.invariant-loop-i
invariant-loop-i l =
    (length l.found.items ≡ l.i)
    × (projected l.wanted (fields_view l.names l.types) ≡ after l.wanted l.found.items (projected (drop l.i l.wanted) (fields_view l.names l.types)))
