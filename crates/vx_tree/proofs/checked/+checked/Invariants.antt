use Rattle.std.proofs.Common.{◌≡◌, drop}
use Rattle.vx_tree.specs.Checked.{are_well_typed}
use Rattle.vx_tree.specs.Views.{bounds_of}
use Rattle.vx_tree.proofs.checked.+checked.Given as goal

abbrev pub invariant-are_well_typed-loop-b : goal.invariant-are_well_typed-loop-b
invariant-are_well_typed-loop-b l = are_well_typed (bounds_of l.bs) ≡ are_well_typed (bounds_of (drop l.b-index l.bs))
