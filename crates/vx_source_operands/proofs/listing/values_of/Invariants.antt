use Rattle.std.proofs.Common.{◌≡◌, ◌++◌, map}
use Rattle.vx_value.specs.Views.{value_of}
use Rattle.vx_source_grammar.specs.Listing.{values_in}
use Rattle.vx_source_operands.specs.ListViews.{lent_scalars}
use Rattle.vx_source_operands.proofs.Gathering.{values_from}
use Rattle.vx_source_operands.proofs.listing.values_of.Given as goal

abbrev pub invariant-loop-i : goal.invariant-loop-i
invariant-loop-i l = values_in (lent_scalars l.scalars) ≡ map value_of l.values.items ++ values_from l.scalars l.i
