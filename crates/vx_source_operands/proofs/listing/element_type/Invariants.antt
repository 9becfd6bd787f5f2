use Rattle.std.proofs.Common.{◌≡◌}
use Rattle.vx_value.specs.Joins.{union_all, union_of}
use Rattle.vx_value.specs.Views.{type_of}
use Rattle.vx_source_grammar.specs.Listing.{types_in}
use Rattle.vx_source_operands.specs.ListViews.{lent_scalars}
use Rattle.vx_source_operands.proofs.Gathering.{types_from}
use Rattle.vx_source_operands.proofs.listing.element_type.Given as goal

abbrev pub invariant-loop-i : goal.invariant-loop-i
invariant-loop-i l = union_of (types_in (lent_scalars l.scalars)) ≡ union_all (type_of l.element) (types_from l.rest l.i)
