use Rattle.std.proofs.Common.{◌≡◌, ◌∷◌}
use Rattle.vx_source_grammar.specs.Listing.{scalars_in}
use Rattle.vx_source_operands.specs.ListViews.{lent_scalars}
use Rattle.vx_source_operands.proofs.Gathering.{onto, scalars_from}
use Rattle.vx_source_over.specs.Views.{settled_tree, settled_trees}
use Rattle.vx_source_over.proofs.searching.scalars_of.Given as goal

abbrev pub invariant-loop-i : goal.invariant-loop-i
invariant-loop-i l = scalars_in (settled_trees (l.first ∷ l.rest)) ≡ onto (lent_scalars l.scalars.items) (scalars_from settled_tree l.rest l.i)
