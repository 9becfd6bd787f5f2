use Rattle.std.proofs.Common.{◌≡◌, drop}
use Rattle.vx_source_over.specs.Views.{none_of, own_trees}
use Rattle.vx_source_over.proofs.nodes.are_none.Given as goal

abbrev pub invariant-loop-begun : goal.invariant-loop-begun
invariant-loop-begun l = none_of (own_trees l.own) ≡ none_of (own_trees (drop l.begun-index l.own))
