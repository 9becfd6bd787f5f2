use Rattle.std.proofs.Common.{◌≡◌, drop, map}
use Rattle.vx_rewrite_rule_laws.specs.Rules.{children_named}
use Rattle.vx_rewrite_standard.proofs.Named.{before}
use Rattle.vx_rewrite_standard.proofs.packs.children_named.Given as goal
use Rattle.vx_tree.specs.Views.{bound_of, bounds_of}

abbrev pub invariant-loop-name : goal.invariant-loop-name
invariant-loop-name l = children_named l.wanted l.names (bounds_of l.children) ≡ before (map bound_of l.kept.items) (children_named (drop l.name-index l.wanted) l.names (bounds_of l.children))
