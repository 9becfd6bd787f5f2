-- The rules of a CASE by its first condition are modest: their new children come from below the root.
use Rattle.vx_tree.specs.Trees.{BoundTree}
use Rattle.vx_tree.specs.Nodes.{bound_children_of}
use Rattle.vx_rewrite_core.specs.Steps.{GivesNothing}
use Rattle.vx_rewrite_core.proofs.Inside.{each_inside}
use Rattle.vx_rewrite_core.specs.FromSubterms.{at_first, in_rest, IsLiteral, EachFrom, from_none, FromSubterms}
use Rattle.vx_rewrite_rule_laws.specs.Branches.{BranchAt, first_branch, other_pairs, else_branch, no_branch}
use Rattle.vx_rewrite_core.proofs.Casts.{as_type-from}

branch_from : (b u : BoundTree) → BranchAt b u → EachFrom (bound_children_of b) (bound_children_of u)
branch_from b u (first_branch {x = x} a) = as_type-from x u _ (in_rest at_first) a
branch_from b u (other_pairs {rest = rest} z l e) = each_inside _ rest (λ y i. in_rest (in_rest i))
branch_from b u (else_branch {y = y} z a) = as_type-from y u _ (in_rest (in_rest at_first)) a
branch_from b u (no_branch z) = from_none

branch_at_literals : (b : BoundTree) → IsLiteral b → GivesNothing BranchAt b
branch_at_literals b l u r = none r l
  where
    none : {b u : BoundTree} → BranchAt b u → IsLiteral b → ⊥
    none (first_branch a) l = elim l [ ]
    none (other_pairs z h e) l = elim l [ ]
    none (else_branch z a) l = elim l [ ]
    none (no_branch z) l = elim l [ ]

pub branches_modest : FromSubterms BranchAt
branches_modest = record { from = branch_from; at_literals = branch_at_literals }
