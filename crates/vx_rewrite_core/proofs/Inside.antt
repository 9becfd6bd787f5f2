-- What stands below what stands below.
use Rattle.std.proofs.Common.{inl, inr, subst}
use Rattle.vx_tree.specs.Trees.{BoundTree, scope, node, BoundTrees, no_bound, bound}
use Rattle.vx_tree.specs.Nodes.{bound_children_of}
use Rattle.vx_rewrite_core.proofs.Children.{IsChild}
use Rattle.vx_rewrite_core.specs.FromSubterms.{Inside, at_first, in_first, in_rest, EachFrom, from_none, from_inside}

inside-node : {x y : BoundTree} {ys : BoundTrees} → Inside x (bound_children_of y) → Inside x (bound y ys)
inside-node {y = scope t} i = elim i [ ]
inside-node {y = node t f bs} i = in_first i

inside-inside : {x y : BoundTree} {xs : BoundTrees} → Inside x (bound_children_of y) → Inside y xs → Inside x xs
inside-inside i at_first = inside-node i
inside-inside i (in_first j) = in_first (inside-inside i j)
inside-inside i (in_rest j) = in_rest (inside-inside i j)

-- trees that all stand inside
pub each_inside : (xs ys : BoundTrees) → ((x : BoundTree) → Inside x ys → Inside x xs) → EachFrom xs ys
each_inside xs no_bound k = from_none
each_inside xs (bound y ys) k = from_inside (k y at_first) (each_inside xs ys (λ x i. k x (in_rest i)))

-- so do the children of what stands below
pub below_inside : (y : BoundTree) (xs : BoundTrees) → Inside y xs → EachFrom xs (bound_children_of y)
below_inside y xs i = each_inside xs (bound_children_of y) (λ x j. inside-inside j i)

pub child-inside : (x : BoundTree) (xs : BoundTrees) → IsChild x xs → Inside x xs
child-inside x no_bound i = elim i [ ]
child-inside x (bound y ys) (inl e) = subst (λ z. Inside x (bound z ys)) e at_first
child-inside x (bound y ys) (inr i) = in_rest (child-inside x ys i)
