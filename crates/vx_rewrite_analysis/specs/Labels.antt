-- Labels of the nodes of a tree.
use Rattle.std.specs.Prelude.{◌≡◌, IfSome}
use Rattle.std.specs.Borrow.{Bor}
use Rattle.std.specs.HashMap.{HashMap}
use Rattle.vx_tree.specs.Trees.{BoundTree, scope, node, BoundTrees, no_bound, bound}
use Rattle.vx_tree.specs.Views.{bound_of}
use Rattle.vx_tree.specs.declared.bound.BoundExpression.{BoundExpression}
use Rattle.vx_tree.specs.declared.exact.ExactBoundExpr.{ExactBoundExpr}
use Rattle.vx_rewrite_analysis.specs.Keys.{key_of, entry_at}

-- the label of a node: the left fold of merge over its children's labels, from its own
abbrev mutual
  pub label : {L : Type 0} → (BoundTree → L) → (L → L → L) → BoundTree → L
  label own merge (scope t) = own (scope t)
  label own merge (node t f bs) = merged own merge (own (node t f bs)) bs

  pub merged : {L : Type 0} → (BoundTree → L) → (L → L → L) → L → BoundTrees → L
  merged own merge l no_bound = l
  merged own merge l (bound b bs) = merged own merge (merge l (label own merge b)) bs

-- a closure that answers by its tree alone, as own says
abbrev pub AnswersBy : {L : Type 0} → (Bor BoundExpression → L → Type 0) → (BoundTree → L) → Type 0
AnswersBy {L} post own = (x : Bor BoundExpression) (l : L) → post x l → l ≡ own (bound_of x.now)

-- a closure that answers by its two labels alone, as merge says
abbrev pub MergesBy : {L : Type 0} → (L → Bor L → L → Type 0) → (L → L → L) → Type 0
MergesBy {L} post merge = (a : L) (b : Bor L) (l : L) → post a b l → l ≡ merge a b.now

-- each entry is its node's label
abbrev pub IsLabelled : {L S : Type 0} → (BoundTree → L) → (L → L → L) → HashMap ExactBoundExpr L S → Type 0
IsLabelled own merge m = (k : ExactBoundExpr) → IfSome (entry_at (key_of k) m) (λ l. l ≡ label own merge (key_of k))
