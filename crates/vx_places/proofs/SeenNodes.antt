-- Nodes of trees of the program, and what they stand for.
use Rattle.std.proofs.Common.{◌≡◌, ℕ, zero, suc, ◌+◌, ◌<◌, ◌≤◌, List, [], ◌∷◌, length, get_or, drop, map, Some, None, refl, sym, ap, ◌∙◌, arith, Vec}
use Rattle.std.specs.declared.alloc.Global.{Global}
use Rattle.std.specs.declared.sync.Arc.{Arc}
use Rattle.vx_dtype.specs.declared.dtype.DType.{DType}
use Rattle.vx_fn.specs.declared.function.ScalarFnRef.{ScalarFnRef}
use Rattle.vx_tree.specs.declared.bound.BoundExpression as Bound
use Rattle.vx_tree.specs.declared.bound.BoundExpression.{BoundExpression}
use Rattle.std.proofs.lemmas.List.{drop_more}
use Rattle.std.specs.Prelude.{option_and_then}
use Rattle.vx_tree.specs.Nodes.{tree_at, children_of, bound_children_of}
use Rattle.vx_tree.specs.Trees.{Tree}
use Rattle.vx_tree.specs.Views.{trees_from, bound_of, bounds_of}
use Rattle.vx_tree.proofs.Held.{bound_of-Scalar}
use Rattle.vx_places.specs.Nodes.{node_at}

-- the children of a bound node are those that it holds
pub seen_children : (e : BoundExpression) (t : DType) (f : ScalarFnRef) (all : Arc (Vec BoundExpression Global) Global) (children : List BoundExpression) → e ≡ Bound.Scalar t f all → children ≡ all.value.items → bound_children_of (bound_of e) ≡ bounds_of children
seen_children e t f all children is those = rw (is, bound_of-Scalar t f all, ← those) refl

-- ---- children by their index

child_at : {A : Type 0} (view : A → Tree) (xs : List A) (i : ℕ) (x : A) → i < length xs → x ≡ get_or xs i x → tree_at (trees_from (map view xs)) i ≡ Some (view x)
child_at view [] i x lt is = absurd (omega arith)
child_at view (y ∷ xs) zero x lt is = ap (λ z. Some (view z)) (sym is)
child_at view (y ∷ xs) (suc i) x lt is = child_at view xs i x (omega arith) is

no_child_at : {A : Type 0} (view : A → Tree) (xs : List A) (i : ℕ) → length xs ≤ i → tree_at (trees_from (map view xs)) i ≡ None
no_child_at view [] i h = refl
no_child_at view (y ∷ xs) zero h = absurd (omega arith)
no_child_at view (y ∷ xs) (suc i) h = no_child_at view xs i (omega arith)

-- ---- a path, one index after another

module _ {A : Type 0} (view : A → Tree) (path : List ℕ) (k : ℕ) (n : Tree) (xs : List A) (left : k < length path) (those : trees_from (map view xs) ≡ children_of n) where
  step : node_at (drop k path) n ≡ option_and_then (node_at (drop (k + 1) path)) (tree_at (trees_from (map view xs)) (get_or path k 0))
  step = ap (λ p. node_at p n) (drop_more path k 0 left) ∙ ap (λ es. option_and_then (node_at (drop (k + 1) path)) (tree_at es (get_or path k 0))) (sym those)

  -- the next node is the child of the next index
  pub node_next : (x : A) → get_or path k 0 < length xs → x ≡ get_or xs (get_or path k 0) x → node_at (drop k path) n ≡ node_at (drop (k + 1) path) (view x)
  node_next x lt is = step ∙ ap (option_and_then (node_at (drop (k + 1) path))) (child_at view xs (get_or path k 0) x lt is)

  -- where there is no such child there is no node
  pub node_none : length xs ≤ get_or path k 0 → node_at (drop k path) n ≡ None
  node_none past = step ∙ ap (option_and_then (node_at (drop (k + 1) path))) (no_child_at view xs (get_or path k 0) past)
