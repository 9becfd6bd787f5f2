-- A map of what numbered nodes have, node by node.
use Rattle.std.proofs.Common.{◌≡◌, ℕ, zero, suc, ◌+◌, ◌<◌, get_or, drop, arith, List, [], ◌∷◌, length, Bool, true, false, ◌||◌, refl, sym, ap, subst, ◌∙◌}
use Rattle.std.specs.Prelude.{◌&&◌, Option, None, Some, is_some, cond}
use Rattle.std.specs.HashMap.{HashMap}
use Rattle.std.proofs.lemmas.List.{at_drop_more}
use Rattle.vx_tree.specs.Equality.{equal_bound, equal_bound_equiv}
use Rattle.vx_tree.specs.Trees.{BoundTree}
use Rattle.vx_tree.specs.declared.exact.ExactBoundExpr.{ExactBoundExpr}
use Rattle.vx_rewrite_analysis.specs.ByNumber.{has_some, HasEach}
use Rattle.vx_rewrite_analysis.specs.Keys.{key_of, entry_at}
use Rattle.vx_rewrite_analysis.specs.Numbers.{node_tree}
use Rattle.vx_rewrite_analysis.specs.declared.numbers.NumberedNode.{NumberedNode}

-- the first of what is left, and the others
pub rest-next : {X : Type 0} (xs : List X) (i : ℕ) (x d : X) (rest : List X) → x ∷ rest ≡ drop i xs → (get_or xs i d ≡ x) × (rest ≡ drop (i + 1) xs)
rest-next [] zero x d rest is = cc
rest-next [] (suc i) x d rest is = cc
rest-next (y ∷ xs) zero x d rest is = (cc, cc)
rest-next (y ∷ xs) (suc i) x d rest is =
    let next = rest-next xs i x d rest is in
    let more : suc (i + 1) ≡ suc i + 1 = omega arith in
    (next.0, next.1 ∙ ap (λ n. drop n (y ∷ xs)) more)

-- a node, where there are some
pub some-node : (ns : List NumberedNode) (i : ℕ) → i < length ns → NumberedNode
some-node [] i h = absurd (omega (arith, h))
some-node (n ∷ ns) i h = n

module _ {X : Type 0} (ns : List NumberedNode) (i : ℕ) (n : NumberedNode) (within : i < length ns) (rest : List (Option X)) where
  some-left : (k : BoundTree) (o : Option X) → has_some k (drop i ns) (o ∷ rest) ≡ ((equal_bound k (node_tree (get_or ns i n)) && is_some o) || has_some k (drop (i + 1) ns) rest)
  some-left k o = at_drop_more (λ ms. has_some k ms (o ∷ rest)) ns i n within

  -- what each node that is left has is of its tree
  pub each-left : (P : BoundTree → X → Type 0) (o : Option X) → HasEach P (drop i ns) (o ∷ rest) → HasEach P (drop (i + 1) ns) rest × ((x : X) → o ≡ Some x → P (node_tree (get_or ns i n)) x)
  each-left P o each =
      let here : HasEach P (get_or ns i n ∷ drop (i + 1) ns) (o ∷ rest) = subst (λ ms. HasEach P ms (o ∷ rest)) (at_drop_more (λ ms. ms) ns i n within) each in
      (λ j x has. here (suc j) x has, λ x is. here 0 x is)

  -- a node that has something has an entry
  entered-some : {S : Type 0} (k : ExactBoundExpr) (x : X) (old new : HashMap ExactBoundExpr X S) (all : Bool)
      → entry_at (key_of k) new ≡ cond (equal_bound (node_tree (get_or ns i n)) (key_of k)) (Some x) (entry_at (key_of k) old)
      → (has_some (key_of k) (drop i ns) (Some x ∷ rest) || is_some (entry_at (key_of k) old)) ≡ all → (has_some (key_of k) (drop (i + 1) ns) rest || is_some (entry_at (key_of k) new)) ≡ all
  entered-some k x old new all put so_far =
      let same = equal_bound (key_of k) (node_tree (get_or ns i n)) in
      let others = has_some (key_of k) (drop (i + 1) ns) rest in
      ap (λ o. others || is_some o) put
      ∙ ap (λ b. others || is_some (cond b (Some x) (entry_at (key_of k) old))) (equal_bound_equiv.symm (node_tree (get_or ns i n)) (key_of k))
      ∙ turn same others (entry_at (key_of k) old)
      ∙ sym (ap (λ h. h || is_some (entry_at (key_of k) old)) (some-left (key_of k) (Some x))) ∙ so_far
    where
      turn : (same others : Bool) (o : Option X) → (others || is_some (cond same (Some x) o)) ≡ (((same && true) || others) || is_some o)
      turn true true o = refl
      turn true false o = refl
      turn false others o = refl

  -- a node that has nothing has none
  entered-none : {S : Type 0} (k : ExactBoundExpr) (map : HashMap ExactBoundExpr X S) (all : Bool)
      → (has_some (key_of k) (drop i ns) (None ∷ rest) || is_some (entry_at (key_of k) map)) ≡ all → (has_some (key_of k) (drop (i + 1) ns) rest || is_some (entry_at (key_of k) map)) ≡ all
  entered-none k map all so_far =
      let same = equal_bound (key_of k) (node_tree (get_or ns i n)) in
      let others = has_some (key_of k) (drop (i + 1) ns) rest in
      ap (λ h. h || is_some (entry_at (key_of k) map)) (nothing same others) ∙ sym (ap (λ h. h || is_some (entry_at (key_of k) map)) (some-left (key_of k) None)) ∙ so_far
    where
      nothing : (same others : Bool) → others ≡ ((same && false) || others)
      nothing true others = refl
      nothing false others = refl

  -- so a node has an entry if it has something
  pub entered-if : {S : Type 0} (k : ExactBoundExpr) (o : Option X) (old new : HashMap ExactBoundExpr X S) (all : Bool)
      → entry_at (key_of k) new ≡ cond (is_some o && equal_bound (node_tree (get_or ns i n)) (key_of k)) o (entry_at (key_of k) old)
      → (has_some (key_of k) (drop i ns) (o ∷ rest) || is_some (entry_at (key_of k) old)) ≡ all → (has_some (key_of k) (drop (i + 1) ns) rest || is_some (entry_at (key_of k) new)) ≡ all
  entered-if k (Some x) old new all put so_far = entered-some k x old new all put so_far
  entered-if k None old new all put so_far = ap (λ o. has_some (key_of k) (drop (i + 1) ns) rest || is_some o) put ∙ entered-none k old all so_far
