-- A first pair, found conjunct by conjunct.
use Rattle.std.proofs.Common.{◌≡◌, inl, inr, List, [], ◌∷◌, ◌++◌, refl, sym, subst, false}
use Rattle.std.specs.Prelude.{Option, Some, None, Result}
use Rattle.std.proofs.lemmas.List.{append-nil}
use Rattle.std.specs.declared.alloc.Global.{Global}
use Rattle.std.specs.declared.boxed.Box.{Box}
use Rattle.vx_dtype.specs.declared.error.VortexError.{VortexError}
use Rattle.vx_value.specs.Types.{LogicalType}
use Rattle.vx_fn.specs.Functions.{and_also}
use Rattle.vx_dtype.specs.Lists.{IsIn}
use Rattle.vx_dtype.proofs.Lists.{in_left, in_right}
use Rattle.vx_tree.specs.Trees.{BoundTree}
use Rattle.vx_tree.specs.Views.{bound_of}
use Rattle.vx_tree.specs.declared.bound.BoundExpression.{BoundExpression}
use Rattle.vx_rewrite_fusing.specs.Conjuncts.{and_node, and_of, is_and, conjuncts, range_of, conjoined, MergeTo, Mergeable, NoneMergeable, IsBinary}
use Rattle.vx_rewrite_fusing.specs.Merging.{itself, on_left, on_right, Removed, left_gone, right_gone, from_left, from_right}
use Rattle.vx_rewrite_fusing.specs.Finding.{Finds, LeftMerged, Gone, whole, part, PairMerged}
use Rattle.vx_rewrite_fusing.proofs.Merges.{alone, in_append, either, replaced_from, removed_from, in_own, no_right}
use Rattle.vx_rewrite_fusing.proofs.Refusals.{found_as}

-- ---- none is mergeable

pub none_append_left : (xs ys ds : List BoundTree) → NoneMergeable xs ds → NoneMergeable ys ds → NoneMergeable (xs ++ ys) ds
none_append_left xs ys ds f g c d i j k = either (λ p. f c d p j k) (λ p. g c d p j k) (in_append c xs ys i)

pub none_append_right : (cs xs ys : List BoundTree) → NoneMergeable cs xs → NoneMergeable cs ys → NoneMergeable cs (xs ++ ys)
none_append_right cs xs ys f g c d i j k = either (λ p. f c d i p k) (λ p. g c d i p k) (in_append d xs ys j)

none_of_none : (ds : List BoundTree) → NoneMergeable [] ds
none_of_none ds c d i j k = i

pub none_to_none : (cs : List BoundTree) → NoneMergeable cs []
none_to_none cs c d i j k = j

one_pair : (l d : BoundTree) → (Mergeable l d → ⊥) → NoneMergeable (l ∷ []) (d ∷ [])
one_pair l d nil c e (inl p) (inl q) k = nil (k.0, subst (λ x. MergeTo x d k.0) p (subst (λ x. MergeTo c x k.0) q k.1))
one_pair l d nil c e (inl p) (inr j) k = j
one_pair l d nil c e (inr i) j k = i

pub none_on_left : {x y l : BoundTree} (ds : List BoundTree) → IsBinary and_also x y l → NoneMergeable (conjuncts l) ds → NoneMergeable (conjuncts x) ds
none_on_left {x = x} {y = y} ds b n c d i j k = subst (λ z. NoneMergeable (conjuncts z) ds) b.1 n c d (in_left c (conjuncts x) (conjuncts y) i) j k

pub none_on_right : {x y l : BoundTree} (ds : List BoundTree) → IsBinary and_also x y l → NoneMergeable (conjuncts l) ds → NoneMergeable (conjuncts y) ds
none_on_right {x = x} {y = y} ds b n c d i j k = subst (λ z. NoneMergeable (conjuncts z) ds) b.1 n c d (in_right c (conjuncts x) (conjuncts y) i) j k

pub none_with_left : {x y r : BoundTree} (cs : List BoundTree) → IsBinary and_also x y r → NoneMergeable cs (conjuncts r) → NoneMergeable cs (conjuncts x)
none_with_left {x = x} {y = y} cs b n c d i j k = subst (λ z. NoneMergeable cs (conjuncts z)) b.1 n c d i (in_left d (conjuncts x) (conjuncts y) j) k

pub none_with_right : {x y r : BoundTree} (cs : List BoundTree) → IsBinary and_also x y r → NoneMergeable cs (conjuncts r) → NoneMergeable cs (conjuncts y)
none_with_right {x = x} {y = y} cs b n c d i j k = subst (λ z. NoneMergeable cs (conjuncts z)) b.1 n c d i (in_right d (conjuncts x) (conjuncts y) j) k

-- ---- in the left tree

pub left_is_some : {d l u : BoundTree} → LeftMerged d l u → NoneMergeable (conjuncts l) (d ∷ []) → ⊥
left_is_some {d = d} k none = none k.conjunct d (replaced_from k.replaced) (inl refl) (k.merged, k.mergeable)

pub left_alone : {d l m : BoundTree} → is_and l ≡ false → MergeTo l d m → LeftMerged d l m
left_alone {d = d} {l = l} {m = m} e k = record { conjunct = l; merged = m; front = []; mergeable = k; none_of_front = none_of_none (d ∷ []); replaced = itself e }

pub left_none_alone : {d l : BoundTree} → is_and l ≡ false → (Mergeable l d → ⊥) → NoneMergeable (conjuncts l) (d ∷ [])
left_none_alone {d = d} {l = l} e nil = subst (λ cs. NoneMergeable cs (d ∷ [])) (sym (alone l e)) (one_pair l d nil)

-- a single conjunct is merged, or isn't
pub left_single : (d l : BoundTree) (r : Result (Option (Box BoundExpression Global)) VortexError) → is_and l ≡ false → Finds (Mergeable l d → ⊥) (λ m. MergeTo l d (bound_of m.value)) r → Finds (NoneMergeable (conjuncts l) (d ∷ [])) (λ u. LeftMerged d l (bound_of u.value)) r
left_single d l r e p = found_as _ _ (Mergeable l d → ⊥) (λ m. MergeTo l d (bound_of m.value)) r (left_none_alone e) (λ none k. left_is_some (left_alone e k.1) none) (λ m k. left_alone e k) p

pub left_in_first : {d x y l u w : BoundTree} → IsBinary and_also x y l → LeftMerged d x u → w ≡ and_of u y → LeftMerged d l w
left_in_first {d = d} {x = x} {y = y} {l = l} {u = u} {w = w} b k e = subst (λ z. LeftMerged d z w) (sym b.1) (subst (LeftMerged d (and_node b.0 x y)) (sym e) (record { conjunct = k.conjunct; merged = k.merged; front = k.front; mergeable = k.mergeable; none_of_front = k.none_of_front; replaced = on_left k.replaced }))

pub left_in_second : {d x y l u w : BoundTree} → IsBinary and_also x y l → NoneMergeable (conjuncts x) (d ∷ []) → LeftMerged d y u → w ≡ and_of x u → LeftMerged d l w
left_in_second {d = d} {x = x} {y = y} {l = l} {u = u} {w = w} b nil k e = subst (λ z. LeftMerged d z w) (sym b.1) (subst (LeftMerged d (and_node b.0 x y)) (sym e) (record { conjunct = k.conjunct; merged = k.merged; front = conjuncts x ++ k.front; mergeable = k.mergeable; none_of_front = none_append_left (conjuncts x) k.front (d ∷ []) nil k.none_of_front; replaced = on_right k.replaced }))

pub left_none : {d x y l : BoundTree} → IsBinary and_also x y l → NoneMergeable (conjuncts x) (d ∷ []) → NoneMergeable (conjuncts y) (d ∷ []) → NoneMergeable (conjuncts l) (d ∷ [])
left_none {d = d} {x = x} {y = y} b f g = subst (λ z. NoneMergeable (conjuncts z) (d ∷ [])) (sym b.1) (none_append_left (conjuncts x) (conjuncts y) (d ∷ []) f g)

-- ---- in the right tree

pub right_is_some : {l r u : BoundTree} {rest : Option BoundTree} → PairMerged l r u rest → NoneMergeable (conjuncts l) (conjuncts r) → ⊥
right_is_some {l = l} {r = r} k none = none k.left k.right (replaced_from k.replaced) (gone_from k.gone) (k.merged, k.first.mergeable)
  where
    gone_from : {d r : BoundTree} {back : List BoundTree} {rest : Option BoundTree} → Gone d back r rest → IsIn d (conjuncts r)
    gone_from {d = d} (whole e) = in_own d e
    gone_from (part p) = removed_from p

pub right_single : {l r u : BoundTree} → is_and r ≡ false → LeftMerged r l u → PairMerged l r u None
right_single {l = l} {r = r} e k = record {
  left = k.conjunct;
  right = r;
  merged = k.merged;
  front = k.front;
  back = [];
  first = record { mergeable = k.mergeable; none_of_back = none_to_none (conjuncts l); none_of_front = k.none_of_front };
  replaced = k.replaced;
  gone = whole e;
}

pub right_none_single : (l r : BoundTree) → is_and r ≡ false → NoneMergeable (conjuncts l) (r ∷ []) → NoneMergeable (conjuncts l) (conjuncts r)
right_none_single l r e nil = subst (NoneMergeable (conjuncts l)) (sym (alone r e)) nil

pub single_none : (l r : BoundTree) → is_and r ≡ false → NoneMergeable (conjuncts l) (conjuncts r) → NoneMergeable (conjuncts l) (r ∷ [])
single_none l r e none = subst (NoneMergeable (conjuncts l)) (alone r e) none

-- what is no range comparison is mergeable with none
pub no_range_none : (l r : BoundTree) → is_and r ≡ false → range_of r ≡ None → NoneMergeable (conjuncts l) (conjuncts r)
no_range_none l r e n = right_none_single l r e (λ c d i j k. go c d j k)
  where
    go : (c d : BoundTree) → IsIn d (r ∷ []) → Mergeable c d → ⊥
    go c d (inl q) k = no_right k.1 (subst (λ x. range_of x ≡ None) (sym q) n)
    go c d (inr j) k = j

gone_first : {d x : BoundTree} {back : List BoundTree} {rest : Option BoundTree} (t : LogicalType) (y : BoundTree) → Gone d back x rest → Gone d back (and_node t x y) (conjoined rest (Some y))
gone_first t y (whole e) = part (left_gone e)
gone_first t y (part p) = part (from_left p)

gone_second : {d y : BoundTree} {back : List BoundTree} {rest : Option BoundTree} (t : LogicalType) (x : BoundTree) → Gone d back y rest → Gone d (conjuncts x ++ back) (and_node t x y) (conjoined (Some x) rest)
gone_second {d = d} t x (whole e) = part (subst (λ f. Removed d f (and_node t x d) x) (sym (append-nil (conjuncts x))) (right_gone e))
gone_second t x (part p) = part (from_right p)

pub right_in_first : {l x u : BoundTree} {rest : Option BoundTree} (t : LogicalType) (y : BoundTree) → PairMerged l x u rest → PairMerged l (and_node t x y) u (conjoined rest (Some y))
right_in_first t y k = record {
  left = k.left;
  right = k.right;
  merged = k.merged;
  front = k.front;
  back = k.back;
  first = k.first;
  replaced = k.replaced;
  gone = gone_first t y k.gone;
}

pub right_in_second : {l y u : BoundTree} {rest : Option BoundTree} (t : LogicalType) (x : BoundTree) → NoneMergeable (conjuncts l) (conjuncts x) → PairMerged l y u rest → PairMerged l (and_node t x y) u (conjoined (Some x) rest)
right_in_second {l = l} t x nil k = record {
  left = k.left;
  right = k.right;
  merged = k.merged;
  front = k.front;
  back = conjuncts x ++ k.back;
  first = record { mergeable = k.first.mergeable; none_of_back = none_append_right (conjuncts l) (conjuncts x) k.back nil k.first.none_of_back; none_of_front = k.first.none_of_front };
  replaced = k.replaced;
  gone = gone_second t x k.gone;
}

pub right_none : (l : BoundTree) {x y r : BoundTree} → IsBinary and_also x y r → NoneMergeable (conjuncts l) (conjuncts x) → NoneMergeable (conjuncts l) (conjuncts y) → NoneMergeable (conjuncts l) (conjuncts r)
right_none l {x = x} {y = y} b f g = subst (λ z. NoneMergeable (conjuncts l) (conjuncts z)) (sym b.1) (none_append_right (conjuncts l) (conjuncts x) (conjuncts y) f g)
