-- Pairs of two conjunctions, one after another, are merges of their And.
use Rattle.std.proofs.Common.{◌≡◌, ℕ, suc, List, ◌++◌, refl, sym, subst, false}
use Rattle.std.specs.Prelude.{Option, Some, None, Result, Ok, Err, IfOk, option_map}
use Rattle.std.proofs.lemmas.List.{append-nil}
use Rattle.vx_dtype.specs.declared.error.VortexError.{VortexError}
use Rattle.vx_value.specs.Types.{LogicalType}
use Rattle.vx_fn.specs.Functions.{and_also}
use Rattle.vx_dtype.proofs.Lists.{in_left, in_right}
use Rattle.vx_tree.specs.Trees.{BoundTree, node_type}
use Rattle.vx_tree.specs.Views.{bound_of}
use Rattle.vx_rewrite_core.specs.Steps.{here, no_step, one_more}
use Rattle.vx_rewrite_fusing.specs.Conjuncts.{and_node, and_of, is_and, conjuncts, range_of, conjuncts_left, conjoined, tree_in, MergeTo, below_and_above, above_and_below, NoneMergeable, Fused, FusedBelow, IsBinary}
use Rattle.vx_rewrite_fusing.specs.Merging.{IsFirstPair, Replaced, MergeAt, right_stays, right_goes, Merges, IsFusedOf}
use Rattle.vx_rewrite_fusing.specs.declared.merge.Merged.{Merged}
use Rattle.vx_rewrite_fusing.specs.Finding.{Gone, whole, part, PairMerged, Pairs, last_pair, and_pairs, PairsMerged, MergesSecond, with_pairs, without_pairs}
use Rattle.vx_rewrite_fusing.proofs.Keyed.{between_plain}
use Rattle.vx_rewrite_fusing.proofs.Merges.{either, no_left, merged_plain, replaced_within, replaced_fused, removed_fused, conjunct_fused, gone_fused, fused_and}
use Rattle.vx_rewrite_fusing.proofs.Found.{none_append_right, none_to_none, right_is_some, right_in_first, right_in_second}

-- ---- what isn't mergeable with the left conjuncts isn't after merges

pair_none : {l r u : BoundTree} {rest : Option BoundTree} (ds : List BoundTree) → PairMerged l r u rest → NoneMergeable (conjuncts l) ds → NoneMergeable (conjuncts u) ds
pair_none ds k none c d i j m = either
    (λ p. none c d p j m)
    (λ p. no_left m.1 (subst (λ x. range_of x ≡ None) (sym p) (between_plain k.first.mergeable).1))
    (replaced_within k.replaced (between_plain k.first.mergeable).0 c i)

pairs_none : {l r u : BoundTree} {rest : Option BoundTree} (ds : List BoundTree) → Pairs l r u rest → NoneMergeable (conjuncts l) ds → NoneMergeable (conjuncts u) ds
pairs_none ds (last_pair k) none = pair_none ds k none
pairs_none ds (and_pairs k p) none = pairs_none ds p (pair_none ds k none)

pub pairs_are_some : {l r u : BoundTree} {rest : Option BoundTree} → Pairs l r u rest → NoneMergeable (conjuncts l) (conjuncts r) → ⊥
pairs_are_some (last_pair k) none = right_is_some k none
pairs_are_some (and_pairs k p) none = right_is_some k none

-- ---- pairs of a child of the right tree

pairs_in_first : {l x u : BoundTree} {rest : Option BoundTree} (t : LogicalType) (y : BoundTree) → Pairs l x u rest → Pairs l (and_node t x y) u (conjoined rest (Some y))
pairs_in_first t y (last_pair k) = last_pair (right_in_first t y k)
pairs_in_first t y (and_pairs {s = s} k p) = and_pairs (right_in_first t y k) (pairs_in_first (node_type (and_of s y)) y p)

pairs_in_second : {l y u : BoundTree} {rest : Option BoundTree} (t : LogicalType) (x : BoundTree) → NoneMergeable (conjuncts l) (conjuncts x) → Pairs l y u rest → Pairs l (and_node t x y) u (conjoined (Some x) rest)
pairs_in_second t x none (last_pair k) = last_pair (right_in_second t x none k)
pairs_in_second t x none (and_pairs {s = s} k p) = and_pairs (right_in_second t x none k) (pairs_in_second (node_type (and_of x s)) x (pair_none (conjuncts x) k none) p)

pairs_then : {l r u s w : BoundTree} {rest : Option BoundTree} → Pairs l r u (Some s) → Pairs u s w rest → Pairs l r w rest
pairs_then (last_pair k) q = and_pairs k q
pairs_then (and_pairs k p) q = and_pairs k (pairs_then p q)

pairs_in_both : {l x y u w : BoundTree} (t : LogicalType) (left rest : Option BoundTree) → Pairs l x u left → NoneMergeable (conjuncts u) (conjuncts_left left) → Pairs u y w rest → Pairs l (and_node t x y) w (conjoined left rest)
pairs_in_both {y = y} t None rest p none q = pairs_then (pairs_in_first t y p) q
pairs_in_both {y = y} t (Some s) rest p none q = pairs_then (pairs_in_first t y p) (pairs_in_second (node_type (and_of s y)) s none q)

pub conjuncts_left-conjoined : (l r : Option BoundTree) → conjuncts_left (conjoined l r) ≡ conjuncts_left l ++ conjuncts_left r
conjuncts_left-conjoined None r = refl
conjuncts_left-conjoined (Some l) None = sym (append-nil (conjuncts l))
conjuncts_left-conjoined (Some l) (Some r) = refl

none_joined : (cs : List BoundTree) (l r : Option BoundTree) → NoneMergeable cs (conjuncts_left l) → NoneMergeable cs (conjuncts_left r) → NoneMergeable cs (conjuncts_left (conjoined l r))
none_joined cs l r f g = subst (NoneMergeable cs) (sym (conjuncts_left-conjoined l r)) (none_append_right cs (conjuncts_left l) (conjuncts_left r) f g)

-- what is merged with the first child of a right tree, and then with its second
pub first_and_second : {l x y r u w : BoundTree} {left rest : Option BoundTree} → IsBinary and_also x y r → PairsMerged l x u left → MergesSecond u left y w rest → PairsMerged l r w rest
first_and_second {l = l} {x = x} {y = y} {u = u} {w = w} {left = left} b p (with_pairs {rest = rest} q) = subst (λ z. PairsMerged l z w (conjoined left rest)) (sym b.1) (record {
  pairs = pairs_in_both b.0 left rest p.pairs p.none_left q.pairs;
  none_left = none_joined (conjuncts w) left rest (pairs_none (conjuncts_left left) q.pairs p.none_left) q.none_left;
})
first_and_second {l = l} {x = x} {y = y} {u = u} {w = w} {left = left} b p (without_pairs e none) = subst (λ z. PairsMerged l z w (conjoined left (Some y))) (sym b.1) (subst (λ z. PairsMerged l (and_node b.0 x y) z (conjoined left (Some y))) (sym e) (record {
  pairs = pairs_in_first b.0 y p.pairs;
  none_left = none_joined (conjuncts u) left (Some y) p.none_left none;
}))

-- an answer merges the second child if its parts are those of trees that do
pub second_answered : {l y u : BoundTree} {right rest : Option BoundTree} (r : Result Merged VortexError) → IfOk r (λ m. bound_of m.left.value ≡ u) → IfOk r (λ m. option_map tree_in m.right ≡ rest) → MergesSecond l right y u rest → IfOk r (λ m. MergesSecond l right y (bound_of m.left.value) (option_map tree_in m.right))
second_answered (Ok m) p q s = rw (p, q) s
second_answered (Err e) p q s = p

-- what is merged with the second child alone
pub second_alone : {l x y r u : BoundTree} {rest : Option BoundTree} → IsBinary and_also x y r → NoneMergeable (conjuncts l) (conjuncts x) → PairsMerged l y u rest → PairsMerged l r u (conjoined (Some x) rest)
second_alone {l = l} {x = x} {u = u} {rest = rest} b none p = subst (λ z. PairsMerged l z u (conjoined (Some x) rest)) (sym b.1) (record {
  pairs = pairs_in_second b.0 x none p.pairs;
  none_left = none_joined (conjuncts u) (Some x) rest (pairs_none (conjuncts x) p.pairs none) p.none_left;
})

-- what is merged with a single conjunct
pub pairs_single : {l r u : BoundTree} → PairMerged l r u None → PairsMerged l r u None
pairs_single {u = u} k = record { pairs = last_pair k; none_left = none_to_none (conjuncts u) }

-- ---- at their And

-- the And of the two trees, or the left one
abbrev pub whole_or : BoundTree → Option BoundTree → BoundTree
whole_or u None = u
whole_or u (Some w) = and_of u w

once_at : {l r u : BoundTree} {rest : Option BoundTree} (t : LogicalType) → Fused l → Fused r → PairMerged l r u rest → MergeAt (and_node t l r) (whole_or u rest)
once_at {rest = rest} t f g k = go k.gone k.first k.replaced f g
  where
    go : {l r u d c m : BoundTree} {front back : List BoundTree} {rest : Option BoundTree} → Gone d back r rest → IsFirstPair l front c back d m → Replaced c m front l u → Fused l → Fused r → MergeAt (and_node t l r) (whole_or u rest)
    go (whole e) first p f g = right_goes f g e first p
    go (part q) first p f g = right_stays f g first p q

abbrev FusedLeft : Option BoundTree → Type 0
FusedLeft None = Unit {0}
FusedLeft (Some r) = Fused r

gone_is_fused : {d r : BoundTree} {back : List BoundTree} {rest : Option BoundTree} → Gone d back r rest → Fused r → Fused d × FusedLeft rest
gone_is_fused (whole e) f = (f, tt)
gone_is_fused (part p) f = (gone_fused p f, removed_fused p f)

pair_fused : {l r u : BoundTree} {rest : Option BoundTree} → PairMerged l r u rest → Fused l → Fused r → Fused u × FusedLeft rest
pair_fused k f g =
    let gone = gone_is_fused k.gone g in
    let m = merged_plain k.first.mergeable (conjunct_fused k.replaced f) gone.0 in
    (replaced_fused k.replaced m.no_and m.no_range m.fused f, gone.1)

pairs_merge : {l r u : BoundTree} {rest : Option BoundTree} (t : LogicalType) → Pairs l r u rest → Fused l → Fused r → (n : ℕ) × Merges (and_node t l r) n (whole_or u rest) × Fused u × FusedLeft rest
pairs_merge t (last_pair k) f g = let h = pair_fused k f g in (1, one_more (here (once_at t f g k)) no_step, h.0, h.1)
pairs_merge t (and_pairs {u = u} {s = s} k p) f g =
    let h = pair_fused k f g in
    let q = pairs_merge (node_type (and_of u s)) p h.0 h.1 in
    (suc q.0, one_more (here (once_at t f g k)) q.1, q.2, q.3)

whole_fused : (u : BoundTree) (rest : Option BoundTree) → Fused u → FusedLeft rest → NoneMergeable (conjuncts u) (conjuncts_left rest) → Fused (whole_or u rest)
whole_fused u None f g none = f
whole_fused u (Some r) f g none = fused_and (node_type (and_of u r)) u r f g none

pub merged_root : {b l r u w : BoundTree} {rest : Option BoundTree} → IsBinary and_also l r b → FusedBelow b → PairsMerged l r u rest → w ≡ whole_or u rest → IsFusedOf b w
merged_root {l = l} {r = r} {u = u} {w = w} {rest = rest} b f p e =
    let g : Fused l × (Fused r × Unit {0}) = subst FusedBelow b.1 f in
    let q = pairs_merge b.0 p.pairs g.0 g.1.0 in
    subst (λ z. IsFusedOf z w) (sym b.1) (subst (IsFusedOf (and_node b.0 l r)) (sym e) (record { count = q.0; merges = q.1; fused = whole_fused u rest q.2 q.3 p.none_left }))

pub fused_root : {b l r : BoundTree} → IsBinary and_also l r b → FusedBelow b → NoneMergeable (conjuncts l) (conjuncts r) → Fused b
fused_root {l = l} {r = r} b f none =
    let g : Fused l × (Fused r × Unit {0}) = subst FusedBelow b.1 f in
    subst Fused (sym b.1) (fused_and b.0 l r g.0 g.1.0 none)

-- no conjunct of the one child of a fused And is mergeable with one of the other
pub none_across : {b l r : BoundTree} → IsBinary and_also l r b → Fused b → NoneMergeable (conjuncts l) (conjuncts r)
none_across {l = l} {r = r} b f = go (subst Fused b.1 f)
  where
    go : Fused (and_node b.0 l r) → NoneMergeable (conjuncts l) (conjuncts r)
    go g c d i j k = g.0 c d (in_left c (conjuncts l) (conjuncts r) i) (in_right d (conjuncts l) (conjuncts r) j) k

-- where pairs are merged the tree wasn't fused
pub root_unfused : {b l r u : BoundTree} {rest : Option BoundTree} → IsBinary and_also l r b → PairsMerged l r u rest → Fused b → ⊥
root_unfused b p f = pairs_are_some p.pairs (none_across b f)
