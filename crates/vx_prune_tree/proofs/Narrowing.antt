-- Of a chunk of which more is known bounds are no wider, and verdicts no less sure.
use Rattle.std.proofs.Common.{◌≡◌, ℕ, List, [], refl, sym, subst, Bool, true, false, Option, Some, None}
use Rattle.std.specs.Prelude.{◌==◌, if◌then◌else◌, not}
use Rattle.vx_value.specs.Paths.{Path}
use Rattle.vx_value.specs.Types.{LogicalType, Data}
use Rattle.vx_dtype.specs.Lists.{Forall2, forall2_nil, forall2_cons}
use Rattle.vx_fn.specs.Functions.{Function, case_when, get_item, literal, pack, select, fill_null, zip, binary, logical_not, between, like, is_null, is_not_null, mask, cast, starts_with, byte_length, list_contains, Operation, compares, and_also, or_else, computes}
use Rattle.vx_tree.specs.Trees.{BoundTree, scope, node, BoundTrees, no_bound, bound}
use Rattle.vx_prune_bounds.proofs.Contained.{any_of-proper, exactly-proper, from_within, within, within-refl}
use Rattle.vx_prune_bounds.proofs.Lattice.{meet-mono, meet-proper}
use Rattle.vx_prune_bounds.proofs.Monotone.{and-mono, between-mono, case-mono, choice-mono, comparison-mono, fewer, fill-mono, mask-mono, may_fail-mono, not-mono, null-mono, or-mono, shaped_as-mono, arithmetic-mono, truth_bounds-mono, truths_in-mono}
use Rattle.vx_prune_bounds.specs.Bounds.{Bounds, any_of, exactly, meet, IsProper, IsWithin}
use Rattle.vx_prune_bounds.specs.Comparing.{between_truths, comparison_truths}
use Rattle.vx_prune_bounds.specs.Kernels.{null_truths}
use Rattle.vx_prune_bounds.specs.Truths.{and_truths, may_fail, not_truths, or_truths, truths_in, AreWithin}
use Rattle.vx_prune_bounds.specs.declared.truths.Truths.{Truths}
use Rattle.vx_prune_tree.proofs.StatisticsNarrowing.{bounds_narrow}
use Rattle.vx_prune_tree.specs.Knowing.{KnowsMore}
use Rattle.vx_prune_tree.specs.Stats.{Facts}
use Rattle.vx_prune_bounds.proofs.LikeMonotone.{like-mono}
use Rattle.vx_prune_bounds.specs.Beginnings.{like_truths}
use Rattle.vx_prune_bounds.proofs.BegunTexts.{begun-mono}
use Rattle.vx_prune_bounds.specs.Begun.{begun_truths}
use Rattle.vx_prune_bounds.proofs.Lengths.{length-mono}
use Rattle.vx_prune_bounds.proofs.Searched.{search-mono}
use Rattle.vx_prune_bounds.specs.Searching.{search_truths}
use Rattle.vx_prune_tree.specs.Bounding.{at_path_or, binary_bounds, bounds_in, each_bounds_in, fn_bounds, given_bounds, item_bounds, item_path, of_one, of_three, of_two, path_to_only, searched, unknown}
use Rattle.vx_prune_tree.specs.Verdicts.{verdict_of, IsAsSure, MoreIsAsSure, MoreNarrows}
use Rattle.vx_prune_tree.specs.declared.verdicts.Verdict.TheVariants.{EveryRow, NoRow, Unknown}

-- the first bounds say all that the second say, and are proper
abbrev pub Narrows : Bounds → Bounds → Type 0
Narrows x y = IsWithin x y × IsProper x

each-within : {xs ys : List Bounds} → Forall2 Narrows xs ys → Forall2 IsWithin xs ys
each-within forall2_nil = forall2_nil
each-within (forall2_cons n a) = forall2_cons n.0 (each-within a)

-- ---- functions

one-mono : (f : Bounds → Bounds) → ((x y : Bounds) → Narrows x y → IsWithin (f x) (f y)) → {xs ys : List Bounds} → Forall2 Narrows xs ys → IsWithin (of_one f xs) (of_one f ys)
one-mono f m forall2_nil = refl
one-mono f m (forall2_cons {x = x} {y = y} n forall2_nil) = m x y n
one-mono f m (forall2_cons n (forall2_cons k a)) = refl

two-mono : (f : Bounds → Bounds → Bounds) → ((x y : Bounds) → Narrows x y → (v w : Bounds) → Narrows v w → IsWithin (f x v) (f y w)) → {xs ys : List Bounds} → Forall2 Narrows xs ys → IsWithin (of_two f xs) (of_two f ys)
two-mono f m forall2_nil = refl
two-mono f m (forall2_cons n forall2_nil) = refl
two-mono f m (forall2_cons {x = x} {y = y} n (forall2_cons {x = v} {y = w} k forall2_nil)) = m x y n v w k
two-mono f m (forall2_cons n (forall2_cons k (forall2_cons l a))) = refl

three-mono : (f : Bounds → Bounds → Bounds → Bounds) → ((x y : Bounds) → Narrows x y → (v w : Bounds) → Narrows v w → (r s : Bounds) → Narrows r s → IsWithin (f x v r) (f y w s)) →
    {xs ys : List Bounds} → Forall2 Narrows xs ys → IsWithin (of_three f xs) (of_three f ys)
three-mono f m forall2_nil = refl
three-mono f m (forall2_cons n forall2_nil) = refl
three-mono f m (forall2_cons n (forall2_cons k forall2_nil)) = refl
three-mono f m (forall2_cons {x = x} {y = y} n (forall2_cons {x = v} {y = w} k (forall2_cons {x = r} {y = s} l forall2_nil))) = m x y n v w k r s l
three-mono f m (forall2_cons n (forall2_cons k (forall2_cons l (forall2_cons i a)))) = refl

item-mono : (x y : Bounds) → IsWithin x y → IsWithin (item_bounds x) (item_bounds y)
item-mono x y e = let p = within x y e in from_within (item_bounds x) (item_bounds y) (record { null = λ h. h; value = p.value; starts = λ _. refl; ends = λ _. refl })

binary-mono : (op : Operation) (x y : Bounds) → Narrows x y → (v w : Bounds) → Narrows v w → IsWithin (binary_bounds op x v) (binary_bounds op y w)
binary-mono (compares c) x y n v w k = truth_bounds-mono (comparison_truths c x v) (comparison_truths c y w) (comparison-mono c x y v w n.0 k.0)
binary-mono and_also x y n v w k =
    truth_bounds-mono (and_truths (truths_in x) (truths_in v)) (and_truths (truths_in y) (truths_in w)) (and-mono (truths_in x) (truths_in y) (truths_in v) (truths_in w) (truths_in-mono x y n.0) (truths_in-mono v w k.0))
binary-mono or_else x y n v w k =
    truth_bounds-mono (or_truths (truths_in x) (truths_in v)) (or_truths (truths_in y) (truths_in w)) (or-mono (truths_in x) (truths_in y) (truths_in v) (truths_in w) (truths_in-mono x y n.0) (truths_in-mono v w k.0))
binary-mono (computes a) x y n v w k = arithmetic-mono a x y v w n.1 k.1 n.0 k.0

fn_bounds-mono : (f : Function) {xs ys : List Bounds} → Forall2 Narrows xs ys → IsWithin (fn_bounds f xs) (fn_bounds f ys)
fn_bounds-mono (case_when pairs has_else) a = case-mono (each-within a)
fn_bounds-mono (get_item b) a = one-mono item_bounds (λ x y n. item-mono x y n.0) a
fn_bounds-mono (literal u v) a = within-refl (exactly v) (exactly-proper v)
fn_bounds-mono (pack names n) a = refl
fn_bounds-mono (select selection) a = one-mono _ (λ x y n. shaped_as-mono x y n.0) a
fn_bounds-mono fill_null a = two-mono _ (λ x y n v w k. fill-mono x y v w n.0 k.0) a
fn_bounds-mono zip a = three-mono _ (λ x y n v w k r s l. choice-mono (truths_in r) (truths_in s) x y v w (truths_in-mono r s l.0) n.0 k.0) a
fn_bounds-mono (binary op) a = two-mono (binary_bounds op) (binary-mono op) a
fn_bounds-mono logical_not a = one-mono _ (λ x y n. truth_bounds-mono (not_truths (truths_in x)) (not_truths (truths_in y)) (not-mono (truths_in x) (truths_in y) (truths_in-mono x y n.0))) a
fn_bounds-mono (between ls us) a =
    three-mono _ (λ x y n v w k r s l. truth_bounds-mono (between_truths ls us x v r) (between_truths ls us y w s) (between-mono ls us x y v w r s n.0 k.0 l.0)) a
fn_bounds-mono (like negated ci) a =
    two-mono _ (λ x y n v w k. truth_bounds-mono (like_truths negated ci x v) (like_truths negated ci y w) (like-mono negated ci x y v w n.0 k.0 k.1)) a
fn_bounds-mono is_null a = one-mono _ (λ x y n. truth_bounds-mono (null_truths x) (null_truths y) (null-mono x y n.0)) a
fn_bounds-mono is_not_null a = one-mono _ (λ x y n. truth_bounds-mono (not_truths (null_truths x)) (not_truths (null_truths y)) (not-mono (null_truths x) (null_truths y) (null-mono x y n.0))) a
fn_bounds-mono mask a = two-mono _ (λ x y n v w k. mask-mono x y (truths_in v) (truths_in w) n.0 (truths_in-mono v w k.0)) a
fn_bounds-mono (cast u) a = one-mono _ (λ x y n. n.0) a
fn_bounds-mono starts_with a = two-mono _ (λ x y n v w k. truth_bounds-mono (begun_truths x v) (begun_truths y w) (begun-mono x y v w n.0 k.0 k.1)) a
fn_bounds-mono byte_length a = one-mono _ (λ x y n. length-mono x y n.0) a
fn_bounds-mono list_contains a = two-mono _ (λ x y n v w k. refl) a

given_bounds-mono : (f : Function) (known : Option Data) {xs ys : List Bounds} → Forall2 Narrows xs ys → IsWithin (given_bounds f known xs) (given_bounds f known ys)
given_bounds-mono f None a = fn_bounds-mono f a
given_bounds-mono f (Some ws) a = two-mono _ (λ x y n v w k. truth_bounds-mono (search_truths ws v) (search_truths ws w) (search-mono ws v w k.0)) a

-- ---- trees

at_path_or-mono : (less more : Facts) → KnowsMore less more → (o : Option Path) (x y : Bounds) → IsWithin x y → IsWithin (at_path_or more o x) (at_path_or less o y)
at_path_or-mono less more k None x y e = e
at_path_or-mono less more k (Some path) x y e = bounds_narrow less more k path

typed-mono : (t : LogicalType) (x y : Bounds) → IsWithin x y → IsWithin (meet (any_of t) x) (meet (any_of t) y)
typed-mono t x y e = meet-mono (any_of t) (any_of t) x y (within-refl (any_of t) (any_of-proper t)) e

mutual
  pub bounds_in-narrow : (less more : Facts) (b : BoundTree) → KnowsMore less more → Narrows (bounds_in more b) (bounds_in less b)
  bounds_in-narrow less more (scope t) k =
      (typed-mono t (at_path_or more (Some []) unknown) (at_path_or less (Some []) unknown) (at_path_or-mono less more k (Some []) unknown unknown refl), meet-proper (any_of t) (at_path_or more (Some []) unknown))
  bounds_in-narrow less more (node t f bs) k =
      let o = item_path f (path_to_only bs) in
      let x = given_bounds f (searched f bs) (each_bounds_in more bs) in
      let y = given_bounds f (searched f bs) (each_bounds_in less bs) in
      (typed-mono t (at_path_or more o x) (at_path_or less o y) (at_path_or-mono less more k o x y (given_bounds-mono f (searched f bs) (each_bounds_in-narrow less more bs k))), meet-proper (any_of t) (at_path_or more o x))

  each_bounds_in-narrow : (less more : Facts) (bs : BoundTrees) → KnowsMore less more → Forall2 Narrows (each_bounds_in more bs) (each_bounds_in less bs)
  each_bounds_in-narrow less more no_bound k = forall2_nil
  each_bounds_in-narrow less more (bound b bs) k = forall2_cons (bounds_in-narrow less more b k) (each_bounds_in-narrow less more bs k)

pub more-narrows : MoreNarrows
more-narrows = λ less more b k. (bounds_in-narrow less more b k).0

-- ---- verdicts

verdict_of-sure : (s t : Truths) → AreWithin s t → IsAsSure (verdict_of t) (verdict_of s)
verdict_of-sure s t e = go t.yes s.yes (may_fail t) (may_fail s) (fewer s t e).yes (may_fail-mono s t e)
  where
    go : (y y' f f' : Bool) → (y' ≡ true → y ≡ true) → (f' ≡ true → f ≡ true) →
        IsAsSure (if not y then NoRow else if not f then EveryRow else Unknown) (if not y' then NoRow else if not f' then EveryRow else Unknown)
    go false true f f' a b = let h : false ≡ true = a refl in cc
    go false false f f' a b = refl
    go true true true f' a b = tt
    go true true false true a b = let h : false ≡ true = b refl in cc
    go true true false false a b = λ e. cc
    go true false true f' a b = tt
    go true false false f' a b = λ e. cc

pub more-is_as_sure : MoreIsAsSure
more-is_as_sure = λ less more b k. go less.rows more.rows (truths_in (bounds_in less b)) (truths_in (bounds_in more b)) k.rows (verdict_of-sure (truths_in (bounds_in more b)) (truths_in (bounds_in less b)) (truths_in-mono (bounds_in more b) (bounds_in less b) (more-narrows less more b k)))
  where
    same : (c : Bool) (s t : Truths) → IsAsSure (verdict_of t) (verdict_of s) → IsAsSure (if c then NoRow else verdict_of t) (if c then NoRow else verdict_of s)
    same true s t e = refl
    same false s t e = e

    go : (n m : ℕ) (t s : Truths) → m ≡ n → IsAsSure (verdict_of t) (verdict_of s) → IsAsSure (if n == 0 then NoRow else verdict_of t) (if m == 0 then NoRow else verdict_of s)
    go n m t s q e = subst (λ m. IsAsSure (if n == 0 then NoRow else verdict_of t) (if m == 0 then NoRow else verdict_of s)) (sym q) (same (n == 0) s t e)
