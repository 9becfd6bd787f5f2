-- What functions give of values within bounds is within the bounds of what they give.
use Rattle.std.proofs.Common.{◌≡◌, refl, ap, ◌∙◌, Bool, true, false, ◌||◌, not, List}
use Rattle.std.specs.Prelude.{Option, Some, None, if◌then◌else◌}
use Rattle.std.specs.declared.cmp.Ordering.{Ordering}
use Rattle.std.specs.declared.cmp.Ordering.TheVariants.{Less, Equal, Greater}
use Rattle.std.specs.List.{list_all}
use Rattle.std.specs.Ordering.{is_le, is_lt, is_gt, is_ge, is_ne, ordering_reverse}
use Rattle.std.proofs.lemmas.Bool.{and_parts, and_from, or_left, or_right}
use Rattle.vx_dtype.specs.Lists.{Forall2, forall2_nil, forall2_cons}
use Rattle.vx_value.specs.Fits.{Fits, EachFits}
use Rattle.vx_value.specs.Types.{truth, LogicalType, ty, atomic, Datum, null, bool, int, float, utf8, bytes, list_of, struct_of, is_null_datum}
use Rattle.vx_fn.specs.Functions.{Comparison, equal, not_equal, greater, greater_or_equal, less, less_or_equal, conditions, is_truth}
use Rattle.vx_fn.specs.Values.{is_true, kleene_and, kleene_or, kleene_not, order, agrees, compared, bound_comparison, first_true}
use Rattle.vx_fn.proofs.Swaps.{order-turned}
use Rattle.vx_prune_bounds.specs.Order.{at_most, below}
use Rattle.vx_prune_bounds.specs.Bounds.{Bounds, exactly, is_from, is_up_to, Contains}
use Rattle.vx_prune_bounds.specs.Truths.{Truths, truths, MayBe, truths_in, truth_bounds, not_truths, and_truths, or_truths, may_fail}
use Rattle.vx_prune_bounds.specs.Comparing.{both_known, all_below, surely, opposite, comparison_truths, between_truths}
use Rattle.vx_prune_bounds.specs.Kernels.{only_if, not_null, fill_bounds, choice_bounds, mask_bounds, case_bounds, null_truths, shaped_as}
use Rattle.vx_prune_bounds.proofs.Ordered.{at_most-trans, at_most-antisym, below-wider, at_most-order, below-order, own_order}
use Rattle.vx_prune_bounds.proofs.Contained.{by_null, Inside, inside, from_inside, null_in, in_null, contains-exactly}
use Rattle.vx_prune_bounds.proofs.Lattice.{contains-join-left, contains-join-right}

-- ---- truth values

-- a value that is one of these is null, false or true
pub data May (t : Truths) : Datum → Type 0 where
  may_null : t.null ≡ true → May t null
  may_no : t.no ≡ true → May t (bool false)
  may_yes : t.yes ≡ true → May t (bool true)

pub may : (t : Truths) (v : Datum) → MayBe t v → May t v
may t null e = may_null e
may t (bool true) e = may_yes e
may t (bool false) e = may_no e
may t _ e = cc

-- a truth value within bounds is one of those that they let in
pub truths_in-sound : (b : Bounds) (v : Datum) (n : Bool) → Fits v (ty (atomic truth) n) → Contains b v → MayBe (truths_in b) v
truths_in-sound b null n f e = e
truths_in-sound b (bool true) n f e = e
truths_in-sound b (bool false) n f e = e
truths_in-sound b _ n f e = cc

in_truths : (n f y : Bool) {v : Datum} → May (truths n f y) v → Contains (truth_bounds (truths n f y)) v
in_truths n f y (may_null e) = e
in_truths n true true (may_no e) = refl
in_truths n true false (may_no e) = refl
in_truths n false y (may_no e) = cc
in_truths n true true (may_yes e) = refl
in_truths n false true (may_yes e) = refl
in_truths n f false (may_yes e) = cc

-- and is within the bounds of these
pub truth_bounds-sound : (t : Truths) (v : Datum) → MayBe t v → Contains (truth_bounds t) v
truth_bounds-sound t v e = in_truths t.null t.no t.yes (may t v e)

truths_back : (n f y : Bool) (v : Datum) → Contains (truth_bounds (truths n f y)) v → MayBe (truths n f y) v
truths_back n f y null e = e
truths_back n true true (bool true) e = refl
truths_back n true true (bool false) e = refl
truths_back n true false (bool true) e = cc
truths_back n true false (bool false) e = refl
truths_back n false true (bool true) e = refl
truths_back n false true (bool false) e = cc
truths_back n false false (bool b) e = cc
truths_back n true true (int _) e = cc
truths_back n true false (int _) e = cc
truths_back n false true (int _) e = cc
truths_back n false false (int _) e = cc
truths_back n true true (float _) e = cc
truths_back n true false (float _) e = cc
truths_back n false true (float _) e = cc
truths_back n false false (float _) e = cc
truths_back n true true (utf8 _) e = cc
truths_back n true false (utf8 _) e = cc
truths_back n false true (utf8 _) e = cc
truths_back n false false (utf8 _) e = cc
truths_back n true true (bytes _) e = cc
truths_back n true false (bytes _) e = cc
truths_back n false true (bytes _) e = cc
truths_back n false false (bytes _) e = cc
truths_back n true true (list_of _) e = cc
truths_back n true false (list_of _) e = cc
truths_back n false true (list_of _) e = cc
truths_back n false false (list_of _) e = cc
truths_back n true true (struct_of _) e = cc
truths_back n true false (struct_of _) e = cc
truths_back n false true (struct_of _) e = cc
truths_back n false false (struct_of _) e = cc

pub truth_bounds-exact : (t : Truths) (v : Datum) → Contains (truth_bounds t) v → MayBe t v
truth_bounds-exact t v e = truths_back t.null t.no t.yes v e

truths_again : (n f y : Bool) → truths_in (truth_bounds (truths n f y)) ≡ truths n f y
truths_again n true true = refl
truths_again n true false = refl
truths_again n false true = refl
truths_again n false false = refl

pub truths_in-truth_bounds : (t : Truths) → truths_in (truth_bounds t) ≡ t
truths_in-truth_bounds t = truths_again t.null t.no t.yes

-- ---- Kleene's tables

pub not-sound : (t : Truths) (v : Datum) → MayBe t v → MayBe (not_truths t) (kleene_not v)
not-sound t v e = go (may t v e)
  where
    go : {v : Datum} → May t v → MayBe (not_truths t) (kleene_not v)
    go (may_null e) = e
    go (may_no e) = e
    go (may_yes e) = e

pub and-sound : (s t : Truths) (v w : Datum) → MayBe s v → MayBe t w → MayBe (and_truths s t) (kleene_and v w)
and-sound s t v w e f = go (may s v e) (may t w f)
  where
    go : {v w : Datum} → May s v → May t w → MayBe (and_truths s t) (kleene_and v w)
    go (may_null e) (may_null f) = or_left _ _ (and_from _ _ e (or_left _ _ f))
    go (may_null e) (may_yes f) = or_left _ _ (and_from _ _ e (or_right _ _ f))
    go (may_yes e) (may_null f) = or_right _ _ (and_from _ _ f e)
    go (may_yes e) (may_yes f) = and_from _ _ e f
    go (may_no e) (may_null f) = or_left _ _ e
    go (may_no e) (may_no f) = or_left _ _ e
    go (may_no e) (may_yes f) = or_left _ _ e
    go (may_null e) (may_no f) = or_right _ _ f
    go (may_yes e) (may_no f) = or_right _ _ f

pub or-sound : (s t : Truths) (v w : Datum) → MayBe s v → MayBe t w → MayBe (or_truths s t) (kleene_or v w)
or-sound s t v w e f = go (may s v e) (may t w f)
  where
    go : {v w : Datum} → May s v → May t w → MayBe (or_truths s t) (kleene_or v w)
    go (may_null e) (may_null f) = or_left _ _ (and_from _ _ e (or_left _ _ f))
    go (may_null e) (may_no f) = or_left _ _ (and_from _ _ e (or_right _ _ f))
    go (may_no e) (may_null f) = or_right _ _ (and_from _ _ f e)
    go (may_no e) (may_no f) = and_from _ _ e f
    go (may_yes e) (may_null f) = or_left _ _ e
    go (may_yes e) (may_no f) = or_left _ _ e
    go (may_yes e) (may_yes f) = or_left _ _ e
    go (may_null e) (may_yes f) = or_right _ _ f
    go (may_no e) (may_yes f) = or_right _ _ f

-- ---- comparisons

agrees-opposite : (c : Comparison) (o : Ordering) → agrees (opposite c) o ≡ not (agrees c o)
agrees-opposite equal Less = refl
agrees-opposite equal Equal = refl
agrees-opposite equal Greater = refl
agrees-opposite not_equal Less = refl
agrees-opposite not_equal Equal = refl
agrees-opposite not_equal Greater = refl
agrees-opposite greater Less = refl
agrees-opposite greater Equal = refl
agrees-opposite greater Greater = refl
agrees-opposite greater_or_equal Less = refl
agrees-opposite greater_or_equal Equal = refl
agrees-opposite greater_or_equal Greater = refl
agrees-opposite less Less = refl
agrees-opposite less Equal = refl
agrees-opposite less Greater = refl
agrees-opposite less_or_equal Less = refl
agrees-opposite less_or_equal Equal = refl
agrees-opposite less_or_equal Greater = refl

pub known_at_most : (g l : Option Datum) (v w : Datum) → both_known at_most g l ≡ true → is_up_to g v ≡ true → is_from l w ≡ true → at_most v w ≡ true
known_at_most None l v w e p q = cc
known_at_most (Some g) None v w e p q = cc
known_at_most (Some g) (Some l) v w e p q = at_most-trans v l w (at_most-trans v g l p e) q

known_below : (g l : Option Datum) (v w : Datum) → both_known below g l ≡ true → is_up_to g v ≡ true → is_from l w ≡ true → below v w ≡ true
known_below None l v w e p q = cc
known_below (Some g) None v w e p q = cc
known_below (Some g) (Some l) v w e p q = below-wider v g l w p e q

-- values of which each is at most the other are equal
tied : (v w : Datum) → at_most v w ≡ true → at_most w v ≡ true → order v w ≡ Equal
tied v w e f = ap (order v) (at_most-antisym w v f e) ∙ own_order v (at_most-trans v w v e f)

lt-ne : (o : Ordering) → is_lt o ≡ true → is_ne o ≡ true
lt-ne Less e = refl
lt-ne Equal e = cc
lt-ne Greater e = cc

lt-back : (o : Ordering) → is_lt o ≡ true → is_gt (ordering_reverse o) ≡ true
lt-back Less e = refl
lt-back Equal e = cc
lt-back Greater e = cc

le-back : (o : Ordering) → is_le o ≡ true → is_ge (ordering_reverse o) ≡ true
le-back Less e = refl
le-back Equal e = refl
le-back Greater e = cc

gt-ne : (o : Ordering) → is_gt o ≡ true → is_ne o ≡ true
gt-ne Less e = cc
gt-ne Equal e = cc
gt-ne Greater e = refl

above-order : (v w : Datum) → below w v ≡ true → is_gt (order v w) ≡ true
above-order v w e = rw (order-turned v w) (lt-back (order w v) (below-order w v e))

pub surely-sound : (c : Comparison) (x y : Bounds) (v w : Datum) → Inside x v → Inside y w → surely c x y ≡ true → agrees c (order v w) ≡ true
surely-sound equal x y v w i j e =
    let p = and_parts _ _ e in
    let t = tied v w (known_at_most x.greatest y.least v w p.0 i.up_to j.from) (known_at_most y.greatest x.least w v p.1 j.up_to i.from) in
    rw t refl
surely-sound not_equal x y v w i j e = go (all_below x y) refl e
  where
    go : (b : Bool) → all_below x y ≡ b → (b || all_below y x) ≡ true → is_ne (order v w) ≡ true
    go true h e = lt-ne _ (below-order v w (known_below x.greatest y.least v w h i.up_to j.from))
    go false h e = gt-ne _ (above-order v w (known_below y.greatest x.least w v e j.up_to i.from))
surely-sound greater x y v w i j e = above-order v w (known_below y.greatest x.least w v e j.up_to i.from)
surely-sound greater_or_equal x y v w i j e = rw (order-turned v w) (le-back (order w v) (at_most-order w v (known_at_most y.greatest x.least w v e j.up_to i.from)))
surely-sound less x y v w i j e = below-order v w (known_below x.greatest y.least v w e i.up_to j.from)
surely-sound less_or_equal x y v w i j e = at_most-order v w (known_at_most x.greatest y.least v w e i.up_to j.from)

pub answer : (t : Truths) (b : Bool) → (b ≡ true → t.yes ≡ true) → (b ≡ false → t.no ≡ true) → MayBe t (bool b)
answer t true f g = f refl
answer t false f g = g refl

pub unless : (s a : Bool) → (s ≡ true → a ≡ true) → a ≡ false → not s ≡ true
unless true a f e = let q = f refl in cc
unless false a f e = refl

pub comparison-sound : (c : Comparison) (x y : Bounds) (v w : Datum) → Contains x v → Contains y w → MayBe (comparison_truths c x y) (compared c v w)
comparison-sound c x y v w h k = by_null v _ (λ n. at_null (or_left _ _ n) (or_left _ _ (null_in x v n h))) (λ n.
    by_null w _ (λ m. at_null (or_right _ _ m) (or_right _ _ (null_in y w m k))) (λ m. at_values n m (inside x v n h) (inside y w m k)))
  where
    at_null : (is_null_datum v || is_null_datum w) ≡ true → (x.null || y.null) ≡ true → MayBe (comparison_truths c x y) (compared c v w)
    at_null n e = rw n e

    at_values : is_null_datum v ≡ false → is_null_datum w ≡ false → Inside x v → Inside y w → MayBe (comparison_truths c x y) (compared c v w)
    at_values n m i j = rw (n, m) (answer (comparison_truths c x y) (agrees c (order v w))
        (λ e. and_from _ _ (and_from _ _ i.value j.value) (unless (surely (opposite c) x y) (agrees (opposite c) (order v w)) (surely-sound (opposite c) x y v w i j) (agrees-opposite c (order v w) ∙ rw e refl)))
        (λ e. and_from _ _ (and_from _ _ i.value j.value) (unless (surely c x y) (agrees c (order v w)) (surely-sound c x y v w i j) e)))

pub between-sound : (ls us : Bool) (x l u : Bounds) (v lv uv : Datum) → Contains x v → Contains l lv → Contains u uv →
    MayBe (between_truths ls us x l u) (kleene_and (compared (bound_comparison ls) lv v) (compared (bound_comparison us) v uv))
between-sound ls us x l u v lv uv h k m =
    and-sound (comparison_truths (bound_comparison ls) l x) (comparison_truths (bound_comparison us) x u) (compared (bound_comparison ls) lv v) (compared (bound_comparison us) v uv)
    (comparison-sound (bound_comparison ls) l x lv v k h) (comparison-sound (bound_comparison us) x u v uv h m)

-- ---- fills, choices and null

pub not_null-sound : (x : Bounds) (v : Datum) → is_null_datum v ≡ false → Contains x v → Contains (not_null x) v
not_null-sound x v n h = let i = inside x v n h in from_inside (not_null x) v n (record { value = i.value; from = i.from; up_to = i.up_to })

pub only_if-sound : (b : Bool) (x : Bounds) (v : Datum) → b ≡ true → Contains x v → Contains (only_if b x) v
only_if-sound true x v e h = h
only_if-sound false x v e h = cc

pub fill-sound : (x fill : Bounds) (v w : Datum) → Contains x v → Contains fill w → Contains (fill_bounds x fill) (if is_null_datum v then w else v)
fill-sound x fill v w h k = go (is_null_datum v) refl
  where
    go : (b : Bool) → is_null_datum v ≡ b → Contains (fill_bounds x fill) (if b then w else v)
    go true n = contains-join-right (not_null x) (only_if x.null fill) w (only_if-sound x.null fill w (null_in x v n h) k)
    go false n = contains-join-left (not_null x) (only_if x.null fill) v (not_null-sound x v n h)

-- of the first where the mask is true, and of the second where it isn't
pub choice-sound : (mask : Truths) (x y : Bounds) (m v w : Datum) → MayBe mask m → (is_true m ≡ true → Contains x v) → (is_true m ≡ false → Contains y w) → Contains (choice_bounds mask x y) (if is_true m then v else w)
choice-sound mask x y m v w e h k = go (may mask m e) h k
  where
    second : may_fail mask ≡ true → Contains y w → Contains (choice_bounds mask x y) w
    second f k = contains-join-right (only_if mask.yes x) (only_if (may_fail mask) y) w (only_if-sound (may_fail mask) y w f k)

    go : {m : Datum} → May mask m → (is_true m ≡ true → Contains x v) → (is_true m ≡ false → Contains y w) → Contains (choice_bounds mask x y) (if is_true m then v else w)
    go (may_yes e) h k = contains-join-left (only_if mask.yes x) (only_if (may_fail mask) y) v (only_if-sound mask.yes x v e (h refl))
    go (may_null e) h k = second (or_left _ _ e) (k refl)
    go (may_no e) h k = second (or_right _ _ e) (k refl)

pub mask-sound : (x : Bounds) (mask : Truths) (v m : Datum) → Contains x v → MayBe mask m → Contains (mask_bounds x mask) (if is_true m then v else null)
mask-sound x mask v m h e = choice-sound mask x (exactly null) m v null e (λ _. h) (λ _. contains-exactly null)

-- a condition is null, false or true
condition-sound : (b : Bounds) (m : Datum) (t : LogicalType) → is_truth t ≡ true → Fits m t → Contains b m → MayBe (truths_in b) m
condition-sound b m (ty (atomic truth) n) e f h = truths_in-sound b m n f h
condition-sound b m _ e f h = cc

pub case-sound : {bs : List Bounds} {vs : List Datum} {ts : List LogicalType} → Forall2 Contains bs vs → EachFits vs ts → list_all is_truth (conditions ts) ≡ true → Contains (case_bounds bs) (first_true vs)
case-sound forall2_nil forall2_nil c = contains-exactly null
case-sound (forall2_cons h forall2_nil) (forall2_cons f forall2_nil) c = h
case-sound (forall2_cons {x = b} {y = m} h (forall2_cons {x = x} {y = v} {xs = bs} {ys = vs} k hs)) (forall2_cons {y = t} f (forall2_cons g fs)) c =
    let p = and_parts _ _ c in
    choice-sound (truths_in b) x (case_bounds bs) m v (first_true vs) (condition-sound b m t p.0 f h) (λ _. k) (λ _. case-sound hs fs p.1)

pub is_null-sound : (x : Bounds) (v : Datum) → Contains x v → MayBe (null_truths x) (bool (is_null_datum v))
is_null-sound x v h = answer (null_truths x) (is_null_datum v) (λ n. null_in x v n h) (λ n. (inside x v n h).value)

pub is_not_null-sound : (x : Bounds) (v : Datum) → Contains x v → MayBe (not_truths (null_truths x)) (bool (not (is_null_datum v)))
is_not_null-sound x v h = not-sound (null_truths x) (bool (is_null_datum v)) (is_null-sound x v h)

pub shaped_as-sound : (x : Bounds) (v w : Datum) → is_null_datum w ≡ is_null_datum v → Contains x v → Contains (shaped_as x) w
shaped_as-sound x v w e h = by_null v _ (λ n. in_null (shaped_as x) w (e ∙ n) (null_in x v n h)) (λ n.
    from_inside (shaped_as x) w (e ∙ n) (record { value = (inside x v n h).value; from = refl; up_to = refl }))
