-- What a search gives of a value within bounds is what its truths let in, and bounds that say more leave it fewer.
use Rattle.std.proofs.Common.{◌≡◌, refl, sym, ap, ◌∙◌, subst, Bool, true, false, ◌||◌}
use Rattle.std.specs.Prelude.{if◌then◌else◌}
use Rattle.std.proofs.lemmas.Bool.{and_parts, and_from, or_left, or_right}
use Rattle.vx_value.specs.Types.{Datum, null, bool, list_of, Data, no_datum, datum, is_null_datum}
use Rattle.vx_value.specs.Equality.{equal_datum}
use Rattle.vx_value.specs.Deciding.{equal_datum-Decides}
use Rattle.vx_fn.specs.Functions.{equal, not_equal}
use Rattle.vx_fn.specs.Values.{order, agrees, kleene_or, has_element, has_null, among, contained}
use Rattle.vx_prune_bounds.specs.Bounds.{Bounds, exactly, Contains, IsWithin}
use Rattle.vx_prune_bounds.specs.Comparing.{surely, comparison_truths}
use Rattle.vx_prune_bounds.specs.Searching.{or_equal_truths, search_truths}
use Rattle.vx_prune_bounds.specs.Truths.{Truths, truths, MayBe, AreWithin, or_truths}
use Rattle.vx_prune_bounds.proofs.Ordered.{at_most-antisym, order_itself}
use Rattle.vx_prune_bounds.proofs.Contained.{by_null, Inside, inside, null_in, contains-exactly, within, within-refl, exactly-proper}
use Rattle.vx_prune_bounds.proofs.Sounds.{answer, unless, known_at_most, surely-sound, or-sound}
use Rattle.vx_prune_bounds.proofs.Monotone.{comparison-mono, or-mono}
use Rattle.vx_prune_bounds.proofs.LikeMonotone.{three-within}

-- null with a null operand, else whether the two are the same
abbrev same_value : Datum → Datum → Datum
same_value w v = if is_null_datum w || is_null_datum v then null else bool (equal_datum w v)

-- the disjunction of what was found, and of each element with the value
abbrev or_same : Datum → Data → Datum → Datum
or_same a no_datum v = a
or_same a (datum w ws) v = or_same (kleene_or a (same_value w v)) ws v

-- ---- one element

same_value-sound : (x : Bounds) (w v : Datum) → Contains x v → MayBe (comparison_truths equal (exactly w) x) (same_value w v)
same_value-sound x w v h = by_null w _ (λ n. at_null (or_left _ _ n) (or_left _ _ (null_in (exactly w) w n (contains-exactly w)))) (λ n.
    by_null v _ (λ m. at_null (or_right _ _ m) (or_right _ _ (null_in x v m h))) (λ m. at_values n m (inside (exactly w) w n (contains-exactly w)) (inside x v m h)))
  where
    at_null : (is_null_datum w || is_null_datum v) ≡ true → ((exactly w).null || x.null) ≡ true → MayBe (comparison_truths equal (exactly w) x) (same_value w v)
    at_null n e = rw n e

    apart : equal_datum w v ≡ true → agrees not_equal (order w v) ≡ false
    apart e = let same : w ≡ v = (equal_datum-Decides w v).0 e in ap (λ u. agrees not_equal (order w u)) (sym same) ∙ ap (agrees not_equal) (order_itself w)

    alike : Inside (exactly w) w → Inside x v → surely equal (exactly w) x ≡ true → equal_datum w v ≡ true
    alike i j e =
        let p = and_parts _ _ e in
        let a = known_at_most (exactly w).greatest x.least w v p.0 i.up_to j.from in
        let b = known_at_most x.greatest (exactly w).least v w p.1 j.up_to i.from in
        (equal_datum-Decides w v).1 (sym (at_most-antisym v w b a))

    at_values : is_null_datum w ≡ false → is_null_datum v ≡ false → Inside (exactly w) w → Inside x v → MayBe (comparison_truths equal (exactly w) x) (same_value w v)
    at_values n m i j = let known : same_value w v ≡ bool (equal_datum w v) = rw (n, m) refl in
        subst (MayBe (comparison_truths equal (exactly w) x)) (sym known) (answer (comparison_truths equal (exactly w) x) (equal_datum w v)
        (λ e. and_from _ _ (and_from _ _ i.value j.value) (unless (surely not_equal (exactly w) x) (agrees not_equal (order w v)) (surely-sound not_equal (exactly w) x w v i j) (apart e)))
        (λ e. and_from _ _ (and_from _ _ i.value j.value) (unless (surely equal (exactly w) x) (equal_datum w v) (alike i j) e)))

-- ---- all elements

or_same-sound : (t : Truths) (a : Datum) (ws : Data) (x : Bounds) (v : Datum) → MayBe t a → Contains x v → MayBe (or_equal_truths t ws x) (or_same a ws v)
or_same-sound t a no_datum x v e h = e
or_same-sound t a (datum w ws) x v e h =
    or_same-sound (or_truths t (comparison_truths equal (exactly w) x)) (kleene_or a (same_value w v)) ws x v
    (or-sound t (comparison_truths equal (exactly w) x) a (same_value w v) e (same_value-sound x w v h)) h

of_null : (ws : Data) (v : Datum) → is_null_datum v ≡ true → or_same null ws v ≡ null
of_null no_datum v n = refl
of_null (datum w ws) v n = let none : same_value w v ≡ null = ap (λ b. if b then null else bool (equal_datum w v)) (or_right _ _ n) in rw none (of_null ws v n)

of_true : (ws : Data) (v : Datum) → or_same (bool true) ws v ≡ bool true
of_true no_datum v = refl
of_true (datum w ws) v = of_true ws v

other_than_null : (w v : Datum) → is_null_datum w ≡ true → is_null_datum v ≡ false → equal_datum w v ≡ false
other_than_null null null e f = cc
other_than_null null _ e f = refl
other_than_null _ v e f = cc

of_one_null : (ws : Data) (v : Datum) → is_null_datum v ≡ false → or_same null ws v ≡ (if has_element ws v then bool true else null)
of_one_null no_datum v m = refl
of_one_null (datum w ws) v m = go (of_one_null ws v m) (is_null_datum w) (equal_datum w v) refl refl
  where
    go : or_same null ws v ≡ (if has_element ws v then bool true else null) → (b c : Bool) → is_null_datum w ≡ b → equal_datum w v ≡ c → or_same (kleene_or null (same_value w v)) ws v ≡ (if equal_datum w v || has_element ws v then bool true else null)
    go k true true n e = let f : equal_datum w v ≡ false = other_than_null w v n m in cc
    go k true false n e = rw (n, e) k
    go k false true n e = rw (n, m, e) (of_true ws v)
    go k false false n e = rw (n, m, e) k

of_false : (ws : Data) (v : Datum) → is_null_datum v ≡ false → or_same (bool false) ws v ≡ among ws v
of_false no_datum v m = refl
of_false (datum w ws) v m = go (of_false ws v m) (of_one_null ws v m) (is_null_datum w) (equal_datum w v) refl refl
  where
    go : or_same (bool false) ws v ≡ among ws v → or_same null ws v ≡ (if has_element ws v then bool true else null) → (b c : Bool) → is_null_datum w ≡ b → equal_datum w v ≡ c →
        or_same (kleene_or (bool false) (same_value w v)) ws v ≡ (if equal_datum w v || has_element ws v then bool true else if is_null_datum w || has_null ws then null else bool false)
    go h k true true n e = let f : equal_datum w v ≡ false = other_than_null w v n m in cc
    go h k true false n e = rw (n, e) k
    go h k false true n e = rw (n, m, e) (of_true ws v)
    go h k false false n e = rw (n, m, e) h

pub search-sound : (ws : Data) (x : Bounds) (v : Datum) → Contains x v → MayBe (search_truths ws x) (contained (list_of ws) v)
search-sound ws x v h = by_null v _
    (λ n. rw n (subst (MayBe (search_truths ws x)) (of_null ws v n) (or_same-sound (truths x.null x.value false) null ws x v (null_in x v n h) h)))
    (λ m. rw m (subst (MayBe (search_truths ws x)) (of_false ws v m) (or_same-sound (truths x.null x.value false) (bool false) ws x v (inside x v m h).value h)))

-- ---- bounds that say more

or_equal-mono : (s t : Truths) (ws : Data) (x y : Bounds) → AreWithin s t → IsWithin x y → AreWithin (or_equal_truths s ws x) (or_equal_truths t ws y)
or_equal-mono s t no_datum x y e h = e
or_equal-mono s t (datum w ws) x y e h =
    let c = comparison_truths equal (exactly w) x in
    let d = comparison_truths equal (exactly w) y in
    or_equal-mono (or_truths s c) (or_truths t d) ws x y
    (or-mono s t c d e (comparison-mono equal (exactly w) (exactly w) x y (within-refl (exactly w) (exactly-proper w)) h)) h

pub search-mono : (ws : Data) (x y : Bounds) → IsWithin x y → AreWithin (search_truths ws x) (search_truths ws y)
search-mono ws x y h = let p = within x y h in or_equal-mono (truths x.null x.value false) (truths y.null y.value false) ws x y (three-within x.null x.value false y.null y.value false p.null p.value (λ e. e)) h
