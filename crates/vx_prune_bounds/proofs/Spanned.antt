-- What is computed of numbers within spans lies within its ends, and those are closer the closer the spans are.
use Rattle.std.proofs.Common.{◌≡◌, ◌<◌, ◌^◌, refl, sym, ap, ◌∙◌, Bool, true, false, arith}
use Rattle.std.specs.Prelude.{ℤ, pos, negsuc, nat_lt, ◌+ℤ◌, ◌-ℤ◌, ◌*ℤ◌, ◌≤ℤ◌, ◌<ℤ◌, int_div, int_rem, int_le, Option, Some, None, if◌then◌else◌, option_map}
use Rattle.std.specs.Option.{option_and_then}
use Rattle.std.proofs.lemmas.Bool.{ltb-true}
use Rattle.std.proofs.lemmas.Int.{ints, clamps, by_lt_z}
use borrow.Author.Tests.{lt-ltb}
use Rattle.vx_fn.specs.Values.{whole_result}
use Rattle.vx_prune_bounds.specs.Bounds.{of_both}
use Rattle.vx_floats.specs.declared.arithmetic.Arithmetic.{Arithmetic}
use Rattle.vx_floats.specs.declared.arithmetic.Arithmetic.TheVariants.{Sum, Difference, Product, Quotient, Remainder}
use Rattle.vx_prune_bounds.specs.Spans.{Side, Least, Greatest, Span, Interval, across, outer, nearest_below, nearest_above, nearest, end_of, from_to, interval, is_nonzero, if_nonzero, corner, reach, remainder_end, span_end}
use Rattle.vx_prune_bounds.proofs.Corners.{Beyond, Reached, Closer, Among, Inner, product-beyond, quotient-beyond, remainder-beyond, corner-closer, nonzero-inner, remainder-closer}

-- ---- the nearest numbers of 128 bits

below-known : (b : Bool) (y z : ℤ) → y ≤ℤ z → Reached Least (if b then Some y else None) z
below-known true y z h = h
below-known false y z h = tt

above-known : (b : Bool) (y z : ℤ) → z ≤ℤ y → Reached Greatest (if b then Some y else None) z
above-known true y z h = h
above-known false y z h = tt

nearest-reached : (s : Side) (p k : ℤ) → Beyond s p k → Reached s (nearest s p) k
nearest-reached Least (pos n) k h = omega (arith, ints)
nearest-reached Least (negsuc n) k h = below-known (nat_lt n (2 ^ 127)) (negsuc n) k h
nearest-reached Greatest (pos n) k h = above-known (nat_lt n (2 ^ 127)) (pos n) k h
nearest-reached Greatest (negsuc n) k h = omega (arith, ints)

nearest-closer : (s : Side) (p q : ℤ) → Beyond s q p → Closer s (nearest s p) (nearest s q)
nearest-closer Least (pos n) (pos m) h = omega (arith, ints)
nearest-closer Least (negsuc n) (pos m) h = absurd (omega (arith, ints))
nearest-closer Least p (negsuc m) h = go (nat_lt m (2 ^ 127)) refl
  where
    known : (p : ℤ) → negsuc m ≤ℤ p → m < 2 ^ 127 → Closer Least (nearest_below p) (Some (negsuc m))
    known (pos n) h k = omega (arith, ints)
    known (negsuc n) h k = rw (lt-ltb n (2 ^ 127) (omega (arith, ints))) h

    go : (b : Bool) → nat_lt m (2 ^ 127) ≡ b → Closer Least (nearest_below p) (if b then Some (negsuc m) else None)
    go false e = tt
    go true e = known p h (ltb-true m (2 ^ 127) e)
nearest-closer Greatest (negsuc n) (negsuc m) h = omega (arith, ints)
nearest-closer Greatest (pos n) (negsuc m) h = absurd (omega (arith, ints))
nearest-closer Greatest p (pos m) h = go (nat_lt m (2 ^ 127)) refl
  where
    known : (p : ℤ) → p ≤ℤ pos m → m < 2 ^ 127 → Closer Greatest (nearest_above p) (Some (pos m))
    known (negsuc n) h k = omega (arith, ints)
    known (pos n) h k = rw (lt-ltb n (2 ^ 127) (omega (arith, ints))) h

    go : (b : Bool) → nat_lt m (2 ^ 127) ≡ b → Closer Greatest (nearest_above p) (if b then Some (pos m) else None)
    go false e = tt
    go true e = known p h (ltb-true m (2 ^ 127) e)

-- ---- numbers within spans and intervals

pub record Spanned (x : Span) (i : ℤ) : Type 0 where
  pub least : Reached Least x.least i
  pub greatest : Reached Greatest x.greatest i

end-reached : (s : Side) (x : Span) (i : ℤ) → Spanned x i → Reached s (end_of s x) i
end-reached Least x i h = h.least
end-reached Greatest x i h = h.greatest

by_order : (a b : ℤ) (P : Option Interval → Type 0) → (b <ℤ a → P None) → (a ≤ℤ b → P (Some (record { from = a; to = b }))) → P (from_to a b)
by_order a b P none some = go (int_le a b) refl
  where
    go : (t : Bool) → int_le a b ≡ t → P (if t then Some (record { from = a; to = b }) else None)
    go true e = some (omega (arith, ints))
    go false e = none (omega (arith, ints))

in_interval : (x : Span) (i : ℤ) → Spanned x i → (P : Option Interval → Type 0) → P None → ((p : Interval) → Among p i → P (Some p)) → P (interval x)
in_interval x i h P none some = go x.least x.greatest h.least h.greatest
  where
    go : (l g : Option ℤ) → Reached Least l i → Reached Greatest g i → P (of_both from_to l g)
    go None g e f = none
    go (Some a) None e f = none
    go (Some a) (Some b) e f = by_order a b P (λ _. none) (λ o. some (record { from = a; to = b }) (record { from = e; to = f }))

by_zero : (q : Interval) (P : Option Interval → Type 0) → (is_nonzero q ≡ false → P None) → (is_nonzero q ≡ true → P (Some q)) → P (if_nonzero q)
by_zero q P none some = go (is_nonzero q) refl
  where
    go : (b : Bool) → is_nonzero q ≡ b → P (if b then Some q else None)
    go true e = some e
    go false e = none e

in_divisors : (y : Span) (j : ℤ) → Spanned y j → (P : Option Interval → Type 0) → P None → ((q : Interval) → Among q j → is_nonzero q ≡ true → P (Some q)) → P (option_and_then if_nonzero (interval y))
in_divisors y j h P none some = in_interval y j h (λ o. P (option_and_then if_nonzero o)) none (λ q a. by_zero q P (λ _. none) (λ e. some q a e))

-- ---- what is computed lies within

both-reached : (s r : Side) (f : ℤ → ℤ → ℤ) (i j : ℤ) (l m : Option ℤ) → ((p q : ℤ) → Beyond s p i → Beyond r q j → Beyond s (f p q) (f i j)) → Reached s l i → Reached r m j →
    Reached s (of_both (λ p q. nearest s (f p q)) l m) (f i j)
both-reached s r f i j None m h e g = tt
both-reached s r f i j (Some p) None h e g = tt
both-reached s r f i j (Some p) (Some q) h e g = nearest-reached s (f p q) (f i j) (h p q e g)

sum-beyond : (s : Side) (i j p q : ℤ) → Beyond s p i → Beyond s q j → Beyond s (p +ℤ q) (i +ℤ j)
sum-beyond Least i j p q e f = omega (arith, ints)
sum-beyond Greatest i j p q e f = omega (arith, ints)

difference-beyond : (s : Side) (i j p q : ℤ) → Beyond s p i → Beyond (across s) q j → Beyond s (p -ℤ q) (i -ℤ j)
difference-beyond Least i j p q e f = omega (arith, ints)
difference-beyond Greatest i j p q e f = omega (arith, ints)

pub reached : (a : Arithmetic) (s : Side) (x y : Span) (i j : ℤ) → Spanned x i → Spanned y j → Reached s (span_end a s x y) (whole_result a i j)
reached Sum s x y i j h k = both-reached s s ◌+ℤ◌ i j (end_of s x) (end_of s y) (sum-beyond s i j) (end-reached s x i h) (end-reached s y j k)
reached Difference s x y i j h k = both-reached s (across s) ◌-ℤ◌ i j (end_of s x) (end_of (across s) y) (difference-beyond s i j) (end-reached s x i h) (end-reached (across s) y j k)
reached Product s x y i j h k =
    in_interval x i h (λ o. Reached s (of_both (λ p q. nearest s (corner s ◌*ℤ◌ p q)) o (interval y)) (i *ℤ j)) tt (λ p a.
    in_interval y j k (λ o. Reached s (of_both (λ p q. nearest s (corner s ◌*ℤ◌ p q)) (Some p) o) (i *ℤ j)) tt (λ q b.
    nearest-reached s (corner s ◌*ℤ◌ p q) (i *ℤ j) (product-beyond s p q i j a b)))
reached Quotient s x y i j h k =
    in_interval x i h (λ o. Reached s (of_both (λ p q. nearest s (corner s int_div p q)) o (option_and_then if_nonzero (interval y))) (int_div i j)) tt (λ p a.
    in_divisors y j k (λ o. Reached s (of_both (λ p q. nearest s (corner s int_div p q)) (Some p) o) (int_div i j)) tt (λ q b e.
    nearest-reached s (corner s int_div p q) (int_div i j) (quotient-beyond s p q i j e a b)))
reached Remainder s x y i j h k =
    in_divisors y j k (λ o. Reached s (option_map (λ q. remainder_end s (end_of s x) (reach q)) o) (int_rem i j)) tt (λ q b e. remainder-beyond s (end_of s x) q i j e b (end-reached s x i h))

-- ---- closer spans give closer ends

-- the first span lies in the second
pub record SpanWithin (x x' : Span) : Type 0 where
  pub least : Closer Least x.least x'.least
  pub greatest : Closer Greatest x.greatest x'.greatest

-- the first end is at most the second, where both are known
abbrev pub Ordered : Option ℤ → Option ℤ → Type 0
Ordered (Some i) (Some j) = i ≤ℤ j
Ordered _ _ = Unit {0}

end-closer : (s : Side) (x x' : Span) → SpanWithin x x' → Closer s (end_of s x) (end_of s x')
end-closer Least x x' d = d.least
end-closer Greatest x x' d = d.greatest

both-closer : (s r : Side) (f : ℤ → ℤ → ℤ) (l l' m m' : Option ℤ) → ((p q p' q' : ℤ) → Beyond s p' p → Beyond r q' q → Beyond s (f p' q') (f p q)) → Closer s l l' → Closer r m m' →
    Closer s (of_both (λ p q. nearest s (f p q)) l m) (of_both (λ p q. nearest s (f p q)) l' m')
both-closer s r f l None m m' h d e = tt
both-closer s r f l (Some p') m None h d e = tt
both-closer s r f None (Some p') m (Some q') h d e = elim d [ ]
both-closer s r f (Some p) (Some p') None (Some q') h d e = elim e [ ]
both-closer s r f (Some p) (Some p') (Some q) (Some q') h d e = nearest-closer s (f p q) (f p' q') (h p q p' q' d e)

in_intervals : (x x' : Span) → SpanWithin x x' → Ordered x.least x.greatest → (P : Option Interval → Option Interval → Type 0) → ((o : Option Interval) → P o None) → ((p p' : Interval) → Inner p p' → P (Some p) (Some p')) → P (interval x) (interval x')
in_intervals x x' d o P unknown some = go x.least x.greatest x'.least x'.greatest d.least d.greatest o
  where
    go : (l g l' g' : Option ℤ) → Closer Least l l' → Closer Greatest g g' → Ordered l g → P (of_both from_to l g) (of_both from_to l' g')
    go l g None g' e f o = unknown (of_both from_to l g)
    go l g (Some a') None e f o = unknown (of_both from_to l g)
    go None g (Some a') (Some b') e f o = elim e [ ]
    go (Some a) None (Some a') (Some b') e f o = elim f [ ]
    go (Some a) (Some b) (Some a') (Some b') e f o =
        by_order a' b' (λ q. P (from_to a b) q) (λ _. unknown (from_to a b)) (λ _.
        by_order a b (λ q. P q (Some (record { from = a'; to = b' }))) (λ n. absurd (omega (arith, ints))) (λ _. some (record { from = a; to = b }) (record { from = a'; to = b' }) (record { from = e; to = f; ordered = o })))

in_both_divisors : (y y' : Span) → SpanWithin y y' → Ordered y.least y.greatest → (P : Option Interval → Option Interval → Type 0) → ((o : Option Interval) → P o None) → ((q q' : Interval) → is_nonzero q' ≡ true → Inner q q' → P (Some q) (Some q')) →
    P (option_and_then if_nonzero (interval y)) (option_and_then if_nonzero (interval y'))
in_both_divisors y y' d o P unknown some = in_intervals y y' d o (λ e e'. P (option_and_then if_nonzero e) (option_and_then if_nonzero e')) (λ e. unknown (option_and_then if_nonzero e)) (λ q q' i.
    by_zero q' (λ e'. P (if_nonzero q) e') (λ _. unknown (if_nonzero q)) (λ z.
    by_zero q (λ e. P e (Some q')) (λ n. elim (nonzero-inner q q' i z n) [ ]) (λ _. some q q' z i)))

pub closer : (a : Arithmetic) (s : Side) (x x' y y' : Span) → SpanWithin x x' → SpanWithin y y' → Ordered x.least x.greatest → Ordered y.least y.greatest → Closer s (span_end a s x y) (span_end a s x' y')
closer Sum s x x' y y' d e o u = both-closer s s ◌+ℤ◌ (end_of s x) (end_of s x') (end_of s y) (end_of s y') (λ p q p' q'. sum-beyond s p q p' q') (end-closer s x x' d) (end-closer s y y' e)
closer Difference s x x' y y' d e o u =
    both-closer s (across s) ◌-ℤ◌ (end_of s x) (end_of s x') (end_of (across s) y) (end_of (across s) y') (λ p q p' q'. difference-beyond s p q p' q') (end-closer s x x' d) (end-closer (across s) y y' e)
closer Product s x x' y y' d e o u =
    in_intervals x x' d o (λ v v'. Closer s (of_both (λ p q. nearest s (corner s ◌*ℤ◌ p q)) v (interval y)) (of_both (λ p q. nearest s (corner s ◌*ℤ◌ p q)) v' (interval y'))) (λ v. tt) (λ p p' i.
    in_intervals y y' e u (λ w w'. Closer s (of_both (λ p q. nearest s (corner s ◌*ℤ◌ p q)) (Some p) w) (of_both (λ p q. nearest s (corner s ◌*ℤ◌ p q)) (Some p') w')) (λ w. tt) (λ q q' j.
    nearest-closer s (corner s ◌*ℤ◌ p q) (corner s ◌*ℤ◌ p' q') (corner-closer ◌*ℤ◌ p p' q q' i j s (product-beyond s p' q'))))
closer Quotient s x x' y y' d e o u =
    in_intervals x x' d o (λ v v'. Closer s (of_both (λ p q. nearest s (corner s int_div p q)) v (option_and_then if_nonzero (interval y))) (of_both (λ p q. nearest s (corner s int_div p q)) v' (option_and_then if_nonzero (interval y')))) (λ v. tt) (λ p p' i.
    in_both_divisors y y' e u (λ w w'. Closer s (of_both (λ p q. nearest s (corner s int_div p q)) (Some p) w) (of_both (λ p q. nearest s (corner s int_div p q)) (Some p') w')) (λ w. tt) (λ q q' z j.
    nearest-closer s (corner s int_div p q) (corner s int_div p' q') (corner-closer int_div p p' q q' i j s (λ k l. quotient-beyond s p' q' k l z))))
closer Remainder s x x' y y' d e o u =
    in_both_divisors y y' e u (λ w w'. Closer s (option_map (λ q. remainder_end s (end_of s x) (reach q)) w) (option_map (λ q. remainder_end s (end_of s x') (reach q)) w')) (λ w. tt) (λ q q' z i.
    remainder-closer s (end_of s x) (end_of s x') q q' i (end-closer s x x' d))

-- ---- the ends of each side are in order

ordered_around : (e f : Option ℤ) (k : ℤ) → Reached Least e k → Reached Greatest f k → Ordered e f
ordered_around None f k r q = tt
ordered_around (Some i) None k r q = tt
ordered_around (Some i) (Some j) k r q = omega (arith, ints)

same_le : (i : ℤ) → i ≤ℤ i
same_le i = omega (arith, ints)

-- a span whose ends are in order has a number
some_number : (x : Span) → Ordered x.least x.greatest → (i : ℤ) × Spanned x i
some_number x o = let n = go x.least x.greatest o in (n.0, record { least = n.1; greatest = n.2 })
  where
    go : (l g : Option ℤ) → Ordered l g → (i : ℤ) × Reached Least l i × Reached Greatest g i
    go None None o = (pos 0, tt, tt)
    go None (Some b) o = (b, tt, same_le b)
    go (Some a) None o = (a, same_le a, tt)
    go (Some a) (Some b) o = (a, same_le a, o)

pub ends-ordered : (a : Arithmetic) (x y : Span) → Ordered x.least x.greatest → Ordered y.least y.greatest → Ordered (span_end a Least x y) (span_end a Greatest x y)
ends-ordered a x y o u =
    let i = some_number x o in
    let j = some_number y u in
    ordered_around (span_end a Least x y) (span_end a Greatest x y) (whole_result a i.0 j.0) (reached a Least x y i.0 j.0 i.1 j.1) (reached a Greatest x y i.0 j.0 i.1 j.1)

-- ---- the furthest of the nearest is the nearest to the furthest

-- the one of two that lies further on that side, if both are known
abbrev pub outer_of : Side → Option ℤ → Option ℤ → Option ℤ
outer_of s = of_both (λ i j. Some (outer s i j))

by_side : (s : Side) (p q : ℤ) (P : Type 0) → (Beyond s p q → P) → (Beyond s q p → P) → P
by_side Least p q P f g = by_lt_z q p (λ h. g (omega (arith, ints))) f
by_side Greatest p q P f g = by_lt_z p q (λ h. g (omega (arith, ints))) f

outer-left : (s : Side) (p q : ℤ) → Beyond s p q → outer s p q ≡ p
outer-left Least p q h = omega (arith, ints, clamps)
outer-left Greatest p q h = omega (arith, ints, clamps)

outer-right : (s : Side) (p q : ℤ) → Beyond s q p → outer s p q ≡ q
outer-right Least p q h = omega (arith, ints, clamps)
outer-right Greatest p q h = omega (arith, ints, clamps)

known-left : (s : Side) (l m : Option ℤ) → Closer s m l → outer_of s l m ≡ l
known-left s None m c = refl
known-left s (Some p) None c = elim c [ ]
known-left s (Some p) (Some q) c = ap Some (outer-left s p q c)

known-right : (s : Side) (l m : Option ℤ) → Closer s l m → outer_of s l m ≡ m
known-right s None None c = refl
known-right s None (Some q) c = elim c [ ]
known-right s (Some p) None c = refl
known-right s (Some p) (Some q) c = ap Some (outer-right s p q c)

nearest-outer : (s : Side) (p q : ℤ) → outer_of s (nearest s p) (nearest s q) ≡ nearest s (outer s p q)
nearest-outer s p q = by_side s p q _
    (λ h. known-left s (nearest s p) (nearest s q) (nearest-closer s q p h) ∙ ap (nearest s) (sym (outer-left s p q h)))
    (λ h. known-right s (nearest s p) (nearest s q) (nearest-closer s p q h) ∙ ap (nearest s) (sym (outer-right s p q h)))

-- the furthest of four nearest numbers
pub nearest-outermost : (s : Side) (i j k l : ℤ) (d e f g o : Option ℤ) → d ≡ nearest s i → e ≡ nearest s j → f ≡ nearest s k → g ≡ nearest s l → o ≡ outer_of s (outer_of s d e) (outer_of s f g) → o ≡ nearest s (outer s (outer s i j) (outer s k l))
nearest-outermost s i j k l d e f g o p q r t is =
    is ∙ (λ n. outer_of s (outer_of s (p n) (q n)) (outer_of s (r n) (t n))) ∙ ap (λ v. outer_of s v (outer_of s (nearest s k) (nearest s l))) (nearest-outer s i j) ∙ ap (λ v. outer_of s (nearest s (outer s i j)) v) (nearest-outer s k l)
    ∙ nearest-outer s (outer s i j) (outer s k l)
