-- What is computed of whole numbers between others.
use Rattle.std.proofs.Common.{◌≡◌, ℕ, ◌<◌, ◌≤◌, ◌+◌, ◌-◌, ◌/◌, ◌%◌, zero, suc, max, refl, Bool, true, false, ◌||◌, arith}
use Rattle.std.specs.Prelude.{ℤ, pos, negsuc, ◌*ℤ◌, ◌≤ℤ◌, ◌<ℤ◌, neg_ℤ, int_div, int_rem, unsigned_abs, int_lt, Option, Some, None}
use Rattle.std.proofs.lemmas.Int.{ints, clamps}
use Rattle.std.proofs.Math.IntN.{*ℤ_comm}
use Rattle.std.proofs.Math.Nat.{mul-le-mul_right, mul-le-mul_left, mod-le, mod-lt}
use lib.Ieee.Nearest.{div_mono}
use borrow.Author.Differences.{up, down, le_out}
use Rattle.vx_prune_bounds.specs.Spans.{Side, Least, Greatest, Interval, outer, is_nonzero, corner, reach, remainder_end}

-- the first number lies on that side of the second, or is the same
abbrev pub Beyond : Side → ℤ → ℤ → Type 0
Beyond Least p k = p ≤ℤ k
Beyond Greatest p k = k ≤ℤ p

-- the end lies on that side of the number, if it is known
abbrev pub Reached : Side → Option ℤ → ℤ → Type 0
Reached s None k = Unit {0}
Reached s (Some p) k = Beyond s p k

-- where the second is known, the first is too, and lies no further on that side
abbrev pub Closer : Side → Option ℤ → Option ℤ → Type 0
Closer s e None = Unit {0}
Closer s None (Some q) = ⊥
Closer s (Some p) (Some q) = Beyond s q p

-- the number is one of the interval
pub record Among (p : Interval) (i : ℤ) : Type 0 where
  pub from : p.from ≤ℤ i
  pub to : i ≤ℤ p.to

-- the first interval, which isn't empty, lies in the second
pub record Inner (p p' : Interval) : Type 0 where
  pub from : p'.from ≤ℤ p.from
  pub to : p.to ≤ℤ p'.to
  pub ordered : p.from ≤ℤ p.to

-- ---- products

mul_up : (a x : ℤ) (n : ℕ) → a ≤ℤ x → (a *ℤ pos n) ≤ℤ (x *ℤ pos n)
mul_up a x n h = let k : up a + down x ≤ up x + down a = le_out a x h in omega (arith, ints, mul-le-mul_right n k)

mul_down : (a x : ℤ) (n : ℕ) → a ≤ℤ x → (x *ℤ negsuc n) ≤ℤ (a *ℤ negsuc n)
mul_down a x n h = let k : up a + down x ≤ up x + down a = le_out a x h in omega (arith, ints, mul-le-mul_right (suc n) k)

-- ---- quotients

up_div : (a b n : ℕ) → a ≤ b → a / suc n ≤ b / suc n
up_div a b n h = div_mono a (suc n) b (suc n) (omega arith) (omega arith) (mul-le-mul_right (suc n) h)

quotient_up : (a x : ℤ) (n : ℕ) → a ≤ℤ x → int_div a (pos (suc n)) ≤ℤ int_div x (pos (suc n))
quotient_up (pos a) (pos x) n h = omega (arith, ints, up_div a x n (omega (arith, ints)))
quotient_up (pos a) (negsuc x) n h = absurd (omega (arith, ints))
quotient_up (negsuc a) (pos x) n h = omega (arith, ints)
quotient_up (negsuc a) (negsuc x) n h = omega (arith, ints, up_div (suc x) (suc a) n (omega (arith, ints)))

quotient_down : (a x : ℤ) (n : ℕ) → a ≤ℤ x → int_div x (negsuc n) ≤ℤ int_div a (negsuc n)
quotient_down (pos a) (pos x) n h = omega (arith, ints, up_div a x n (omega (arith, ints)))
quotient_down (pos a) (negsuc x) n h = absurd (omega (arith, ints))
quotient_down (negsuc a) (pos x) n h = omega (arith, ints)
quotient_down (negsuc a) (negsuc x) n h = omega (arith, ints, up_div (suc x) (suc a) n (omega (arith, ints)))

-- what is computed of a number between two lies between what is computed of these
abbrev Between : Side → (ℤ → ℤ) → ℤ → ℤ → ℤ → Type 0
Between s f a b x = Beyond s (outer s (f a) (f b)) (f x)

-- ---- each factor, dividend and divisor

product_left : (s : Side) (a b x y : ℤ) → a ≤ℤ x → x ≤ℤ b → Between s (λ z. z *ℤ y) a b x
product_left Least a b x (pos n) h k = let l = mul_up a x n h in omega (arith, ints, clamps)
product_left Least a b x (negsuc n) h k = let l = mul_down x b n k in omega (arith, ints, clamps)
product_left Greatest a b x (pos n) h k = let l = mul_up x b n k in omega (arith, ints, clamps)
product_left Greatest a b x (negsuc n) h k = let l = mul_down a x n h in omega (arith, ints, clamps)

product_right : (s : Side) (c d x y : ℤ) → c ≤ℤ y → y ≤ℤ d → Between s (λ z. x *ℤ z) c d y
product_right s c d x y h k = rw (*ℤ_comm x c, *ℤ_comm x d, *ℤ_comm x y) (product_left s c d y x h k)

quotient_left : (s : Side) (a b x y : ℤ) → (y ≡ pos 0 → ⊥) → a ≤ℤ x → x ≤ℤ b → Between s (λ z. int_div z y) a b x
quotient_left s a b x (pos zero) other h k = absurd (other refl)
quotient_left Least a b x (pos (suc n)) other h k = let l = quotient_up a x n h in omega (arith, ints, clamps)
quotient_left Least a b x (negsuc n) other h k = let l = quotient_down x b n k in omega (arith, ints, clamps)
quotient_left Greatest a b x (pos (suc n)) other h k = let l = quotient_up x b n k in omega (arith, ints, clamps)
quotient_left Greatest a b x (negsuc n) other h k = let l = quotient_down a x n h in omega (arith, ints, clamps)

-- a greater divisor gives no greater quotient
fewer : (x c d : ℕ) → 0 < c → c ≤ d → x / d ≤ x / c
fewer x c d p h = div_mono x d x c (omega arith) p (mul-le-mul_left x h)

quotient_right : (s : Side) (c d x y : ℤ) → pos 0 <ℤ c → c ≤ℤ y → y ≤ℤ d → Between s (λ z. int_div x z) c d y
quotient_right s (negsuc c) d x y p h k = absurd (omega (arith, ints))
quotient_right s c (negsuc d) x y p h k = absurd (omega (arith, ints))
quotient_right s c d x (negsuc y) p h k = absurd (omega (arith, ints))
quotient_right Least (pos c) (pos d) (pos x) (pos y) p h k = let l = fewer x y d (omega (arith, ints)) (omega (arith, ints)) in omega (arith, ints, clamps)
quotient_right Greatest (pos c) (pos d) (pos x) (pos y) p h k = let l = fewer x c y (omega (arith, ints)) (omega (arith, ints)) in omega (arith, ints, clamps)
quotient_right Least (pos c) (pos d) (negsuc x) (pos y) p h k = let l = fewer (suc x) c y (omega (arith, ints)) (omega (arith, ints)) in omega (arith, ints, clamps)
quotient_right Greatest (pos c) (pos d) (negsuc x) (pos y) p h k = let l = fewer (suc x) y d (omega (arith, ints)) (omega (arith, ints)) in omega (arith, ints, clamps)

quotient_right_below : (s : Side) (c d x y : ℤ) → d <ℤ pos 0 → c ≤ℤ y → y ≤ℤ d → Between s (λ z. int_div x z) c d y
quotient_right_below s c (pos d) x y p h k = absurd (omega (arith, ints))
quotient_right_below s (pos c) d x y p h k = absurd (omega (arith, ints))
quotient_right_below s c d x (pos y) p h k = absurd (omega (arith, ints))
quotient_right_below Least (negsuc c) (negsuc d) (pos x) (negsuc y) p h k = let l = fewer x (suc d) (suc y) (omega arith) (omega (arith, ints)) in omega (arith, ints, clamps)
quotient_right_below Greatest (negsuc c) (negsuc d) (pos x) (negsuc y) p h k = let l = fewer x (suc y) (suc c) (omega arith) (omega (arith, ints)) in omega (arith, ints, clamps)
quotient_right_below Least (negsuc c) (negsuc d) (negsuc x) (negsuc y) p h k = let l = fewer (suc x) (suc y) (suc c) (omega arith) (omega (arith, ints)) in omega (arith, ints, clamps)
quotient_right_below Greatest (negsuc c) (negsuc d) (negsuc x) (negsuc y) p h k = let l = fewer (suc x) (suc d) (suc y) (omega arith) (omega (arith, ints)) in omega (arith, ints, clamps)

-- zero isn't in the interval
by_sign : {P : Type 0} (q : Interval) → is_nonzero q ≡ true → (pos 0 <ℤ q.from → P) → (q.to <ℤ pos 0 → P) → P
by_sign {P} q e f g = go (int_lt (pos 0) q.from) (int_lt q.to (pos 0)) refl refl e
  where
    go : (b c : Bool) → int_lt (pos 0) q.from ≡ b → int_lt q.to (pos 0) ≡ c → (b || c) ≡ true → P
    go true c h k e = f (omega (arith, ints))
    go false true h k e = g (omega (arith, ints))
    go false false h k e = cc

quotient_across : (s : Side) (q : Interval) (x y : ℤ) → is_nonzero q ≡ true → Among q y → Between s (λ z. int_div x z) q.from q.to y
quotient_across s q x y e b = by_sign q e (λ p. quotient_right s q.from q.to x y p b.from b.to) (λ p. quotient_right_below s q.from q.to x y p b.from b.to)

not_zero : (q : Interval) (y : ℤ) → is_nonzero q ≡ true → Among q y → y ≡ pos 0 → ⊥
not_zero q y e b z = by_sign q e (λ p. let f = b.from in omega (arith, ints)) (λ p. let t = b.to in omega (arith, ints))

-- ---- four corners

module _ (f : ℤ → ℤ → ℤ) (p q : Interval) where
  corner-beyond : (s : Side) (x y : ℤ) → Between s (λ z. f z y) p.from p.to x → Between s (f p.from) q.from q.to y → Between s (f p.to) q.from q.to y → Beyond s (corner s f p q) (f x y)
  corner-beyond Least x y h k l = omega (arith, ints, clamps)
  corner-beyond Greatest x y h k l = omega (arith, ints, clamps)

pub product-beyond : (s : Side) (p q : Interval) (i j : ℤ) → Among p i → Among q j → Beyond s (corner s ◌*ℤ◌ p q) (i *ℤ j)
product-beyond s p q i j a b =
    corner-beyond ◌*ℤ◌ p q s i j (product_left s p.from p.to i j a.from a.to) (product_right s q.from q.to p.from j b.from b.to) (product_right s q.from q.to p.to j b.from b.to)

pub quotient-beyond : (s : Side) (p q : Interval) (i j : ℤ) → is_nonzero q ≡ true → Among p i → Among q j → Beyond s (corner s int_div p q) (int_div i j)
quotient-beyond s p q i j e a b =
    corner-beyond int_div p q s i j (quotient_left s p.from p.to i j (not_zero q j e b) a.from a.to) (quotient_across s q p.from j e b) (quotient_across s q p.to j e b)

module _ (f : ℤ → ℤ → ℤ) (p p' q q' : Interval) (d : Inner p p') (e : Inner q q') where
  all_four : (s : Side) (k : ℤ) → Beyond s k (f p.from q.from) → Beyond s k (f p.from q.to) → Beyond s k (f p.to q.from) → Beyond s k (f p.to q.to) → Beyond s k (corner s f p q)
  all_four Least k a b c d = omega (arith, ints, clamps)
  all_four Greatest k a b c d = omega (arith, ints, clamps)

  first : {p p' : Interval} → Inner p p' → Among p' p.from
  first d = let k = d.to in let o = d.ordered in record { from = d.from; to = omega (arith, ints) }

  last : {p p' : Interval} → Inner p p' → Among p' p.to
  last d = let k = d.from in let o = d.ordered in record { from = omega (arith, ints); to = d.to }

  -- the corners of intervals within others are no further
  pub corner-closer : (s : Side) → ((i j : ℤ) → Among p' i → Among q' j → Beyond s (corner s f p' q') (f i j)) → Beyond s (corner s f p' q') (corner s f p q)
  corner-closer s h = all_four s (corner s f p' q') (h p.from q.from (first d) (first e)) (h p.from q.to (first d) (last e)) (h p.to q.from (last d) (first e)) (h p.to q.to (last d) (last e))

pub nonzero-inner : (q q' : Interval) → Inner q q' → is_nonzero q' ≡ true → is_nonzero q ≡ false → ⊥
nonzero-inner q q' d e n = by_sign q' e (λ p. go (int_lt (pos 0) q.from) (int_lt q.to (pos 0)) refl refl n (above p)) (λ p. go (int_lt (pos 0) q.from) (int_lt q.to (pos 0)) refl refl n (below p))
  where
    above : pos 0 <ℤ q'.from → int_lt (pos 0) q.from ≡ false → int_lt q.to (pos 0) ≡ false → ⊥
    above p h k = let f = d.from in omega (arith, ints)

    below : q'.to <ℤ pos 0 → int_lt (pos 0) q.from ≡ false → int_lt q.to (pos 0) ≡ false → ⊥
    below p h k = let f = d.to in omega (arith, ints)

    go : (b c : Bool) → int_lt (pos 0) q.from ≡ b → int_lt q.to (pos 0) ≡ c → (b || c) ≡ false → (int_lt (pos 0) q.from ≡ false → int_lt q.to (pos 0) ≡ false → ⊥) → ⊥
    go false false h k n f = f h k
    go true c h k n f = cc
    go false true h k n f = cc

-- ---- remainders

-- no number of an interval is further from zero than the further one of its ends
abs_within : (q : Interval) (j : ℤ) → Among q j → unsigned_abs j ≤ max (unsigned_abs q.from) (unsigned_abs q.to)
abs_within q j b = go q.from q.to j b.from b.to
  where
    go : (c d j : ℤ) → c ≤ℤ j → j ≤ℤ d → unsigned_abs j ≤ max (unsigned_abs c) (unsigned_abs d)
    go c (pos d) (pos j) h k = let l : j ≤ d = omega (arith, ints) in omega arith
    go c (negsuc d) (pos j) h k = absurd (omega (arith, ints))
    go (negsuc c) d (negsuc j) h k = let l : j ≤ c = omega (arith, ints) in omega arith
    go (pos c) d (negsuc j) h k = absurd (omega (arith, ints))

abs_positive : (q : Interval) (j : ℤ) → is_nonzero q ≡ true → Among q j → 0 < unsigned_abs j
abs_positive q (pos zero) e b = elim (not_zero q (pos zero) e b refl) [ ]
abs_positive q (pos (suc n)) e b = omega arith
abs_positive q (negsuc n) e b = omega arith

module _ (m k n : ℕ) (small : n ≤ m) (less : n ≤ k) where
  above_zero : (s : Side) (e : Option ℤ) → Reached s e (pos k) → Beyond s (remainder_end s e (pos m)) (pos n)
  above_zero Least None r = omega (arith, ints)
  above_zero Least (Some p) r = omega (arith, ints, clamps)
  above_zero Greatest None r = omega (arith, ints)
  above_zero Greatest (Some p) r = omega (arith, ints, clamps)

  below_zero : (s : Side) (e : Option ℤ) → Reached s e (neg_ℤ (pos k)) → Beyond s (remainder_end s e (pos m)) (neg_ℤ (pos n))
  below_zero Least None r = omega (arith, ints)
  below_zero Least (Some p) r = omega (arith, ints, clamps)
  below_zero Greatest None r = omega (arith, ints)
  below_zero Greatest (Some p) r = omega (arith, ints, clamps)

pub remainder-beyond : (s : Side) (e : Option ℤ) (q : Interval) (i j : ℤ) → is_nonzero q ≡ true → Among q j → Reached s e i → Beyond s (remainder_end s e (reach q)) (int_rem i j)
remainder-beyond s e q (pos i) j z b r =
    let some = abs_positive q j z b in
    let within = abs_within q j b in
    above_zero (max (unsigned_abs q.from) (unsigned_abs q.to) - 1) i (i % unsigned_abs j) (omega (arith, mod-lt i some)) (mod-le i (unsigned_abs j)) s e r
remainder-beyond s e q (negsuc i) j z b r =
    let some = abs_positive q j z b in
    let within = abs_within q j b in
    below_zero (max (unsigned_abs q.from) (unsigned_abs q.to) - 1) (suc i) (suc i % unsigned_abs j) (omega (arith, mod-lt (suc i) some)) (mod-le (suc i) (unsigned_abs j)) s e r

narrower : (s : Side) (m n : ℕ) (e e' : Option ℤ) → m ≤ n → Closer s e e' → Beyond s (remainder_end s e' (pos n)) (remainder_end s e (pos m))
narrower Least m n None None h c = omega (arith, ints)
narrower Least m n (Some p) None h c = omega (arith, ints, clamps)
narrower Least m n (Some p) (Some q) h c = omega (arith, ints, clamps)
narrower Greatest m n None None h c = omega (arith, ints)
narrower Greatest m n (Some p) None h c = omega (arith, ints, clamps)
narrower Greatest m n (Some p) (Some q) h c = omega (arith, ints, clamps)
narrower s m n None (Some q) h c = elim c [ ]

pub remainder-closer : (s : Side) (e e' : Option ℤ) (q q' : Interval) → Inner q q' → Closer s e e' → Beyond s (remainder_end s e' (reach q')) (remainder_end s e (reach q))
remainder-closer s e e' q q' d c =
    let low = abs_within q' q.from (record { from = d.from; to = let k = d.to in let o = d.ordered in omega (arith, ints) }) in
    let high = abs_within q' q.to (record { from = let k = d.from in let o = d.ordered in omega (arith, ints); to = d.to }) in
    narrower s (max (unsigned_abs q.from) (unsigned_abs q.to) - 1) (max (unsigned_abs q'.from) (unsigned_abs q'.to) - 1) e e' (omega arith) c
