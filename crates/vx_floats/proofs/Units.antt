-- The units of a fraction at a scale: its size alone decides them, and powers of two in it are places of its digits.
use Rattle.std.proofs.Common.{◌≡◌, ℕ, suc, ◌+◌, ◌-◌, ◌*◌, ◌/◌, ◌^◌, ◌<◌, ◌≤◌, sym, ap, ◌∙◌, arith, pow_pos, pow-add}
use Rattle.std.specs.Float.{ratio_round_half_up}
use Rattle.std.proofs.Math.Nat.{add-div_right, div-div-eq-div-mul, div-eq_of_lt, div-lt_iff_lt-mul, mul-div-mul_left, mul-le-mul_right, pow-le-pow_right, pow-suc}
use Rattle.std.proofs.lemmas.Nat.{mul-le}
use lib.Ieee.Nearest.{div_same}
use Rattle.vx_floats.specs.Texts.{units_of}

half_up_same : (a b c d : ℕ) → 0 < b → 0 < d → a * d ≡ c * b → ratio_round_half_up a b ≡ ratio_round_half_up c d
half_up_same a b c d some more e = div_same (2 * a + b) (2 * b) (2 * c + d) (2 * d) (omega arith) (omega arith) (crossed (2 * a) b (2 * c) d (omega (arith, e)))
  where
    crossed : (a b c d : ℕ) → a * d ≡ c * b → (a + b) * (2 * d) ≡ (c + d) * (2 * b)
    crossed a b c d e = omega (arith, e)

scaled_same : (a b c d p : ℕ) → a * d ≡ c * b → a * p * d ≡ c * p * b
scaled_same a b c d p e = omega (arith, ap (λ n. n * p) e)

-- fractions of one size have the same units
pub units_same : (a b c d scale : ℕ) → 0 < b → 0 < d → a * d ≡ c * b → units_of a b scale ≡ units_of c d scale
units_same a b c d scale some more e = half_up_same (a * 10 ^ scale) b (c * 10 ^ scale) d some more (scaled_same a b c d (10 ^ scale) e)

moved : (q p u w l : ℕ) → u ≡ w * l → q * u * p * 1 ≡ q * p * w * l
moved q p u w l e = omega (arith, ap (λ n. q * p * n) e)

pub units_raised : (q k l scale : ℕ) → l ≤ k → units_of (q * 2 ^ k) (2 ^ l) scale ≡ q * 10 ^ scale * 2 ^ (k - l)
units_raised q k l scale h =
    let sum : k - l + l ≡ k = omega arith in
    half_up_same (q * 2 ^ k * 10 ^ scale) (2 ^ l) (q * 10 ^ scale * 2 ^ (k - l)) 1 (pow_pos l) (omega arith) (moved q (10 ^ scale) (2 ^ k) (2 ^ (k - l)) (2 ^ l) (ap (λ n. 2 ^ n) (sym sum) ∙ pow-add 2 (k - l) l))
    ∙ omega arith

put_down : (q p u w l : ℕ) → l ≡ u * w → q * u * p * w ≡ q * p * l
put_down q p u w l e = omega (arith, ap (λ n. q * p * n) e)

pub units_lowered : (q k l scale : ℕ) → k ≤ l → units_of (q * 2 ^ k) (2 ^ l) scale ≡ ratio_round_half_up (q * 10 ^ scale) (2 ^ (l - k))
units_lowered q k l scale h =
    let sum : k + (l - k) ≡ l = omega arith in
    half_up_same (q * 2 ^ k * 10 ^ scale) (2 ^ l) (q * 10 ^ scale) (2 ^ (l - k)) (pow_pos l) (pow_pos (l - k)) (put_down q (10 ^ scale) (2 ^ k) (2 ^ (l - k)) (2 ^ l) (ap (λ n. 2 ^ n) (sym sum) ∙ pow-add 2 k (l - k)))

-- ---- the steps of the code

halved : (n h : ℕ) → 0 < h → (n / h + 1) / 2 ≡ ratio_round_half_up n (h * 2)
halved n h some = ap (λ q. q / 2) (sym (add-div_right n some)) ∙ div-div-eq-div-mul (n + h) h 2 ∙ sym (mul-div-mul_left {m = 2} (n + h) (h * 2) (omega arith)) ∙ ap (λ q. q / (2 * (h * 2))) (omega arith)

pub lowered_near : (n places : ℕ) → (places ≡ 0 → ⊥) → (n / 2 ^ (places - 1) + 1) / 2 ≡ ratio_round_half_up n (2 ^ places)
lowered_near n places some =
    let next : suc (places - 1) ≡ places = omega arith in
    halved n (2 ^ (places - 1)) (pow_pos (places - 1)) ∙ ap (ratio_round_half_up n) (sym (pow-suc 2 (places - 1)) ∙ ap (λ k. 2 ^ k) next)

pub lowered_far : (n places : ℕ) → n < 2 ^ 127 → 128 < places → 0 ≡ ratio_round_half_up n (2 ^ places)
lowered_far n places small far =
    let wide : 2 ^ 128 ≤ 2 ^ places = pow-le-pow_right {n = 2} (omega arith) {i = 128} {j = places} (omega arith) in
    sym (div-eq_of_lt (omega (arith, wide)))

pub raised_far : (n places : ℕ) → 0 < n → 127 ≤ places → 10 ^ 38 ≤ n * 2 ^ places
raised_far n places some far =
    let wide : 2 ^ 127 ≤ 2 ^ places = pow-le-pow_right {n = 2} (omega arith) {i = 127} {j = places} far in
    omega (arith, wide, mul-le-mul_right {m = 1} {n = n} (2 ^ places) some)

pub raised_more : (n places : ℕ) → (10 ^ 38 - 1) / 2 ^ places < n → 10 ^ 38 ≤ n * 2 ^ places
raised_more n places more = omega (arith, (div-lt_iff_lt-mul {k = 2 ^ places} {x = 10 ^ 38 - 1} {y = n} (pow_pos places)).0 more)

pub scaled_small : (q p scale : ℕ) → q < 2 ^ 53 → scale ≤ 22 → p ≡ 10 ^ scale → q * p < 10 ^ 38
scaled_small q p scale small few is =
    let tens = pow-le-pow_right {n = 10} (omega arith) {i = scale} {j = 22} few in
    let most = mul-le q p (2 ^ 53 - 1) (10 ^ 22) (omega arith) (omega (arith, is, tens)) in
    omega (arith, most)
