-- What is left of a number when it is divided by another, by the parts of both.
use Rattle.std.proofs.Common.{◌≡◌, ℕ, suc, ◌+◌, ◌-◌, ◌*◌, ◌/◌, ◌%◌, ◌^◌, ◌<◌, ◌≤◌, Bool, true, false, not, T, cond, ltb, leb, eqb, inl, inr, refl, sym, ap, subst, ◌∙◌, arith, div-add-mod', eq-zero-or-pos, le-leb, le-ltb, mod-eq_of_lt, mod-lt, mul-le-mul_left, mul-le-mul_right, mul-lt-mul_of_pos_right, mul-pos, mul_assoc, ne_eqb, pow-add, pow-suc, pow_pos}
use Rattle.std.specs.Float.{float_is_finite}
use Rattle.std.proofs.Math.Nat.{pow-le-pow_right}
use Rattle.std.proofs.lemmas.Bool.{cond-false, lt-leb}
use Rattle.std.proofs.lemmas.Nat.{mod-mul-add, mul-mod_first}
use lib.Ieee.{Float as Value, Format, binary32, binary64, nan, inf, fin, low, hid, ones, top, up, down, rem, round, is_nan, of_bits, to_bits}
use lib.Ieee.Bits.{nan_bits_above, nan_bits_is, to_bits-of_bits}
use lib.Ieee.Exact.{HasValue}
use lib.Ieee.Fits.{down_pos, up_pos}
use lib.Ieee.Scale.{round_same}
use Rattle.fast_float.specs.Rounding.{scaled_bits, IsSignificand}
use Rattle.fast_float.proofs.Patterns.{shape}
use Rattle.fast_float.proofs.RoundingLemmas.{nearest_of_near}
use Rattle.ryu.specs.Sign.{IsSignAndSize}
use Rattle.ryu.proofs.Signs.{parts, signed}
use Rattle.vx_dtype.specs.declared.float_type.FloatType.{FloatType}
use Rattle.vx_floats.specs.declared.float.Float.{Float}
use Rattle.vx_floats.specs.declared.float.Float.TheVariants.{F32, F64}
use Rattle.vx_floats.specs.declared.parts.Fraction.{Fraction}
use Rattle.vx_floats.specs.Floats.{format_of}
use Rattle.vx_floats.specs.Parts.{IsFractionOf, den_of, num_of, with_sign}
use Rattle.vx_floats.specs.Texts.{binary, nearest, number_of, value_of}
use Rattle.vx_floats.proofs.Fields.{number_is}

-- ---- the steps of the code

regrouped : (r u w p : ℕ) → u * w ≡ p → r * u * w ≡ r * p
regrouped r u w p e = mul_assoc r u w ∙ ap (λ n. r * n) e

-- a number moved by s of p places, modulo d at once and at the end
pub stepped : (r s p d : ℕ) → s ≤ p → r * 2 ^ s % d * 2 ^ (p - s) % d ≡ r * 2 ^ p % d
stepped r s p d h =
    let sum : s + (p - s) ≡ p = omega arith in
    mul-mod_first (r * 2 ^ s) (2 ^ (p - s)) d ∙ ap (λ n. n % d) (regrouped r (2 ^ s) (2 ^ (p - s)) (2 ^ p) (sym (pow-add 2 s (p - s)) ∙ ap (λ n. 2 ^ n) sum))

moved : (q u p : ℕ) → p ≡ u * 2 → q * 2 * u ≡ q * p
moved q u p e = omega (arith, ap (λ n. q * n) e)

-- a place moved from the exponent to the digits
pub doubled : (q k : ℕ) → 0 < k → q * 2 * 2 ^ (k - 1) ≡ q * 2 ^ k
doubled q k some = let next : suc (k - 1) ≡ k = omega arith in moved q (2 ^ (k - 1)) (2 ^ k) (ap (λ n. 2 ^ n) (sym next) ∙ pow-suc 2 (k - 1))

-- ---- sizes

split : (a b q r c : ℕ) → a ≡ q * b + r → a * c ≡ q * (b * c) + r * c
split a b q r c e = omega (arith, ap (λ n. n * c) e)

scaled_mod : (a b c : ℕ) → 0 < b → 0 < c → a * c % (b * c) ≡ a % b * c
scaled_mod a b c some more =
    ap (λ n. n % (b * c)) (split a b (a / b) (a % b) c (sym (div-add-mod' a b))) ∙ mod-mul-add (a / b) (b * c) (a % b * c) (mul-lt-mul_of_pos_right (mod-lt a some) more)

-- where the left exponent isn't the smaller one
pub rest_size : (p q j k : ℕ) → 0 < q → k ≤ j → p * 2 ^ (j - k) % q * 2 ^ k ≡ p * 2 ^ j % (q * 2 ^ k)
rest_size p q j k some h =
    let sum : j - k + k ≡ j = omega arith in
    sym (scaled_mod (p * 2 ^ (j - k)) q (2 ^ k) some (pow_pos k))
    ∙ ap (λ n. n % (q * 2 ^ k)) (regrouped p (2 ^ (j - k)) (2 ^ k) (2 ^ j) (sym (pow-add 2 (j - k) k) ∙ ap (λ n. 2 ^ n) sum))

less : (h p q u w : ℕ) → p < 2 * h → h ≤ q → 0 < u → u * 2 ≤ w → p * u < q * w
less h p q u w small large some wide = let next : p + 1 ≤ 2 * q = omega arith in omega (arith, mul-le-mul_right u next, mul-le-mul_left q wide)

-- where it is the smaller one
pub smaller : (h p q j k : ℕ) → p < 2 * h → h ≤ q → j < k → p * 2 ^ j < q * 2 ^ k
smaller h p q j k small large below =
    let wide = pow-le-pow_right {n = 2} (omega arith) {i = suc j} {j = k} (omega arith) in
    less h p q (2 ^ j) (2 ^ k) small large (pow_pos j) (subst (λ n. n ≤ 2 ^ k) (pow-suc 2 j) wide)

-- ---- the remainder by the sizes of both

rem_of_none : (f : Format) (x : Value) → rem f x nan ≡ nan
unfolding rem
rem_of_none f nan = refl
rem_of_none f (inf s) = refl
rem_of_none f (fin s m e) = refl

pub by_none : (f : Format) (x y : Value) → y ≡ nan → rem f x y ≡ nan
by_none f x y e = ap (rem f x) e ∙ rem_of_none f x

pub none_by : (f : Format) (x y : Value) → x ≡ nan → rem f x y ≡ nan
unfolding rem
none_by f x y e = ap (λ v. rem f v y) e

pub infinite_by : (f : Format) (x y : Value) (s : Bool) → x ≡ inf s → rem f x y ≡ nan
unfolding rem
infinite_by f x y s e = ap (λ v. rem f v y) e

finite_by : (f : Format) (x : Value) (s t : Bool) (a c : ℕ) → HasValue x s a c → rem f x (inf t) ≡ x
unfolding rem
finite_by f nan s t a c h = absurd h
finite_by f (inf r) s t a c h = absurd h
finite_by f (fin r m e) s t a c h = refl

pub by_infinite : (f : Format) (x y : Value) (s t : Bool) (a c : ℕ) → HasValue x s a c → y ≡ inf t → rem f x y ≡ x
by_infinite f x y s t a c h e = ap (rem f x) e ∙ finite_by f x s t a c h

no_digits : (n u l d k : ℕ) → 0 < u → 0 < l → n * u * l ≡ 0 * k * d → n ≡ 0
no_digits n u l d k some more e = elim (eq-zero-or-pos n) [ inl z ↦ z | inr p ↦ (let much = mul-pos (mul-pos p some) more in absurd (omega (arith, much, e))) ]

pub by_zero : (f : Format) (x y : Value) (s t : Bool) (a c k l : ℕ) → 0 < l → HasValue x s a c → HasValue y t (0 * k) l → rem f x y ≡ nan
unfolding rem
by_zero f nan y s t a c k l some h v = absurd h
by_zero f (inf r) y s t a c k l some h v = absurd h
by_zero f (fin r m e) nan s t a c k l some h v = absurd v
by_zero f (fin r m e) (inf o) s t a c k l some h v = absurd v
by_zero f (fin r m e) (fin o n d) s t a c k l some h v =
    ap (λ z. cond (eqb z 0) nan (round f r (m * up e * down d % (z * up d * down e)) (down e * down d))) (no_digits n (up d) l (down d) k (up_pos d) some v.1)

over : (u q p l a : ℕ) → u * l ≡ a * p → u * q * l ≡ a * (p * q)
over u q p l a e = omega (arith, ap (λ n. n * q) e)

under : (u q p l a : ℕ) → u * l ≡ a * q → u * p * l ≡ a * (p * q)
under u q p l a e = omega (arith, ap (λ n. n * p) e)

-- fractions a / c and b / c are those of x and y over l
crossed : (x y c l a b : ℕ) → 0 < y → 0 < l → 0 < b → 0 < c → x * l ≡ a * c → y * l ≡ b * c → x % y * l ≡ a % b * c
crossed x y c l a b some more positive wide p q = sym (scaled_mod x y l some more) ∙ (λ i. p i % q i) ∙ scaled_mod a b c positive wide

pub rem_is : (f : Format) (x y : Value) (s t : Bool) (a b : ℕ) → HasValue x s a (2 ^ low f) → HasValue y t b (2 ^ low f) → 0 < b → rem f x y ≡ round f s (a % b) (2 ^ low f)
unfolding rem
rem_is f nan y s t a b h v some = absurd h
rem_is f (inf r) y s t a b h v some = absurd h
rem_is f (fin r m e) nan s t a b h v some = absurd v
rem_is f (fin r m e) (inf o) s t a b h v some = absurd v
rem_is f (fin r m e) (fin o n d) s t a b h v some =
    let l = 2 ^ low f in
    let wide : 0 < down e * down d = mul-pos (down_pos e) (down_pos d) in
    let other : 0 < n = elim (eq-zero-or-pos n) [ inl z ↦ (let much = mul-pos some (down_pos d) in absurd (omega (arith, much, v.1, ap (λ k. k * up d * l) z))) | inr p ↦ p ] in
    let size = crossed (m * up e * down d) (n * up d * down e) (down e * down d) l a b (mul-pos (mul-pos other (up_pos d)) (down_pos e)) (pow_pos (low f)) some wide (over (m * up e) (down d) (down e) l a h.1) (under (n * up d) (down d) (down e) l b v.1) in
    cond-false (eqb n 0) nan _ (ne_eqb n 0 (λ z. absurd (omega (arith, other, z))))
    ∙ ap (λ z. round f z (m * up e * down d % (n * up d * down e)) (down e * down d)) h.0
    ∙ round_same f s _ (down e * down d) (a % b) l wide (pow_pos (low f)) size

-- ---- the bits of an exact size

level : (h q l u : ℕ) → h ≤ q → h * (l * u) ≤ q * u * l
level h q l u e = omega (arith, mul-le-mul_right (u * l) e)

within : (q l u : ℕ) → 0 < l * u → (2 * (q * (l * u)) < 2 * (q * u * l) + l * u) × (2 * (q * u * l) < 2 * (q * (l * u)) + l * u)
within q l u some = (omega (arith, some), omega (arith, some))

exact_bits : (f : Format) (q k : ℕ) → IsSignificand f q k → of_bits f (scaled_bits f q k) ≡ round f false (q * 2 ^ k) (2 ^ low f)
exact_bits f q k is =
    let close = within q (2 ^ low f) (2 ^ k) (mul-pos (pow_pos (low f)) (pow_pos k)) in
    let small = is.fits in
    (nearest_of_near f (q * 2 ^ k) (2 ^ low f) q k (pow_pos (low f)) (omega arith) is.normal (λ more. level (hid f) q (2 ^ low f) (2 ^ k) (is.normal more)) close.0 close.1).0

-- a number is its size with its sign
pub value_again : (x : Float) (r : Fraction) → IsFractionOf x r → round (binary (format_of x)) r.negative (num_of r) (2 ^ low (binary (format_of x))) ≡ value_of x
value_again x r is = signed (binary (format_of x)) (value_of x) r.negative _ _ _ is.signed (exact_bits (binary (format_of x)) r.significand r.exponent is.significand)

-- the bits with the sign's
abbrev raw : Format → Bool → ℕ → ℕ
raw f s b = cond s (top f) 0 + b

raw_parts : (f : Format) (s : Bool) (b : ℕ) → b < top f → (leb (top f) (raw f s b) ≡ s) × (raw f s b % top f ≡ b) × (raw f s b < 2 * top f)
raw_parts binary32 true b h = (le-leb _ _ (omega arith), omega arith, omega arith)
raw_parts binary32 false b h = (lt-leb _ _ (omega arith), omega arith, omega arith)
raw_parts binary64 true b h = (le-leb _ _ (omega arith), omega arith, omega arith)
raw_parts binary64 false b h = (lt-leb _ _ (omega arith), omega arith, omega arith)

bits_again : (f : Format) (s : Bool) (b a c : ℕ) → b ≤ ones f * hid f → b < top f → of_bits f b ≡ round f false a c → to_bits f (round f s a c) ≡ raw f s b
bits_again f s b a c small below e =
    let is = raw_parts f s b below in
    let number : T (not (is_nan (of_bits f (raw f s b)))) =
    subst (λ t. T (not t)) (sym (sym (nan_bits_is f (raw f s b)) ∙ nan_bits_above f (raw f s b) ∙ ap (ltb (ones f * hid f)) is.1 ∙ le-ltb (ones f * hid f) b small)) tt in
    let sign = subst (λ t. IsSignAndSize f (of_bits f (raw f s b)) t (raw f s b % top f)) is.0 (parts f (of_bits f (raw f s b)) (raw f s b) refl is.2 number) in
    let both = subst (IsSignAndSize f (of_bits f (raw f s b)) s) is.1 sign in
    ap (to_bits f) (signed f (of_bits f (raw f s b)) s b a c both e) ∙ to_bits-of_bits f (raw f s b) is.2 number

-- a size of the format's digits with an exponent below those of infinities
pub bound : (f : Format) (q k : ℕ) → q < 2 * hid f → k + 2 ≤ ones f → k * hid f + q < ones f * hid f
bound f q k small h = omega (arith, mul-le-mul_right (hid f) h)

pub below_top : (f : Format) (q k : ℕ) → q < 2 * hid f → k + 2 ≤ ones f → k * hid f + q < top f
below_top f q k small h = let some = (shape f).some in omega (arith, bound f q k small h)

sized : (f : Format) (s : Bool) (q k : ℕ) → IsSignificand f q k → k + 2 ≤ ones f → to_bits f (round f s (q * 2 ^ k) (2 ^ low f)) ≡ raw f s (k * hid f + q)
sized f s q k is h =
    let twice = (shape f).twice in
    let few = is.fits in
    let small : k * hid f + q < ones f * hid f = bound f q k (omega arith) h in
    let same : scaled_bits f q k ≡ k * hid f + q = omega (arith, small) in
    bits_again f s (k * hid f + q) _ _ (omega (arith, small)) (below_top f q k (omega arith) h) (ap (of_bits f) (sym same) ∙ exact_bits f q k is)

pub sized_number : (t : FloatType) (s : Bool) (q k : ℕ) → IsSignificand (binary t) q k → k + 2 ≤ ones (binary t) → with_sign t s (k * hid (binary t) + q) ≡ nearest t s (q * 2 ^ k) (2 ^ low (binary t))
sized_number FloatType.F32 s q k is h = ap F32 (sym (sized binary32 s q k is h))
sized_number FloatType.F64 s q k is h = ap F64 (sym (sized binary64 s q k is h))

-- ---- the exponent of a finite number

finite_of : (v : Value) (s : Bool) (a c : ℕ) → HasValue v s a c → float_is_finite v ≡ true
unfolding float_is_finite
finite_of nan s a c h = absurd h
finite_of (inf t) s a c h = absurd h
finite_of (fin t m e) s a c h = refl

room : (f : Format) (q k : ℕ) → k * hid f + q < ones f * hid f → (0 < k → hid f ≤ q) → k + 2 ≤ ones f
room f q k small normal =
    let field = (shape f).field.0 in
    elim (eq-zero-or-pos k) [
      | inl z ↦ omega (arith, z, field)
      | inr p ↦ elim (eq-zero-or-pos (ones f - (k + 1))) [
        | inl z ↦ (let most : ones f ≤ k + 1 = omega arith in absurd (omega (arith, mul-le-mul_right (hid f) most, small, normal p)))
        | inr more ↦ omega arith
      ]
    ]

pub exponent_below : (x : Float) (r : Fraction) → IsFractionOf x r → r.exponent + 2 ≤ ones (binary (format_of x))
exponent_below x r is =
    let f = binary (format_of x) in
    let below = is.signed.finite.0 (finite_of (value_of x) r.negative _ _ is.value) in
    room f r.significand r.exponent (omega (arith, below)) is.significand.normal

-- ---- by the parts of both

pub none_32 : F32 0x7fc0_0000 ≡ number_of FloatType.F32 nan
unfolding to_bits
none_32 = refl

pub none_64 : F64 0x7ff8_0000_0000_0000 ≡ number_of FloatType.F64 nan
unfolding to_bits
none_64 = refl

module _ (x y : Float) (left right : Fraction) (formats : format_of y ≡ format_of x) (of_x : IsFractionOf x left) (of_y : IsFractionOf y right) where
  abbrev f : Format
  f = binary (format_of x)

  pub none_by_zero : right.significand ≡ 0 → rem f (value_of x) (value_of y) ≡ nan
  none_by_zero e =
      by_zero f (value_of x) (value_of y) left.negative right.negative (num_of left) (den_of left) (2 ^ right.exponent) (den_of right) (pow_pos right.lowest) of_x.value
      (subst (λ q. HasValue (value_of y) right.negative (q * 2 ^ right.exponent) (den_of right)) e of_y.value)

  pub finite_rest : 0 < right.significand → rem f (value_of x) (value_of y) ≡ round f left.negative (num_of left % num_of right) (2 ^ low f)
  finite_rest some =
      rem_is f (value_of x) (value_of y) left.negative right.negative (num_of left) (num_of right) (subst (λ k. HasValue (value_of x) left.negative (num_of left) (2 ^ k)) of_x.lowest of_x.value)
      (subst (λ k. HasValue (value_of y) right.negative (num_of right) (2 ^ k)) (of_y.lowest ∙ ap (λ t. low (binary t)) formats) of_y.value) (mul-pos some (pow_pos right.exponent))

  pub smaller_kept : 0 < right.significand → left.exponent < right.exponent → x ≡ number_of (format_of x) (rem f (value_of x) (value_of y))
  smaller_kept some below =
      let twice = (shape f).twice in
      let few = of_x.significand.fits in
      let large : hid f ≤ right.significand = subst (λ t. hid (binary t) ≤ right.significand) formats (of_y.significand.normal (omega arith)) in
      let same : num_of left % num_of right ≡ num_of left = mod-eq_of_lt (smaller (hid f) left.significand right.significand left.exponent right.exponent (omega (arith, few, twice)) large below) in
      sym (ap (number_of (format_of x)) (finite_rest some ∙ ap (λ n. round f left.negative n (2 ^ low f)) same ∙ value_again x left of_x) ∙ number_is x ∙ of_x.same)
