-- The text of a number that is no day and no instant of the calendar is a number of JSON.
use Rattle.std.proofs.Common.{◌≡◌, ℕ, ℤ, pos, negsuc, zero, suc, ◌+◌, ◌/◌, ◌%◌, ◌^◌, ◌<◌, ◌≤◌, Bool, true, false, cond, ◌==◌, List, [], ◌∷◌, ◌++◌, append-nil, length, drop, get_or, Option, Some, None, refl, subst, sym, ap, ◌∙◌, arith}
use Rattle.std.specs.Prelude.{codes, is_some, unsigned_abs, if◌then◌else◌}
use Rattle.std.specs.Char.{is_ascii_digit}
use Rattle.std.specs.Fmt.{decimal, signed_decimal}
use Rattle.std.specs.Int.{int_div_euclid}
use Rattle.std.specs.List.{prefix_len}
use Rattle.std.specs.Option.{option_and_then}
use Rattle.std.specs.Str.Parse.{AllDigits}
use Rattle.std.proofs.Math.ListN.{get_or-append}
use Rattle.std.proofs.Math.Nat.{div-le_self}
use Rattle.std.proofs.lemmas.Bool.{and_from, eqb-true, le-leb, ne_eqb}
use Rattle.std.proofs.lemmas.Fmt.{decimal_by_steps_wide, decimal_digit, decimal_is_IsNumeral_wide}
use Rattle.std.proofs.lemmas.List.{drop_at, length-append}
use Rattle.std.proofs.lemmas.Str.{digit_value_digit}
use Rattle.std.proofs.lemmas.Str.Parse.{digit_from_value}
use Rattle.json.specs.Print.{IsNumber}
use Rattle.json.specs.Word.{head, after_digits, after_exponent, after_fraction, after_number, after_whole}
use Rattle.vx_dtype.specs.declared.timestamp_type.TimeUnit.{TimeUnit}
use Rattle.vx_literals.specs.Days.{Civil, civil_at, day_or_number}
use Rattle.vx_literals.specs.Decimals.{decimal_text, point_text}
use Rattle.vx_literals.specs.Digits.{last_digits}
use Rattle.vx_literals.specs.Instants.{instant_or_number, units_a_day}
use Rattle.vx_literals.proofs.DecimalsAgain.{last_long}
use Rattle.vx_value.specs.Types.{Name, LogicalType, ty, atomic, decimals, date, timestamp}
use Rattle.vx_data.specs.Numbers.{is_dated, number_text}

-- so many digits are in front of what is none
counted : (ds rest : List ℕ) → AllDigits 10 ds → prefix_len is_ascii_digit rest ≡ 0 → prefix_len is_ascii_digit (ds ++ rest) ≡ length ds
counted [] rest h none = none
counted (d ∷ ds) rest h none =
    let range = digit_from_value d h.0 in
    ap (λ b. cond b (1 + prefix_len is_ascii_digit (ds ++ rest)) 0) (and_from _ _ (le-leb 48 d range.0) (le-leb d 57 range.1)) ∙ omega (arith, counted ds rest h.1 none)

digits_passed : (ds rest : List ℕ) → AllDigits 10 ds → 0 < length ds → prefix_len is_ascii_digit rest ≡ 0 → after_digits (ds ++ rest) ≡ Some rest
digits_passed ds rest h some none =
    ap (λ n. cond (n == 0) None (Some (drop n (ds ++ rest)))) (counted ds rest h none)
    ∙ ap (λ b. cond b None (Some (drop (length ds) (ds ++ rest)))) (ne_eqb (length ds) 0 (λ e. omega arith)) ∙ ap Some (drop_at ds rest _ refl)

-- ---- the whole digits

-- the first digit of a number above zero is no zero
first_digit : (n : ℕ) → 0 < n → n < 10 ^ 64 → 48 < get_or (decimal n) 0 0
first_digit n some small = (decimal_by_steps_wide (λ m ds. (0 < length ds) × (0 < m → 48 < get_or ds 0 0)) (λ m l. (omega arith, λ a. omega arith))
    (λ m ds l h. (omega (arith, length-append ds ((48 + m % 10) ∷ [])), λ a. omega (arith, get_or-append ds ((48 + m % 10) ∷ []) 0 0 h.0, h.1 (omega arith)))) n small).1 some

-- what follows the digits is left of them, and they begin with no minus
abbrev IsLeft : List ℕ → List ℕ → Type 0
IsLeft rest t = (after_whole t ≡ Some rest) × ((head t == 45) ≡ false)

some_passed : (ds rest : List ℕ) → AllDigits 10 ds → 48 < get_or ds 0 0 → prefix_len is_ascii_digit rest ≡ 0 → IsLeft rest (ds ++ rest)
some_passed [] rest h first none = absurd (omega arith)
some_passed (d ∷ ds) rest h first none = (
  ap (λ b. cond b (Some (ds ++ rest)) (after_digits (d ∷ (ds ++ rest)))) (ne_eqb d 48 (λ e. omega arith)) ∙ digits_passed (d ∷ ds) rest h (omega arith) none,
  ne_eqb d 45 (λ e. omega arith),
)

whole_passed : (n : ℕ) (rest : List ℕ) → n < 10 ^ 64 → prefix_len is_ascii_digit rest ≡ 0 → IsLeft rest (decimal n ++ rest)
whole_passed zero rest h none = let e = decimal_digit 0 (omega arith) in (ap (λ ds. after_whole (ds ++ rest)) e, ap (λ ds. head (ds ++ rest) == 45) e)
whole_passed (suc n) rest h none = some_passed (decimal (suc n)) rest (decimal_is_IsNumeral_wide (suc n) h).0.1 (first_digit (suc n) (omega arith) h) none

-- ---- the digits behind the point

last_are_digits : (k n : ℕ) → AllDigits 10 (last_digits k n)
last_are_digits zero n = tt
last_are_digits (suc k) n = let d = n / 10 ^ k % 10 in (omega (arith, digit_value_digit (48 + d) (omega arith, omega arith)), last_are_digits k n)

point_passed : (b : Bool) (k n : ℕ) → (k == 0) ≡ b → let t = if b then [] else codes "." ++ last_digits k n in (after_fraction t ≡ Some []) × (prefix_len is_ascii_digit t ≡ 0)
point_passed true k n e = (refl, refl)
point_passed false zero n e = cc
point_passed false (suc k) n e =
    let ds = last_digits (suc k) n in
    (ap after_digits (sym (append-nil ds)) ∙ digits_passed ds [] (last_are_digits (suc k) n) (omega (arith, last_long (suc k) n)) refl, refl)

-- ---- decimals

pub unsigned_passed : (m s : ℕ) → m < 10 ^ 64 → let t = decimal (m / 10 ^ s) ++ point_text s m in
    (option_and_then after_exponent (option_and_then after_fraction (after_whole t)) ≡ Some []) × ((head t == 45) ≡ false)
unsigned_passed m s h =
    let point = point_passed (s == 0) s m refl in
    let whole = whole_passed (m / 10 ^ s) (point_text s m) (omega (arith, div-le_self m (10 ^ s))) point.1 in
    (ap (λ o. option_and_then after_exponent (option_and_then after_fraction o)) whole.0 ∙ ap (option_and_then after_exponent) point.0, whole.1)

pub decimal_is_number : (i : ℤ) (s : ℕ) → unsigned_abs i < 10 ^ 64 → IsNumber (decimal_text i s)
unfolding after_number
decimal_is_number (negsuc n) s h = (unsigned_passed (suc n) s h).0
decimal_is_number (pos n) s h =
    let t = decimal (n / 10 ^ s) ++ point_text s n in
    let passed = unsigned_passed n s h in
    ap (λ b. option_and_then after_exponent (option_and_then after_fraction (after_whole (cond b (drop 1 t) t)))) passed.1 ∙ passed.0

-- ---- digits alone

digits_passed_alone : (n : ℕ) → n < 10 ^ 64 → IsLeft [] (decimal n)
digits_passed_alone n h = subst (IsLeft []) (append-nil (decimal n)) (whole_passed n [] h refl)

digits_are_number : (i : ℤ) → unsigned_abs i < 10 ^ 64 → IsNumber (signed_decimal i)
unfolding after_number
digits_are_number (negsuc n) h = ap (λ o. option_and_then after_exponent (option_and_then after_fraction o)) (digits_passed_alone (suc n) h).0
digits_are_number (pos n) h =
    let passed = digits_passed_alone n h in
    ap (λ b. option_and_then after_exponent (option_and_then after_fraction (after_whole (cond b (drop 1 (decimal n)) (decimal n))))) passed.1
    ∙ ap (λ o. option_and_then after_exponent (option_and_then after_fraction o)) passed.0

-- ---- numbers of types

day_beyond : (i : ℤ) (o : Option Civil) → unsigned_abs i < 10 ^ 64 → is_some o ≡ false → IsNumber (day_or_number i o)
day_beyond i None h e = digits_are_number i h
day_beyond i (Some c) h e = cc

instant_beyond : (u : TimeUnit) (z : Option Name) (i : ℤ) (o : Option Civil) → unsigned_abs i < 10 ^ 64 → is_some o ≡ false → IsNumber (instant_or_number u z i o)
instant_beyond u z i None h e = digits_are_number i h
instant_beyond u z i (Some c) h e = cc

pub undated_is_number : (i : ℤ) (t : LogicalType) → unsigned_abs i < 10 ^ 64 → is_dated i t ≡ false → IsNumber (number_text i t)
undated_is_number i (ty (atomic (decimals p s)) n) h e = decimal_is_number i s h
undated_is_number i (ty (atomic date) n) h e = day_beyond i (civil_at i) h e
undated_is_number i (ty (atomic (timestamp u z)) n) h e = instant_beyond u z i (civil_at (int_div_euclid i (pos (units_a_day u)))) h e
undated_is_number i _ h e = digits_are_number i h
