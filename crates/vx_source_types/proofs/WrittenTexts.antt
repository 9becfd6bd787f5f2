-- The texts of decimals, days and instants have no quotes, and are ASCII.
use Rattle.std.proofs.Common.{◌≡◌, ℕ, zero, suc, ◌+◌, ◌<◌, ◌≤◌, ◌^◌, Bool, true, false, List, [], ◌∷◌, ◌++◌, Option, Some, None, codes, refl, sym, ap, ◌∙◌, arith}
use Rattle.std.specs.Prelude.{ℤ, pos, negsuc, unsigned_abs, IsSome, ◌==◌, ◌/◌, ◌%◌, if◌then◌else◌}
use Rattle.std.specs.Fmt.{decimal}
use Rattle.std.specs.Int.{int_div_euclid, int_rem_euclid}
use Rattle.std.specs.List.{All}
use Rattle.std.specs.Str.{IsUtf8}
use Rattle.std.specs.Str.Parse.{AllDigits}
use Rattle.std.proofs.Math.Nat.{pow-le-pow_right, div-le_self}
use Rattle.std.proofs.lemmas.Bool.{ltb-true}
use Rattle.std.proofs.lemmas.Bool.Decides.{nat_tests}
use Rattle.std.proofs.lemmas.Fmt.{decimal_is_IsNumeral_wide}
use Rattle.std.proofs.lemmas.List.Elements.{All-cons}
use Rattle.std.proofs.lemmas.Str.{IsUtf8-from_ascii}
use Rattle.std.proofs.lemmas.Str.Ascii.{IsAscii-from_all}
use Rattle.std.proofs.lemmas.Str.Parse.{digit_from_value}
use Rattle.vx_dtype.specs.declared.timestamp_type.TimeUnit.{TimeUnit}
use Rattle.vx_dtype.specs.Quotes.{between_quotes, doubled}
use Rattle.vx_dtype.specs.Types.{Name}
use Rattle.vx_dtype.proofs.Choice.{no}
use Rattle.vx_literals.specs.Days.{Civil, civil_at, civil_text, day_or_number, day_text}
use Rattle.vx_literals.specs.Decimals.{decimal_text, point_text, sign_text}
use Rattle.vx_literals.specs.Digits.{last_digits}
use Rattle.vx_literals.specs.Instants.{instant_or_number, instant_text, moment_text, part_text, time_text, units_a_day, units_a_second, unit_places, zone_mark}
use Rattle.vx_value.specs.Fits.{fits_digits}

-- a number of at most so many digits has at most 38
pub few_digits : (i : ℤ) (p : ℕ) → p ≤ 38 → fits_digits i p ≡ true → unsigned_abs i < 10 ^ 38
few_digits i p h f = let small = ltb-true (unsigned_abs i) (10 ^ p) f in let more = pow-le-pow_right {n = 10} (omega arith) {i = p} {j = 38} h in omega arith

-- ---- texts of signs and digits, and letters

-- each byte is a minus, or one that comes behind it in ASCII
abbrev pub Plain : List ℕ → Type 0
Plain [] = Unit {0}
Plain (b ∷ bs) = (45 ≤ b) × (b < 128) × Plain bs

pub plain_behind : (xs ys : List ℕ) → Plain xs → Plain ys → Plain (xs ++ ys)
plain_behind [] ys h k = k
plain_behind (x ∷ xs) ys h k = (h.0, h.1, plain_behind xs ys h.2 k)

small : (xs : List ℕ) → Plain xs → All (λ b. b < 128) xs
small [] h = λ k d l. absurd (omega arith)
small (x ∷ xs) h = All-cons (λ b. b < 128) x xs h.1 (small xs h.2)

pub plain_utf8 : (xs : List ℕ) → Plain xs → IsUtf8 xs
plain_utf8 xs h = IsUtf8-from_ascii xs (IsAscii-from_all xs (small xs h))

no_quote : (b : ℕ) → 45 ≤ b → (b == 34) ≡ false
no_quote b h = grind (arith, nat_tests)

plain_doubled : (xs : List ℕ) → Plain xs → doubled 34 xs ≡ xs
plain_doubled [] h = refl
plain_doubled (x ∷ xs) h = no (x == 34) (34 ∷ 34 ∷ doubled 34 xs) (x ∷ doubled 34 xs) (no_quote x h.0) ∙ ap (λ ys. x ∷ ys) (plain_doubled xs h.2)

pub in_quotes : (xs : List ℕ) → Plain xs → 34 ∷ (xs ++ 34 ∷ []) ≡ between_quotes 34 xs
in_quotes xs h = ap (λ ys. 34 ∷ (ys ++ 34 ∷ [])) (sym (plain_doubled xs h))

digits_plain : (ds : List ℕ) → AllDigits 10 ds → Plain ds
digits_plain [] h = tt
digits_plain (d ∷ ds) h = let range = digit_from_value d h.0 in (omega arith, omega arith, digits_plain ds h.1)

digit_small : (n : ℕ) → 48 + n % 10 < 128
digit_small n = omega arith

last_plain : (k n : ℕ) → Plain (last_digits k n)
last_plain zero n = tt
last_plain (suc k) n = (omega arith, digit_small (n / 10 ^ k), last_plain k n)

-- ---- decimals

sign_plain : (i : ℤ) → Plain (sign_text i)
sign_plain (pos n) = tt
sign_plain (negsuc n) = (omega arith, omega arith, tt)

-- digits behind a point, or none
pointed : (b : Bool) (k n : ℕ) → Plain (if b then [] else codes "." ++ last_digits k n)
pointed true k n = tt
pointed false k n = (omega arith, omega arith, last_plain k n)

pub decimal_plain : (i : ℤ) (s : ℕ) → unsigned_abs i < 10 ^ 38 → Plain (decimal_text i s)
decimal_plain i s h =
    let whole = unsigned_abs i / 10 ^ s in
    let more = pow-le-pow_right {n = 10} (omega arith) {i = 38} {j = 64} (omega arith) in
    let numeral = (decimal_is_IsNumeral_wide whole (omega (arith, div-le_self (unsigned_abs i) (10 ^ s)))).0 in
    plain_behind (sign_text i) (decimal whole ++ point_text s (unsigned_abs i)) (sign_plain i)
    (plain_behind (decimal whole) (point_text s (unsigned_abs i)) (digits_plain (decimal whole) numeral.1) (pointed (s == 0) s (unsigned_abs i)))

-- ---- days

civil_plain : (c : Civil) → Plain (civil_text c)
civil_plain c =
    let days : List ℕ = 45 ∷ last_digits 2 c.day in
    plain_behind (last_digits 4 c.year) (45 ∷ (last_digits 2 c.month ++ days)) (last_plain 4 c.year)
    (omega arith, omega arith, plain_behind (last_digits 2 c.month) days (last_plain 2 c.month) (omega arith, omega arith, last_plain 2 c.day))

pub day_plain : (i : ℤ) → IsSome (civil_at i) → Plain (day_text i)
day_plain i = go (civil_at i) where
  go : (o : Option Civil) → IsSome o → Plain (day_or_number i o)
  go (Some c) h = civil_plain c
  go None h = cc

-- ---- instants

zone_plain : (z : Option Name) → Plain (zone_mark z)
zone_plain None = tt
zone_plain (Some a) = (omega arith, omega arith, tt)

time_plain : (u : TimeUnit) (k : ℕ) → Plain (time_text u k)
time_plain u k =
    let s = k / units_a_second u in
    let seconds : List ℕ = 58 ∷ (last_digits 2 (s % 60) ++ part_text u k) in
    let minutes : List ℕ = 58 ∷ (last_digits 2 (s / 60 % 60) ++ seconds) in
    plain_behind (last_digits 2 (s / 3600)) minutes (last_plain 2 (s / 3600)) (
      omega arith,
      omega arith,
      plain_behind (last_digits 2 (s / 60 % 60)) seconds (last_plain 2 (s / 60 % 60))
          (omega arith, omega arith, plain_behind (last_digits 2 (s % 60)) (part_text u k) (last_plain 2 (s % 60)) (pointed (k % units_a_second u == 0) (unit_places u) k)),
    )

moment_plain : (u : TimeUnit) (z : Option Name) (k : ℕ) (c : Civil) → Plain (moment_text u z k c)
moment_plain u z k c =
    plain_behind (civil_text c) (84 ∷ (time_text u k ++ zone_mark z)) (civil_plain c) (omega arith, omega arith, plain_behind (time_text u k) (zone_mark z) (time_plain u k) (zone_plain z))

pub instant_plain : (u : TimeUnit) (z : Option Name) (i : ℤ) → IsSome (civil_at (int_div_euclid i (pos (units_a_day u)))) → Plain (instant_text u z i)
instant_plain u z i = go (civil_at (int_div_euclid i (pos (units_a_day u)))) where
  go : (o : Option Civil) → IsSome o → Plain (instant_or_number u z i o)
  go (Some c) h = moment_plain u z (unsigned_abs (int_rem_euclid i (pos (units_a_day u)))) c
  go None h = cc
