-- The text of a decimal with a point is read as the number that lies nearest to it.
use Rattle.std.proofs.Common.{◌≡◌, ℕ, zero, suc, ◌+◌, ◌*◌, ◌/◌, ◌%◌, ◌^◌, ◌<◌, Bool, true, false, ◌&&◌, cond, List, [], ◌∷◌, ◌++◌, append-nil, length, length-append, Some, pos, refl, sym, ap, subst, ◌∙◌, arith, true≢false}
use Rattle.std.specs.Prelude.{codes, nat_eq}
use Rattle.std.specs.Char.{digit_value}
use Rattle.std.specs.Float.Numeral.{Parts, IsWellFormed, text_of}
use Rattle.std.specs.Float.Parse.{parse_float}
use Rattle.std.specs.Fmt.{decimal, sign_text}
use Rattle.std.specs.List.{starts_with}
use Rattle.std.specs.Option.{option_and_then}
use Rattle.std.specs.Str.Parse.{AllDigits, digits_value, digits_value_after}
use Rattle.std.proofs.Math.Nat.{div-add-mod, div-le_self}
use Rattle.std.proofs.Math.Bool.{and-false}
use Rattle.std.proofs.lemmas.Bool.{and_from, le-leb, ne_eqb}
use Rattle.std.proofs.lemmas.Float.Parse.{parse_float-text_of}
use Rattle.std.proofs.lemmas.Fmt.{decimal_is_IsNumeral_wide}
use Rattle.std.proofs.lemmas.Str.{digit_value_digit}
use Rattle.std.proofs.lemmas.Str.Parse.{digit_from_value}
use lib.Ieee.{Format, round}
use Rattle.fast_float.proofs.DigitsLemmas.{digits_value-append, is_digit}
use Rattle.vx_literals.specs.Decimals.{decimal_text}
use Rattle.vx_literals.specs.Digits.{digit_of, digits_behind, last_digits}
use Rattle.vx_literals.proofs.DecimalsAgain.{last_long}
use Rattle.vx_literals.proofs.ReadBack.{digits_again}

-- ---- the last digits

last_all : (k n : ℕ) → AllDigits 10 (last_digits k n)
last_all zero n = tt
last_all (suc k) n = let d = n / 10 ^ k % 10 in (omega (arith, (is_digit (48 + d) (omega arith) (omega arith)).1), last_all k n)

valued : (n : ℕ) (bs : List ℕ) → AllDigits 10 bs → digits_behind n bs ≡ Some (digits_value_after 10 n bs)
valued n [] h = refl
valued n (b ∷ bs) h =
    let range = digit_from_value b h.0 in
    let value = digit_value_digit b range in
    let digit : digit_of b ≡ Some (digit_value b) = rw (and_from _ _ (le-leb 48 b range.0) (le-leb b 57 range.1)) (ap Some (omega (arith, value))) in
    ap (option_and_then (λ d. digits_behind (10 * n + d) bs)) digit ∙ ap (λ k. digits_behind k bs) (omega arith) ∙ valued (n * 10 + digit_value b) bs h.1

last_value : (k n : ℕ) → digits_value 10 (last_digits k n) ≡ n % 10 ^ k
last_value k n =
    let both : Some (digits_value 10 (last_digits k n)) ≡ Some (0 * 10 ^ k + n % 10 ^ k) = sym (valued 0 (last_digits k n) (last_all k n)) ∙ digits_again 0 k n in
    let same : digits_value 10 (last_digits k n) ≡ 0 * 10 ^ k + n % 10 ^ k = cc in
    omega (arith, same)

-- ---- the parts of the text

abbrev parts : ℕ → ℕ → Parts
parts n k =
    record { whole = decimal (n / 10 ^ k); point = true; fraction = last_digits k n; exponent_negative = false; exponent = []; len = length (decimal (n / 10 ^ k) ++ ((46 ∷ last_digits k n) ++ [])) }

text_is : (n k : ℕ) → 0 < k → decimal_text (pos n) k ≡ text_of (parts n k)
text_is n k some =
    ap (λ t. decimal (n / 10 ^ k) ++ cond t [] (46 ∷ last_digits k n)) (ne_eqb k 0 (λ e. absurd (omega arith)))
    ∙ ap (λ bs. decimal (n / 10 ^ k) ++ bs) (sym (append-nil (46 ∷ last_digits k n)))

-- the whole digits
whole_digits : (n k : ℕ) → n < 10 ^ 38 → (0 < length (decimal (n / 10 ^ k))) × AllDigits 10 (decimal (n / 10 ^ k)) × (digits_value 10 (decimal (n / 10 ^ k)) ≡ n / 10 ^ k)
whole_digits n k few = let numeral = decimal_is_IsNumeral_wide (n / 10 ^ k) (omega (arith, div-le_self n (10 ^ k))) in (numeral.0.0, numeral.0.1, numeral.1)

well_formed : (n k : ℕ) → n < 10 ^ 38 → IsWellFormed (parts n k)
well_formed n k few =
    record { whole_digits = (whole_digits n k few).1; fraction_digits = last_all k n; exponent_digits = tt; no_point = λ e. absurd (true≢false e); no_exponent = λ _. refl; len_is = refl }

number_is : (n k : ℕ) → n < 10 ^ 38 → digits_value 10 (decimal (n / 10 ^ k) ++ last_digits k n) * 10 ^ 0 ≡ n
number_is n k few =
    let long = ap (λ l. digits_value 10 (decimal (n / 10 ^ k)) * 10 ^ l) (last_long k n) in
    let front = ap (λ w. w * 10 ^ k) (whole_digits n k few).2 in
    omega (arith, digits_value-append (decimal (n / 10 ^ k)) (last_digits k n), long, front, last_value k n, div-add-mod n (10 ^ k))

-- the text of a decimal of at most 38 digits is read as the number nearest to it
pub decimal_read_as : (f : Format) (s : Bool) (n k : ℕ) → n < 10 ^ 38 → 0 < k → parse_float f (sign_text s ++ decimal_text (pos n) k) ≡ Some (round f s n (10 ^ k))
decimal_read_as f s n k few some =
    let places : length (last_digits k n) + 0 ≡ k = omega (arith, last_long k n) in
    ap (λ bs. parse_float f (sign_text s ++ bs)) (text_is n k some)
    ∙ parse_float-text_of f s (parts n k) (well_formed n k few) (whole_digits n k few).0
    ∙ (λ i. Some (round f s (number_is n k few i) (10 ^ places i)))

-- ---- no letter is in it

-- bytes before the letters
abbrev pub AreLow : List ℕ → Type 0
AreLow [] = Unit {0}
AreLow (b ∷ bs) = (b < 58) × AreLow bs

low_append : (xs ys : List ℕ) → AreLow xs → AreLow ys → AreLow (xs ++ ys)
low_append [] ys h l = l
low_append (x ∷ xs) ys h l = (h.0, low_append xs ys h.1 l)

low_digits : (ds : List ℕ) → AllDigits 10 ds → AreLow ds
low_digits [] h = tt
low_digits (d ∷ ds) h = let range = digit_from_value d h.0 in (omega arith, low_digits ds h.1)

low_sign : (s : Bool) → AreLow (sign_text s)
low_sign true = (omega arith, tt)
low_sign false = tt

pub low_text : (s : Bool) (n k : ℕ) → n < 10 ^ 38 → 0 < k → AreLow (sign_text s ++ decimal_text (pos n) k)
low_text s n k few some =
    subst (λ bs. AreLow (sign_text s ++ bs)) (sym (text_is n k some ∙ ap (λ bs. decimal (n / 10 ^ k) ++ bs) (append-nil (46 ∷ last_digits k n))))
    (low_append (sign_text s) _ (low_sign s) (low_append (decimal (n / 10 ^ k)) (46 ∷ last_digits k n) (low_digits _ (whole_digits n k few).1) (omega arith, low_digits _ (last_all k n))))

pub no_mark : (bs : List ℕ) → AreLow bs → starts_with nat_eq bs (codes "0x") ≡ false
no_mark [] h = refl
no_mark (b ∷ []) h = and-false (nat_eq 48 b)
no_mark (b ∷ c ∷ bs) h = let other : nat_eq 120 c ≡ false = ne_eqb 120 c (λ e. absurd (omega (arith, h.1.0))) in ap (λ t. nat_eq 48 b && (t && true)) other ∙ and-false (nat_eq 48 b)

pub some_text : (s : Bool) (n k : ℕ) → n < 10 ^ 38 → 0 < k → 0 < length (sign_text s ++ decimal_text (pos n) k)
some_text s n k few some =
    let whole = (whole_digits n k few).0 in
    omega (arith, length-append (sign_text s) (decimal_text (pos n) k), ap length (text_is n k some), length-append (decimal (n / 10 ^ k)) ((46 ∷ last_digits k n) ++ []))
