-- The text of a decimal is read as that decimal.
use Rattle.std.proofs.Common.{◌≡◌, ℕ, zero, suc, ◌+◌, ◌-◌, ◌*◌, ◌/◌, ◌%◌, ◌^◌, ◌<◌, ◌≤◌, List, [], ◌∷◌, ◌++◌, append-nil, length, Bool, true, false, cond, ℤ, pos, negsuc, neg_ℤ, Some, None, refl, sym, ap, subst, ◌∙◌, arith}
use Rattle.std.specs.Prelude.{take, drop, get_or, nat_le, not, ◌==◌, ◌&&◌, option_map, unsigned_abs, Option, codes}
use Rattle.std.specs.Char.{digit_value}
use Rattle.std.specs.Fmt.{decimal}
use Rattle.std.specs.List.{list_all, prefix_len}
use Rattle.std.specs.Option.{option_and_then}
use Rattle.std.specs.Str.Parse.{AllDigits, digits_value, digits_value_after}
use Rattle.std.proofs.Math.Nat.{div-add-mod, div-le_self, div-lt_iff_lt-mul, one-le-pow, pow-le-pow_right}
use Rattle.std.proofs.Math.ListN.{get_or-append}
use Rattle.std.proofs.Math.Seq.{drop-append-add, get_or-append_seam, take-append_seam}
use Rattle.std.proofs.lemmas.Nat.{pow-add}
use Rattle.std.proofs.lemmas.List.{drop_all, length-append, length-drop, take_all}
use Rattle.std.proofs.lemmas.Str.{digit_value_digit}
use Rattle.std.proofs.lemmas.Str.Parse.{digit_at, digit_from_value}
use Rattle.std.proofs.lemmas.Fmt.{decimal_digit, decimal_is_IsNumeral_wide, length-decimal-le_wide}
use Rattle.std.proofs.lemmas.Bool.{le-leb, and_from}
use Rattle.std.proofs.lemmas.Bool.Decides.{nat_tests}
use Rattle.jiff_core.proofs.SignedLemmas.{signed_arith}
use Rattle.vx_literals.specs.Digits.{digit_of, digits_behind, digits_in_front, is_digit, is_within, last_digits}
use Rattle.vx_literals.specs.Decimals.{decimal_read, decimal_text, point_text, sign_text, significant, size_at, size_read, units_of}
use Rattle.vx_literals.proofs.ReadBack.{digits_again}

-- ---- digits

is_digit_of : (b : ℕ) → digit_value b < 10 → is_digit b ≡ true
is_digit_of b h = let range = digit_from_value b h in and_from _ _ (le-leb 48 b range.0) (le-leb b 57 range.1)

-- digits have the value that they have everywhere
valued : (n : ℕ) (bs : List ℕ) → AllDigits 10 bs → digits_behind n bs ≡ Some (digits_value_after 10 n bs)
valued n [] h = refl
valued n (b ∷ bs) h =
    let value = digit_value_digit b (digit_from_value b h.0) in
    let digit : digit_of b ≡ Some (digit_value b) = rw (is_digit_of b h.0) (ap Some (omega (arith, value))) in
    ap (option_and_then (λ d. digits_behind (10 * n + d) bs)) digit ∙ ap (λ k. digits_behind k bs) (omega arith) ∙ valued (n * 10 + digit_value b) bs h.1

-- so many digits are in front of what is none
digits_counted : (bs rest : List ℕ) → AllDigits 10 bs → is_digit (get_or rest 0 0) ≡ false → digits_in_front (bs ++ rest) ≡ length bs
digits_counted [] [] h e = refl
digits_counted [] (c ∷ rest) h e = rw e refl
digits_counted (b ∷ bs) rest h e = rw (is_digit_of b h.0) (omega (arith, digits_counted bs rest h.1 e))

-- zeros in front count for nothing
only_zero : (b : ℕ) → is_within 48 48 b ≡ true → b ≡ 48
only_zero b e = grind (arith, nat_tests)

zeros_dropped : (bs : List ℕ) → digits_behind 0 (significant bs) ≡ digits_behind 0 bs
zeros_dropped [] = refl
zeros_dropped (b ∷ bs) = go (zeros_dropped bs) (is_within 48 48 b) refl
  where
    go : digits_behind 0 (significant bs) ≡ digits_behind 0 bs → (t : Bool) → is_within 48 48 b ≡ t → digits_behind 0 (drop (cond t (1 + prefix_len (is_within 48 48) bs) 0) (b ∷ bs)) ≡ digits_behind 0 (b ∷ bs)
    go so true e =
        let one_more : 1 + prefix_len (is_within 48 48) bs ≡ suc (prefix_len (is_within 48 48) bs) = omega arith in
        ap (λ k. digits_behind 0 (drop k (b ∷ bs))) one_more ∙ so ∙ sym (ap (option_and_then (λ d. digits_behind (10 * 0 + d) bs)) (ap digit_of (only_zero b e)))
    go so false e = refl

shorter : (bs : List ℕ) → length (significant bs) ≤ length bs
shorter bs = omega (arith, length-drop (prefix_len (is_within 48 48) bs) bs)

-- ---- the whole digits of a number

whole_again : (n : ℕ) → n < 10 ^ 38 → digits_behind 0 (significant (decimal n)) ≡ Some n
whole_again n h =
    let numeral = decimal_is_IsNumeral_wide n (omega arith) in
    zeros_dropped (decimal n) ∙ valued 0 (decimal n) numeral.0.1 ∙ ap Some numeral.1

whole_short : (n k : ℕ) → n < 10 ^ k → k ≤ 38 → length (significant (decimal n)) ≤ k
whole_short n zero h l =
    let none : n ≡ 0 = omega arith in
    let empty : length (significant (decimal n)) ≡ 0 = ap (λ m. length (significant (decimal m))) none ∙ ap (λ bs. length (significant bs)) (decimal_digit 0 (omega arith)) in
    omega (arith, empty)
whole_short n (suc k) h l =
    let wide = pow-le-pow_right {n = 10} (omega arith) {i = suc k} {j = 38} l in
    omega (arith, shorter (decimal n), length-decimal-le_wide (suc k) n (omega arith) h (omega (arith, wide)))

-- ---- the units

pub last_long : (k n : ℕ) → length (last_digits k n) ≡ k
last_long zero n = refl
last_long (suc k) n = ap suc (last_long k n)

units_again : (n scale : ℕ) → n < 10 ^ 38 → scale ≤ 38 → units_of scale (decimal (n / 10 ^ scale)) (last_digits scale n) ≡ Some n
units_again n scale h l =
    let w = n / 10 ^ scale in
    let behind : List ℕ = last_digits scale n in
    let long = last_long scale n in
    let exponent : 38 ≡ 38 - scale + scale = omega arith in
    let split : 10 ^ 38 ≡ 10 ^ (38 - scale) * 10 ^ scale = ap (λ k. 10 ^ k) exponent ∙ pow-add 10 (38 - scale) scale in
    let small : w < 10 ^ (38 - scale) = (div-lt_iff_lt-mul {k = 10 ^ scale} {x = n} {y = 10 ^ (38 - scale)} (omega (arith, one-le-pow scale 10 (omega arith)))).1 (omega (arith, split)) in
    let short = whole_short w (38 - scale) small (omega arith) in
    let fewer : w < 10 ^ 38 = omega (arith, div-le_self n (10 ^ scale)) in
    let whole : Option ℕ = digits_behind 0 (significant (decimal w)) in
    let first : nat_le (length (significant (decimal w)) + scale) 38 ≡ true = le-leb _ _ (omega arith) in
    let second : list_all (λ b. b == 48) (drop scale behind) ≡ true = ap (list_all (λ b. b == 48)) (drop_all scale behind (omega (arith, long))) in
    let units : Option ℕ = option_map (λ m. m * 10 ^ (scale - length behind)) (option_and_then (λ m. digits_behind m (take scale behind)) whole) in
    let no_more : scale - length behind ≡ 0 = omega (arith, long) in
    let whole_number : (w * 10 ^ scale + n % 10 ^ scale) * 10 ^ 0 ≡ n = grind (arith, div-add-mod n (10 ^ scale)) in
    let made : units ≡ Some n =
    ap (λ o. option_map (λ m. m * 10 ^ (scale - length behind)) (option_and_then (λ m. digits_behind m (take scale behind)) o)) (whole_again w fewer)
    ∙ ap (λ bs. option_map (λ m. m * 10 ^ (scale - length behind)) (digits_behind w bs)) (take_all scale behind (omega (arith, long)))
    ∙ ap (option_map (λ m. m * 10 ^ (scale - length behind))) (digits_again w scale n)
    ∙ ap (λ k. Some ((w * 10 ^ scale + n % 10 ^ scale) * 10 ^ k)) no_more
    ∙ ap Some whole_number in
    ap (λ b. cond b units None) (and_from _ _ first second) ∙ made

-- digits before and behind a point
parted : (whole behind : List ℕ) (scale : ℕ) → AllDigits 10 whole → 0 < length whole → 0 < length behind → size_read scale (whole ++ 46 ∷ behind) ≡ units_of scale whole behind
parted whole behind scale digits some more =
    let bs : List ℕ = whole ++ 46 ∷ behind in
    let k = length whole in
    let counted = digits_counted whole (46 ∷ behind) digits refl in
    let long : length bs ≡ k + suc (length behind) = length-append whole (46 ∷ behind) in
    let none : (k == 0) ≡ false = grind (arith, nat_tests) in
    let not_all : (k == length bs) ≡ false = grind (arith, nat_tests, long) in
    let not_last : (k + 1 == length bs) ≡ false = grind (arith, nat_tests, long) in
    let point : get_or bs k 0 ≡ 46 = get_or-append_seam whole 46 behind 0 in
    let rest : drop (k + 1) bs ≡ behind = drop-append-add whole (46 ∷ behind) 1 in
    let apart : Option ℕ = units_of scale (take k bs) (drop (k + 1) bs) in
    ap (size_at scale bs) counted
    ∙ ap (λ t. cond t None (cond (k == length bs) (units_of scale bs []) (cond ((get_or bs k 0 == 46) && not (k + 1 == length bs)) apart None))) none
    ∙ ap (λ t. cond t (units_of scale bs []) (cond ((get_or bs k 0 == 46) && not (k + 1 == length bs)) apart None)) not_all
    ∙ ap (λ b. cond ((b == 46) && not (k + 1 == length bs)) apart None) point
    ∙ ap (λ t. cond (not t) apart None) not_last
    ∙ ap (λ w. units_of scale w (drop (k + 1) bs)) (take-append_seam whole (46 ∷ behind))
    ∙ ap (units_of scale whole) rest

alone : (whole : List ℕ) (scale : ℕ) → AllDigits 10 whole → 0 < length whole → size_read scale whole ≡ units_of scale whole []
alone whole scale digits some =
    let k = length whole in
    let counted : digits_in_front whole ≡ k = ap digits_in_front (sym (append-nil whole)) ∙ digits_counted whole [] digits refl in
    let none : (k == 0) ≡ false = grind (arith, nat_tests) in
    let all : (k == k) ≡ true = grind (arith, nat_tests) in
    let behind : Option ℕ = cond ((get_or whole k 0 == 46) && not (k + 1 == k)) (units_of scale (take k whole) (drop (k + 1) whole)) None in
    ap (size_at scale whole) counted ∙ ap (λ t. cond t None (cond (k == k) (units_of scale whole []) behind)) none ∙ ap (λ t. cond t (units_of scale whole []) behind) all

size_again : (n scale : ℕ) → n < 10 ^ 38 → scale ≤ 38 → size_read scale (decimal (n / 10 ^ scale) ++ point_text scale n) ≡ Some n
size_again n zero h l =
    let numeral = (decimal_is_IsNumeral_wide (n / 10 ^ 0) (omega arith)).0 in
    ap (size_read 0) (append-nil (decimal (n / 10 ^ 0))) ∙ alone (decimal (n / 10 ^ 0)) 0 numeral.1 numeral.0 ∙ units_again n 0 h l
size_again n (suc s) h l =
    let numeral = (decimal_is_IsNumeral_wide (n / 10 ^ suc s) (omega (arith, div-le_self n (10 ^ suc s)))).0 in
    let test : (suc s == 0) ≡ false = grind (arith, nat_tests) in
    ap (λ t. size_read (suc s) (decimal (n / 10 ^ suc s) ++ cond t [] (46 ∷ last_digits (suc s) n))) test
    ∙ parted (decimal (n / 10 ^ suc s)) (last_digits (suc s) n) (suc s) numeral.1 numeral.0 (omega (arith, last_long (suc s) n)) ∙ units_again n (suc s) h l

pub decimal_again : (i : ℤ) (scale : ℕ) → unsigned_abs i < 10 ^ 38 → scale ≤ 38 → decimal_read scale (decimal_text i scale) ≡ Some i
decimal_again (negsuc n) scale h l = ap (option_map (λ n. neg_ℤ (pos n))) (size_again (suc n) scale h l) ∙ ap Some (omega (arith, signed_arith))
decimal_again (pos n) scale h l =
    let whole = decimal (n / 10 ^ scale) in
    let bs : List ℕ = whole ++ point_text scale n in
    let numeral = (decimal_is_IsNumeral_wide (n / 10 ^ scale) (omega (arith, div-le_self n (10 ^ scale)))).0 in
    let first = get_or-append whole (point_text scale n) 0 0 numeral.0 in
    let digit = digit_at whole 0 numeral.1 numeral.0 in
    let test : (get_or bs 0 0 == 45) ≡ false = grind (arith, nat_tests, first, digit) in
    ap (λ t. cond t (option_map (λ n. neg_ℤ (pos n)) (size_read scale (drop 1 bs))) (option_map pos (size_read scale bs))) test ∙ ap (option_map pos) (size_again n scale h l)
