-- A number that is spelled at the front is the first token.
use Rattle.std.proofs.Common.{◌≡◌, ℕ, ◌+◌, ◌-◌, ◌*◌, ◌/◌, ◌%◌, ◌^◌, ◌<◌, ◌≤◌, Bool, true, false, List, [], ◌∷◌, ◌++◌, Option, Some, length, take, drop, refl, ap, ◌∙◌, arith}
use Rattle.std.specs.Prelude.{◌==◌, ◌||◌, ◌&&◌, nat_lt}
use Rattle.std.specs.Fmt.{decimal}
use Rattle.std.specs.List.{list_all}
use Rattle.std.proofs.Math.Seq.{take-append_seam, drop-append_seam}
use Rattle.std.proofs.lemmas.Bool.{cond-false, cond-true, and_parts, and_from}
use Rattle.std.proofs.lemmas.Bool.Decides.{nat_tests}
use Rattle.std.proofs.lemmas.Fmt.{decimal_by_steps}
use Rattle.vx_source_types.specs.Characters.{is_letter, is_digit, is_word, is_blank}
use Rattle.vx_source_types.specs.Tokens.{number, Taken, next, begins_comment, is_hex, word_len, magnitude, more_digits, more_or_same, narrow, digits_go_on, digits_len, is_e, has_point, point_len, exponent_len, sign_len, power_len, fraction_len, whole_lexeme, number_of, number_behind, number_taken, token_at, first}
use Rattle.vx_dtype.proofs.Choice.{yes, no}
use Rattle.vx_source_types.proofs.FirstTokens.{no_blank, prefix_of_all}

-- ---- the digits of a number

magnitude_more : (o : Option ℕ) (ds : List ℕ) (d : ℕ) → magnitude o (ds ++ d ∷ []) ≡ more_or_same (magnitude o ds) d
magnitude_more o [] d = refl
magnitude_more o (c ∷ ds) d = magnitude_more (more_or_same o c) ds d

all_more : (p : ℕ → Bool) (ds : List ℕ) (d : ℕ) → list_all p ds ≡ true → p d ≡ true → list_all p (ds ++ d ∷ []) ≡ true
all_more p [] d h e = and_from (p d) true e refl
all_more p (c ∷ ds) d h e = let parts = and_parts (p c) (list_all p ds) h in and_from (p c) _ parts.0 (all_more p ds d parts.1 e)

narrow_is : (n : ℕ) → n < 2 ^ 64 → narrow n ≡ Some n
narrow_is n h = let below : nat_lt n (2 ^ 64) ≡ true = grind (arith, nat_tests) in yes (nat_lt n (2 ^ 64)) (Some n) _ below

no_underscore : (d : ℕ) → d < 10 → (48 + d == 95) ≡ false
no_underscore d h = grind (arith, nat_tests)

digit_adds : (n d : ℕ) → d < 10 → n * 10 + d < 2 ^ 64 → more_or_same (Some n) (48 + d) ≡ Some (n * 10 + d)
digit_adds n d few h =
    let e : (48 + d) - 48 ≡ d = omega arith in no (48 + d == 95) (Some n) (more_digits (Some n) (48 + d)) (no_underscore d few) ∙ ap (λ k. narrow (n * 10 + k)) e ∙ narrow_is (n * 10 + d) h

digit_is : (d : ℕ) → d < 10 → is_digit (48 + d) ≡ true
digit_is d h = grind (arith, nat_tests)

-- the digits spell the number
abbrev Spells : ℕ → List ℕ → Type 0
Spells n ds = n < 2 ^ 64 → (magnitude (Some 0) ds ≡ Some n) × (list_all is_digit ds ≡ true) × (0 < length ds)

one_digit : (n : ℕ) → n < 10 → Spells n ((48 + n) ∷ [])
one_digit n h = λ small.
    let none : 0 * 10 + n ≡ n = omega arith in
    (digit_adds 0 n h (omega arith) ∙ ap Some none, and_from _ true (digit_is n h) refl, omega arith)

next_digit : (n : ℕ) (ds : List ℕ) → 10 ≤ n → Spells (n / 10) ds → Spells n (ds ++ ((48 + n % 10) ∷ []))
next_digit n ds h so_far = λ small.
    let before = so_far (omega arith) in
    let whole : n / 10 * 10 + n % 10 ≡ n = omega arith in
    let few : n % 10 < 10 = omega arith in
    (magnitude_more (Some 0) ds (48 + n % 10) ∙ ap (λ o. more_or_same o (48 + n % 10)) before.0 ∙ digit_adds (n / 10) (n % 10) few (omega arith) ∙ ap Some whole, all_more is_digit ds (48 + n % 10) before.1 (digit_is (n % 10) few), more_long ds (48 + n % 10))
  where
    more_long : (xs : List ℕ) (d : ℕ) → 0 < length (xs ++ d ∷ [])
    more_long [] d = omega arith
    more_long (x ∷ xs) d = omega arith

pub spelled : (n : ℕ) → n < 2 ^ 64 → (magnitude (Some 0) (decimal n) ≡ Some n) × (list_all is_digit (decimal n) ≡ true) × (0 < length (decimal n))
spelled n h = decimal_by_steps Spells one_digit next_digit n h h

-- whether digits may go on with the byte, or an exponent begin
abbrev pub is_more : ℕ → Bool
is_more b = is_digit b || (b == 95 || is_e b)

digit_goes_on : (d : ℕ) (bs : List ℕ) → is_digit d ≡ true → digits_go_on d bs ≡ true
digit_goes_on d bs e = or_first (is_digit d) _ e where
  or_first : (x y : Bool) → x ≡ true → (x || y) ≡ true
  or_first true y e = refl
  or_first false y e = cc

other_ends : (b : ℕ) (bs : List ℕ) → is_more b ≡ false → digits_go_on b bs ≡ false
other_ends b bs e = neither (is_digit b) (b == 95) (is_e b) (is_digit (next bs)) e where
  neither : (x y w z : Bool) → (x || (y || w)) ≡ false → (x || (y && z)) ≡ false
  neither true y w z e = cc
  neither false true w z e = cc
  neither false false w z e = refl

no_e : (b : ℕ) → is_more b ≡ false → is_e b ≡ false
no_e b e = neither (is_digit b) (b == 95) (is_e b) e where
  neither : (x y w : Bool) → (x || (y || w)) ≡ false → w ≡ false
  neither true y w e = cc
  neither false true w e = cc
  neither false false w e = e

no_exponent : (bs : List ℕ) → is_more (next bs) ≡ false → exponent_len bs ≡ 0
no_exponent [] e = refl
no_exponent (b ∷ bs) e = cond-false (is_e b) (power_len (sign_len bs) bs) 0 (no_e b e)

-- a whole number ends there: neither digits nor a point go on, and no exponent begins
abbrev pub IsApart : List ℕ → Type 0
IsApart bs = (is_more (next bs) ≡ false) × (has_point bs ≡ false)

no_fraction : (bs : List ℕ) → IsApart bs → fraction_len bs ≡ 0
no_fraction bs e =
    let none : point_len bs ≡ 0 = cond-false (has_point bs) (1 + digits_len (drop 1 bs)) 0 e.1 in
    let behind : exponent_len (drop (point_len bs) bs) ≡ 0 = ap (λ k. exponent_len (drop k bs)) none ∙ no_exponent bs e.0 in
    omega arith

-- the digits end with the last of them
digits_of_all : (ds rest : List ℕ) → list_all is_digit ds ≡ true → is_more (next rest) ≡ false → digits_len (ds ++ rest) ≡ length ds
digits_of_all [] [] h e = refl
digits_of_all [] (b ∷ rest) h e = no (digits_go_on b rest) _ _ (other_ends b rest e)
digits_of_all (d ∷ ds) rest h e =
    let parts = and_parts (is_digit d) (list_all is_digit ds) h in
    let more = digits_of_all ds rest parts.1 e in
    let here = yes (digits_go_on d (ds ++ rest)) (1 + digits_len (ds ++ rest)) 0 (digit_goes_on d (ds ++ rest) parts.0) in
    here ∙ omega (arith, more)

-- ---- a number, and the word behind it

taken_number : (negative : Bool) (ds w rest : List ℕ) (n : ℕ) → list_all is_digit ds ≡ true → magnitude (Some 0) ds ≡ Some n
    → IsApart (w ++ rest) → list_all is_word w ≡ true → is_word (next rest) ≡ false
    → number_taken negative (ds ++ (w ++ rest)) ≡ (number negative (Some n) w, rest)
taken_number negative ds w rest n h m e k f =
    let bs = ds ++ (w ++ rest) in
    let digits = digits_of_all ds (w ++ rest) h e.0 in
    let front = take-append_seam ds (w ++ rest) in
    let behind = drop-append_seam ds (w ++ rest) in
    let long = prefix_of_all is_word w rest k f in
    let of_word : (word_len (w ++ rest) ≡ length w) = long in
    let of_front = take-append_seam w rest in
    let of_rest = drop-append_seam w rest in
    ap (λ len. number_behind negative len bs) digits ∙ cond-true (fraction_len (drop (length ds) bs) == 0) (number_of negative (length ds) bs) _ (ap (λ xs. fraction_len xs == 0) behind ∙ ap (λ k. k == 0) (no_fraction (w ++ rest) e))
    ∙ ap (λ xs. after (magnitude (Some 0) (take (length ds) bs)) (take (length ds) bs) xs) behind
    ∙ ap (λ xs. after (magnitude (Some 0) xs) xs (w ++ rest)) front ∙ ap (λ o. after o ds (w ++ rest)) m
    ∙ ap (λ len. cut (Some n) len (w ++ rest)) of_word ∙ ap (λ xs. made ds (Some n) xs (drop (length w) (w ++ rest))) of_front ∙ ap (λ xs. made ds (Some n) w xs) of_rest
  where
    made : List ℕ → Option ℕ → List ℕ → List ℕ → Taken
    made bytes o xs ys = (whole_lexeme negative bytes o xs, ys)

    cut : Option ℕ → ℕ → List ℕ → Taken
    cut o len xs = made ds o (take len xs) (drop len xs)

    after : Option ℕ → List ℕ → List ℕ → Taken
    after o bytes xs = made bytes o (take (word_len xs) xs) (drop (word_len xs) xs)

not_hex : (c : ℕ) (bs : List ℕ) → (next bs == 120) ≡ false → is_hex c bs ≡ false
not_hex c bs e = go (c == 48) refl where
  go : (b : Bool) → (c == 48) ≡ b → is_hex c bs ≡ false
  go true h = yes (c == 48) _ _ h ∙ e
  go false h = no (c == 48) _ _ h

digit_no_blank : (b : ℕ) → is_digit b ≡ true → is_blank b ≡ false
digit_no_blank b e = grind (arith, nat_tests)

digit_no_dash : (b : ℕ) → is_digit b ≡ true → (b == 45) ≡ false
digit_no_dash b e = grind (arith, nat_tests)

digit_no_letter : (b : ℕ) → is_digit b ≡ true → is_letter b ≡ false
digit_no_letter b e = grind (arith, nat_tests)

digit_no_x : (b : ℕ) → is_digit b ≡ true → (b == 120) ≡ false
digit_no_x b e = grind (arith, nat_tests)

next_no_x : (ds xs : List ℕ) → list_all is_digit ds ≡ true → (next xs == 120) ≡ false → (next (ds ++ xs) == 120) ≡ false
next_no_x [] xs h e = e
next_no_x (d ∷ ds) xs h e = digit_no_x d (and_parts (is_digit d) _ h).0

first_digits : (ds w rest : List ℕ) (n : ℕ) → list_all is_digit ds ≡ true → magnitude (Some 0) ds ≡ Some n → 0 < length ds
    → IsApart (w ++ rest) → (next (w ++ rest) == 120) ≡ false → list_all is_word w ≡ true → is_word (next rest) ≡ false
    → first (ds ++ (w ++ rest)) ≡ (number false (Some n) w, rest)
first_digits [] w rest n h m l e x k f = absurd (omega arith)
first_digits (d ∷ ds) w rest n h m l e x k f =
    let parts = and_parts (is_digit d) (list_all is_digit ds) h in
    let xs = ds ++ (w ++ rest) in
    ap token_at (no_blank d xs (digit_no_blank d parts.0) (digit_no_dash d parts.0)) ∙ no (is_letter d) _ _ (digit_no_letter d parts.0)
    ∙ no (is_hex d xs) _ _ (not_hex d xs (next_no_x ds (w ++ rest) parts.1 x)) ∙ yes (is_digit d) _ _ parts.0 ∙ taken_number false (d ∷ ds) w rest n h m e k f

pub first_number : (n : ℕ) (w rest : List ℕ) → n < 2 ^ 64 → IsApart (w ++ rest) → (next (w ++ rest) == 120) ≡ false → list_all is_word w ≡ true → is_word (next rest) ≡ false
    → first (decimal n ++ (w ++ rest)) ≡ (number false (Some n) w, rest)
first_number n w rest small e x k f = let s = spelled n small in first_digits (decimal n) w rest n s.1 s.0 s.2 e x k f

below_zero : (ds w rest : List ℕ) (n : ℕ) → list_all is_digit ds ≡ true → magnitude (Some 0) ds ≡ Some n → 0 < length ds
    → IsApart (w ++ rest) → list_all is_word w ≡ true → is_word (next rest) ≡ false
    → first (45 ∷ (ds ++ (w ++ rest))) ≡ (number true (Some n) w, rest)
below_zero [] w rest n h m l e k f = absurd (omega arith)
below_zero (d ∷ ds) w rest n h m l e k f =
    let digit = (and_parts (is_digit d) (list_all is_digit ds) h).0 in
    let xs = (d ∷ ds) ++ (w ++ rest) in
    ap token_at (no (begins_comment 45 xs) _ _ (digit_no_dash d digit)) ∙ yes (is_digit d) _ _ digit ∙ taken_number true (d ∷ ds) w rest n h m e k f

pub first_below_zero : (n : ℕ) (w rest : List ℕ) → n < 2 ^ 64 → IsApart (w ++ rest) → list_all is_word w ≡ true → is_word (next rest) ≡ false
    → first (45 ∷ (decimal n ++ (w ++ rest))) ≡ (number true (Some n) w, rest)
first_below_zero n w rest small e k f = let s = spelled n small in below_zero (decimal n) w rest n s.1 s.0 s.2 e k f
