-- What stands between quotes, where it is UTF-8 and where it isn't.
use Rattle.std.proofs.Common.{◌≡◌, ◌+◌, ◌<◌, length, get_or, drop, drop-cons, add-one, not, arith, Bool, true, false, List, [], ◌∷◌, ◌++◌, Option, Some, None, ℕ, refl, sym, ap, ◌∙◌, append_assoc}
use Rattle.std.specs.Prelude.{◌==◌}
use Rattle.std.proofs.lemmas.Bool.Decides.{nat_tests}
use Rattle.std.specs.Str.{IsUtf8, is_utf8}
use Rattle.std.proofs.lemmas.Str.{IsUtf8-from_is_utf8, is_utf8-from_IsUtf8}
use Rattle.vx_dtype.proofs.Choice.{yes, no}
use Rattle.vx_source_types.specs.declared.expectation.Expected.{Expected}
use Rattle.vx_source_types.specs.declared.expectation.Expected.TheVariants.{ClosingBackquote}
use Rattle.vx_source_types.specs.Tokens.{text, quoted, invalid, text_lexeme, quoted_lexeme, unquoted, with_byte, after_bytes}

-- what a text that isn't UTF-8 is by the test
not_utf8 : (b : Bool) (bs : List ℕ) → is_utf8 bs ≡ b → ¬ (IsUtf8 bs) → b ≡ false
not_utf8 true bs e h = absurd (h (IsUtf8-from_is_utf8 bs e))
not_utf8 false bs e h = refl

pub text_of_utf8 : (wanted : Expected) (bs : List ℕ) → IsUtf8 bs → text_lexeme wanted bs ≡ text bs
text_of_utf8 wanted bs h = yes (is_utf8 bs) _ _ (is_utf8-from_IsUtf8 bs h)

pub text_of_others : (wanted : Expected) (bs : List ℕ) → ¬ (IsUtf8 bs) → text_lexeme wanted bs ≡ invalid wanted
text_of_others wanted bs h = no (is_utf8 bs) _ _ (not_utf8 (is_utf8 bs) bs refl h)

pub quoted_of_utf8 : (bs : List ℕ) → IsUtf8 bs → quoted_lexeme bs ≡ quoted bs
quoted_of_utf8 bs h = yes (is_utf8 bs) _ _ (is_utf8-from_IsUtf8 bs h)

pub quoted_of_others : (bs : List ℕ) → ¬ (IsUtf8 bs) → quoted_lexeme bs ≡ invalid ClosingBackquote
quoted_of_others bs h = no (is_utf8 bs) _ _ (not_utf8 (is_utf8 bs) bs refl h)

-- ---- one byte of what stands between quotes

-- bytes in front of a text that has some in front
after_with : (made : List ℕ) (b : ℕ) (o : Option (List ℕ × List ℕ)) → after_bytes made (with_byte b o) ≡ after_bytes (made ++ b ∷ []) o
after_with made b None = refl
after_with made b (Some (xs, rest)) = ap (λ m. Some (m, rest)) (sym (append_assoc made (b ∷ []) xs))

at_place : (bs : List ℕ) (i : ℕ) → i < length bs → drop i bs ≡ get_or bs i 0 ∷ drop (i + 1) bs
at_place bs i h = rw add-one (drop-cons bs i 0 h)

is_itself : (b q : ℕ) → b ≡ q → (b == q) ≡ true
is_itself b q e = grind (arith, nat_tests)

isnt : (b q : ℕ) → ¬ (b ≡ q) → (b == q) ≡ false
isnt b q e = grind (arith, nat_tests)

seen_text : (q b : ℕ) (rest : List ℕ) → (b == q) ≡ true → unquoted q true (b ∷ rest) ≡ with_byte q (unquoted q false rest)
seen_text q b rest e = yes (b == q) _ _ e

first_text : (q b : ℕ) (rest : List ℕ) → (b == q) ≡ true → unquoted q false (b ∷ rest) ≡ unquoted q true rest
first_text q b rest e = yes (b == q) _ _ e

other_text : (q b : ℕ) (rest : List ℕ) → (b == q) ≡ false → unquoted q false (b ∷ rest) ≡ with_byte b (unquoted q false rest)
other_text q b rest e = no (b == q) _ _ e

pub quote_in_text : (q : ℕ) (bs : List ℕ) (i : ℕ) (made more : List ℕ) (seen after : Bool) (all : Option (List ℕ × List ℕ))
    → i < length bs → get_or bs i 0 ≡ q → seen ≡ true → after ≡ not seen → more ≡ made ++ get_or bs i 0 ∷ []
    → after_bytes made (unquoted q seen (drop i bs)) ≡ all → after_bytes more (unquoted q after (drop (i + 1) bs)) ≡ all
quote_in_text q bs i made more seen after all l p s a m h =
    let b = get_or bs i 0 in
    let rest = drop (i + 1) bs in
    let here : unquoted q true (drop i bs) ≡ with_byte q (unquoted q false rest) = ap (unquoted q true) (at_place bs i l) ∙ seen_text q b rest (is_itself b q p) in
    let joined = after_with made q (unquoted q false rest) in
    let turned : not true ≡ false = refl in cc

pub quote_seen : (q : ℕ) (bs : List ℕ) (i : ℕ) (made more : List ℕ) (seen after : Bool) (all : Option (List ℕ × List ℕ))
    → i < length bs → get_or bs i 0 ≡ q → seen ≡ false → after ≡ not seen → more ≡ made
    → after_bytes made (unquoted q seen (drop i bs)) ≡ all → after_bytes more (unquoted q after (drop (i + 1) bs)) ≡ all
quote_seen q bs i made more seen after all l p s a m h =
    let here = ap (unquoted q false) (at_place bs i l) ∙ first_text q (get_or bs i 0) (drop (i + 1) bs) (is_itself _ q p) in cc

pub byte_in_text : (q : ℕ) (bs : List ℕ) (i : ℕ) (made more : List ℕ) (seen after : Bool) (all : Option (List ℕ × List ℕ))
    → i < length bs → ¬ (get_or bs i 0 ≡ q) → seen ≡ false → after ≡ seen → more ≡ made ++ get_or bs i 0 ∷ []
    → after_bytes made (unquoted q seen (drop i bs)) ≡ all → after_bytes more (unquoted q after (drop (i + 1) bs)) ≡ all
byte_in_text q bs i made more seen after all l p s a m h =
    let b = get_or bs i 0 in
    let rest = drop (i + 1) bs in
    let here : unquoted q false (drop i bs) ≡ with_byte b (unquoted q false rest) = ap (unquoted q false) (at_place bs i l) ∙ other_text q b rest (isnt b q p) in
    let joined = after_with made b (unquoted q false rest) in cc
