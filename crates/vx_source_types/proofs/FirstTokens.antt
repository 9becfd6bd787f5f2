-- A token that is spelled at the front is the first token.
use Rattle.std.proofs.Common.{◌≡◌, ℕ, ◌+◌, ◌-◌, ◌≤◌, zero, suc, subst, Bool, true, false, List, [], ◌∷◌, ◌++◌, length, take, drop, get_or, refl, sym, ap, ◌∙◌, append_assoc, cond, arith}
use Rattle.std.specs.Prelude.{◌==◌, ◌&&◌}
use Rattle.std.specs.List.{list_all, prefix_len}
use Rattle.std.specs.Str.{IsUtf8}
use Rattle.std.proofs.lemmas.Bool.Decides.{nat_tests}
use Rattle.vx_source_types.specs.Characters.{is_letter, is_digit, is_word, is_blank}
use Rattle.vx_dtype.specs.Quotes.{doubled, between_quotes}
use Rattle.vx_source_types.specs.Spellings.{is_plain}
use Rattle.vx_source_types.specs.declared.expectation.Expected.TheVariants.{ClosingQuote}
use Rattle.vx_source_types.specs.Tokens.{Lexeme, word, quoted, text, Taken, next, skip, begins_comment, is_hex, word_len, other_taken, token_at, first, quoted_taken, text_taken}
use Rattle.vx_dtype.proofs.Choice.{yes, no}
use Rattle.vx_source_types.proofs.Quoting.{text_of_utf8, quoted_of_utf8}
use Rattle.vx_source_types.proofs.Unquoting.{unquoted_doubled}

-- what begins neither a word nor a number, by how much of the text it takes
pub other_token : (bs : List ℕ) (x : Lexeme) (len : ℕ) → 1 ≤ length bs
    → is_letter (get_or bs 0 0) ≡ false → is_hex (get_or bs 0 0) (drop 1 bs) ≡ false → is_digit (get_or bs 0 0) ≡ false
    → other_taken (get_or bs 0 0) (drop 1 bs) ≡ (x, drop len (drop 1 bs)) → token_at bs ≡ (x, drop (1 + len) bs)
other_token [] x len l p q r h = absurd (omega arith)
other_token (b ∷ rest) x len l p q r h =
    let one_more : 1 + len ≡ suc len = omega arith in
    no (is_letter b) _ _ p ∙ no (is_hex b rest) _ _ q ∙ no (is_digit b) _ _ r ∙ h ∙ ap (λ n. let taken : Taken = (x, drop n (b ∷ rest)) in taken) (sym one_more)

take_none : (n : ℕ) → take {A = ℕ} n [] ≡ []
take_none zero = refl
take_none (suc n) = refl

rest_all : (n : ℕ) (xs : List ℕ) → length xs ≤ n → take n xs ≡ xs
rest_all n [] h = take_none n
rest_all zero (b ∷ xs) h = absurd (omega arith)
rest_all (suc n) (b ∷ xs) h = ap (λ ys. b ∷ ys) (rest_all n xs (omega arith))

behind_one : (bs : List ℕ) → take (length bs - 1) (drop 1 bs) ≡ drop 1 bs
behind_one [] = refl
behind_one (b ∷ bs) = rest_all (length (b ∷ bs) - 1) bs (omega arith)

-- the same where what is behind the first byte is taken to the end
pub other_token_of : (bs : List ℕ) (x : Lexeme) (len : ℕ) → 1 ≤ length bs
    → is_letter (get_or bs 0 0) ≡ false → is_hex (get_or bs 0 0) (take (length bs - 1) (drop 1 bs)) ≡ false → is_digit (get_or bs 0 0) ≡ false
    → other_taken (get_or bs 0 0) (take (length bs - 1) (drop 1 bs)) ≡ (x, drop len (take (length bs - 1) (drop 1 bs))) → token_at bs ≡ (x, drop (1 + len) bs)
other_token_of bs x len l p q r h =
    let all = behind_one bs in
    let b = get_or bs 0 0 in
    other_token bs x len l p (subst (λ z. is_hex b z ≡ false) all q) r (subst (λ (z : List ℕ). other_taken b z ≡ (x, drop len z)) all h)

-- ---- words

letter_no_blank : (b : ℕ) → is_letter b ≡ true → is_blank b ≡ false
letter_no_blank b e = grind (arith, nat_tests)

letter_no_dash : (b : ℕ) → is_letter b ≡ true → (b == 45) ≡ false
letter_no_dash b e = grind (arith, nat_tests)

letter_in_word : (b : ℕ) → is_letter b ≡ true → is_word b ≡ true
letter_in_word b e = grind (arith, nat_tests)

pub no_blank : (b : ℕ) (bs : List ℕ) → is_blank b ≡ false → (b == 45) ≡ false → skip false (b ∷ bs) ≡ b ∷ bs
no_blank b bs p q = no (is_blank b) _ _ p ∙ no (begins_comment b bs) _ _ (no (b == 45) _ _ q)

both_true : (x y : Bool) → (x && y) ≡ true → (x ≡ true) × (y ≡ true)
both_true true y e = (refl, e)
both_true false y e = cc

and_true : (x y : Bool) → x ≡ true → y ≡ true → (x && y) ≡ true
and_true true y p q = q
and_true false y p q = cc

-- the longest front that passes ends with what passes
pub prefix_of_all : (p : ℕ → Bool) (a rest : List ℕ) → list_all p a ≡ true → p (next rest) ≡ false → prefix_len p (a ++ rest) ≡ length a
prefix_of_all p [] [] h e = refl
prefix_of_all p [] (b ∷ rest) h e = rw e refl
prefix_of_all p (b ∷ a) rest h e =
    let parts = both_true (p b) (list_all p a) h in
    let more = prefix_of_all p a rest parts.1 e in
    let here : prefix_len p ((b ∷ a) ++ rest) ≡ 1 + prefix_len p (a ++ rest) = ap (λ t. cond t (1 + prefix_len p (a ++ rest)) 0) parts.0 in
    here ∙ omega (arith, more)

take_front : (a rest : List ℕ) → take (length a) (a ++ rest) ≡ a
take_front [] rest = refl
take_front (b ∷ a) rest = ap (λ xs. b ∷ xs) (take_front a rest)

drop_front : (a rest : List ℕ) → drop (length a) (a ++ rest) ≡ rest
drop_front [] rest = refl
drop_front (b ∷ a) rest = drop_front a rest

word_taken : {a b c d : List ℕ} → a ≡ b → c ≡ d → (let x : Taken = (word a, c) in x) ≡ (let y : Taken = (word b, d) in y)
word_taken p q = cc

pub first_word : (a rest : List ℕ) → is_plain a ≡ true → is_word (next rest) ≡ false → first (a ++ rest) ≡ (word a, rest)
first_word [] rest h e = cc
first_word (b ∷ a) rest h e =
    let parts = both_true (is_letter b) (list_all is_word a) h in
    let xs = a ++ rest in
    let len : word_len (b ∷ xs) ≡ length (b ∷ a) = prefix_of_all is_word (b ∷ a) rest (and_true _ _ (letter_in_word b parts.0) parts.1) e in
    ap token_at (no_blank b xs (letter_no_blank b parts.0) (letter_no_dash b parts.0)) ∙ yes (is_letter b) _ _ parts.0
    ∙ ap (λ n. let taken : Taken = (word (take n (b ∷ xs)), drop n (b ∷ xs)) in taken) len
    ∙ word_taken (take_front (b ∷ a) rest) (drop_front (b ∷ a) rest)

-- ---- names and texts between quotes

pub first_quoted : (a rest : List ℕ) → IsUtf8 a → (next rest == 96) ≡ false → first (between_quotes 96 a ++ rest) ≡ (quoted a, rest)
first_quoted a rest u e =
    let regrouped : between_quotes 96 a ++ rest ≡ 96 ∷ (doubled 96 a ++ 96 ∷ rest) = ap (λ xs. 96 ∷ xs) (append_assoc (doubled 96 a) (96 ∷ []) rest) in
    ap first regrouped ∙ ap quoted_taken (unquoted_doubled 96 a rest e) ∙ ap (λ x. let taken : Taken = (x, rest) in taken) (quoted_of_utf8 a u)

pub first_text : (a rest : List ℕ) → IsUtf8 a → (next rest == 34) ≡ false → first (between_quotes 34 a ++ rest) ≡ (text a, rest)
first_text a rest u e =
    let regrouped : between_quotes 34 a ++ rest ≡ 34 ∷ (doubled 34 a ++ 34 ∷ rest) = ap (λ xs. 34 ∷ xs) (append_assoc (doubled 34 a) (34 ∷ []) rest) in
    ap first regrouped ∙ ap (text_taken ClosingQuote) (unquoted_doubled 34 a rest e) ∙ ap (λ x. let taken : Taken = (x, rest) in taken) (text_of_utf8 ClosingQuote a u)

-- a length that isn't 0
pub not_empty : (n : ℕ) → (n == 0) ≡ false → 1 ≤ n
not_empty n e = grind (arith, nat_tests)
