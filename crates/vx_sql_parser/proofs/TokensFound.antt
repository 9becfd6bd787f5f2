-- The tokens of a text, one after another.
use Rattle.std.proofs.Common.{◌≡◌, ◌+◌, ◌-◌, ◌<◌, ◌≤◌, ℕ, zero, suc, add-one, List, [], ◌∷◌, ◌++◌, length, get_or, drop, drop-cons, Option, Some, None, refl, sym, ap, ◌∙◌, append_assoc, arith}
use Rattle.vx_sql.specs.declared.dialect.Dialect.{Dialect}
use Rattle.vx_sql_parser.specs.declared.lexed.Lexed.{Lexed}
use Rattle.vx_sql_parser.specs.SqlTokens.{SqlLexeme, Taken, taken_at, put_token, sql_tokens}
use Rattle.vx_sql_parser.specs.Views.{lexeme_in, lexemes_of}

drop_nil : (n : ℕ) → drop {A = ℕ} n [] ≡ []
drop_nil zero = refl
drop_nil (suc n) = refl

-- what belongs to a token is passed over
pub passed_over : (d : Dialect) (n : ℕ) (bs : List ℕ) → sql_tokens d n bs ≡ sql_tokens d 0 (drop n bs)
passed_over d n [] = ap (sql_tokens d 0) (sym (drop_nil n))
passed_over d zero (b ∷ bs) = refl
passed_over d (suc n) (b ∷ bs) = passed_over d n bs

drop_more : (n m : ℕ) (bs : List ℕ) → drop n (drop m bs) ≡ drop (m + n) bs
drop_more n m [] = ap (drop n) (drop_nil m) ∙ drop_nil n ∙ sym (drop_nil (m + n))
drop_more n zero (b ∷ bs) = ap (λ k. drop k (b ∷ bs)) (let e : n ≡ 0 + n = omega arith in e)
drop_more n (suc m) (b ∷ bs) = drop_more n m bs ∙ ap (λ k. drop k (b ∷ bs)) (let e : suc (m + n) ≡ suc m + n = omega arith in e)

pub drop_more_one : (n b : ℕ) (bs : List ℕ) → drop (1 + n) (b ∷ bs) ≡ drop n bs
drop_more_one n b bs = ap (λ k. drop k (b ∷ bs)) (let e : 1 + n ≡ suc n = omega arith in e)

at_place : (bs : List ℕ) (i : ℕ) → i < length bs → drop i bs ≡ get_or bs i 0 ∷ drop (i + 1) bs
at_place bs i h = rw add-one (drop-cons bs i 0 h)

left_len : (i : ℕ) (bs : List ℕ) → i ≤ length bs → i + length (drop i bs) ≡ length bs
left_len zero bs h = omega arith
left_len (suc i) [] h = absurd (omega arith)
left_len (suc i) (b ∷ bs) h = let less = left_len i bs (omega arith) in omega (arith, less)

-- what is at a place, and what is behind it
goes_on : (d : Dialect) (bs : List ℕ) (i k : ℕ) (x : Option SqlLexeme) → i < length bs → 0 < k → i + k ≤ length bs → taken_at d (drop i bs) ≡ (let t : Taken = (x, drop k (drop i bs)) in t)
    → sql_tokens d 0 (drop i bs) ≡ put_token x (sql_tokens d 0 (drop (i + k) bs))
goes_on d bs i k x l p w e =
    let b = get_or bs i 0 in
    let rest = drop (i + 1) bs in
    let is = at_place bs i l in
    let left : drop k (drop i bs) ≡ drop (i + k) bs = drop_more k i bs in
    let taken : taken_at d (b ∷ rest) ≡ (let t : Taken = (x, drop (i + k) bs) in t) = ap (taken_at d) (sym is) ∙ e ∙ ap (λ r. let t : Taken = (x, r) in t) left in
    let one = left_len (i + 1) bs (omega arith) in
    let all = left_len (i + k) bs w in
    let passes : length rest - length (drop (i + k) bs) ≡ k - 1 = omega (arith, one, all) in
    let place : (i + 1) + (k - 1) ≡ i + k = omega arith in
    let behind : sql_tokens d (k - 1) rest ≡ sql_tokens d 0 (drop (i + k) bs) = passed_over d (k - 1) rest ∙ ap (sql_tokens d 0) (drop_more (k - 1) (i + 1) bs ∙ ap (λ n. drop n bs) place) in
    ap (sql_tokens d 0) is ∙ ap (λ t. put_token t.0 (sql_tokens d (length rest - length t.1) rest)) taken ∙ ap (λ n. put_token x (sql_tokens d n rest)) passes ∙ ap (put_token x) behind

pub token_more : (d : Dialect) (bs : List ℕ) (i k : ℕ) (x : SqlLexeme) (before all : List SqlLexeme) → i < length bs → 0 < k → i + k ≤ length bs → taken_at d (drop i bs) ≡ (let t : Taken = (Some x, drop k (drop i bs)) in t)
    → before ++ sql_tokens d 0 (drop i bs) ≡ all → (before ++ x ∷ []) ++ sql_tokens d 0 (drop (i + k) bs) ≡ all
token_more d bs i k x before all l p w e h = append_assoc before (x ∷ []) _ ∙ ap (λ xs. before ++ xs) (sym (goes_on d bs i k (Some x) l p w e)) ∙ h

pub none_more : (d : Dialect) (bs : List ℕ) (i k : ℕ) (before all : List SqlLexeme) → i < length bs → 0 < k → i + k ≤ length bs → taken_at d (drop i bs) ≡ (let t : Taken = (None, drop k (drop i bs)) in t)
    → before ++ sql_tokens d 0 (drop i bs) ≡ all → before ++ sql_tokens d 0 (drop (i + k) bs) ≡ all
none_more d bs i k before all l p w e h = ap (λ xs. before ++ xs) (sym (goes_on d bs i k None l p w e)) ∙ h

-- ---- those that the program found

pub lexemes_more : (xs : List Lexed) (x : Lexed) → lexemes_of (xs ++ x ∷ []) ≡ lexemes_of xs ++ lexeme_in x ∷ []
lexemes_more [] x = refl
lexemes_more (y ∷ xs) x = ap (λ ys. lexeme_in y ∷ ys) (lexemes_more xs x)

pub tokens_at : (xs : List Lexed) (i : ℕ) (x : Lexed) → i < length xs → lexemes_of (drop i xs) ≡ lexeme_in (get_or xs i x) ∷ lexemes_of (drop (i + 1) xs)
tokens_at xs i x h = let e : drop i xs ≡ get_or xs i x ∷ drop (i + 1) xs = rw add-one (drop-cons xs i x h) in ap lexemes_of e
