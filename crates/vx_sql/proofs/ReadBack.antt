-- What stands between quotes is read back, and so are patterns.
use Rattle.std.proofs.Common.{◌≡◌, ℕ, Bool, true, false, List, [], ◌∷◌, ◌++◌, Some, None, codes, chars, refl, sym, ap, ◌∙◌, append_assoc, arith}
use Rattle.std.specs.Prelude.{◌==◌, ◌||◌, ◌&&◌, encode_utf8_all}
use Rattle.std.specs.List.{flat_map}
use Rattle.std.proofs.Math.Utf8.{scalars}
use Rattle.std.proofs.lemmas.Bool.{cond-true, cond-false, eq-eqb}
use Rattle.std.proofs.lemmas.Bool.Decides.{nat_tests}
use Rattle.std.proofs.lemmas.Str.{chars-encodes, encodes-append, scalars-chars}
use Rattle.std.proofs.Math.Seq.{drop-append_seam}
use Rattle.vx_dtype.specs.Quotes.{doubled}
use Rattle.vx_source_types.specs.Tokens.{next, unquoted, with_byte}
use Rattle.vx_dtype.proofs.Choice.{no}
use Rattle.vx_source_types.proofs.Unquoting.{unquoted_doubled}
use Rattle.vx_fn.specs.Values.{Part, any_text, any_one, just}
use Rattle.vx_sql.specs.declared.dialect.Dialect.{Dialect}
use Rattle.vx_sql.specs.declared.dialect.Dialect.TheVariants.{Postgres, Sqlite, DuckDb, Spark, ClickHouse}
use Rattle.vx_sql.specs.declared.quotes.Quoting.{Quoting}
use Rattle.vx_sql.specs.declared.quotes.Quoting.TheVariants.{Doubled, Escaped, Backslashed}
use Rattle.vx_sql.specs.Laws.{NamesReadBack, CharactersReadBack, TextsReadBack, like_read, like_escaped, PatternsReadBack}
use Rattle.vx_sql.specs.Patterns.{like_escape, is_like_sign, like_char, like_part}
use Rattle.vx_sql.specs.Quotes.{name_quote, plain_name, quoting_of, quote_inside, backslash_inside, inside, opening, anywhere, text_read}

same_is : (b q : ℕ) → (b == q) ≡ true → b ≡ q
same_is b q e = grind (arith, nat_tests)

-- ---- names

pub names_read : NamesReadBack
names_read d a rest plain e =
    ap (plain_name d) (ap (unquoted (name_quote d) false) (append_assoc (doubled (name_quote d) a) (name_quote d ∷ []) rest) ∙ unquoted_doubled (name_quote d) a rest e)
    ∙ ap (λ b. elim b [ true ↦ None | false ↦ Some (a, rest) ]) plain

-- ---- characters

quote_read : (q : Quoting) (xs : List ℕ) → text_read q anywhere (quote_inside q ++ xs) ≡ with_byte 39 (text_read q anywhere xs)
quote_read Doubled xs = refl
quote_read Escaped xs = refl
quote_read Backslashed xs = refl

backslash_read : (q : Quoting) (xs : List ℕ) → text_read q anywhere (backslash_inside q ++ xs) ≡ with_byte 92 (text_read q anywhere xs)
backslash_read Doubled xs = refl
backslash_read Escaped xs = refl
backslash_read Backslashed xs = refl

other_read : (q : Quoting) (c : ℕ) (xs : List ℕ) → (c == 39) ≡ false → (c == 92) ≡ false → text_read q anywhere (c ∷ xs) ≡ with_byte c (text_read q anywhere xs)
other_read q c xs e h = no (c == 39) _ _ e ∙ no (c == 92) _ _ h

inside-quote : (q : Quoting) (c : ℕ) → (c == 39) ≡ true → inside q c ≡ quote_inside q
inside-quote q c e = cond-true (c == 39) _ _ e

inside-backslash : (q : Quoting) (c : ℕ) → (c == 39) ≡ false → (c == 92) ≡ true → inside q c ≡ backslash_inside q
inside-backslash q c e h = cond-false (c == 39) _ _ e ∙ cond-true (c == 92) _ _ h

inside-other : (q : Quoting) (c : ℕ) → (c == 39) ≡ false → (c == 92) ≡ false → inside q c ≡ c ∷ []
inside-other q c e h = cond-false (c == 39) _ _ e ∙ cond-false (c == 92) _ _ h

one_read : (q : Quoting) (c : ℕ) (xs : List ℕ) → text_read q anywhere (inside q c ++ xs) ≡ with_byte c (text_read q anywhere xs)
one_read q c xs = by (c == 39) (c == 92) refl refl where
  by : (s t : Bool) → (c == 39) ≡ s → (c == 92) ≡ t → text_read q anywhere (inside q c ++ xs) ≡ with_byte c (text_read q anywhere xs)
  by true t e h =
      ap (λ ys. text_read q anywhere (ys ++ xs)) (inside-quote q c e) ∙ quote_read q xs ∙ ap (λ b. with_byte b (text_read q anywhere xs)) (sym (same_is c 39 e))
  by false true e h =
      ap (λ ys. text_read q anywhere (ys ++ xs)) (inside-backslash q c e h) ∙ backslash_read q xs ∙ ap (λ b. with_byte b (text_read q anywhere xs)) (sym (same_is c 92 h))
  by false false e h = ap (λ ys. text_read q anywhere (ys ++ xs)) (inside-other q c e h) ∙ other_read q c xs e h

closes : (q : Quoting) (rest : List ℕ) → (next rest == 39) ≡ false → text_read q anywhere (39 ∷ rest) ≡ Some ([], rest)
closes Doubled [] e = refl
closes Doubled (b ∷ bs) e = no (b == 39) _ _ e
closes Escaped [] e = refl
closes Escaped (b ∷ bs) e = no (b == 39) _ _ e
closes Backslashed rest e = refl

pub characters_read : CharactersReadBack
characters_read q [] rest e = closes q rest e
characters_read q (c ∷ cs) rest e =
    ap (text_read q anywhere) (append_assoc (inside q c) (flat_map (inside q) cs) (39 ∷ rest)) ∙ one_read q c (flat_map (inside q) cs ++ 39 ∷ rest) ∙ ap (with_byte c) (characters_read q cs rest e)

-- ---- whole texts

two : (x y : Bool) → (x && y) ≡ true → (x ≡ true) × (y ≡ true)
two true y e = (refl, e)
two false y e = cc

-- what stands for a character inside a text are characters
inside-scalars : (q : Quoting) (c : ℕ) (cs : List ℕ) → scalars (c ∷ []) ≡ true → scalars cs ≡ true → scalars (inside q c ++ cs) ≡ true
inside-scalars q c cs s k = by (c == 39) (c == 92) refl refl where
  quote : (r : Quoting) → scalars (quote_inside r ++ cs) ≡ true
  quote Doubled = k
  quote Escaped = k
  quote Backslashed = k

  backslash : (r : Quoting) → scalars (backslash_inside r ++ cs) ≡ true
  backslash Doubled = k
  backslash Escaped = k
  backslash Backslashed = k

  by : (t u : Bool) → (c == 39) ≡ t → (c == 92) ≡ u → scalars (inside q c ++ cs) ≡ true
  by true u e h = ap (λ ys. scalars (ys ++ cs)) (inside-quote q c e) ∙ quote q
  by false true e h = ap (λ ys. scalars (ys ++ cs)) (inside-backslash q c e h) ∙ backslash q
  by false false e h = ap (λ ys. scalars (ys ++ cs)) (inside-other q c e h) ∙ ap (λ b. b && scalars cs) (two _ true s).0 ∙ k

all-scalars : (q : Quoting) (cs : List ℕ) → scalars cs ≡ true → scalars (flat_map (inside q) cs ++ 39 ∷ []) ≡ true
all-scalars q [] s = refl
all-scalars q (c ∷ cs) s =
    let parts = two _ (scalars cs) s in
    ap scalars (append_assoc (inside q c) (flat_map (inside q) cs) (39 ∷ [])) ∙ inside-scalars q c (flat_map (inside q) cs ++ 39 ∷ []) (ap (λ b. b && true) parts.0) (all-scalars q cs parts.1)

-- the characters behind what opens a text
behind_opening : (q : Quoting) (cs : List ℕ) → scalars cs ≡ true → chars (encode_utf8_all (flat_map (inside q) cs) ++ codes "'") ≡ flat_map (inside q) cs ++ 39 ∷ []
unfolding lib.Utf8.encode
behind_opening q cs s = ap chars (sym (encodes-append (flat_map (inside q) cs) (39 ∷ []))) ∙ chars-encodes (flat_map (inside q) cs ++ 39 ∷ []) (all-scalars q cs s)

pub texts_read : TextsReadBack
texts_read d s u =
    let q = quoting_of d s in
    let behind = encode_utf8_all (flat_map (inside q) (chars s)) ++ codes "'" in
    ap (λ xs. text_read q anywhere (chars xs)) (drop-append_seam (opening q) behind)
    ∙ ap (text_read q anywhere) (behind_opening q (chars s) (scalars-chars s u))
    ∙ characters_read q (chars s) [] refl

-- ---- patterns

none_of : (a b c : Bool) → (a || (b || c)) ≡ false → (a ≡ false) × (b ≡ false) × (c ≡ false)
none_of false false false e = (refl, refl, refl)
none_of true b c e = cc
none_of false true c e = cc
none_of false false true e = cc

plain_read : (e c : ℕ) (cs : List ℕ) → is_like_sign e c ≡ false → like_read e (c ∷ cs) ≡ just c ∷ like_read e cs
plain_read e c cs h =
    let (any, one, escape) = none_of (c == 37) (c == 95) (c == e) h in
    cond-false (c == e) _ _ escape ∙ ap (λ p. p ∷ like_read e cs) (cond-false (c == 37) _ _ any ∙ cond-false (c == 95) _ _ one)

escape_read : (e : ℕ) (cs : List ℕ) → like_read e (e ∷ cs) ≡ like_escaped e cs
escape_read e cs = cond-true (e == e) _ _ (eq-eqb e e refl)

char_read : (e c : ℕ) (cs : List ℕ) → like_read e (like_char e c ++ cs) ≡ just c ∷ like_read e cs
char_read e c cs = by (is_like_sign e c) refl where
  by : (t : Bool) → is_like_sign e c ≡ t → like_read e (like_char e c ++ cs) ≡ just c ∷ like_read e cs
  by true h = ap (λ xs. like_read e (xs ++ cs)) (cond-true (is_like_sign e c) (e ∷ c ∷ []) (c ∷ []) h) ∙ escape_read e (c ∷ cs)
  by false h = ap (λ xs. like_read e (xs ++ cs)) (cond-false (is_like_sign e c) (e ∷ c ∷ []) (c ∷ []) h) ∙ plain_read e c cs h

-- an escape is none of the signs of any text and any character
is_apart : (d : Dialect) → (37 == like_escape d ≡ false) × (95 == like_escape d ≡ false)
is_apart Postgres = (refl, refl)
is_apart Sqlite = (refl, refl)
is_apart DuckDb = (refl, refl)
is_apart Spark = (refl, refl)
is_apart ClickHouse = (refl, refl)

part_read : (d : Dialect) (p : Part) (cs : List ℕ) → like_read (like_escape d) (like_part (like_escape d) p ++ cs) ≡ p ∷ like_read (like_escape d) cs
part_read d any_text cs = cond-false (37 == like_escape d) _ _ (is_apart d).0
part_read d any_one cs = cond-false (95 == like_escape d) _ _ (is_apart d).1
part_read d (just c) cs = char_read (like_escape d) c cs

pub patterns_read : PatternsReadBack
patterns_read d [] = refl
patterns_read d (p ∷ ps) = part_read d p (flat_map (like_part (like_escape d)) ps) ∙ ap (λ x. p ∷ x) (patterns_read d ps)
