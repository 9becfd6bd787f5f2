-- Names, texts, numbers and types that are written for an engine are read back.
use Rattle.std.proofs.Common.{◌≡◌, ℕ, suc, ◌<◌, ◌≤◌, Bool, true, false, List, [], ◌∷◌, ◌++◌, length, get_or, drop, chars, Some, None, Ok, Err, inl, inr, refl, sym, ap, ap₂, ◌∙◌, append_assoc, append-nil, arith}
use Rattle.std.specs.Prelude.{◌==◌, ◌||◌, ◌&&◌, if◌then◌else◌}
use Rattle.std.specs.Fmt.{decimal}
use Rattle.std.specs.List.{flat_map, list_all, list_any}
use Rattle.std.specs.Str.{IsUtf8}
use Rattle.std.proofs.lemmas.Bool.{and_parts, cond-true, cond-false, cases_lt}
use Rattle.std.proofs.lemmas.Bool.Decides.{nat_tests}
use Rattle.std.proofs.lemmas.Grind.{flat_map-append}
use Rattle.std.proofs.lemmas.Str.{encode_ascii, encodes-append, encodes-chars, inside_one}
use Rattle.std.proofs.Math.Utf8.{encode, encodes}
use Rattle.vx_dtype.specs.declared.dtype.PType.TheVariants.{U8, U16, U32, U64, I8, I16, I32, I64}
use Rattle.vx_source_types.specs.declared.expectation.Expected.TheVariants.{ClosingSingleQuote}
use Rattle.vx_dtype.specs.Quotes.{doubled}
use Rattle.vx_source_types.specs.Tokens.{Taken, next, first, quoted, text, text_taken, with_byte}
use Rattle.vx_source_types.specs.Characters.{is_blank, is_digit, is_word}
use Rattle.vx_dtype.proofs.Choice.{yes, no}
use Rattle.vx_source_types.proofs.FirstNumbers.{is_more, spelled, first_number}
use Rattle.vx_source_types.proofs.FirstTokens.{first_quoted, first_text}
use Rattle.vx_source_types.proofs.Quoting.{text_of_utf8}
use Rattle.vx_source_types.proofs.Unquoting.{unquoted_doubled}
use Rattle.vx_sql.specs.declared.dialect.Dialect.{Dialect}
use Rattle.vx_sql.specs.declared.dialect.Dialect.TheVariants.{Postgres, Sqlite, DuckDb, Spark, ClickHouse}
use Rattle.vx_sql.specs.Quotes as quotes
use Rattle.vx_sql.specs.Quotes.{quoting_of, inside, text_sql, anywhere}
use Rattle.vx_sql.proofs.ReadBack.{characters_read}
use Rattle.vx_sql_parser.specs.declared.reason.Unread.TheVariants.{Unclosed}
use Rattle.vx_sql_parser.specs.SqlTokens as sql
use Rattle.vx_sql_parser.specs.Laws.{WrittenNamesAreRead, WrittenNumbersAreRead, WrittenTextsAreRead, WrittenTypesAreRead}
use Rattle.vx_sql_parser.proofs.ByteTexts.{utf8_is}

-- a token of source text that begins with b, as it is seen here
abbrev pub seen : Dialect → ℕ → Taken → sql.Taken
seen d b t = (Some (sql.as_sql d b t.0), t.1)

-- ---- names

pub names_read : WrittenNamesAreRead
names_read Postgres a rest u plain e = ap (seen Postgres 34) (first_text a rest u e)
names_read Sqlite a rest u plain e = ap (seen Sqlite 96) (first_quoted a rest u e)
names_read DuckDb a rest u plain e = ap (seen DuckDb 34) (first_text a rest u e)
names_read Spark a rest u plain e = ap (seen Spark 96) (first_quoted a rest u e)
names_read ClickHouse a rest u plain e =
    ap (seen ClickHouse 96) (first_quoted a rest u e)
    ∙ ap (λ b. let t : sql.Taken = (Some (if b then Err Unclosed else Ok (quoted a)), rest) in t) plain

-- ---- texts, byte by byte

isnt_39 : (b : ℕ) → 128 ≤ b → (b == 39) ≡ false
isnt_39 b h = grind (arith, nat_tests)

isnt_92 : (b : ℕ) → 128 ≤ b → (b == 92) ≡ false
isnt_92 b h = grind (arith, nat_tests)

-- what stands for each byte or character: itself, but for the quote and the backslash, which ASCII stands for
pub record Spells (inside : ℕ → List ℕ) : Type 0 where
  pub quote : encodes (inside 39) ≡ inside 39
  pub backslash : encodes (inside 92) ≡ inside 92
  pub other : (c : ℕ) → (c == 39) ≡ false → (c == 92) ≡ false → inside c ≡ c ∷ []

same_is : (b q : ℕ) → (b == q) ≡ true → b ≡ q
same_is b q e = grind (arith, nat_tests)

high : (inside : ℕ → List ℕ) → Spells inside → (bs : List ℕ) → ((k : ℕ) → k < length bs → 128 ≤ get_or bs k 0) → flat_map inside bs ≡ bs
high inside s [] h = refl
high inside s (b ∷ bs) h =
    let here : 128 ≤ b = h 0 (omega arith) in
    ap₂ (λ (xs ys : List ℕ). xs ++ ys) (s.other b (isnt_39 b here) (isnt_92 b here)) (high inside s bs (λ k below. h (suc k) (omega arith)))

low : (inside : ℕ → List ℕ) → Spells inside → (c : ℕ) → c < 128 → encodes (inside c) ≡ inside c
low inside s c small = by (c == 39) (c == 92) refl refl where
  same : (d : ℕ) → c ≡ d → encodes (inside d) ≡ inside d → encodes (inside c) ≡ inside c
  same d is e = ap (λ x. encodes (inside x)) is ∙ e ∙ ap inside (sym is)

  by : (t u : Bool) → (c == 39) ≡ t → (c == 92) ≡ u → encodes (inside c) ≡ inside c
  by true u e h = same 39 (same_is c 39 e) s.quote
  by false true e h = same 92 (same_is c 92 h) s.backslash
  by false false e h = ap encodes (s.other c e h) ∙ ap (λ xs. xs ++ []) (encode_ascii c small) ∙ sym (s.other c e h)

one : (inside : ℕ → List ℕ) → Spells inside → (c : ℕ) → encodes (inside c) ≡ flat_map inside (encode c)
one inside s c =
    elim (cases_lt c 128) [
      | inl small ↦ low inside s c small ∙ sym (append-nil (inside c)) ∙ ap (flat_map inside) (sym (encode_ascii c small))
      | inr big ↦
          let wide : (k : ℕ) → k < length (encode c) → 128 ≤ get_or (encode c) k 0 = λ k below.
          elim (cases_lt (get_or (encode c) k 0) 128) [
            | inl less ↦ absurd (omega (arith, inside_one c [] (encode c) k (sym (append-nil _)) below less))
            | inr h ↦ h
          ] in
          ap encodes (s.other c (isnt_39 c big) (isnt_92 c big)) ∙ append-nil (encode c) ∙ sym (high inside s (encode c) wide)
    ]

each : (inside : ℕ → List ℕ) → Spells inside → (cs : List ℕ) → encodes (flat_map inside cs) ≡ flat_map inside (encodes cs)
each inside s [] = refl
each inside s (c ∷ cs) =
    encodes-append (inside c) (flat_map inside cs) ∙ ap₂ (λ (xs ys : List ℕ). xs ++ ys) (one inside s c) (each inside s cs) ∙ sym (flat_map-append inside (encode c) (encodes cs))

-- a text between quotes by its bytes, behind what opens it
by_bytes : (inside : ℕ → List ℕ) → Spells inside → (start s rest : List ℕ) → IsUtf8 s
    → (start ++ (encodes (flat_map inside (chars s)) ++ 39 ∷ [])) ++ rest ≡ start ++ (flat_map inside s ++ 39 ∷ rest)
by_bytes inside spells start s rest u =
    ap (λ xs. (start ++ (xs ++ 39 ∷ [])) ++ rest) (each inside spells (chars s) ∙ ap (flat_map inside) (encodes-chars s u))
    ∙ append_assoc start (flat_map inside s ++ 39 ∷ []) rest
    ∙ ap (λ xs. start ++ xs) (append_assoc (flat_map inside s) (39 ∷ []) rest)

-- the three ways of `vx_sql`
abbrev doubling : ℕ → List ℕ
doubling = inside (quoting_of Sqlite [])

abbrev escaping : ℕ → List ℕ
escaping = inside (quoting_of Postgres (92 ∷ []))

abbrev pub backslashing : ℕ → List ℕ
backslashing = inside (quoting_of Spark [])

doubling_spells : Spells doubling
unfolding lib.Utf8.encode
doubling_spells = record { quote = refl; backslash = refl; other = λ c e h. cond-false (c == 39) _ _ e ∙ cond-false (c == 92) _ _ h }

escaping_spells : Spells escaping
unfolding lib.Utf8.encode
escaping_spells = record { quote = refl; backslash = refl; other = λ c e h. cond-false (c == 39) _ _ e ∙ cond-false (c == 92) _ _ h }

pub backslashing_spells : Spells backslashing
unfolding lib.Utf8.encode
backslashing_spells = record { quote = refl; backslash = refl; other = λ c e h. cond-false (c == 39) _ _ e ∙ cond-false (c == 92) _ _ h }

doubled_is : (s : List ℕ) → flat_map doubling s ≡ doubled 39 s
doubled_is [] = refl
doubled_is (b ∷ s) = by (b == 39) (b == 92) refl refl (doubled_is s) where
  by : (t u : Bool) → (b == 39) ≡ t → (b == 92) ≡ u → flat_map doubling s ≡ doubled 39 s → flat_map doubling (b ∷ s) ≡ doubled 39 (b ∷ s)
  by true u e h k =
      let is : doubling b ≡ 39 ∷ 39 ∷ [] = cond-true (b == 39) _ _ e in
      ap₂ (λ (ys zs : List ℕ). ys ++ zs) is k ∙ sym (yes (b == 39) _ _ e)
  by false true e h k =
      let is : doubling b ≡ 92 ∷ [] = cond-false (b == 39) _ _ e ∙ cond-true (b == 92) _ _ h in
      ap₂ (λ (ys zs : List ℕ). ys ++ zs) is k ∙ ap (λ c. c ∷ doubled 39 s) (sym (same_is b 92 h)) ∙ sym (no (b == 39) _ _ e)
  by false false e h k =
      let is : doubling b ≡ b ∷ [] = cond-false (b == 39) _ _ e ∙ cond-false (b == 92) _ _ h in
      ap₂ (λ (ys zs : List ℕ). ys ++ zs) is k ∙ sym (no (b == 39) _ _ e)

-- ---- texts

abbrev Reads : Dialect → List ℕ → List ℕ → List ℕ → Type 0
Reads d written s rest = sql.taken_at d written ≡ (let t : sql.Taken = (Some (Ok (text s)), rest) in t)

pub first_single : (s rest : List ℕ) → IsUtf8 s → (next rest == 39) ≡ false → first (39 ∷ (doubled 39 s ++ 39 ∷ rest)) ≡ (let t : Taken = (text s, rest) in t)
first_single s rest u e = ap (text_taken ClosingSingleQuote) (unquoted_doubled 39 s rest e) ∙ ap (λ x. let t : Taken = (x, rest) in t) (text_of_utf8 ClosingSingleQuote s u)

-- where a quote is doubled, and a backslash is a character like others
doubled_read : (d : Dialect) (s rest : List ℕ) → ((xs : List ℕ) → sql.taken_at d (39 ∷ xs) ≡ seen d 39 (first (39 ∷ xs))) → IsUtf8 s → (next rest == 39) ≡ false
    → Reads d ((39 ∷ (encodes (flat_map doubling (chars s)) ++ 39 ∷ [])) ++ rest) s rest
doubled_read d s rest begins u e =
    ap (sql.taken_at d) (by_bytes doubling doubling_spells (39 ∷ []) s rest u ∙ ap (λ xs. 39 ∷ (xs ++ 39 ∷ rest)) (doubled_is s))
    ∙ begins (doubled 39 s ++ 39 ∷ rest) ∙ ap (seen d 39) (first_single s rest u e)

-- where a backslash says something
abbrev pub some : sql.SqlLexeme × List ℕ → sql.Taken
some token = (Some token.0, token.1)

pub made_read : (s rest : List ℕ) → IsUtf8 s → some (sql.text_taken (Some (s, rest))) ≡ (let t : sql.Taken = (Some (Ok (text s)), rest) in t)
made_read s rest u = ap (λ o. let t : sql.Taken = (Some (sql.of_text o), rest) in t) (utf8_is s u)

-- the same where a quote could be doubled as well
by_escape : (c : ℕ) (xs : List ℕ) → sql.escaped_read true anywhere (backslashing c ++ xs) ≡ with_byte c (sql.escaped_read true anywhere xs)
by_escape c xs = by (c == 39) (c == 92) refl refl where
  by : (t u : Bool) → (c == 39) ≡ t → (c == 92) ≡ u → sql.escaped_read true anywhere (backslashing c ++ xs) ≡ with_byte c (sql.escaped_read true anywhere xs)
  by true u e h =
      ap (λ ys. sql.escaped_read true anywhere (ys ++ xs)) (let is : backslashing c ≡ 92 ∷ 39 ∷ [] = cond-true (c == 39) _ _ e in is)
      ∙ ap (λ b. with_byte b (sql.escaped_read true anywhere xs)) (sym (same_is c 39 e))
  by false true e h =
      ap (λ ys. sql.escaped_read true anywhere (ys ++ xs)) (let is : backslashing c ≡ 92 ∷ 92 ∷ [] = cond-false (c == 39) _ _ e ∙ cond-true (c == 92) _ _ h in is)
      ∙ ap (λ b. with_byte b (sql.escaped_read true anywhere xs)) (sym (same_is c 92 h))
  by false false e h =
      ap (λ ys. sql.escaped_read true anywhere (ys ++ xs)) (let is : backslashing c ≡ c ∷ [] = cond-false (c == 39) _ _ e ∙ cond-false (c == 92) _ _ h in is)
      ∙ no (c == 39) _ _ e ∙ no (c == 92) _ _ h

pub backslashed_read : (cs rest : List ℕ) → (next rest == 39) ≡ false → sql.escaped_read true anywhere (flat_map backslashing cs ++ 39 ∷ rest) ≡ Some (cs, rest)
backslashed_read [] [] e = refl
backslashed_read [] (b ∷ bs) e = no (b == 39) _ _ e
backslashed_read (c ∷ cs) rest e =
    ap (sql.escaped_read true anywhere) (append_assoc (backslashing c) (flat_map backslashing cs) (39 ∷ rest))
    ∙ by_escape c (flat_map backslashing cs ++ 39 ∷ rest) ∙ ap (with_byte c) (backslashed_read cs rest e)

pub texts_read : WrittenTextsAreRead
texts_read Postgres s rest u e = by (list_any (λ b. b == 92) s) refl where
  by : (t : Bool) → list_any (λ b. b == 92) s ≡ t → Reads Postgres (text_sql Postgres s ++ rest) s rest
  by true h =
      ap (λ q. sql.taken_at Postgres (quotes.quoted q (chars s) ++ rest)) (let is : quoting_of Postgres s ≡ quoting_of Postgres (92 ∷ []) = cond-true (list_any (λ b. b == 92) s) _ _ h in is)
      ∙ ap (sql.taken_at Postgres) (by_bytes escaping escaping_spells (69 ∷ 39 ∷ []) s rest u)
      ∙ ap (λ r. some (sql.text_taken r)) (characters_read (quoting_of Postgres (92 ∷ [])) s rest e) ∙ made_read s rest u
  by false h =
      ap (λ q. sql.taken_at Postgres (quotes.quoted q (chars s) ++ rest)) (let is : quoting_of Postgres s ≡ quoting_of Sqlite [] = cond-false (list_any (λ b. b == 92) s) _ _ h in is)
      ∙ doubled_read Postgres s rest (λ xs. refl) u e
texts_read Sqlite s rest u e = doubled_read Sqlite s rest (λ xs. refl) u e
texts_read DuckDb s rest u e = doubled_read DuckDb s rest (λ xs. refl) u e
texts_read Spark s rest u e =
    ap (sql.taken_at Spark) (by_bytes backslashing backslashing_spells (39 ∷ []) s rest u)
    ∙ ap (λ r. some (sql.text_taken r)) (characters_read (quoting_of Spark []) s rest e) ∙ made_read s rest u
texts_read ClickHouse s rest u e =
    ap (sql.taken_at ClickHouse) (by_bytes backslashing backslashing_spells (39 ∷ []) s rest u)
    ∙ ap (λ r. some (sql.text_taken r)) (backslashed_read s rest e) ∙ made_read s rest u

-- ---- numbers

no_blank : (b : ℕ) → is_digit b ≡ true → is_blank b ≡ false
no_blank b e = grind (arith, nat_tests)

no_dash : (b : ℕ) → is_digit b ≡ true → (b == 45) ≡ false
no_dash b e = grind (arith, nat_tests)

no_slash : (b : ℕ) → is_digit b ≡ true → (b == 47) ≡ false
no_slash b e = grind (arith, nat_tests)

no_e : (b : ℕ) → is_digit b ≡ true → (b == 69 || b == 101) ≡ false
no_e b e = grind (arith, nat_tests)

no_quote : (b : ℕ) → is_digit b ≡ true → (b == 39) ≡ false
no_quote b e = grind (arith, nat_tests)

no_more : (b : ℕ) → is_word b ≡ false → is_more b ≡ false
no_more b e = grind (arith, nat_tests)

no_x : (b : ℕ) → is_word b ≡ false → (b == 120) ≡ false
no_x b e = grind (arith, nat_tests)

both : (x y : Bool) → x ≡ false → (x && y) ≡ false
both false y e = refl
both true y e = cc

opens_none : (d : Dialect) (b : ℕ) (bs : List ℕ) → (b == 69 || b == 101) ≡ false → (b == 39) ≡ false → sql.opening_len d (b ∷ bs) ≡ 0
opens_none Postgres b bs e q = cond-false ((b == 69 || b == 101) && next bs == 39) 2 0 (both (b == 69 || b == 101) (next bs == 39) e)
opens_none Sqlite b bs e q = refl
opens_none DuckDb b bs e q = refl
opens_none Spark b bs e q = cond-false (b == 39) 1 0 q
opens_none ClickHouse b bs e q = cond-false (b == 39) 1 0 q

-- a token that source text has, too
pub plain_first : (d : Dialect) (b : ℕ) (bs : List ℕ) → sql.blank_taken (b ∷ bs) ≡ None → (b == 69 || b == 101) ≡ false → (b == 39) ≡ false
    → sql.taken_at d (b ∷ bs) ≡ seen d b (first (b ∷ bs))
plain_first d b bs none e q =
    ap (sql.or_token (sql.token_taken d (b ∷ bs))) none
    ∙ ap (λ n. some (if n == 0 then sql.plain_taken d (b ∷ bs) else sql.escaped_taken (sql.doubles_quotes d) (drop n (b ∷ bs)))) (opens_none d b bs e q)

digit_first : (d : Dialect) (ds rest : List ℕ) → list_all is_digit ds ≡ true → 0 < length ds → sql.taken_at d (ds ++ rest) ≡ seen d (next (ds ++ rest)) (first (ds ++ rest))
digit_first d [] rest h l = absurd (omega arith)
digit_first d (b ∷ ds) rest h l =
    let digit = (and_parts (is_digit b) (list_all is_digit ds) h).0 in
    let bs = ds ++ rest in
    let no_comment : sql.blank_taken (b ∷ bs) ≡ None = cond-false (is_blank b) _ _ (no_blank b digit)
    ∙ cond-false (b == 45 && next bs == 45) _ _ (both (b == 45) (next bs == 45) (no_dash b digit))
    ∙ cond-false (b == 47 && next bs == 42) _ _ (both (b == 47) (next bs == 42) (no_slash b digit)) in
    plain_first d b bs no_comment (no_e b digit) (no_quote b digit)

pub numbers_read : WrittenNumbersAreRead
numbers_read d n rest small e k =
    let s = spelled n small in
    digit_first d (decimal n) rest s.1 s.2
    ∙ ap (seen d (next (decimal n ++ rest))) (first_number n [] rest small (no_more (next rest) e, k) (no_x (next rest) e) refl e)

-- ---- types

pub types_read : WrittenTypesAreRead
types_read U8 = (refl, refl, refl)
types_read U16 = (refl, refl, refl)
types_read U32 = (refl, refl, refl)
types_read U64 = (refl, refl, refl)
types_read I8 = (refl, refl, refl)
types_read I16 = (refl, refl, refl)
types_read I32 = (refl, refl, refl)
types_read I64 = (refl, refl, refl)
