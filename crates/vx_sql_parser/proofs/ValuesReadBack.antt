-- Days, decimals and instants that are written for an engine are read back.
use Rattle.std.proofs.Common.{◌≡◌, ℕ, zero, suc, ◌+◌, ◌-◌, ◌*◌, ◌/◌, ◌%◌, ◌^◌, ◌<◌, ◌≤◌, Bool, true, false, List, [], ◌∷◌, ◌++◌, length, length-append, drop, codes, Option, Some, None, Ok, refl, sym, ap, ap₂, ◌∙◌, append_assoc, append-nil, arith}
use Rattle.std.specs.Prelude.{ℤ, pos, negsuc, unsigned_abs, IsSome, option_map, ◌==◌, if◌then◌else◌}
use Rattle.std.specs.Fmt.{decimal}
use Rattle.std.specs.Int.{int_div_euclid, int_rem_euclid}
use Rattle.std.specs.List.{All, flat_map}
use Rattle.std.specs.Str.{IsUtf8}
use Rattle.std.specs.Str.Parse.{AllDigits}
use Rattle.std.proofs.Transfers.{drop-appended}
use Rattle.std.proofs.Math.Nat.{pow-le-pow_right, div-le_self}
use Rattle.std.proofs.lemmas.Bool.{cond-false}
use Rattle.std.proofs.lemmas.Bool.Decides.{nat_tests}
use Rattle.std.proofs.lemmas.Fmt.{decimal_is_IsNumeral_wide}
use Rattle.std.proofs.lemmas.List.Elements.{All-cons}
use Rattle.std.proofs.lemmas.Str.{IsUtf8-from_ascii}
use Rattle.std.proofs.lemmas.Str.Ascii.{IsAscii-from_all}
use Rattle.std.proofs.lemmas.Str.Parse.{digit_from_value}
use Rattle.vx_dtype.specs.declared.timestamp_type.TimeUnit.{TimeUnit}
use Rattle.vx_dtype.specs.declared.timestamp_type.TimeUnit.TheVariants.{Seconds, Milliseconds, Microseconds, Nanoseconds}
use Rattle.vx_dtype.specs.Quotes.{between_quotes, doubled}
use Rattle.vx_dtype.specs.Texts.{atomic_text}
use Rattle.vx_dtype.specs.Types.{Name}
use Rattle.vx_dtype.proofs.Choice.{no}
use Rattle.vx_literals.specs.Days.{Civil, civil_at, civil_text, day_or_number, day_text}
use Rattle.vx_literals.specs.Decimals.{decimal_text, point_text, sign_text}
use Rattle.vx_literals.specs.Digits.{last_digits}
use Rattle.vx_literals.specs.Instants.{unit_places, units_a_second, units_a_day, part_text, time_text, zone_mark, moment_text, instant_or_number, instant_text}
use Rattle.vx_source_types.specs.Characters.{is_word}
use Rattle.vx_source_types.specs.Tokens.{next, has_point, first, word, number, text, sign}
use Rattle.vx_source_types.specs.declared.token.Sign.TheVariants.{OpenParen, CloseParen, Comma}
use Rattle.vx_source_types.proofs.FirstNumbers.{spelled}
use Rattle.vx_source_types.proofs.FirstSigns.{first_open_paren, first_close_paren, first_comma}
use Rattle.vx_sql.specs.declared.dialect.Dialect.{Dialect}
use Rattle.vx_sql.specs.declared.dialect.Dialect.TheVariants.{Postgres, Sqlite, DuckDb, Spark, ClickHouse}
use Rattle.vx_sql.specs.Dialects.{decimal_word, decimal_type, instant_word, instant_type}
use Rattle.vx_sql.specs.Literals.{day_sql, decimal_sql}
use Rattle.vx_sql.specs.Quotes.{quoting_of}
use Rattle.vx_sql.proofs.ReadBack.{characters_read}
use Rattle.vx_sql_parser.specs.SqlTokens as sql
use Rattle.vx_sql_parser.specs.SqlTokens.{SqlLexeme, folded, put_token, sql_tokens}
use Rattle.vx_sql_parser.specs.CastTypes.{decimals, type_source, type_at}
use Rattle.vx_sql_parser.specs.Values.{days, text_of, instant_said}
use Rattle.vx_sql_parser.specs.Rules.{written, at_start}
use Rattle.vx_sql_parser.specs.Laws.{WrittenDaysAreRead, WrittenDecimalsAreRead, WrittenInstantTypesAreRead, WrittenInstantsAreRead, instants_read}
use Rattle.vx_sql_parser.proofs.ReadBack.{seen, some, backslashing, backslashing_spells, backslashed_read, first_single, made_read, plain_first, numbers_read}
use Rattle.vx_sql_parser.proofs.TokensFound.{passed_over}

-- ---- texts of digits, their signs and letters

-- no quote, no backslash, and no letter from the x on
abbrev pub ClearByte : ℕ → Type 0
ClearByte b = ((b == 39) ≡ false) × ((b == 92) ≡ false) × (b < 120)

abbrev pub Clear : List ℕ → Type 0
Clear [] = Unit {0}
Clear (b ∷ bs) = ClearByte b × Clear bs

pub clear_behind : (xs ys : List ℕ) → Clear xs → Clear ys → Clear (xs ++ ys)
clear_behind [] ys h k = k
clear_behind (x ∷ xs) ys h k = (h.0, clear_behind xs ys h.1 k)

small : (xs : List ℕ) → Clear xs → All (λ b. b < 128) xs
small [] h = λ k d l. absurd (omega arith)
small (x ∷ xs) h = All-cons (λ b. b < 128) x xs (omega (arith, h.0.2)) (small xs h.1)

clear_utf8 : (xs : List ℕ) → Clear xs → IsUtf8 xs
clear_utf8 xs h = IsUtf8-from_ascii xs (IsAscii-from_all xs (small xs h))

no_quote : (b : ℕ) → 45 ≤ b → (b == 39) ≡ false
no_quote b h = grind (arith, nat_tests)

no_backslash : (b : ℕ) → b < 92 → (b == 92) ≡ false
no_backslash b h = grind (arith, nat_tests)

-- digits, points, colons and capitals, and the minus
low : (b : ℕ) → 45 ≤ b → b < 92 → ClearByte b
low b h k = (no_quote b h, no_backslash b k, omega arith)

clear_doubled : (xs : List ℕ) → Clear xs → doubled 39 xs ≡ xs
clear_doubled [] h = refl
clear_doubled (x ∷ xs) h = no (x == 39) (39 ∷ 39 ∷ doubled 39 xs) (x ∷ doubled 39 xs) h.0.0 ∙ ap (λ ys. x ∷ ys) (clear_doubled xs h.1)

clear_kept : (xs : List ℕ) → Clear xs → flat_map backslashing xs ≡ xs
clear_kept [] h = refl
clear_kept (x ∷ xs) h = ap₂ (λ (ys zs : List ℕ). ys ++ zs) (backslashing_spells.other x h.0.0 h.0.1) (clear_kept xs h.1)

digits_clear : (ds : List ℕ) → AllDigits 10 ds → Clear ds
digits_clear [] h = tt
digits_clear (d ∷ ds) h = let range = digit_from_value d h.0 in (low d (omega arith) (omega arith), digits_clear ds h.1)

digit_small : (n : ℕ) → 48 + n % 10 < 92
digit_small n = omega arith

last_clear : (k n : ℕ) → Clear (last_digits k n)
last_clear zero n = tt
last_clear (suc k) n = (low (48 + n / 10 ^ k % 10) (omega arith) (digit_small (n / 10 ^ k)), last_clear k n)

sign_clear : (i : ℤ) → Clear (sign_text i)
sign_clear (pos n) = tt
sign_clear (negsuc n) = (low 45 (omega arith) (omega arith), tt)

-- digits behind a point, or none
pointed : (b : Bool) (k n : ℕ) → Clear (if b then [] else codes "." ++ last_digits k n)
pointed true k n = tt
pointed false k n = (low 46 (omega arith) (omega arith), last_clear k n)

pub decimal_clear : (i : ℤ) (s : ℕ) → unsigned_abs i < 10 ^ 38 → Clear (decimal_text i s)
decimal_clear i s h =
    let whole = unsigned_abs i / 10 ^ s in
    let more = pow-le-pow_right {n = 10} (omega arith) {i = 38} {j = 64} (omega arith) in
    let numeral = (decimal_is_IsNumeral_wide whole (omega (arith, div-le_self (unsigned_abs i) (10 ^ s)))).0 in
    clear_behind (sign_text i) (decimal whole ++ point_text s (unsigned_abs i)) (sign_clear i)
    (clear_behind (decimal whole) (point_text s (unsigned_abs i)) (digits_clear (decimal whole) numeral.1) (pointed (s == 0) s (unsigned_abs i)))

civil_clear : (c : Civil) → Clear (civil_text c)
civil_clear c =
    let behind : List ℕ = 45 ∷ last_digits 2 c.day in
    clear_behind (last_digits 4 c.year) (45 ∷ (last_digits 2 c.month ++ behind)) (last_clear 4 c.year)
    (low 45 (omega arith) (omega arith), clear_behind (last_digits 2 c.month) behind (last_clear 2 c.month) (low 45 (omega arith) (omega arith), last_clear 2 c.day))

day_clear : (i : ℤ) → IsSome (civil_at i) → Clear (day_text i)
day_clear i = go (civil_at i) where
  go : (o : Option Civil) → IsSome o → Clear (day_or_number i o)
  go (Some c) h = civil_clear c
  go None h = cc

time_clear : (u : TimeUnit) (k : ℕ) → Clear (time_text u k)
time_clear u k =
    let n = k / units_a_second u in
    let part = pointed (k % units_a_second u == 0) (unit_places u) k in
    let seconds : List ℕ = last_digits 2 (n % 60) ++ part_text u k in
    let minutes : List ℕ = last_digits 2 (n / 60 % 60) ++ 58 ∷ seconds in
    let second = clear_behind (last_digits 2 (n % 60)) (part_text u k) (last_clear 2 (n % 60)) part in
    let minute = clear_behind (last_digits 2 (n / 60 % 60)) (58 ∷ seconds) (last_clear 2 (n / 60 % 60)) (low 58 (omega arith) (omega arith), second) in
    clear_behind (last_digits 2 (n / 3600)) (58 ∷ minutes) (last_clear 2 (n / 3600)) (low 58 (omega arith) (omega arith), minute)

mark_clear : (z : Option Name) → Clear (zone_mark z)
mark_clear None = tt
mark_clear (Some a) = (low 90 (omega arith) (omega arith), tt)

moment_clear : (u : TimeUnit) (z : Option Name) (k : ℕ) (c : Civil) → Clear (moment_text u z k c)
moment_clear u z k c =
    let time = clear_behind (time_text u k) (zone_mark z) (time_clear u k) (mark_clear z) in
    clear_behind (civil_text c) (84 ∷ (time_text u k ++ zone_mark z)) (civil_clear c) (low 84 (omega arith) (omega arith), time)

instant_clear : (u : TimeUnit) (z : Option Name) (i : ℤ) → IsSome (civil_at (int_div_euclid i (pos (units_a_day u)))) → Clear (instant_text u z i)
instant_clear u z i = go (civil_at (int_div_euclid i (pos (units_a_day u)))) where
  go : (o : Option Civil) → IsSome o → Clear (instant_or_number u z i o)
  go (Some c) h = moment_clear u z (unsigned_abs (int_rem_euclid i (pos (units_a_day u)))) c
  go None h = cc

-- ---- the first token, and those behind it

abbrev Takes : Dialect → List ℕ → Option SqlLexeme → List ℕ → Type 0
Takes d bs x rest = sql.taken_at d bs ≡ (let t : sql.Taken = (x, rest) in t)

goes_on : (d : Dialect) (own rest : List ℕ) (x : Option SqlLexeme) → 0 < length own → Takes d (own ++ rest) x rest → sql_tokens d 0 (own ++ rest) ≡ put_token x (sql_tokens d 0 rest)
goes_on d [] rest x some e = absurd (omega arith)
goes_on d (b ∷ own) rest x some e =
    let passes : length (own ++ rest) - length rest ≡ length own = omega (arith, length-append own rest) in
    ap (λ t. put_token t.0 (sql_tokens d (length (own ++ rest) - length t.1) (own ++ rest))) e ∙ ap (λ n. put_token x (sql_tokens d n (own ++ rest))) passes
    ∙ ap (put_token x) (passed_over d (length own) (own ++ rest) ∙ ap (sql_tokens d 0) (drop-appended own (own ++ rest) rest refl))

-- a text without quotes and backslashes
text_first : (d : Dialect) (s rest : List ℕ) → Clear s → (next rest == 39) ≡ false → Takes d (39 ∷ (s ++ 39 ∷ rest)) (Some (Ok (text s))) rest
text_first d s rest h e = by d where
  doubling : (d : Dialect) → sql.taken_at d (39 ∷ (s ++ 39 ∷ rest)) ≡ seen d 39 (first (39 ∷ (s ++ 39 ∷ rest))) → Takes d (39 ∷ (s ++ 39 ∷ rest)) (Some (Ok (text s))) rest
  doubling d begins = begins ∙ ap (λ ys. seen d 39 (first (39 ∷ (ys ++ 39 ∷ rest)))) (sym (clear_doubled s h)) ∙ ap (seen d 39) (first_single s rest (clear_utf8 s h) e)

  by : (d : Dialect) → Takes d (39 ∷ (s ++ 39 ∷ rest)) (Some (Ok (text s))) rest
  by Postgres = doubling Postgres refl
  by Sqlite = doubling Sqlite refl
  by DuckDb = doubling DuckDb refl
  by Spark =
      ap (λ ys. sql.taken_at Spark (39 ∷ (ys ++ 39 ∷ rest))) (sym (clear_kept s h)) ∙ ap (λ r. some (sql.text_taken r)) (characters_read (quoting_of Spark []) s rest e) ∙ made_read s rest (clear_utf8 s h)
  by ClickHouse =
      ap (λ ys. sql.taken_at ClickHouse (39 ∷ (ys ++ 39 ∷ rest))) (sym (clear_kept s h)) ∙ ap (λ r. some (sql.text_taken r)) (backslashed_read s rest e) ∙ made_read s rest (clear_utf8 s h)

text_goes : (d : Dialect) (s rest : List ℕ) → Clear s → (next rest == 39) ≡ false → sql_tokens d 0 (39 ∷ (s ++ 39 ∷ rest)) ≡ Ok (text s) ∷ sql_tokens d 0 rest
text_goes d s rest h e =
    let same : (39 ∷ (s ++ 39 ∷ [])) ++ rest ≡ 39 ∷ (s ++ 39 ∷ rest) = ap (λ ys. 39 ∷ ys) (append_assoc s (39 ∷ []) rest) in
    ap (sql_tokens d 0) (sym same) ∙ goes_on d (39 ∷ (s ++ 39 ∷ [])) rest (Some (Ok (text s))) (omega arith) (ap (sql.taken_at d) same ∙ text_first d s rest h e)

blank_goes : (d : Dialect) (rest : List ℕ) → sql_tokens d 0 (32 ∷ rest) ≡ sql_tokens d 0 rest
blank_goes d rest = goes_on d (32 ∷ []) rest None (omega arith) refl

opening_goes : (d : Dialect) (rest : List ℕ) → sql_tokens d 0 (40 ∷ rest) ≡ Ok (sign OpenParen) ∷ sql_tokens d 0 rest
opening_goes d rest = goes_on d (40 ∷ []) rest (Some (Ok (sign OpenParen))) (omega arith) (plain_first d 40 rest refl refl refl ∙ ap (seen d 40) (first_open_paren rest))

closing_goes : (d : Dialect) (rest : List ℕ) → sql_tokens d 0 (41 ∷ rest) ≡ Ok (sign CloseParen) ∷ sql_tokens d 0 rest
closing_goes d rest = goes_on d (41 ∷ []) rest (Some (Ok (sign CloseParen))) (omega arith) (plain_first d 41 rest refl refl refl ∙ ap (seen d 41) (first_close_paren rest))

comma_goes : (d : Dialect) (rest : List ℕ) → sql_tokens d 0 (44 ∷ rest) ≡ Ok (sign Comma) ∷ sql_tokens d 0 rest
comma_goes d rest = goes_on d (44 ∷ []) rest (Some (Ok (sign Comma))) (omega arith) (plain_first d 44 rest refl refl refl ∙ ap (seen d 44) (first_comma rest))

number_goes : (d : Dialect) (n : ℕ) (rest : List ℕ) → n < 2 ^ 64 → is_word (next rest) ≡ false → has_point rest ≡ false → sql_tokens d 0 (decimal n ++ rest) ≡ Ok (number false (Some n) []) ∷ sql_tokens d 0 rest
number_goes d n rest small e k = goes_on d (decimal n) rest (Some (Ok (number false (Some n) []))) (spelled n small).2 (numbers_read d n rest small e k)

-- ---- days

date_goes : (d : Dialect) (rest : List ℕ) → sql_tokens d 0 (codes "DATE " ++ rest) ≡ Ok (word (folded d (codes "DATE"))) ∷ sql_tokens d 0 rest
date_goes d rest =
    goes_on d (codes "DATE") (32 ∷ rest) (Some (Ok (word (folded d (codes "DATE"))))) (omega arith) (plain_first d 68 (65 ∷ 84 ∷ 69 ∷ 32 ∷ rest) refl refl refl)
    ∙ ap (λ xs. Ok (word (folded d (codes "DATE"))) ∷ xs) (blank_goes d rest)

day_tokens : (d : Dialect) (s : List ℕ) → Clear s → sql_tokens d 0 (codes "DATE '" ++ (s ++ codes "'")) ≡ Ok (word (folded d (codes "DATE"))) ∷ Ok (text s) ∷ []
day_tokens d s h = date_goes d (39 ∷ (s ++ 39 ∷ [])) ∙ ap (λ xs. Ok (word (folded d (codes "DATE"))) ∷ xs) (text_goes d s [] h refl)

pub days_read : WrittenDaysAreRead
days_read Postgres i has some = ap (written Postgres at_start 0) (day_tokens Postgres (day_text i) (day_clear i some))
days_read Sqlite i has some = cc
days_read DuckDb i has some = ap (written DuckDb at_start 0) (day_tokens DuckDb (day_text i) (day_clear i some))
days_read Spark i has some = ap (written Spark at_start 0) (day_tokens Spark (day_text i) (day_clear i some))
days_read ClickHouse i has some = cc

-- ---- decimals

-- what stands behind the text
abbrev cast_end : Dialect → ℕ → ℕ → List ℕ
cast_end d p s = codes " AS " ++ (decimal_word d ++ 40 ∷ (decimal p ++ 44 ∷ 32 ∷ (decimal s ++ 41 ∷ 41 ∷ [])))

sized_goes : (d : Dialect) (p s : ℕ) → p ≤ 38 → s ≤ 38
    → sql_tokens d 0 (40 ∷ (decimal p ++ 44 ∷ 32 ∷ (decimal s ++ 41 ∷ 41 ∷ [])))
    ≡ Ok (sign OpenParen) ∷ Ok (number false (Some p) []) ∷ Ok (sign Comma) ∷ Ok (number false (Some s) []) ∷ Ok (sign CloseParen) ∷ Ok (sign CloseParen) ∷ []
sized_goes d p s h k =
    let second : List ℕ = decimal s ++ 41 ∷ 41 ∷ [] in
    let ends = number_goes d s (41 ∷ 41 ∷ []) (omega arith) refl refl ∙ ap (λ xs. Ok (number false (Some s) []) ∷ xs) (closing_goes d (41 ∷ []) ∙ ap (λ xs. Ok (sign CloseParen) ∷ xs) (closing_goes d [])) in
    let amid = comma_goes d (32 ∷ second) ∙ ap (λ xs. Ok (sign Comma) ∷ xs) (blank_goes d second ∙ ends) in
    opening_goes d (decimal p ++ 44 ∷ 32 ∷ second)
    ∙ ap (λ xs. Ok (sign OpenParen) ∷ xs) (number_goes d p (44 ∷ 32 ∷ second) (omega arith) refl refl ∙ ap (λ xs. Ok (number false (Some p) []) ∷ xs) amid)

as_goes : (d : Dialect) (rest : List ℕ) → sql_tokens d 0 (codes " AS " ++ rest) ≡ Ok (word (folded d (codes "AS"))) ∷ sql_tokens d 0 rest
as_goes d rest =
    blank_goes d (codes "AS " ++ rest)
    ∙ goes_on d (codes "AS") (32 ∷ rest) (Some (Ok (word (folded d (codes "AS"))))) (omega arith) (plain_first d 65 (83 ∷ 32 ∷ rest) refl refl refl)
    ∙ ap (λ xs. Ok (word (folded d (codes "AS"))) ∷ xs) (blank_goes d rest)

cast_goes : (d : Dialect) (rest : List ℕ) → sql_tokens d 0 (codes "CAST(" ++ rest) ≡ Ok (word (folded d (codes "CAST"))) ∷ Ok (sign OpenParen) ∷ sql_tokens d 0 rest
cast_goes d rest =
    goes_on d (codes "CAST") (40 ∷ rest) (Some (Ok (word (folded d (codes "CAST"))))) (omega arith) (plain_first d 67 (65 ∷ 83 ∷ 84 ∷ 40 ∷ rest) refl refl refl)
    ∙ ap (λ xs. Ok (word (folded d (codes "CAST"))) ∷ xs) (opening_goes d rest)

-- the word of the type, which is there in an engine that has decimals
abbrev WordGoes : Dialect → Type 0
WordGoes d = (rest : List ℕ) → sql_tokens d 0 (decimal_word d ++ 40 ∷ rest) ≡ Ok (word (folded d (decimal_word d))) ∷ sql_tokens d 0 (40 ∷ rest)

numeric_goes : WordGoes Postgres
numeric_goes rest = goes_on Postgres (codes "numeric") (40 ∷ rest) (Some (Ok (word (codes "numeric")))) (omega arith) refl

duckdb_goes : WordGoes DuckDb
duckdb_goes rest = goes_on DuckDb (codes "DECIMAL") (40 ∷ rest) (Some (Ok (word (codes "DECIMAL")))) (omega arith) refl

spark_goes : WordGoes Spark
spark_goes rest = goes_on Spark (codes "DECIMAL") (40 ∷ rest) (Some (Ok (word (codes "DECIMAL")))) (omega arith) refl

-- the whole text
in_order : (d : Dialect) (t : List ℕ) (p s : ℕ) → codes "CAST('" ++ (t ++ (codes "' AS " ++ (decimal_type d p s ++ codes ")"))) ≡ codes "CAST('" ++ (t ++ 39 ∷ cast_end d p s)
in_order d t p s =
    ap (λ xs. codes "CAST('" ++ (t ++ (codes "' AS " ++ xs)))
    (
    append_assoc (decimal_word d) _ (41 ∷ [])
    ∙ ap (λ xs. decimal_word d ++ 40 ∷ xs) (append_assoc (decimal p) _ (41 ∷ []) ∙ ap (λ xs. decimal p ++ 44 ∷ 32 ∷ xs) (append_assoc (decimal s) (41 ∷ []) (41 ∷ [])))
    )

abbrev cast_tokens : Dialect → List ℕ → ℕ → ℕ → List SqlLexeme
cast_tokens d t p s =
    Ok (word (folded d (codes "CAST"))) ∷ Ok (sign OpenParen) ∷ Ok (text t) ∷ Ok (word (folded d (codes "AS"))) ∷ Ok (word (folded d (decimal_word d)))
    ∷ Ok (sign OpenParen) ∷ Ok (number false (Some p) []) ∷ Ok (sign Comma) ∷ Ok (number false (Some s) []) ∷ Ok (sign CloseParen) ∷ Ok (sign CloseParen) ∷ []

decimal_tokens : (d : Dialect) (t : List ℕ) (p s : ℕ) → WordGoes d → Clear t → p ≤ 38 → s ≤ 38
    → sql_tokens d 0 (codes "CAST('" ++ (t ++ (codes "' AS " ++ (decimal_type d p s ++ codes ")")))) ≡ cast_tokens d t p s
decimal_tokens d t p s goes h k l =
    let sized = goes (decimal p ++ 44 ∷ 32 ∷ (decimal s ++ 41 ∷ 41 ∷ [])) ∙ ap (λ xs. Ok (word (folded d (decimal_word d))) ∷ xs) (sized_goes d p s k l) in
    let typed = as_goes d (decimal_word d ++ 40 ∷ (decimal p ++ 44 ∷ 32 ∷ (decimal s ++ 41 ∷ 41 ∷ []))) ∙ ap (λ xs. Ok (word (folded d (codes "AS"))) ∷ xs) sized in
    ap (sql_tokens d 0) (in_order d t p s) ∙ cast_goes d (39 ∷ (t ++ 39 ∷ cast_end d p s))
    ∙ ap (λ xs. Ok (word (folded d (codes "CAST"))) ∷ Ok (sign OpenParen) ∷ xs) (text_goes d t (cast_end d p s) h refl ∙ ap (λ xs. Ok (text t) ∷ xs) typed)

pub decimals_read : WrittenDecimalsAreRead
decimals_read Postgres p s i has k l h = ap (written Postgres at_start 0) (decimal_tokens Postgres (decimal_text i s) p s numeric_goes (decimal_clear i s h) k l)
decimals_read Sqlite p s i has k l h = cc
decimals_read DuckDb p s i has k l h = ap (written DuckDb at_start 0) (decimal_tokens DuckDb (decimal_text i s) p s duckdb_goes (decimal_clear i s h) k l)
decimals_read Spark p s i has k l h = ap (written Spark at_start 0) (decimal_tokens Spark (decimal_text i s) p s spark_goes (decimal_clear i s h) k l)
decimals_read ClickHouse p s i has k l h = cc

-- ---- instants

-- the text of an instant is longer than that of a day
beyond_ten : (n : ℕ) → (suc (suc (suc (suc (suc (suc (suc (suc (suc (suc (suc n)))))))))) == 10) ≡ false
beyond_ten n = grind (arith, nat_tests)

instant_kept : (u : TimeUnit) (z : Option Name) (i : ℤ) → IsSome (civil_at (int_div_euclid i (pos (units_a_day u)))) → instant_said (instant_text u z i) ≡ instant_text u z i
instant_kept u z i = go (civil_at (int_div_euclid i (pos (units_a_day u)))) where
  go : (o : Option Civil) → IsSome o → instant_said (instant_or_number u z i o) ≡ instant_or_number u z i o
  go (Some c) h =
      let k = unsigned_abs (int_rem_euclid i (pos (units_a_day u))) in
      cond-false (length (moment_text u z k c) == 10) _ _ (beyond_ten (length (time_text u k ++ zone_mark z)))
  go None h = cc

-- what stands before the type
abbrev pub cast_begin : Dialect → List ℕ → List SqlLexeme → List SqlLexeme
cast_begin d t xs = Ok (word (folded d (codes "CAST"))) ∷ Ok (sign OpenParen) ∷ Ok (text t) ∷ Ok (word (folded d (codes "AS"))) ∷ xs

pub begin_goes : (d : Dialect) (t rest : List ℕ) → Clear t → sql_tokens d 0 (codes "CAST('" ++ (t ++ (codes "' AS " ++ rest))) ≡ cast_begin d t (sql_tokens d 0 rest)
begin_goes d t rest h =
    cast_goes d (39 ∷ (t ++ 39 ∷ (codes " AS " ++ rest)))
    ∙ ap (λ xs. Ok (word (folded d (codes "CAST"))) ∷ Ok (sign OpenParen) ∷ xs) (text_goes d t (codes " AS " ++ rest) h refl ∙ ap (λ xs. Ok (text t) ∷ xs) (as_goes d rest))

-- the text of an instant before its type
abbrev read_as : TimeUnit → Option Name → List ℕ → List ℕ
read_as u z t = (between_quotes 34 t ++ (codes "::" ++ atomic_text (instants_read u z))) ++ codes " "

-- an engine's type of instants is read, and so is a text that is cast to it
abbrev TypeIsRead : Dialect → TimeUnit → Option Name → Type 0
TypeIsRead d u z = option_map type_source (type_at d (sql_tokens d 0 (instant_type d u z)) 0) ≡ Some (atomic_text (instants_read u z))

abbrev CastIsRead : Dialect → TimeUnit → Option Name → Type 0
CastIsRead d u z = (t : List ℕ) → written d at_start 0 (cast_begin d t (sql_tokens d 0 (instant_type d u z ++ codes ")"))) ≡ Ok (read_as u z (instant_said t))

both_read : (d : Dialect) (u : TimeUnit) (z : Option Name) → IsSome (instant_word d u z) → TypeIsRead d u z × CastIsRead d u z
both_read Postgres Seconds None has = (refl, λ t. refl)
both_read Postgres Seconds (Some z) has = (refl, λ t. refl)
both_read Postgres Milliseconds None has = (refl, λ t. refl)
both_read Postgres Milliseconds (Some z) has = (refl, λ t. refl)
both_read Postgres Microseconds None has = (refl, λ t. refl)
both_read Postgres Microseconds (Some z) has = (refl, λ t. refl)
both_read Postgres Nanoseconds None has = cc
both_read Postgres Nanoseconds (Some z) has = cc
both_read Sqlite u None has = cc
both_read Sqlite u (Some z) has = cc
both_read DuckDb Seconds None has = (refl, λ t. refl)
both_read DuckDb Seconds (Some z) has = cc
both_read DuckDb Milliseconds None has = (refl, λ t. refl)
both_read DuckDb Milliseconds (Some z) has = cc
both_read DuckDb Microseconds None has = (refl, λ t. refl)
both_read DuckDb Microseconds (Some z) has = (refl, λ t. refl)
both_read DuckDb Nanoseconds None has = (refl, λ t. refl)
both_read DuckDb Nanoseconds (Some z) has = cc
both_read Spark Seconds None has = cc
both_read Spark Seconds (Some z) has = cc
both_read Spark Milliseconds None has = cc
both_read Spark Milliseconds (Some z) has = cc
both_read Spark Microseconds None has = (refl, λ t. refl)
both_read Spark Microseconds (Some z) has = (refl, λ t. refl)
both_read Spark Nanoseconds None has = cc
both_read Spark Nanoseconds (Some z) has = cc
both_read ClickHouse u None has = cc
both_read ClickHouse u (Some z) has = cc

pub instant_types_read : WrittenInstantTypesAreRead
instant_types_read d u z has = (both_read d u z has).0

pub instants_read_back : WrittenInstantsAreRead
instants_read_back d u z i has some =
    ap (written d at_start 0) (begin_goes d (instant_text u z i) (instant_type d u z ++ codes ")") (instant_clear u z i some))
    ∙ (both_read d u z has).1 (instant_text u z i) ∙ ap (λ t. Ok (read_as u z t)) (instant_kept u z i some)
