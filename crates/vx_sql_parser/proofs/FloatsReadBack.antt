-- Floating-point numbers that are written for an engine are read back.
use Rattle.std.proofs.Common.{◌≡◌, ℕ, ◌+◌, ◌*◌, ◌^◌, ◌<◌, Bool, true, false, ◌&&◌, cond, List, [], ◌∷◌, ◌++◌, drop, Option, Some, None, Result, Ok, pos, refl, sym, ap, ◌∙◌, arith}
use Rattle.std.specs.Prelude.{codes, nat_eq, nat_lt, not, option_map, if◌then◌else◌}
use Rattle.std.specs.Fmt.{sign_text}
use Rattle.std.specs.List.{find, range_with_len, starts_with}
use Rattle.std.specs.Option.{is_some, unwrap_or}
use Rattle.std.proofs.Math.Bool.{and-false}
use Rattle.std.proofs.lemmas.Bool.{and_parts, ltb-true, ne_eqb}
use lib.Ieee.{Float as Value, nan, inf, fin, up, down}
use Rattle.vx_dtype.specs.declared.float_type.FloatType.{FloatType}
use Rattle.vx_dtype.specs.declared.float_type.FloatType.TheVariants.{F32, F64}
use Rattle.vx_dtype.specs.Quotes.{between_quotes}
use Rattle.vx_dtype.specs.Texts.{float_type_text}
use Rattle.vx_literals.specs.Decimals.{decimal_text}
use Rattle.vx_floats.specs.declared.float.Float.{Float}
use Rattle.vx_floats.specs.Floats.{format_of, same_float}
use Rattle.vx_floats.specs.Texts.{bits_text, float_text, fraction_text, has_value_text, is_enough, nearest, scale_of, units_of, value_of, value_text}
use Rattle.vx_sql.specs.declared.dialect.Dialect.{Dialect}
use Rattle.vx_sql.specs.declared.dialect.Dialect.TheVariants.{Postgres, Sqlite, DuckDb, Spark, ClickHouse}
use Rattle.vx_sql.specs.Dialects.{float_word, has_floats}
use Rattle.vx_sql_parser.specs.declared.reason.Unread.{Unread}
use Rattle.vx_sql_parser.specs.SqlTokens.{sql_tokens}
use Rattle.vx_sql_parser.specs.CastTypes.{CastType, named, double_precision, type_source, type_len, type_at}
use Rattle.vx_sql_parser.specs.Values.{text_of, cast_said, with_len}
use Rattle.vx_sql_parser.specs.Rules.{written, at_start}
use Rattle.vx_sql_parser.specs.Laws.{WrittenFloatTypesAreRead, WrittenFloatsAreRead}
use Rattle.vx_sql_parser.proofs.ValuesReadBack.{Clear, clear_behind, decimal_clear, cast_begin, begin_goes}
use Rattle.vx_sql_parser.proofs.Written.{behind}

-- ---- the text of a value

-- what is found passes the test
found : (p : ℕ → Bool) (k : ℕ) (xs : List ℕ) → find p xs ≡ Some k → p k ≡ true
found p k [] e = cc
found p k (a ∷ xs) e = go (found p k xs) (p a) refl e where
  go : (find p xs ≡ Some k → p k ≡ true) → (b : Bool) → p a ≡ b → cond b (Some a) (find p xs) ≡ Some k → p k ≡ true
  go later true passes here = let same : a ≡ k = cc in ap p (sym same) ∙ passes
  go later false fails rest = later rest

-- there are at most 38 digits
few : (x : Float) (s : Bool) (num den k : ℕ) → scale_of x s num den ≡ Some k → units_of num den k < 10 ^ 38
unfolding scale_of is_enough
few x s num den k e = ltb-true (units_of num den k) (10 ^ 38) (and_parts (nat_lt (units_of num den k) (10 ^ 38)) (same_float (nearest (format_of x) s (units_of num den k) (10 ^ k)) x) (found (is_enough x s num den) k (range_with_len 1 22) e)).0

minus_clear : (s : Bool) → Clear (sign_text s)
minus_clear true = ((refl, refl, omega arith), tt)
minus_clear false = tt

nan_clear : Clear (codes "nan")
nan_clear = ((refl, refl, omega arith), ((refl, refl, omega arith), ((refl, refl, omega arith), tt)))

inf_clear : Clear (codes "inf")
inf_clear = ((refl, refl, omega arith), ((refl, refl, omega arith), ((refl, refl, omega arith), tt)))

value_clear : (x : Float) (v : Value) → is_some (value_text x v) ≡ true → Clear (unwrap_or (value_text x v) (bits_text x))
value_clear x nan h = nan_clear
value_clear x (inf s) h = clear_behind (sign_text s) (codes "inf") (minus_clear s) inf_clear
value_clear x (fin s m e) h = go (scale_of x s (m * up e) (down e)) refl h where
  go : (o : Option ℕ) → scale_of x s (m * up e) (down e) ≡ o → is_some (option_map (fraction_text s (m * up e) (down e)) o) ≡ true
      → Clear (unwrap_or (option_map (fraction_text s (m * up e) (down e)) o) (bits_text x))
  go None scale h = cc
  go (Some k) scale h =
      let n = units_of (m * up e) (down e) k in
      clear_behind (sign_text s) (decimal_text (pos n) k) (minus_clear s) (decimal_clear (pos n) k (few x s (m * up e) (down e) k scale))

float_clear : (x : Float) → has_value_text x ≡ true → Clear (float_text x)
unfolding float_text
float_clear x h = value_clear x (value_of x) h

-- such a text isn't one of bits
no_bits : (bs : List ℕ) → Clear bs → starts_with nat_eq bs (codes "0x") ≡ false
no_bits [] h = refl
no_bits (b ∷ []) h = and-false (nat_eq 48 b)
no_bits (b ∷ c ∷ bs) h = let other : nat_eq 120 c ≡ false = ne_eqb 120 c (λ e. absurd (omega (arith, h.1.0.2))) in ap (λ t. nat_eq 48 b && (t && true)) other ∙ and-false (nat_eq 48 b)

-- ---- what is read of it

-- a text before the type
abbrev read_as : FloatType → List ℕ → List ℕ
read_as f t = (between_quotes 34 t ++ (codes "::" ++ float_type_text f)) ++ codes " "

-- an engine's type of floating-point numbers is read, and so is a text that is cast to it, if it isn't one of bits
abbrev TypeIsRead : Dialect → FloatType → Type 0
TypeIsRead d f = option_map type_source (type_at d (sql_tokens d 0 (float_word d f)) 0) ≡ Some (float_type_text f)

abbrev CastIsRead : Dialect → FloatType → Type 0
CastIsRead d f = (t : List ℕ) → starts_with nat_eq t (codes "0x") ≡ false → written d at_start 0 (cast_begin d t (sql_tokens d 0 (float_word d f ++ codes ")"))) ≡ Ok (read_as f t)

-- what is written of the literal that a cast to the type is, by whether the text is one of bits
abbrev literal_of : CastType → List ℕ → Bool → Option (List ℕ)
literal_of c t bits = if not bits then Some (text_of c t) else None

abbrev cast_written : Dialect → FloatType → CastType → List ℕ → Bool → Result (List ℕ) Unread
cast_written d f c t bits = let tokens = drop 1 (cast_begin d t (sql_tokens d 0 (float_word d f ++ codes ")"))) in behind d at_start tokens (cast_said d tokens (with_len (4 + type_len c) (literal_of c t bits)))

both_read : (d : Dialect) (f : FloatType) → has_floats d ≡ true → TypeIsRead d f × CastIsRead d f
both_read Postgres F32 has = (refl, λ t e. ap (cast_written Postgres F32 (named (codes "f32")) t) e)
both_read Postgres F64 has = (refl, λ t e. ap (cast_written Postgres F64 double_precision t) e)
both_read Sqlite f has = cc
both_read DuckDb F32 has = (refl, λ t e. ap (cast_written DuckDb F32 (named (codes "f32")) t) e)
both_read DuckDb F64 has = (refl, λ t e. ap (cast_written DuckDb F64 (named (codes "f64")) t) e)
both_read Spark F32 has = (refl, λ t e. ap (cast_written Spark F32 (named (codes "f32")) t) e)
both_read Spark F64 has = (refl, λ t e. ap (cast_written Spark F64 (named (codes "f64")) t) e)
both_read ClickHouse f has = cc

pub float_types_read : WrittenFloatTypesAreRead
float_types_read d f has = (both_read d f has).0

pub floats_read_back : WrittenFloatsAreRead
floats_read_back d x has some =
    let clear = float_clear x some in
    ap (written d at_start 0) (begin_goes d (float_text x) (float_word d (format_of x) ++ codes ")") clear)
    ∙ (both_read d (format_of x) has).1 (float_text x) (no_bits (float_text x) clear)
