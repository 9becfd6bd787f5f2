-- What names, numbers, bytes, casts and calls of SQL are written as.
use Rattle.std.specs.Prelude.{ℕ, ◌+◌, ◌-◌, ◌||◌, ◌&&◌, ◌==◌, Bool, true, false, not, nat_eq, List, [], ◌∷◌, ◌++◌, length, Option, Some, None, Ok, Err, if◌then◌else◌, codes}
use Rattle.std.specs.Fmt.{decimal}
use Rattle.std.specs.List.{list_all, starts_with}
use Rattle.vx_source_types.specs.Characters.{is_word}
use Rattle.vx_source_types.specs.Names.{same_word}
use Rattle.vx_dtype.specs.Quotes.{between_quotes}
use Rattle.vx_source_types.specs.Tokens.{Lexeme, word, quoted, number, point, text}
use Rattle.vx_sql.specs.declared.dialect.Dialect.{Dialect}
use Rattle.vx_sql.specs.declared.dialect.Dialect.TheVariants.{Postgres, Sqlite, DuckDb, Spark, ClickHouse}
use Rattle.vx_sql.specs.Dialects.{has_days, has_decimals, has_floats}
use Rattle.vx_sql_parser.specs.declared.reason.Unread.TheVariants.{Number as NoNumber, Hexadecimal, Function, TypedText, Table, CastType as NoType}
use Rattle.vx_sql_parser.specs.declared.step.Bracket.TheVariants.{Paren, Fill, Lower, Translate, Divided}
use Rattle.vx_sql_parser.specs.declared.step.Change.TheVariants.{Stays, Opens}
use Rattle.vx_sql_parser.specs.SqlTokens.{SqlLexeme}
use Rattle.vx_sql_parser.specs.Words.{is_one_of, is_truth}
use Rattle.vx_sql_parser.specs.CastTypes.{CastType, named, double_precision, decimals, instants, instants_named, type_source, type_len, type_at}
use Rattle.vx_sql_parser.specs.Patterns.{as_text, behind}
use Rattle.vx_sql_parser.specs.Steps.{is_kept, Answer, says}
use Rattle.vx_sql_parser.specs.Lengths.{counts_bytes, length_begins}
use Rattle.vx_sql_parser.specs.Ahead.{lexeme_at, opens, closes, is_dot, sign_at, word_at, text_at, is_this, is_word_at}

-- ---- names, numbers and bytes

-- a name, behind which no other stands
abbrev pub name_rule : List ℕ → List SqlLexeme → Answer
name_rule a xs = if is_dot (sign_at xs 0) then Err Table else says (between_quotes 96 a) Stays 0

-- a number, with no point behind it
abbrev pub sign_source : Bool → List ℕ
sign_source negative = if negative then codes "-" else []

abbrev pub number_source : Bool → ℕ → List ℕ
number_source negative n = sign_source negative ++ decimal n

abbrev pub number_rule : Bool → ℕ → List SqlLexeme → Answer
number_rule negative n xs = if is_dot (sign_at xs 0) then Err NoNumber else says (number_source negative n) Stays 0

-- a number with a point or an exponent: without decimals the engine has no such number but one of 64 bits
abbrev pub point_source : Dialect → List ℕ → List ℕ
point_source d s = if has_decimals d then s else s ++ codes "::f64"

-- the same, with no other point behind it
abbrev pub point_rule : Dialect → List ℕ → List SqlLexeme → Answer
point_rule d s xs = if is_dot (sign_at xs 0) then Err NoNumber else says (point_source d s) Stays 0

-- bytes by the digits that stand for them, which take so many tokens
abbrev pub octets_said : ℕ → Option (List ℕ) → Answer
octets_said n None = Err Hexadecimal
octets_said n (Some digits) = if list_all is_word digits then says (codes "0x" ++ digits) Stays n else Err Hexadecimal

-- whether `X` before a text says that bytes are spelled by it
abbrev pub has_octets : Dialect → Bool
has_octets Postgres = false
has_octets Sqlite = true
has_octets DuckDb = false
has_octets Spark = true
has_octets ClickHouse = false

-- the text of an instant: that of a day alone, which has ten bytes, is its midnight
abbrev pub instant_said : List ℕ → List ℕ
instant_said s = if length s == 10 then s ++ codes "T00:00:00" else s

abbrev pub value_said : CastType → List ℕ → List ℕ
value_said (named t) s = s
value_said double_precision s = s
value_said (decimals p k) s = s
value_said (instants u zoned sized) s = instant_said s

-- a text before its type
abbrev pub text_of : CastType → List ℕ → List ℕ
text_of t s = between_quotes 34 (value_said t s) ++ (codes "::" ++ type_source t)

abbrev pub days : CastType
days = named (codes "date")

-- the text at the front as one of that type, if there is one
abbrev pub text_said : Option CastType → Option (List ℕ) → Answer
text_said (Some t) (Some s) = says (text_of t s) Stays 1
text_said _ _ = Err TypedText

-- a word before a text
abbrev pub typed_text : Dialect → List ℕ → List SqlLexeme → Answer
typed_text d w xs =
    if has_octets d && same_word w (codes "x") then octets_said 1 (text_at xs 0) else (
    if has_days d && same_word w (codes "date") then text_said (Some days) (text_at xs 0) else text_said (instants_named d w) (text_at xs 0))

-- a collation, which isn't written where it is the one of bytes
abbrev pub is_bytes_order : Option Lexeme → Bool
is_bytes_order (Some (quoted a)) = same_word a (codes "C")
is_bytes_order (Some (word a)) = is_one_of (codes "binary" ∷ codes "utf8_binary" ∷ []) a
is_bytes_order _ = false

-- ---- casts

-- whether the type is that of a name
abbrev pub is_called : List ℕ → CastType → Bool
is_called a (named t) = same_word t a
is_called a double_precision = false
is_called a (decimals p s) = false
is_called a (instants u zoned sized) = false

-- what says the type of a number: nothing in SQLite, which has one type for all
abbrev pub is_of_all : Dialect → CastType → Bool
is_of_all Sqlite t = is_called (codes "i64") t
is_of_all d t = false

abbrev pub number_type : Dialect → CastType → List ℕ
number_type d t = if is_of_all d t then [] else codes "::" ++ type_source t

-- whether values of the type are days or instants
abbrev pub is_dated : CastType → Bool
is_dated (named t) = same_word t (codes "date")
is_dated double_precision = false
is_dated (decimals p s) = false
is_dated (instants u zoned sized) = true

-- a number of a type, of which none is a day or an instant
abbrev pub typed_number : Dialect → List ℕ → ℕ → CastType → Option (List ℕ)
typed_number d minus n t = if is_dated t then None else Some (minus ++ (decimal n ++ number_type d t))

-- a null of a type
abbrev pub typed_null : CastType → List ℕ
typed_null t = codes "null::" ++ (type_source t ++ codes "?")

-- DuckDB's bytes, each spelled by `\x` and two digits
abbrev pub escape_digits : List ℕ → Option (List ℕ)
escape_digits [] = Some []
escape_digits (a ∷ b ∷ c ∷ d ∷ bs) = if (a == 92 && b == 120) && (is_word c && is_word d) then behind (c ∷ d ∷ []) (escape_digits bs) else None
escape_digits _ = None

-- the digits of the first byte, if there are, before those of what follows
abbrev pub escaped_digits : Option (ℕ × ℕ × List ℕ) → Option (List ℕ)
escaped_digits None = None
escaped_digits (Some (high, low, bs)) = behind (high ∷ low ∷ []) (escape_digits bs)

abbrev pub digits_said : Option (List ℕ) → Option (List ℕ)
digits_said digits = as_text (behind (codes "0x") digits)

abbrev pub is_bytes_type : Dialect → CastType → Bool
is_bytes_type DuckDb t = is_called (codes "binary") t
is_bytes_type d t = false

-- whether values of the type have points: decimals and floating-point numbers
abbrev pub has_points : CastType → Bool
has_points (named t) = is_one_of (codes "f32" ∷ codes "f64" ∷ []) t
has_points double_precision = true
has_points (decimals p s) = true
has_points (instants u zoned sized) = false

-- whether a text may be that of a floating-point number: in an engine that has ours, and not by hexadecimal digits, which source text takes for bits
abbrev pub is_float_text : Dialect → List ℕ → Bool
is_float_text d s = has_floats d && not (starts_with nat_eq s (codes "0x"))

-- whether the text is written before the type: that of a day, an instant, a decimal or a floating-point number
abbrev pub is_typed : Dialect → List ℕ → CastType → Bool
is_typed d s (named t) = same_word t (codes "date") || (has_points (named t) && is_float_text d s)
is_typed d s double_precision = is_float_text d s
is_typed d s (decimals p k) = true
is_typed d s (instants u zoned sized) = true

-- a text as one of that type
abbrev pub text_literal : Dialect → List ℕ → CastType → Option (List ℕ)
text_literal d s t = if is_bytes_type d t then digits_said (escape_digits s) else (if is_typed d s t then Some (text_of t s) else None)

-- a number with a point or an exponent as one of that type
abbrev pub point_literal : List ℕ → CastType → Option (List ℕ)
point_literal s t = if has_points t then Some (s ++ (codes "::" ++ type_source t)) else None

-- the literal that a token is as one of that type
abbrev pub typed_literal : Dialect → Option Lexeme → CastType → Option (List ℕ)
typed_literal d (Some (number negative (Some n) s)) t = typed_number d (sign_source negative) n t
typed_literal d (Some (point s)) t = point_literal s t
typed_literal d (Some (word a)) t = if same_word a (codes "null") then Some (typed_null t) else None
typed_literal d (Some (text s)) t = text_literal d s t
typed_literal d _ t = None

-- a literal that a cast is, and how many tokens it takes from its bracket on
abbrev pub Cast : Type 0
Cast = List ℕ × ℕ

abbrev pub with_len : ℕ → Option (List ℕ) → Option Cast
with_len n None = None
with_len n (Some t) = Some (t, n)

-- the same of a type that was read or not, and behind which the bracket closes
abbrev pub cast_to : Dialect → List SqlLexeme → ℕ → Option CastType → Option Cast
cast_to d xs i None = None
cast_to d xs i (Some t) = if closes (sign_at xs (i + 3 + type_len t)) then with_len (4 + type_len t) (typed_literal d (lexeme_at xs (i + 1)) t) else None

-- the literal that a cast is whose bracket is at that place
abbrev pub literal_cast : Dialect → List SqlLexeme → ℕ → Option Cast
literal_cast d xs i = if is_word_at xs (i + 2) (codes "as") then cast_to d xs i (type_at d xs (i + 3)) else None

-- a literal, or a bracket around what is cast or counted
abbrev pub cast_said : Dialect → List SqlLexeme → Option Cast → Answer
cast_said d xs (Some (t, n)) = says t Stays n
cast_said d xs None = if counts_bytes d (codes "cast") xs then length_begins else says (codes "cast(") (Opens Paren) 1

-- the type behind `as`, which lets nulls be
abbrev pub as_said : Option CastType → Answer
as_said (Some t) = says (codes "as " ++ (type_source t ++ codes "?")) Stays (type_len t)
as_said None = Err NoType

-- ---- calls

-- `('..', 'hex')` behind PostgreSQL's `decode`
abbrev pub is_hex_call : List SqlLexeme → Bool
is_hex_call xs = is_this (codes "hex") (text_at xs 3) && closes (sign_at xs 4)

abbrev pub decode_rule : Dialect → List SqlLexeme → Answer
decode_rule Postgres xs = if is_hex_call xs then octets_said 5 (text_at xs 1) else Err Function
decode_rule d xs = Err Function

-- `('..')` behind ClickHouse's `unhex`
abbrev pub unhex_rule : Dialect → List SqlLexeme → Answer
unhex_rule ClickHouse xs = if closes (sign_at xs 2) then octets_said 3 (text_at xs 1) else Err Function
unhex_rule d xs = Err Function

-- the functions that ignore the case of ASCII letters, before a match, DuckDB's that counts the bytes of a text, and ClickHouse's that divides
-- whole numbers
abbrev pub other_call : Dialect → List ℕ → Answer
other_call Postgres w = if same_word w (codes "lower") then says (codes "(") (Opens Lower) 1 else Err Function
other_call Sqlite w = Err Function
other_call DuckDb w =
    if same_word w (codes "translate") then says (codes "(") (Opens Translate) 1 else (
    if same_word w (codes "strlen") then says (codes "byte_length(") (Opens Paren) 1 else Err Function)
other_call Spark w = if same_word w (codes "translate") then says (codes "(") (Opens Translate) 1 else Err Function
other_call ClickHouse w =
    if same_word w (codes "lower") then says (codes "(") (Opens Lower) 1 else (
    if same_word w (codes "intdiv") then says (codes "((") (Opens Divided) 1 else Err Function)

abbrev pub call_rule : Dialect → List ℕ → List SqlLexeme → Answer
call_rule d w xs =
    if same_word w (codes "cast") then cast_said d xs (literal_cast d xs 0) else (
    if same_word w (codes "coalesce") then says (codes "coalesce(") (Opens Fill) 1 else (
    if same_word w (codes "decode") then decode_rule d xs else (
    if same_word w (codes "unhex") then unhex_rule d xs else (
    if counts_bytes d w xs then length_begins else other_call d w))))

-- a call, or a word before a text
abbrev pub valued_rule : Dialect → List ℕ → List SqlLexeme → Answer
valued_rule d w xs = if opens (sign_at xs 0) then call_rule d w xs else typed_text d w xs

-- whether the token is a literal by itself
abbrev pub is_value : SqlLexeme → Bool
is_value (Ok (text s)) = true
is_value (Ok (number negative m s)) = true
is_value (Ok (point s)) = true
is_value (Ok (word a)) = is_truth a
is_value _ = false

-- whether what is said of a word is a literal, no bracket, and then a bracket closes
abbrev pub ends_value : Answer → List SqlLexeme → Bool
ends_value (Ok said) xs = is_kept said.change && closes (sign_at xs said.more)
ends_value (Err r) xs = false

-- whether the word begins a literal, and then a bracket closes
abbrev pub is_valued : Dialect → SqlLexeme → List SqlLexeme → Bool
is_valued d (Ok (word w)) xs = ends_value (valued_rule d w xs) xs
is_valued d x xs = false

-- whether a literal stands at the front and then a closing bracket
abbrev pub is_fill : Dialect → List SqlLexeme → Bool
is_fill d [] = false
is_fill d (x ∷ xs) = (is_value x && closes (sign_at xs 0)) || is_valued d x xs
