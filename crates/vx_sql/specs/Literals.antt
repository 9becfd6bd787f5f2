-- Literals.
use Rattle.std.specs.Prelude.{ℕ, Bool, true, false, ℤ, pos, negsuc, List, [], ◌∷◌, ◌++◌, Option, codes, if◌then◌else◌}
use Rattle.std.specs.Fmt.{decimal, signed_decimal}
use Rattle.std.specs.List.{flat_map}
use Rattle.vx_dtype.specs.declared.dtype.PType.{PType}
use Rattle.vx_dtype.specs.declared.dtype.PType.TheVariants.{I32}
use Rattle.vx_dtype.specs.declared.float_type.FloatType.{FloatType}
use Rattle.vx_dtype.specs.declared.timestamp_type.TimeUnit.{TimeUnit}
use Rattle.vx_value.specs.Types.{Name, number, floating, decimals, date, timestamp, LogicalType, ty, atomic, Datum, null, bool, int, float, utf8, bytes, list_of, struct_of, Data, no_datum, datum}
use Rattle.vx_floats.specs.declared.float.Float.{Float}
use Rattle.vx_floats.specs.Texts.{float_text}
use Rattle.vx_literals.specs.Days.{day_text}
use Rattle.vx_literals.specs.Decimals.{decimal_text}
use Rattle.vx_literals.specs.Instants.{instant_text}
use Rattle.vx_value.specs.ValueTexts.{hex_byte}
use Rattle.vx_sql.specs.declared.dialect.Dialect.{Dialect}
use Rattle.vx_sql.specs.declared.dialect.Dialect.TheVariants.{Postgres, Sqlite, DuckDb, Spark, ClickHouse}
use Rattle.vx_sql.specs.Dialects.{type_word, number_word, float_word, decimal_type, instant_type, cast_text}
use Rattle.vx_sql.specs.Quotes.{text_sql}

-- the word of a truth value
abbrev pub truth_sql : Dialect → Bool → List ℕ
truth_sql Postgres true = codes "TRUE"
truth_sql Postgres false = codes "FALSE"
truth_sql Sqlite true = codes "1"
truth_sql Sqlite false = codes "0"
truth_sql DuckDb true = codes "TRUE"
truth_sql DuckDb false = codes "FALSE"
truth_sql Spark true = codes "TRUE"
truth_sql Spark false = codes "FALSE"
truth_sql ClickHouse true = codes "1"
truth_sql ClickHouse false = codes "0"

abbrev pub is_i32 : PType → Bool
is_i32 I32 = true
is_i32 _ = false

-- whether the digits alone are a number of that type: all are of SQLite's, and else those of an `i32`
abbrev pub is_by_itself : Dialect → PType → Bool
is_by_itself Postgres p = is_i32 p
is_by_itself Sqlite p = true
is_by_itself DuckDb p = is_i32 p
is_by_itself Spark p = is_i32 p
is_by_itself ClickHouse p = is_i32 p

-- the number as one of the engine's type, which arithmetic relies on
abbrev pub natural_sql : Dialect → PType → ℕ → List ℕ
natural_sql d p n = if is_by_itself d p then decimal n else cast_text (decimal n) (number_word d p)

-- the same of one that may be below zero, whose sign would be read with what stands before it
abbrev pub number_sql : Dialect → PType → ℤ → List ℕ
number_sql d p (pos n) = natural_sql d p n
number_sql d p (negsuc n) = cast_text (signed_decimal (negsuc n)) (number_word d p)

-- a floating-point number as one of the engine's type of that format, by its text
abbrev pub float_sql : Dialect → FloatType → Float → List ℕ
float_sql d f x = codes "CAST('" ++ (float_text x ++ (codes "' AS " ++ (float_word d f ++ codes ")")))

-- a decimal as one of the engine's type, by its digits
abbrev pub decimal_sql : Dialect → ℕ → ℕ → ℤ → List ℕ
decimal_sql d p s i = codes "CAST('" ++ (decimal_text i s ++ (codes "' AS " ++ (decimal_type d p s ++ codes ")")))

-- a day of the years 1 to 9999
abbrev pub day_sql : ℤ → List ℕ
day_sql i = codes "DATE '" ++ (day_text i ++ codes "'")

-- an instant of these years as one of the engine's type, by its text
abbrev pub instant_sql : Dialect → TimeUnit → Option Name → ℤ → List ℕ
instant_sql d u z i = codes "CAST('" ++ (instant_text u z i ++ (codes "' AS " ++ (instant_type d u z ++ codes ")")))

-- a byte by its two digits behind a backslash
abbrev pub byte_escape : ℕ → List ℕ
byte_escape b = codes "\\x" ++ hex_byte b

-- bytes by their digits behind an `X`
abbrev pub digits_sql : List ℕ → List ℕ
digits_sql bs = codes "X'" ++ (flat_map hex_byte bs ++ codes "'")

-- bytes, by their digits
abbrev pub octets_sql : Dialect → List ℕ → List ℕ
octets_sql Postgres bs = codes "decode('" ++ (flat_map hex_byte bs ++ codes "', 'hex')")
octets_sql Sqlite bs = digits_sql bs
octets_sql DuckDb bs = codes "CAST('" ++ (flat_map byte_escape bs ++ codes "' AS BLOB)")
octets_sql Spark bs = digits_sql bs
octets_sql ClickHouse bs = codes "unhex('" ++ (flat_map hex_byte bs ++ codes "')")

-- a null of that type, which ClickHouse has to be told that it may be null
abbrev pub null_sql : Dialect → LogicalType → List ℕ
null_sql Postgres t = cast_text (codes "NULL") (type_word Postgres t)
null_sql Sqlite t = cast_text (codes "NULL") (type_word Sqlite t)
null_sql DuckDb t = cast_text (codes "NULL") (type_word DuckDb t)
null_sql Spark t = cast_text (codes "NULL") (type_word Spark t)
null_sql ClickHouse t = codes "CAST(NULL AS Nullable(" ++ (type_word ClickHouse t ++ codes "))")

-- a value of that type, none of a list or a struct
abbrev pub literal_sql : Dialect → Datum → LogicalType → List ℕ
literal_sql d null t = null_sql d t
literal_sql d (bool b) t = truth_sql d b
literal_sql d (int i) (ty (atomic (number p)) n) = number_sql d p i
literal_sql d (int i) (ty (atomic (decimals p s)) n) = decimal_sql d p s i
literal_sql d (int i) (ty (atomic date) n) = day_sql i
literal_sql d (int i) (ty (atomic (timestamp u z)) n) = instant_sql d u z i
literal_sql d (float x) (ty (atomic (floating f)) n) = float_sql d f x
literal_sql d (utf8 s) t = text_sql d s
literal_sql d (bytes bs) t = octets_sql d bs
literal_sql d (int i) t = []
literal_sql d (float x) t = []
literal_sql d (list_of vs) t = []
literal_sql d (struct_of vs) t = []

-- values of that type, one after another
abbrev pub items_sql : Dialect → Data → LogicalType → List (List ℕ)
items_sql d no_datum t = []
items_sql d (datum v vs) t = literal_sql d v t ∷ items_sql d vs t
