-- Arithmetic on whole numbers that fails where the source's faults.
use Rattle.std.specs.Prelude.{ℕ, ℤ, pos, negsuc, Bool, false, List, [], ◌++◌, Option, Some, None, codes, if◌then◌else◌}
use Rattle.vx_dtype.specs.declared.dtype.PType.{PType}
use Rattle.vx_dtype.specs.declared.dtype.PType.TheVariants.{U8, U16, U32, U64, I8, I16, I32, I64}
use Rattle.vx_floats.specs.declared.arithmetic.Arithmetic.{Arithmetic}
use Rattle.vx_floats.specs.declared.arithmetic.Arithmetic.TheVariants.{Sum, Difference, Product, Quotient, Remainder}
use Rattle.vx_value.specs.Types.{is_signed}
use Rattle.vx_fn.specs.Faults.{is_division}
use Rattle.vx_sql.specs.declared.dialect.Dialect.{Dialect}
use Rattle.vx_sql.specs.declared.dialect.Dialect.TheVariants.{Postgres, Sqlite, DuckDb, Spark, ClickHouse}
use Rattle.vx_sql.specs.declared.calculations.Check.{Check}
use Rattle.vx_sql.specs.declared.calculations.Check.TheVariants.{Own, Moved, Floated, MovedFloated, Narrowed, Called, Recast, Thrown}
use Rattle.vx_sql.specs.Dialects.{number_word}
use Rattle.vx_sql.specs.Literals.{number_sql}

-- ---- how an engine is made to refuse what isn't of the type

-- sums and products: in PostgreSQL and Spark, numbers without a sign stand in the next wider type, or in one without an end
abbrev pub wider_check : PType → Check
wider_check U8 = Moved (pos 32512)
wider_check U16 = Moved (pos 2147418112)
wider_check U32 = Moved (pos 9223372032559808512)
wider_check U64 = Narrowed
wider_check I8 = Own
wider_check I16 = Own
wider_check I32 = Own
wider_check I64 = Own

-- differences of such numbers, which leave their type below 0 alone, where the engine's type goes on
abbrev pub lower_check : PType → Check
lower_check U8 = Moved (negsuc 32767)
lower_check U16 = Moved (negsuc 2147483647)
lower_check U32 = Moved (negsuc 9223372036854775807)
lower_check U64 = Narrowed
lower_check I8 = Own
lower_check I16 = Own
lower_check I32 = Own
lower_check I64 = Own

-- PostgreSQL has no type of one byte either, in which the least number by -1 is too great, and divides numbers without an end by a function
abbrev pub postgres_check : Arithmetic → PType → Check
postgres_check Sum I8 = Moved (pos 32640)
postgres_check Sum p = wider_check p
postgres_check Difference I8 = Moved (pos 32640)
postgres_check Difference p = lower_check p
postgres_check Product I8 = Moved (pos 32640)
postgres_check Product p = wider_check p
postgres_check Quotient I8 = Moved (pos 32640)
postgres_check Quotient U64 = Called
postgres_check Quotient p = Own
postgres_check Remainder p = Own

-- SQLite's numbers are those of an `i64`
abbrev pub sqlite_ends : PType → Check
sqlite_ends U8 = MovedFloated (pos 9223372036854775552)
sqlite_ends U16 = MovedFloated (pos 9223372036854710272)
sqlite_ends U32 = MovedFloated (pos 9223372032559808512)
sqlite_ends U64 = Own
sqlite_ends I8 = MovedFloated (pos 9223372036854775680)
sqlite_ends I16 = MovedFloated (pos 9223372036854743040)
sqlite_ends I32 = MovedFloated (pos 9223372034707292160)
sqlite_ends I64 = Floated

-- a difference of numbers without a sign is moved to the least one, and a quotient of such numbers is of the type; so is a remainder
abbrev pub sqlite_check : Arithmetic → PType → Check
sqlite_check Sum p = sqlite_ends p
sqlite_check Difference p = if is_signed p then sqlite_ends p else MovedFloated (negsuc 9223372036854775807)
sqlite_check Product p = sqlite_ends p
sqlite_check Quotient p = if is_signed p then sqlite_ends p else Floated
sqlite_check Remainder p = Floated

-- DuckDB's types have the same numbers, and its quotients and remainders by 0 are null
abbrev pub duckdb_check : Arithmetic → Option Check
duckdb_check Sum = Some Own
duckdb_check Difference = Some Own
duckdb_check Product = Some Own
duckdb_check Quotient = None
duckdb_check Remainder = None

-- Spark's quotients are those of an `i64`, of which others are made again, and none is of numbers from 2 ^ 63 on
abbrev pub spark_check : Arithmetic → PType → Option Check
spark_check Sum p = Some (wider_check p)
spark_check Difference p = Some (lower_check p)
spark_check Product p = Some (wider_check p)
spark_check Quotient U64 = None
spark_check Quotient p = Some Recast
spark_check Remainder p = Some Own

-- how the engine is made to refuse what isn't of the type, if it can be
abbrev pub check_of : Dialect → Arithmetic → PType → Option Check
check_of Postgres a p = Some (postgres_check a p)
check_of Sqlite a p = Some (sqlite_check a p)
check_of DuckDb a p = duckdb_check a
check_of Spark a p = spark_check a p
check_of ClickHouse a p = Some Thrown

-- ---- the texts

-- a result moved so far and back, and where its numbers have a sign as far down
abbrev pub there_sql : Dialect → PType → ℤ → List ℕ
there_sql d p k =
    codes " + " ++ (number_sql d p k ++ (codes " - " ++ (number_sql d p k ++ (if is_signed p then codes " - " ++ number_sql d p k else []))))

-- and then back to where it was
abbrev pub back_sql : Dialect → PType → ℤ → List ℕ
back_sql d p k = if is_signed p then codes " + " ++ number_sql d p k else []

-- the sign of arithmetic
abbrev pub sign_sql : Arithmetic → List ℕ
sign_sql Sum = codes " + "
sign_sql Difference = codes " - "
sign_sql Product = codes " * "
sign_sql Quotient = codes " / "
sign_sql Remainder = codes " % "

-- the quotient of numbers of that type, as a literal alone isn't: 0 by 0, and of the least number by -1
abbrev pub whole_quotient : List ℕ → List ℕ
whole_quotient word = codes "intDivOrZero(to" ++ (word ++ (codes "(a), to" ++ (word ++ codes "(b))")))

-- what a function of two numbers gives, where it doesn't throw
abbrev pub given_sql : Arithmetic → List ℕ → List ℕ
given_sql Sum word = codes "a + b"
given_sql Difference word = codes "a - b"
given_sql Product word = codes "a * b"
given_sql Quotient word = whole_quotient word
given_sql Remainder word = codes "(a - " ++ (whole_quotient word ++ codes " * b) * (b <> -1)")

-- where it throws: a sum that wraps is below a though b isn't below 0, or the other way round; so is a difference above it; a product that wraps is
-- far from that of floats; what is left of a isn't below b; and b is 0. Null where a or b is
abbrev pub thrown_where : Arithmetic → List ℕ → List ℕ
thrown_where Sum word = codes "(b < 0) <> (to" ++ (word ++ codes "(a + b) < a)")
thrown_where Difference word = codes "(b < 0) <> (to" ++ (word ++ codes "(a - b) > a)")
thrown_where Product word = codes "abs(toFloat64(a) * b - to" ++ (word ++ (codes "(a * b)) > abs(to" ++ (word ++ codes "(a * b)) / 2")))
thrown_where Quotient word = codes "abs(a - " ++ (whole_quotient word ++ codes " * b) >= abs(b)")
thrown_where Remainder word = codes "a * 0 = b"

-- that function before the operands, each the only one of an array
abbrev pub thrown_sql : Arithmetic → List ℕ → List ℕ
thrown_sql a word =
    codes "arrayMap((a, b) -> to" ++ (word ++ (codes "(" ++ (given_sql a word ++ (codes " + throwIf(COALESCE(" ++ (thrown_where a word ++ codes ", 0))), [")))))

-- what stands before the operands
abbrev pub before_result : Dialect → Arithmetic → PType → Check → List ℕ
before_result d a p Own = codes "("
before_result d a p (Moved k) = codes "("
before_result d a p Floated = codes "CAST(json(("
before_result d a p (MovedFloated k) = codes "(CAST(json(("
before_result d a p Narrowed = codes "CAST(CAST("
before_result d a p Called = codes "div("
before_result d a p Recast = codes "CAST("
before_result d a p Thrown = thrown_sql a (number_word d p)

-- what stands between them
abbrev pub amid_result : Arithmetic → Check → List ℕ
amid_result a Own = sign_sql a
amid_result a (Moved k) = sign_sql a
amid_result a Floated = sign_sql a
amid_result a (MovedFloated k) = sign_sql a
amid_result a Narrowed = sign_sql a
amid_result a Called = codes ", "
amid_result a Recast = codes " div "
amid_result a Thrown = codes "], ["

-- what stands behind them
abbrev pub behind_result : Dialect → PType → Check → List ℕ
behind_result d p Own = codes ")"
behind_result d p (Moved k) = there_sql d p k ++ (back_sql d p k ++ codes ")")
behind_result d p Floated = codes ") || '.5') AS INTEGER)"
behind_result d p (MovedFloated k) = there_sql d p k ++ (codes ") || '.5') AS INTEGER)" ++ (back_sql d p k ++ codes ")"))
behind_result d p Narrowed =
    codes " - 9223372036854775808 AS " ++ (number_word d I64 ++ (codes ") + 9223372036854775808 AS " ++ (number_word d p ++ codes ")")))
behind_result d p Called = codes ")"
behind_result d p Recast = codes " AS " ++ (number_word d p ++ codes ")")
behind_result d p Thrown = codes "])[1]"

-- whether the engine's results by 0 are null: SQLite's are
abbrev pub forgives_zero : Dialect → Arithmetic → Bool
forgives_zero Postgres a = false
forgives_zero Sqlite a = is_division a
forgives_zero DuckDb a = false
forgives_zero Spark a = false
forgives_zero ClickHouse a = false

-- the second operand. Where results by 0 are null, it is 1.5 in place of 0, by which they are floats
abbrev pub second_sql : Dialect → Arithmetic → List ℕ → List ℕ
second_sql d a b = if forgives_zero d a then codes "CAST(replace(' ' || " ++ (b ++ codes " || ' ', ' 0 ', '1.5') AS NUMERIC)") else b

-- arithmetic on two texts of that number type, by that check
abbrev pub checked_sql : Dialect → Arithmetic → PType → Check → List ℕ → List ℕ → List ℕ
checked_sql d a p c x y = before_result d a p c ++ (x ++ (amid_result a c ++ (second_sql d a y ++ behind_result d p c)))

abbrev pub by_check : Dialect → Arithmetic → PType → Option Check → List ℕ → List ℕ → List ℕ
by_check d a p None x y = []
by_check d a p (Some c) x y = checked_sql d a p c x y

-- arithmetic on two texts of that number type; none where the engine can't be made to refuse
abbrev pub arithmetic_sql : Dialect → Arithmetic → PType → List ℕ → List ℕ → List ℕ
arithmetic_sql d a p x y = by_check d a p (check_of d a p) x y
