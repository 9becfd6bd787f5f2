-- What the engines call their types, and how they are told to compare texts.
use Rattle.std.specs.Prelude.{ℕ, Bool, true, false, List, [], ◌++◌, Option, Some, None, codes}
use Rattle.std.specs.Option.{is_some}
use Rattle.std.specs.Fmt.{decimal}
use Rattle.vx_dtype.specs.declared.dtype.PType.{PType}
use Rattle.vx_dtype.specs.declared.dtype.PType.TheVariants.{U8, U16, U32, U64, I8, I16, I32, I64}
use Rattle.vx_dtype.specs.declared.float_type.FloatType.{FloatType}
use Rattle.vx_dtype.specs.declared.float_type.FloatType.TheVariants.{F32, F64}
use Rattle.vx_dtype.specs.declared.timestamp_type.TimeUnit.{TimeUnit}
use Rattle.vx_dtype.specs.declared.timestamp_type.TimeUnit.TheVariants.{Seconds, Milliseconds, Microseconds, Nanoseconds}
use Rattle.vx_value.specs.Types.{Name, Atomic, truth, number, floating, decimals, date, timestamp, text, octets, LogicalType, ty, atomic, list, fixed, struct}
use Rattle.vx_sql.specs.declared.dialect.Dialect.{Dialect}
use Rattle.vx_sql.specs.declared.dialect.Dialect.TheVariants.{Postgres, Sqlite, DuckDb, Spark, ClickHouse}

-- PostgreSQL's narrowest type that has all numbers of that type
abbrev pub postgres_word : PType → List ℕ
postgres_word U8 = codes "smallint"
postgres_word U16 = codes "integer"
postgres_word U32 = codes "bigint"
postgres_word U64 = codes "numeric"
postgres_word I8 = codes "smallint"
postgres_word I16 = codes "smallint"
postgres_word I32 = codes "integer"
postgres_word I64 = codes "bigint"

-- DuckDB's type of the same numbers
abbrev pub duckdb_word : PType → List ℕ
duckdb_word U8 = codes "UTINYINT"
duckdb_word U16 = codes "USMALLINT"
duckdb_word U32 = codes "UINTEGER"
duckdb_word U64 = codes "UBIGINT"
duckdb_word I8 = codes "TINYINT"
duckdb_word I16 = codes "SMALLINT"
duckdb_word I32 = codes "INTEGER"
duckdb_word I64 = codes "BIGINT"

-- Spark's narrowest type that has all numbers of that type
abbrev pub spark_word : PType → List ℕ
spark_word U8 = codes "SMALLINT"
spark_word U16 = codes "INT"
spark_word U32 = codes "BIGINT"
spark_word U64 = codes "DECIMAL(20,0)"
spark_word I8 = codes "TINYINT"
spark_word I16 = codes "SMALLINT"
spark_word I32 = codes "INT"
spark_word I64 = codes "BIGINT"

-- ClickHouse's type of the same numbers
abbrev pub clickhouse_word : PType → List ℕ
clickhouse_word U8 = codes "UInt8"
clickhouse_word U16 = codes "UInt16"
clickhouse_word U32 = codes "UInt32"
clickhouse_word U64 = codes "UInt64"
clickhouse_word I8 = codes "Int8"
clickhouse_word I16 = codes "Int16"
clickhouse_word I32 = codes "Int32"
clickhouse_word I64 = codes "Int64"

-- the engine's number type, which in SQLite is one for all
abbrev pub number_word : Dialect → PType → List ℕ
number_word Postgres p = postgres_word p
number_word Sqlite p = codes "INTEGER"
number_word DuckDb p = duckdb_word p
number_word Spark p = spark_word p
number_word ClickHouse p = clickhouse_word p

-- the engine's type of truth values, of texts, and of bytes
abbrev pub truth_word : Dialect → List ℕ
truth_word Postgres = codes "boolean"
truth_word Sqlite = codes "INTEGER"
truth_word DuckDb = codes "BOOLEAN"
truth_word Spark = codes "BOOLEAN"
truth_word ClickHouse = codes "UInt8"

abbrev pub text_word : Dialect → List ℕ
text_word Postgres = codes "text"
text_word Sqlite = codes "TEXT"
text_word DuckDb = codes "VARCHAR"
text_word Spark = codes "STRING"
text_word ClickHouse = codes "String"

abbrev pub octets_word : Dialect → List ℕ
octets_word Postgres = codes "bytea"
octets_word Sqlite = codes "BLOB"
octets_word DuckDb = codes "BLOB"
octets_word Spark = codes "BINARY"
octets_word ClickHouse = codes "String"

-- the engine's type of floating-point numbers of that format; none where it orders them otherwise
abbrev pub float_word : Dialect → FloatType → List ℕ
float_word Postgres F32 = codes "real"
float_word Postgres F64 = codes "double precision"
float_word Sqlite f = []
float_word DuckDb F32 = codes "FLOAT"
float_word DuckDb F64 = codes "DOUBLE"
float_word Spark F32 = codes "FLOAT"
float_word Spark F64 = codes "DOUBLE"
float_word ClickHouse f = []

-- the engine's type of days, and of decimals with so many digits, so many of them behind the point; none where it hasn't ours
abbrev pub date_word : Dialect → List ℕ
date_word Postgres = codes "date"
date_word Sqlite = []
date_word DuckDb = codes "DATE"
date_word Spark = codes "DATE"
date_word ClickHouse = []

abbrev pub decimal_word : Dialect → List ℕ
decimal_word Postgres = codes "numeric"
decimal_word Sqlite = []
decimal_word DuckDb = codes "DECIMAL"
decimal_word Spark = codes "DECIMAL"
decimal_word ClickHouse = []

abbrev pub decimal_type : Dialect → ℕ → ℕ → List ℕ
decimal_type d p s = decimal_word d ++ (codes "(" ++ (decimal p ++ (codes ", " ++ (decimal s ++ codes ")"))))

-- the engine's type of instants without a zone, and of those with one, if it has them in that unit
abbrev pub clock_word : Dialect → TimeUnit → Option (List ℕ)
clock_word Postgres Seconds = Some (codes "timestamp(0)")
clock_word Postgres Milliseconds = Some (codes "timestamp(3)")
clock_word Postgres Microseconds = Some (codes "timestamp(6)")
clock_word Postgres Nanoseconds = None
clock_word Sqlite u = None
clock_word DuckDb Seconds = Some (codes "TIMESTAMP_S")
clock_word DuckDb Milliseconds = Some (codes "TIMESTAMP_MS")
clock_word DuckDb Microseconds = Some (codes "TIMESTAMP")
clock_word DuckDb Nanoseconds = Some (codes "TIMESTAMP_NS")
clock_word Spark Seconds = None
clock_word Spark Milliseconds = None
clock_word Spark Microseconds = Some (codes "TIMESTAMP_NTZ")
clock_word Spark Nanoseconds = None
clock_word ClickHouse u = None

abbrev pub zoned_word : Dialect → TimeUnit → Option (List ℕ)
zoned_word Postgres Seconds = Some (codes "timestamptz(0)")
zoned_word Postgres Milliseconds = Some (codes "timestamptz(3)")
zoned_word Postgres Microseconds = Some (codes "timestamptz(6)")
zoned_word Postgres Nanoseconds = None
zoned_word Sqlite u = None
zoned_word DuckDb Seconds = None
zoned_word DuckDb Milliseconds = None
zoned_word DuckDb Microseconds = Some (codes "TIMESTAMPTZ")
zoned_word DuckDb Nanoseconds = None
zoned_word Spark Seconds = None
zoned_word Spark Milliseconds = None
zoned_word Spark Microseconds = Some (codes "TIMESTAMP_LTZ")
zoned_word Spark Nanoseconds = None
zoned_word ClickHouse u = None

-- the same of instants in that zone, whatever its name, or in none
abbrev pub instant_word : Dialect → TimeUnit → Option Name → Option (List ℕ)
instant_word d u None = clock_word d u
instant_word d u (Some z) = zoned_word d u

-- the word, if there is one
abbrev pub or_nothing : Option (List ℕ) → List ℕ
or_nothing None = []
or_nothing (Some w) = w

abbrev pub instant_type : Dialect → TimeUnit → Option Name → List ℕ
instant_type d u z = or_nothing (instant_word d u z)

-- the engine's type of such values: none of lists and structs
abbrev pub type_word : Dialect → LogicalType → List ℕ
type_word d (ty (atomic truth) n) = truth_word d
type_word d (ty (atomic (number p)) n) = number_word d p
type_word d (ty (atomic (floating f)) n) = float_word d f
type_word d (ty (atomic (decimals p s)) n) = decimal_type d p s
type_word d (ty (atomic date) n) = date_word d
type_word d (ty (atomic (timestamp u z)) n) = instant_type d u z
type_word d (ty (atomic text) n) = text_word d
type_word d (ty (atomic octets) n) = octets_word d
type_word d (ty (list t) n) = []
type_word d (ty (fixed t k) n) = []
type_word d (ty (struct fs) n) = []

-- the text as one of that type
abbrev pub cast_text : List ℕ → List ℕ → List ℕ
cast_text c word = codes "CAST(" ++ (c ++ (codes " AS " ++ (word ++ codes ")")))

-- what makes the engine compare texts by their bytes, if it has to be told
abbrev pub collation : Dialect → List ℕ
collation Postgres = codes " COLLATE \"C\""
collation Sqlite = codes " COLLATE BINARY"
collation DuckDb = []
collation Spark = []
collation ClickHouse = []

-- whether the engine has all numbers of the type: SQLite has none from 2 ^ 63 on
abbrev pub has_numbers : Dialect → PType → Bool
has_numbers Postgres p = true
has_numbers Sqlite U64 = false
has_numbers Sqlite p = true
has_numbers DuckDb p = true
has_numbers Spark p = true
has_numbers ClickHouse p = true

-- whether the engine's floating-point numbers are ours, but that it takes -0 and 0 for one: SQLite has no NaN, and in ClickHouse none is equal to
-- another
abbrev pub has_floats : Dialect → Bool
has_floats Postgres = true
has_floats Sqlite = false
has_floats DuckDb = true
has_floats Spark = true
has_floats ClickHouse = false

-- whether the engine's days and decimals are ours: SQLite has neither, and ClickHouse fewer days, and decimals by a setting
abbrev pub has_days : Dialect → Bool
has_days Postgres = true
has_days Sqlite = false
has_days DuckDb = true
has_days Spark = true
has_days ClickHouse = false

abbrev pub has_decimals : Dialect → Bool
has_decimals Postgres = true
has_decimals Sqlite = false
has_decimals DuckDb = true
has_decimals Spark = true
has_decimals ClickHouse = false

-- whether the engine has such values as ours
abbrev pub has_atomic : Dialect → Atomic → Bool
has_atomic d truth = true
has_atomic d (number p) = has_numbers d p
has_atomic d (floating f) = has_floats d
has_atomic d (decimals p s) = has_decimals d
has_atomic d date = has_days d
has_atomic d (timestamp u z) = is_some (instant_word d u z)
has_atomic d text = true
has_atomic d octets = true

-- whether the engine has lists and structs: SQLite has none, and ClickHouse none that may be null
abbrev pub has_parts : Dialect → Bool
has_parts Postgres = true
has_parts Sqlite = false
has_parts DuckDb = true
has_parts Spark = true
has_parts ClickHouse = false

-- whether the engine has values of the type; what the parts of lists and structs are is asked where they are taken out
abbrev pub has_type : Dialect → LogicalType → Bool
has_type d (ty (atomic p) n) = has_atomic d p
has_type d (ty (list t) n) = has_parts d
has_type d (ty (fixed t k) n) = has_parts d
has_type d (ty (struct fs) n) = has_parts d

-- whether the engine makes structs of values
abbrev pub makes_structs : Dialect → Bool
makes_structs Postgres = false
makes_structs Sqlite = false
makes_structs DuckDb = true
makes_structs Spark = true
makes_structs ClickHouse = false
