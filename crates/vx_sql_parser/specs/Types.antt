-- The engines' words for types.
use Rattle.std.specs.Prelude.{ℕ, List, [], ◌∷◌, Option, Some, None, if◌then◌else◌, codes}
use Rattle.vx_source_types.specs.Names.{same_word}
use Rattle.vx_sql.specs.declared.dialect.Dialect.{Dialect}
use Rattle.vx_sql.specs.declared.dialect.Dialect.TheVariants.{Postgres, Sqlite, DuckDb, Spark, ClickHouse}

-- what the first of these words that is the given one stands for
abbrev pub called : List (List ℕ × List ℕ) → List ℕ → Option (List ℕ)
called [] w = None
called ((word, type) ∷ more) w = if same_word w word then Some type else called more w

-- the types as source text has them: of those of numbers that share a word the one that has all their numbers
abbrev pub type_words : Dialect → List (List ℕ × List ℕ)
type_words Postgres =
    (codes "smallint", codes "i16") ∷ (codes "int2", codes "i16") ∷ (codes "integer", codes "i32") ∷ (codes "int", codes "i32") ∷ (codes "int4", codes "i32") ∷ (codes "bigint", codes "i64") ∷ (codes "int8", codes "i64") ∷ (codes "numeric", codes "u64") ∷ (codes "real", codes "f32") ∷ (codes "float4", codes "f32") ∷ (codes "float", codes "f64") ∷ (codes "float8", codes "f64") ∷ (codes "text", codes "utf8") ∷ (codes "varchar", codes "utf8") ∷ (codes "bytea", codes "binary") ∷ (codes "boolean", codes "bool") ∷ (codes "date", codes "date") ∷ []
type_words Sqlite =
    (codes "integer", codes "i64") ∷ (codes "int", codes "i64") ∷ (codes "real", codes "f64") ∷ (codes "float", codes "f64") ∷ (codes "double", codes "f64") ∷ (codes "text", codes "utf8") ∷ (codes "blob", codes "binary") ∷ (codes "boolean", codes "bool") ∷ []
type_words DuckDb =
    (codes "utinyint", codes "u8") ∷ (codes "usmallint", codes "u16") ∷ (codes "uinteger", codes "u32") ∷ (codes "ubigint", codes "u64") ∷ (codes "tinyint", codes "i8") ∷ (codes "smallint", codes "i16") ∷ (codes "integer", codes "i32") ∷ (codes "int", codes "i32") ∷ (codes "bigint", codes "i64") ∷ (codes "float", codes "f32") ∷ (codes "float4", codes "f32") ∷ (codes "real", codes "f32") ∷ (codes "double", codes "f64") ∷ (codes "float8", codes "f64") ∷ (codes "varchar", codes "utf8") ∷ (codes "text", codes "utf8") ∷ (codes "blob", codes "binary") ∷ (codes "boolean", codes "bool") ∷ (codes "date", codes "date") ∷ []
type_words Spark =
    (codes "tinyint", codes "i8") ∷ (codes "smallint", codes "i16") ∷ (codes "int", codes "i32") ∷ (codes "integer", codes "i32") ∷ (codes "bigint", codes "i64") ∷ (codes "float", codes "f32") ∷ (codes "real", codes "f32") ∷ (codes "double", codes "f64") ∷ (codes "string", codes "utf8") ∷ (codes "binary", codes "binary") ∷ (codes "boolean", codes "bool") ∷ (codes "date", codes "date") ∷ []
type_words ClickHouse =
    (codes "uint8", codes "u8") ∷ (codes "uint16", codes "u16") ∷ (codes "uint32", codes "u32") ∷ (codes "uint64", codes "u64") ∷ (codes "int8", codes "i8") ∷ (codes "int16", codes "i16") ∷ (codes "int32", codes "i32") ∷ (codes "int64", codes "i64") ∷ (codes "float32", codes "f32") ∷ (codes "float64", codes "f64") ∷ (codes "string", codes "utf8") ∷ []

-- the type that a word is
abbrev pub type_named : Dialect → List ℕ → Option (List ℕ)
type_named d w = called (type_words d) w
