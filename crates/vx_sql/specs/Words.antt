-- Words, and names that are taken for words.
use Rattle.std.specs.Prelude.{ℕ, Bool, false, List, [], ◌∷◌, codes}
use Rattle.std.specs.List.{list_any}
use Rattle.vx_dtype.specs.Types.{Name}
use Rattle.vx_source_types.specs.Names.{same_word}
use Rattle.vx_sql.specs.declared.dialect.Dialect.{Dialect}
use Rattle.vx_sql.specs.declared.dialect.Dialect.TheVariants.{Postgres, Sqlite, DuckDb, Spark, ClickHouse}

-- whether the word is one of those, in either case
abbrev pub is_one_of : List (List ℕ) → List ℕ → Bool
is_one_of ws w = list_any (λ x. same_word w x) ws

-- whether the engine takes the name for something else though it stands between quotes: ClickHouse, to version 18, hands names on to its
-- shards without them, where these words are a null, a number, or the beginning of something else
abbrev pub is_misread : Dialect → Name → Bool
is_misread Postgres a = false
is_misread Sqlite a = false
is_misread DuckDb a = false
is_misread Spark a = false
is_misread ClickHouse a =
    is_one_of
    (codes "distinct" ∷ codes "inf" ∷ codes "infinity" ∷ codes "interval" ∷ codes "nan" ∷ codes "not" ∷ codes "null" ∷ codes "select" ∷ [])
    a
