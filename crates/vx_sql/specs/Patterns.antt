-- The patterns of LIKE as the engines spell them.
use Rattle.std.specs.Prelude.{ℕ, Bool, true, false, ◌==◌, ◌||◌, ◌&&◌, List, [], ◌∷◌, ◌++◌, if◌then◌else◌, chars, map}
use Rattle.std.specs.Char.{is_ascii_lowercase, to_ascii_uppercase}
use Rattle.std.specs.List.{flat_map}
use Rattle.vx_fn.specs.Values.{Part, any_text, any_one, just}
use Rattle.vx_eval_like.specs.Patterns.{spelled_by}
use Rattle.vx_sql.specs.declared.dialect.Dialect.{Dialect}
use Rattle.vx_sql.specs.declared.dialect.Dialect.TheVariants.{Postgres, Sqlite, DuckDb, Spark, ClickHouse}
use Rattle.vx_sql.specs.Quotes.{quoted, quoting_of}

-- whether the engine's patterns are those of GLOB. SQLite's LIKE ignores the case of letters or not, by a setting
abbrev pub has_globs : Dialect → Bool
has_globs Postgres = false
has_globs Sqlite = true
has_globs DuckDb = false
has_globs Spark = false
has_globs ClickHouse = false

-- ---- LIKE: 37 is `%`, and 95 `_`

-- what makes the character behind it stand for itself: 33, `!`, which is said, and in ClickHouse, where none is, 92, the backslash
abbrev pub like_escape : Dialect → ℕ
like_escape Postgres = 33
like_escape Sqlite = 33
like_escape DuckDb = 33
like_escape Spark = 33
like_escape ClickHouse = 92

-- whether the character would stand for others, or make another stand for itself
abbrev pub is_like_sign : ℕ → ℕ → Bool
is_like_sign e c = c == 37 || (c == 95 || c == e)

abbrev pub like_char : ℕ → ℕ → List ℕ
like_char e c = if is_like_sign e c then e ∷ c ∷ [] else c ∷ []

abbrev pub like_part : ℕ → Part → List ℕ
like_part e any_text = 37 ∷ []
like_part e any_one = 95 ∷ []
like_part e (just c) = like_char e c

-- ---- GLOB: 42 is `*` for any text, 63 `?` for any one character, and 91 and 93 enclose those of which one stands

-- whether the character would stand for others
abbrev pub is_glob_sign : ℕ → Bool
is_glob_sign c = c == 42 || (c == 63 || c == 91)

-- a character that is enclosed, alone or with its capital
abbrev pub enclosed : ℕ → List ℕ
enclosed c = 91 ∷ c ∷ 93 ∷ []

abbrev pub enclosed_pair : ℕ → List ℕ
enclosed_pair c = 91 ∷ c ∷ to_ascii_uppercase c ∷ 93 ∷ []

-- a small letter may be a capital, too, where the case is ignored, and a sign is enclosed
abbrev pub glob_char : Bool → ℕ → List ℕ
glob_char ignore_case c = if ignore_case && is_ascii_lowercase c then enclosed_pair c else if is_glob_sign c then enclosed c else c ∷ []

abbrev pub glob_part : Bool → Part → List ℕ
glob_part ignore_case any_text = 42 ∷ []
glob_part ignore_case any_one = 63 ∷ []
glob_part ignore_case (just c) = glob_char ignore_case c

-- ---- patterns

-- the engine's spelling of a part
abbrev pub part_spelled : Dialect → Bool → Part → List ℕ
part_spelled d ignore_case p = if has_globs d then glob_part ignore_case p else like_part (like_escape d) p

-- the engine's spelling of the parts
abbrev pub parts_spelled : Dialect → Bool → List Part → List ℕ
parts_spelled d ignore_case ps = flat_map (part_spelled d ignore_case) ps

-- a pattern as a text between quotes
abbrev pub pattern_sql : Dialect → Bool → List ℕ → List ℕ
pattern_sql d ignore_case p = quoted (quoting_of d p) (parts_spelled d ignore_case (spelled_by ignore_case p))

-- the parts of a pattern of what begins with a text: its characters, and then any text
abbrev pub beginning_parts : List ℕ → List Part
beginning_parts p = map just (chars p) ++ any_text ∷ []

-- that pattern as a text between quotes
abbrev pub beginning_sql : Dialect → List ℕ → List ℕ
beginning_sql d p = quoted (quoting_of d p) (parts_spelled d false (beginning_parts p))
