-- Words of SQL.
use Rattle.std.specs.Prelude.{ℕ, Bool, not, ◌||◌, List, [], ◌∷◌, codes}
pub use Rattle.vx_sql.specs.Words.{is_one_of}

-- what divides conditions and the parts of a CASE
abbrev pub is_divider : List ℕ → Bool
is_divider w = is_one_of (codes "and" ∷ codes "or" ∷ codes "else" ∷ []) w

abbrev pub is_truth : List ℕ → Bool
is_truth w = is_one_of (codes "true" ∷ codes "false" ∷ []) w

-- what means the same in source text
abbrev pub is_plain_word : List ℕ → Bool
is_plain_word w = is_truth w || is_one_of (codes "null" ∷ codes "not" ∷ codes "in" ∷ codes "between" ∷ []) w

-- what says something of what stands around it
abbrev pub is_structural : List ℕ → Bool
is_structural w =
    is_one_of
    (codes "is" ∷ codes "like" ∷ codes "ilike" ∷ codes "as" ∷ codes "case" ∷ codes "when" ∷ codes "then" ∷ codes "end" ∷ codes "escape" ∷ codes "collate" ∷ [])
    w

-- words of queries, operators and values of the clock, which aren't read
abbrev pub is_reserved : List ℕ → Bool
is_reserved w =
    is_one_of
    (codes "select" ∷ codes "from" ∷ codes "where" ∷ codes "exists" ∷ codes "any" ∷ codes "all" ∷ codes "some" ∷ codes "distinct" ∷ codes "order" ∷ codes "group" ∷ codes "limit" ∷ codes "union" ∷ codes "similar" ∷ codes "glob" ∷ codes "regexp" ∷ codes "rlike" ∷ codes "match" ∷ codes "isnull" ∷ codes "notnull" ∷ codes "div" ∷ codes "interval" ∷ codes "overlaps" ∷ codes "current_date" ∷ codes "current_time" ∷ codes "current_timestamp" ∷ codes "localtime" ∷ codes "localtimestamp" ∷ codes "current_user" ∷ codes "session_user" ∷ codes "user" ∷ [])
    w

-- whether the word is a name
abbrev pub is_name : List ℕ → Bool
is_name w = not (is_divider w || (is_plain_word w || (is_structural w || is_reserved w)))
