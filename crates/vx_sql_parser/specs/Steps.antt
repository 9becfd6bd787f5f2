-- What is open while SQL is read, and what a token makes of it.
use Rattle.std.specs.Prelude.{ℕ, ◌+◌, ◌-◌, Bool, true, false, List, [], ◌∷◌, ◌++◌, Option, Some, None, Result, Ok, slice_get, length, take}
use Rattle.std.specs.Option.{option_map}
use Rattle.vx_source_types.specs.Tokens.{text}
use Rattle.vx_sql_parser.specs.declared.reason.Unread.{Unread}
use Rattle.vx_sql_parser.specs.declared.step.Bracket.{Bracket}
use Rattle.vx_sql_parser.specs.declared.step.Change.{Change}
use Rattle.vx_sql_parser.specs.declared.step.Change.TheVariants.{Stays, Chains, Divides, Opens, Closes}
use Rattle.vx_sql_parser.specs.declared.state.Open.{Open}

-- what is open, the innermost last, each with whether a `<` stands before it outside; and whether one stands inside
pub record State : Type 0 where
  pub brackets : List Open
  pub chained : Bool

-- whether nothing changes
abbrev pub is_kept : Change → Bool
is_kept Stays = true
is_kept _ = false

abbrev pub last_open : List Open → Option Open
last_open bs = slice_get bs (length bs - 1)

abbrev pub closed : Option Open → State → State
closed None s = s
closed (Some o) s = record { brackets = take (length s.brackets - 1) s.brackets; chained = o.outside }

abbrev pub changed : Change → State → State
changed Stays s = s
changed Chains s = record { brackets = s.brackets; chained = true }
changed Divides s = record { brackets = s.brackets; chained = false }
changed (Opens b) s = record { brackets = s.brackets ++ record { bracket = b; outside = s.chained } ∷ []; chained = false }
changed Closes s = closed (last_open s.brackets) s

-- the innermost bracket
abbrev pub innermost : List Open → Option Bracket
innermost bs = option_map (λ o. o.bracket) (last_open bs)

-- what is written, the change, and how many tokens behind are written with it
pub record Said : Type 0 where
  pub text : List ℕ
  pub change : Change
  pub more : ℕ

abbrev pub Answer : Type 0
Answer = Result Said Unread

abbrev pub says : List ℕ → Change → ℕ → Answer
says t c n = Ok (record { text = t; change = c; more = n })
