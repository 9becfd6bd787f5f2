-- What the program's steps stand for.
use Rattle.std.specs.Prelude.{◌≡◌, ◌++◌, List, Result, Ok, Err, ℕ, string_bytes}
use Rattle.vx_sql_parser.specs.declared.state.State.{State}
use Rattle.vx_sql_parser.specs.declared.translation.Translation.{Translation}
use Rattle.vx_sql_parser.specs.declared.reason.Unread.{Unread}
use Rattle.vx_sql_parser.specs.declared.step.Step.{Step}
use Rattle.vx_sql_parser.specs.declared.step.Stop.{Stop}
use Rattle.vx_sql_parser.specs.declared.step.Stop.TheVariants as stops
use Rattle.vx_sql_parser.specs.SqlTokens.{SqlLexeme}
use Rattle.vx_sql_parser.specs.Steps as steps
use Rattle.vx_sql_parser.specs.Rules as rules

-- what a step says
abbrev pub said_of : Step → steps.Said
said_of s = record { text = string_bytes s.text; change = s.change; more = s.more }

-- the call gave what is said, or stopped for the same reason, unless memory ran out
abbrev pub Answers : Result Step Stop → steps.Answer → Type 0
Answers (Ok s) said = said ≡ Ok (said_of s)
Answers (Err stops.OutOfMemory) said = Unit {0}
Answers (Err (stops.Unread r)) said = said ≡ Err r

-- what is open
abbrev pub state_of : State → steps.State
state_of s = record { brackets = s.brackets.items; chained = s.chained }

-- what is written behind a text
abbrev pub after : List ℕ → Result (List ℕ) Unread → Result (List ℕ) Unread
after before (Ok ts) = Ok (before ++ ts)
after before (Err r) = Err r

-- what is written with those tokens still to come
abbrev pub with_tokens : Translation → List SqlLexeme → Result (List ℕ) Unread
with_tokens t xs = after (string_bytes t.source) (rules.written t.dialect (state_of t.state) t.more xs)

-- a call stopped for the same reason, unless memory ran out
abbrev pub IsStop : Stop → Result (List ℕ) Unread → Type 0
IsStop stops.OutOfMemory said = Unit {0}
IsStop (stops.Unread r) said = said ≡ Err r
