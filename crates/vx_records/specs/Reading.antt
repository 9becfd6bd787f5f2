-- Which records were read, and which can't be.
use Rattle.std.specs.Prelude.{◌≡◌, ◌⊎◌, ◌<◌, ◌++◌, ℕ, List, [], ◌∷◌, map, length, Option, Some, None, Result, Ok, Err}
use Rattle.vx_data.specs.declared.error.DataError.{DataError}
use Rattle.vx_data.specs.declared.error.DataError.TheVariants.{OutOfMemory, Read, Unexpected}
use Rattle.vx_records.specs.Records.{Record}

-- what one reading gives: a record, or why it can't be read
abbrev pub Reading : Type 0
Reading = Result Record DataError

-- each of these records was read
abbrev pub given : List Record → List Reading
given rs = map (λ r. Ok r) rs

-- these readings, one after another, lead from before to after
abbrev pub Leads : (List Reading → Type 0) → (List Reading → Type 0) → List Reading → Type 0
Leads before after gs = (more : List Reading) → after more → before (gs ++ more)

-- reading these records leads from before to after
abbrev pub Reads : (List Reading → Type 0) → (List Reading → Type 0) → List Record → Type 0
Reads before after rs = Leads before after (given rs)

-- one reading leads from before to after: by no record, which is the end, or by this one
abbrev pub Goes : (List Reading → Type 0) → (List Reading → Type 0) → Option Record → Type 0
Goes before after None = before [] × Reads before after []
Goes before after (Some r) = Reads before after (r ∷ [])

-- one reading leads from before to after by that refusal; where memory runs out nothing is known
abbrev pub Refuses : (List Reading → Type 0) → (List Reading → Type 0) → DataError → Type 0
Refuses before after OutOfMemory = Unit {0}
Refuses before after (Read e) = Leads before after (Err (Read e) ∷ [])
Refuses before after (Unexpected line at expected) = Leads before after (Err (Unexpected line at expected) ∷ [])

-- these are the first n records, or fewer where they are all up to the end
abbrev pub ReadsUpTo : ℕ → (List Reading → Type 0) → (List Reading → Type 0) → List Record → Type 0
ReadsUpTo n before after rs = Reads before after rs × ((length rs ≡ n) ⊎ ((length rs < n) × before (given rs)))

-- the record behind these, all of them read, is the first that can't be, for that reason
abbrev pub ReadsUntil : (List Reading → Type 0) → (List Reading → Type 0) → List Record → DataError → Type 0
ReadsUntil before after rs e = Leads before after (given rs ++ Err e ∷ [])
