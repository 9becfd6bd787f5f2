-- What `filter` counts, and what it selects, and what stops it.
use Rattle.std.specs.Prelude.{◌≡◌, ℕ, List, Option, Ok}
use Rattle.vx_value.specs.Types.{LogicalType, Datum}
use Rattle.vx_value.specs.Views.{type_of}
use Rattle.vx_tree.specs.Trees.{Tree, BoundTree, typed}
use Rattle.vx_command_pages.specs.Inputs.{IsRefusal}
use Rattle.vx_records.specs.declared.error.RecordsError.{RecordsError}
use Rattle.vx_records.specs.declared.error.RecordsError.TheVariants.{OutOfMemory, Data, Fault, Write}
use Rattle.vx_records.specs.declared.error.SelectError.TheVariants.{Selected}
use Rattle.vx_records.specs.Outcomes.{EndsRecords, Gains, Stops, StopsSelecting}
use Rattle.vx_records.specs.Reading.{Reading}
use Rattle.vx_records.specs.Records.{kept, kept_count, meanings}
use Rattle.vx_commands.specs.Rows.{IsBoundCondition, IsBoundTo, IsCondition, IsNoCondition}
use Rattle.vx_commands.specs.declared.error.RowsError.{RowsError}
use Rattle.vx_commands.specs.declared.error.RowsError.TheVariants.{Query, NotBool, Records}
use Rattle.vx_commands.specs.declared.selected.SelectStop.{SelectStop}
use Rattle.vx_commands.specs.declared.selected.SelectStop.TheVariants.{Condition, Value}

-- the expression is true of k of the first n records, or of all where there are fewer
abbrev pub IsCounted : {R : Type 0} → (R → List Reading → Type 0) → LogicalType → Tree → ℕ → R → R → ℕ → Type 0
IsCounted leaves s e n before after k = IsCondition e s × EndsRecords leaves n before after (λ rs. k ≡ kept_count e s rs)

-- the expression is refused or isn't of type bool, or memory ran out; or going over the records stopped
abbrev pub IsCountedUntil : {R : Type 0} → (R → List Reading → Type 0) → LogicalType → Tree → RowsError → R → Type 0
IsCountedUntil leaves s e (Query c) before = IsNoCondition e s (Query c)
IsCountedUntil leaves s e (NotBool t) before = IsNoCondition e s (NotBool t)
IsCountedUntil leaves s e (Records error span) before = (b : BoundTree) × IsBoundCondition e s b × Stops leaves b before error (λ rs. Unit {0}) (λ rs. ⊥)

-- what the value means at those of the first n records, or of all where there are fewer, of which the expression is true was written in order
abbrev pub IsSelected : {R : Type 0} → (R → List Reading → Type 0) → LogicalType → Tree → Tree → ℕ → R → R → Option (List Datum) → Option (List Datum) → Type 0
IsSelected leaves s e v n before after out out' = IsCondition e s × EndsRecords leaves n before after (λ rs. Gains out out' (meanings v s (kept e s rs)))

-- the value faults on what the expression keeps of some records, and what stands before these was written
abbrev pub IsSelectedFault : {R : Type 0} → (R → List Reading → Type 0) → LogicalType → Tree → Tree → RecordsError → R → Option (List Datum) → Option (List Datum) → Type 0
IsSelectedFault leaves s e v (Fault f) before out out' = (c b : BoundTree) × IsBoundTo e s c × IsBoundTo v s b × StopsSelecting leaves c b s before (Selected f) (λ rs. Gains out out' (meanings v s (kept e s rs)))
IsSelectedFault leaves s e v OutOfMemory before out out' = ⊥
IsSelectedFault leaves s e v (Data d) before out out' = ⊥
IsSelectedFault leaves s e v (Write d) before out out' = ⊥

-- nothing was written, since the expression or the value is refused, or the expression isn't of type bool, or memory ran out; or the records before the error were gone over
abbrev pub IsSelectedUntil : {R : Type 0} → (R → List Reading → Type 0) → LogicalType → Tree → Tree → SelectStop → R → Option (List Datum) → Option (List Datum) → Type 0
IsSelectedUntil leaves s e v (Condition (Query c)) before out out' = IsRefusal e s c × (out' ≡ out)
IsSelectedUntil leaves s e v (Condition (NotBool t)) before out out' = (typed e s ≡ Ok (type_of t)) × (out' ≡ out)
IsSelectedUntil leaves s e v (Condition (Records error span)) before out out' = (b : BoundTree) × IsBoundCondition e s b × Stops leaves b before error (λ rs. Gains out out' (meanings v s (kept e s rs))) (λ rs. Unit {0})
IsSelectedUntil leaves s e v (Value (Query c)) before out out' = IsRefusal v s c × (out' ≡ out)
IsSelectedUntil leaves s e v (Value (NotBool t)) before out out' = ⊥
IsSelectedUntil leaves s e v (Value (Records error span)) before out out' = IsSelectedFault leaves s e v error before out out'
