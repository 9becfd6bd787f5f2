-- What the commands that go over records write, and what stops them.
use Rattle.std.specs.Prelude.{◌≡◌, ◌++◌, ℕ, List, Bool, Option, Ok}
use Rattle.std.specs.Io.KnownBytes.{Appends, Keeps}
use Rattle.vx_value.specs.Types.{LogicalType, Datum, ty, atomic, truth}
use Rattle.vx_value.specs.Views.{type_of}
use Rattle.vx_tree.specs.Trees.{Tree, BoundTree, Over, WellTyped, typed, unbound}
use Rattle.vx_command_pages.specs.declared.error.CommandError.TheVariants.{OutOfMemory}
use Rattle.vx_command_pages.specs.declared.error.Status.{Status}
use Rattle.vx_command_pages.specs.declared.error.Status.TheVariants.{Failed, Wrong}
use Rattle.vx_command_pages.specs.Inputs.{IsRefusal, status_of as page_status}
use Rattle.vx_data.specs.declared.error.DataError.TheVariants.{OutOfMemory as NoRoomToRead, Read as Unreadable, Unexpected}
use Rattle.vx_data.specs.declared.error.WriteError.TheVariants.{OutOfMemory as NoRoomToWrite, Write as WriterFailed, Unwritable}
use Rattle.vx_records.specs.declared.error.RecordsError.TheVariants.{OutOfMemory as NoRoom, Data, Fault, Write as Writing}
use Rattle.vx_records.specs.Outcomes.{Breaks, EndsRecords, Gains, Stops}
use Rattle.vx_records.specs.Reading.{Reading}
use Rattle.vx_records.specs.Records.{kept_lines, meanings}
use Rattle.vx_commands.specs.declared.error.RowsError.{RowsError}
use Rattle.vx_commands.specs.declared.error.RowsError.TheVariants.{Query, NotBool, Records}

-- the expression is of type bool over the scope's type s
abbrev pub IsCondition : Tree → LogicalType → Type 0
IsCondition e s = (n : Bool) × (typed e s ≡ Ok (ty (atomic truth) n))

-- the bound tree is the expression, well typed over the scope's type s
abbrev pub IsBoundTo : Tree → LogicalType → BoundTree → Type 0
IsBoundTo e s b = (unbound b ≡ e) × WellTyped b × Over b s

-- the bound tree is the expression, well typed over the scope's type s, and of type bool
abbrev pub IsBoundCondition : Tree → LogicalType → BoundTree → Type 0
IsBoundCondition e s b = IsBoundTo e s b × IsCondition e s

-- the expression is refused over the scope's type s, or isn't of type bool, or memory ran out
abbrev pub IsNoCondition : Tree → LogicalType → RowsError → Type 0
IsNoCondition e s (Query c) = IsRefusal e s c
IsNoCondition e s (NotBool t) = typed e s ≡ Ok (type_of t)
IsNoCondition e s (Records error span) = ⊥

-- the error is that the expression is of that type, or want of memory
abbrev pub IsNotBool : LogicalType → RowsError → Type 0
IsNotBool t (NotBool u) = type_of u ≡ t
IsNotBool t (Query c) = c ≡ OutOfMemory
IsNotBool t (Records error span) = ⊥

-- of the first n records, or of all where there are fewer, those of which the expression is true were written behind the heading, in order
abbrev pub IsFiltered : {R : Type 0} → (R → List Reading → Type 0) → LogicalType → List ℕ → Tree → ℕ → R → R → Option (List ℕ) → Option (List ℕ) → Type 0
IsFiltered leaves s head e n before after out out' = IsCondition e s × EndsRecords leaves n before after (λ rs. Appends out out' (head ++ kept_lines e s rs))

-- nothing was written, since the expression is refused or isn't of type bool, or memory ran out; or the records before the error were gone over
abbrev pub IsKeptUntil : {R : Type 0} → (R → List Reading → Type 0) → LogicalType → List ℕ → Tree → RowsError → R → Option (List ℕ) → Option (List ℕ) → Type 0
IsKeptUntil leaves s head e (Query c) before out out' = IsRefusal e s c × Keeps out out'
IsKeptUntil leaves s head e (NotBool t) before out out' = (typed e s ≡ Ok (type_of t)) × Keeps out out'
IsKeptUntil leaves s head e (Records error span) before out out' = (b : BoundTree) × IsBoundTo e s b × IsCondition e s × Stops leaves b before error
    (λ rs. Appends out out' (head ++ kept_lines e s rs)) (λ rs. Breaks out out' (head ++ kept_lines e s rs))

-- what the expression means at the first n records, or at all where there are fewer, was written in order
abbrev pub IsMeant : {R : Type 0} → (R → List Reading → Type 0) → LogicalType → Tree → ℕ → R → R → Option (List Datum) → Option (List Datum) → Type 0
IsMeant leaves s e n before after out out' = EndsRecords leaves n before after (λ rs. Gains out out' (meanings e s rs))

-- nothing was written, since the expression is refused, or memory ran out; or the records before the error were gone over
abbrev pub IsMeantUntil : {R : Type 0} → (R → List Reading → Type 0) → LogicalType → Tree → RowsError → R → Option (List Datum) → Option (List Datum) → Type 0
IsMeantUntil leaves s e (Query c) before out out' = IsRefusal e s c × (out' ≡ out)
IsMeantUntil leaves s e (NotBool t) before out out' = ⊥
IsMeantUntil leaves s e (Records error span) before out out' = (b : BoundTree) × IsBoundTo e s b × Stops leaves b before error
    (λ rs. Gains out out' (meanings e s rs)) (λ rs. Unit {0})

-- how a command ends that stops with the error
abbrev pub status_of : RowsError → Status
status_of (Query c) = page_status c
status_of (NotBool t) = Wrong
status_of (Records (Data (Unexpected line at expected)) span) = Wrong
status_of (Records (Fault f) span) = Wrong
status_of (Records (Writing (Unwritable row at expected)) span) = Wrong
status_of (Records NoRoom span) = Failed
status_of (Records (Data NoRoomToRead) span) = Failed
status_of (Records (Data (Unreadable e)) span) = Failed
status_of (Records (Writing NoRoomToWrite) span) = Failed
status_of (Records (Writing (WriterFailed e)) span) = Failed
