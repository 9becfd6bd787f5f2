-- What `filter --chunk` writes, and what stops it.
use Rattle.std.specs.Prelude.{◌⊎◌, ◌++◌, ◌-◌, ℕ, List, Option, codes}
use Rattle.std.specs.Fmt.{decimal}
use Rattle.std.specs.Io.KnownBytes.{Appends, Keeps}
use Rattle.vx_value.specs.Types.{LogicalType}
use Rattle.vx_tree.specs.Trees.{Tree, BoundTree}
use Rattle.vx_records.specs.Outcomes.{Breaks, EndsRecords, Stops, UnlessFaulting}
use Rattle.vx_records.specs.Reading.{Reading}
use Rattle.vx_records.specs.Records.{Record, kept_lines}
use Rattle.vx_records.specs.Tallies.{tally_of}
use Rattle.vx_records.specs.declared.chunked.ChunkTally.{ChunkTally}
use Rattle.vx_records.specs.declared.error.RecordsError.{RecordsError}
use Rattle.vx_records.specs.declared.error.RecordsError.TheVariants.{OutOfMemory, Data, Fault, Write as Writing}
use Rattle.vx_commands.specs.Rows.{IsBoundCondition, IsNoCondition}
use Rattle.vx_commands.specs.declared.error.RowsError.{RowsError}
use Rattle.vx_commands.specs.declared.error.RowsError.TheVariants.{Records}

-- how many of the chunks were evaluated, and how many not
abbrev pub tally_line : ChunkTally → List ℕ
tally_line t = decimal t.evaluated ++ (codes " of " ++ (decimal t.chunks ++ (codes " chunks evaluated, " ++ (decimal (t.chunks - t.evaluated) ++ codes " not evaluated\n"))))

-- unless the tree faults on some of them that one chunk of m could hold, those of the records of which it is true were written behind the heading, in order
abbrev pub KeptByChunks : LogicalType → List ℕ → Tree → ℕ → BoundTree → Option (List ℕ) → Option (List ℕ) → List Record → Type 0
KeptByChunks s head e m b out out' = UnlessFaulting m b (λ rs. Appends out out' (head ++ kept_lines e s rs))

-- the same, but that the writer failed
abbrev pub BrokeByChunks : LogicalType → List ℕ → Tree → ℕ → BoundTree → Option (List ℕ) → Option (List ℕ) → List Record → Type 0
BrokeByChunks s head e m b out out' = UnlessFaulting m b (λ rs. Breaks out out' (head ++ kept_lines e s rs))

-- so it was of the first n records, or of all where there are fewer, and their tally in chunks of m is on the other writer
abbrev pub IsKeptByChunks : {R : Type 0} → (R → List Reading → Type 0) → LogicalType → List ℕ → Tree → ℕ → ℕ → R → R → Option (List ℕ) → Option (List ℕ) → Option (List ℕ) → Option (List ℕ) → Type 0
IsKeptByChunks leaves s head e m n before after out out' err err' = (b : BoundTree) × IsBoundCondition e s b
    × EndsRecords leaves n before after (λ rs. KeptByChunks s head e m b out out' rs × Appends err err' (tally_line (tally_of m b s rs)))

-- the error is one of writing
abbrev pub IsOfWriting : RecordsError → Type 0
IsOfWriting (Writing e) = Unit {0}
IsOfWriting OutOfMemory = ⊥
IsOfWriting (Data e) = ⊥
IsOfWriting (Fault f) = ⊥

-- nothing was written, since the expression is refused or isn't of type bool, or memory ran out; or the records before the error were gone over; or all were, and the tally can't be written
abbrev pub IsKeptByChunksUntil : {R : Type 0} → (R → List Reading → Type 0) → LogicalType → List ℕ → Tree → ℕ → ℕ → RowsError → R → R → Option (List ℕ) → Option (List ℕ) → Option (List ℕ) → Option (List ℕ) → Type 0
IsKeptByChunksUntil leaves s head e m n (Records error span) before after out out' err err' = (b : BoundTree) × IsBoundCondition e s b
    × ((Stops leaves b before error (KeptByChunks s head e m b out out') (BrokeByChunks s head e m b out out') × Keeps err err')
    ⊎ (EndsRecords leaves n before after (KeptByChunks s head e m b out out') × IsOfWriting error))
IsKeptByChunksUntil leaves s head e m n c before after out out' err err' = IsNoCondition e s c × Keeps out out' × Keeps err err'
