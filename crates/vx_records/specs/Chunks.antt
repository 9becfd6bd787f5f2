-- Records that were read together. No public contract names this file.
use Rattle.std.specs.Prelude.{◌≡◌, ◌≤◌, ◌++◌, ℕ, List, [], zero, suc, ◌∷◌, map, length, Bool, nat_lt, Option, Some, None, MatchOption, get_or, if◌then◌else◌}
use Rattle.std.specs.Global.{Vec}
use Rattle.std.specs.List.{flat_map}
use Rattle.vx_value.specs.Columns.{batch}
use Rattle.vx_value.specs.Fits.{IsBatch}
use Rattle.vx_value.specs.Types.{LogicalType, Datum, null}
use Rattle.vx_value.specs.Views.{value_of}
use Rattle.vx_value.specs.declared.value.Value.{Value}
use Rattle.vx_fn.specs.Values.{is_true}
use Rattle.vx_tree.specs.Trees.{Tree}
use Rattle.vx_records.specs.Reading.{Reading, Reads, ReadsUpTo, Refuses}
use Rattle.vx_records.specs.Records.{Record, record_of, texts, rows, meanings, kept}
use Rattle.vx_records.specs.declared.batches.RecordBatch.{RecordBatch}
use Rattle.vx_records.specs.declared.read.Chunk.{Chunk}
use Rattle.vx_records.specs.declared.kept.KeptBatch.{KeptBatch}
use Rattle.vx_records.specs.declared.answers.Answers.{Answers}
use Rattle.vx_data.specs.declared.error.DataError.{DataError}
use Rattle.vx_data.specs.declared.error.DataError.TheVariants.{OutOfMemory as NoRoom, Read, Unexpected}
use Rattle.vx_places.specs.Faults.{IsFirstFault}
use Rattle.vx_tree.specs.Trees.{BoundTree}
use Rattle.vx_records.specs.Outcomes.{IsFaultOn}
use Rattle.vx_records.specs.declared.error.RecordsError.{RecordsError}
use Rattle.vx_records.specs.declared.error.RecordsError.TheVariants.{OutOfMemory, Data, Fault, Write}

-- the texts in vectors
abbrev pub texts_in : List (Vec ℕ) → List (List ℕ)
texts_in ts = map (λ t. t.items) ts

-- these are the next records: n of them, or fewer up to the end or to what can't be read
abbrev pub AreNext : {R : Type 0} → (R → List Reading → Type 0) → ℕ → R → R → Option DataError → List Record → Type 0
AreNext {R = R} leaves n before after stop rs = MatchOption stop (ReadsUpTo n (leaves before) (leaves after) rs) (λ e. (mid : R) × Reads (leaves before) (leaves mid) rs × Refuses (leaves mid) (leaves after) e)

-- the chunk is of the next records
abbrev pub IsChunk : {R : Type 0} → (R → List Reading → Type 0) → ℕ → R → R → Chunk → Type 0
IsChunk leaves n before after c = AreNext leaves n before after c.stop (map record_of c.records.items)

-- the batch has these records, each as a row of the type s
abbrev pub HasRecords : RecordBatch → LogicalType → List Record → Type 0
HasRecords b s rs = (texts_in b.texts.items ≡ texts rs) × (b.rows.value ≡ batch s (rows rs))

-- the batch has the next records, n of them at most, each of them of the type s
abbrev pub IsNextBatch : {R : Type 0} → (R → List Reading → Type 0) → ℕ → LogicalType → R → R → RecordBatch → Type 0
IsNextBatch leaves n s before after b = (rs : List Record) × AreNext leaves n before after b.stop rs × HasRecords b s rs × IsBatch s (rows rs) × (length rs ≤ n)

-- the answers are of the next records, each of them of the type s, and say what the expression means at them
abbrev pub AreAnswers : {R : Type 0} → (R → List Reading → Type 0) → ℕ → Tree → LogicalType → R → R → Answers → Type 0
AreAnswers leaves n e s before after a = (rs : List Record) × AreNext leaves n before after a.batch.stop rs × HasRecords a.batch s rs × (a.values.rows ≡ meanings e s rs)

-- the values in a slice
abbrev pub values_in : List Value → List Datum
values_in vs = map value_of vs

-- m records were read, fewer than the n that were asked for only if they are the last; nothing stopped reading
abbrev pub IsLast : Option DataError → ℕ → ℕ → Bool → Type 0
IsLast None m n last = last ≡ nat_lt m n
IsLast (Some stop) m n last = ⊥

-- up to n records were read, the last of all where there were fewer, and what is said of them was written
abbrev pub IsStep : {R : Type 0} → (R → List Reading → Type 0) → ℕ → R → R → Bool → (List Record → Type 0) → Type 0
IsStep leaves n before after last Wrote = (rs : List Record) × ReadsUpTo n (leaves before) (leaves after) rs × (last ≡ nat_lt (length rs) n) × Wrote rs

-- the text on a line, where the value is true
abbrev pub line_if_true : Datum → List ℕ → List ℕ
line_if_true v s = if is_true v then s ++ 10 ∷ [] else []

-- of the first n texts those beside which stands true, each on a line
abbrev pub true_lines : List (List ℕ) → List Datum → ℕ → List ℕ
true_lines ts vs zero = []
true_lines ts vs (suc n) = true_lines ts vs n ++ line_if_true (get_or vs n null) (get_or ts n [])

-- the row, where the value is true
abbrev pub row_if_true : Datum → Datum → List Datum
row_if_true v u = if is_true v then u ∷ [] else []

-- of the first n rows those beside which stands true
abbrev pub true_rows : List Datum → List Datum → ℕ → List Datum
true_rows us vs zero = []
true_rows us vs (suc n) = true_rows us vs n ++ row_if_true (get_or vs n null) (get_or us n null)

-- of the next records, n of them at most, the batch has the rows of those of which the expression is true
abbrev pub IsKeptBatch : {R : Type 0} → (R → List Reading → Type 0) → ℕ → Tree → LogicalType → R → R → KeptBatch → Type 0
IsKeptBatch leaves n e s before after b = (rs : List Record) × AreNext leaves n before after b.stop rs × (b.rows.value ≡ batch s (rows (kept e s rs))) × (b.read ≡ length rs)

-- the kept batch has the rows beside which stands true, says how many records were read, and what stopped reading
abbrev pub IsKeptOf : Answers → KeptBatch → Type 0
IsKeptOf a b = (b.rows.value ≡ batch a.batch.rows.value.type (true_rows a.batch.rows.value.rows a.values.rows (length a.batch.rows.value.rows)))
    × (b.read ≡ length a.batch.texts.items) × (b.stop ≡ a.batch.stop)

-- each of the texts on a line
abbrev pub each_line : List (List ℕ) → List ℕ
each_line ts = flat_map (λ t. t ++ 10 ∷ []) ts

-- the error is one of writing
abbrev pub IsOfWriting : RecordsError → Type 0
IsOfWriting (Write e) = Unit {0}
IsOfWriting OutOfMemory = ⊥
IsOfWriting (Data e) = ⊥
IsOfWriting (Fault f) = ⊥

-- the error that what stopped reading is told as
abbrev pub stop_error : DataError → RecordsError
stop_error NoRoom = OutOfMemory
stop_error (Read e) = Data (Read e)
stop_error (Unexpected line at expected) = Data (Unexpected line at expected)

-- something stopped reading, and the error tells it
abbrev pub IsStopError : Option DataError → RecordsError → Type 0
IsStopError None e = ⊥
IsStopError (Some stop) e = e ≡ stop_error stop

-- memory ran out, or the tree faults, and the error is its first fault on the rows
abbrev pub IsFaultOver : BoundTree → List Datum → RecordsError → Type 0
IsFaultOver b vs (Fault f) = IsFirstFault vs b f.path.items f.refusal
IsFaultOver b vs OutOfMemory = Unit {0}
IsFaultOver b vs (Write e) = ⊥
IsFaultOver b vs (Data e) = ⊥

-- memory ran out, or the tree faults, and the error is its first fault on the next records
abbrev pub IsFaultThere : {R : Type 0} → (R → List Reading → Type 0) → BoundTree → R → RecordsError → Type 0
IsFaultThere {R = R} leaves b before (Fault f) = (mid : R) × (rs : List Record) × Reads (leaves before) (leaves mid) rs × IsFaultOn b rs f
IsFaultThere leaves b before OutOfMemory = Unit {0}
IsFaultThere leaves b before (Write e) = ⊥
IsFaultThere leaves b before (Data e) = ⊥
