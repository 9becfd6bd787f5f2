-- How going over records ends.
use Rattle.std.specs.Prelude.{◌≡◌, ◌<◌, ◌≤◌, ◌++◌, ℕ, List, length, take, Option, Some, None, ⊤}
use Rattle.std.specs.Io.KnownBytes.{Appends}
use Rattle.vx_value.specs.Types.{Datum, LogicalType}
use Rattle.vx_tree.specs.Faults.{HasNoFault}
use Rattle.vx_tree.specs.Trees.{BoundTree, unbound}
use Rattle.vx_places.specs.Faults.{IsFirstFault}
use Rattle.vx_records.specs.Reading.{Reading, Reads, ReadsUntil, ReadsUpTo}
use Rattle.vx_records.specs.Records.{Record, kept, rows}
use Rattle.vx_records.specs.declared.error.RecordFault.{RecordFault}
use Rattle.vx_records.specs.declared.error.RecordsError.{RecordsError}
use Rattle.vx_records.specs.declared.error.SelectError.{SelectError}
use Rattle.vx_records.specs.declared.error.SelectError.TheVariants.{Kept, Selected}
use Rattle.vx_records.specs.declared.error.RecordsError.TheVariants.{OutOfMemory, Data, Fault, Write}

-- known rows grow by these
abbrev pub Gains : Option (List Datum) → Option (List Datum) → List Datum → Type 0
Gains None new vs = ⊤
Gains (Some us) None vs = ⊥
Gains (Some us) (Some ws) vs = ws ≡ us ++ vs

-- a beginning of the bytes, and not the whole of them, was written
abbrev pub Breaks : Option (List ℕ) → Option (List ℕ) → List ℕ → Type 0
Breaks old new bytes = (n : ℕ) × (n < length bytes) × Appends old new (take n bytes)

-- the first n records were read, or all where there are fewer, and what is said of them was written
abbrev pub EndsRecords : {R : Type 0} → (R → List Reading → Type 0) → ℕ → R → R → (List Record → Type 0) → Type 0
EndsRecords leaves n before after Wrote = (rs : List Record) × ReadsUpTo n (leaves before) (leaves after) rs × Wrote rs

-- the fault is the first of the tree on the records
abbrev pub IsFaultOn : BoundTree → List Record → RecordFault → Type 0
IsFaultOn b rs f = IsFirstFault (rows rs) b f.path.items f.refusal

-- where the writer failed, writing broke off; where the tree faults, it does on the records read together behind those that were written; where a record can't be read, it is the one behind those that were, and for that reason; else memory ran out behind them
abbrev pub Stops : {R : Type 0} → (R → List Reading → Type 0) → BoundTree → R → RecordsError → (List Record → Type 0) → (List Record → Type 0) → Type 0
Stops {R = R} leaves b before (Fault f) Wrote Broke = (mid : R) × (done rs : List Record) × Reads (leaves before) (leaves mid) (done ++ rs) × Wrote done × IsFaultOn b rs f
Stops {R = R} leaves b before (Write e) Wrote Broke = (mid : R) × (rs : List Record) × Reads (leaves before) (leaves mid) rs × Broke rs
Stops {R = R} leaves b before OutOfMemory Wrote Broke = (mid : R) × (rs : List Record) × Reads (leaves before) (leaves mid) rs × Wrote rs
Stops {R = R} leaves b before (Data e) Wrote Broke = (mid : R) × (rs : List Record) × ReadsUntil (leaves before) (leaves mid) rs e × Wrote rs

-- where the tree v of what is kept faults, it does on what the tree c keeps of the records read together behind those that were gone over; else the end is one of going over the records by the tree c
abbrev pub StopsSelecting : {R : Type 0} → (R → List Reading → Type 0) → BoundTree → BoundTree → LogicalType → R → SelectError → (List Record → Type 0) → Type 0
StopsSelecting {R = R} leaves c v s before (Selected f) Wrote = (mid : R) × (done rs : List Record) × Reads (leaves before) (leaves mid) (done ++ rs) × Wrote done × IsFaultOn v (kept (unbound c) s rs) f
StopsSelecting {R = R} leaves c v s before (Kept e) Wrote = Stops leaves c before e Wrote (λ rs. Unit {0})

-- the tree faults on no n of the records, or fewer, that stand one behind the other
abbrev pub NeverFaults : ℕ → BoundTree → List Record → Type 0
NeverFaults n b rs = (xs ys zs : List Record) → rs ≡ xs ++ (ys ++ zs) → length ys ≤ n → HasNoFault b (rows ys)

-- that is said of records unless the tree faults on some of them that are taken together, n at most
abbrev pub UnlessFaulting : ℕ → BoundTree → (List Record → Type 0) → List Record → Type 0
UnlessFaulting n b Said rs = NeverFaults n b rs → Said rs
