-- What follows of records from their definitions alone.
use Rattle.std.specs.Prelude.{ℕ, List}
use Rattle.vx_value.specs.Fits.{IsBatch}
use Rattle.vx_value.specs.Types.{LogicalType}
use Rattle.vx_tree.specs.Faults.{HasNoFault}
use Rattle.vx_tree.specs.Trees.{BoundTree, Over, WellTyped}
use Rattle.vx_records.specs.Outcomes.{NeverFaults}
use Rattle.vx_records.specs.Records.{Record, rows}

-- a well-typed tree that faults nowhere on records of its scope's type, taken all together, never does where fewer are taken together
abbrev pub FewerNeverFault : Type 0
FewerNeverFault = (b : BoundTree) (s : LogicalType) (rs : List Record) → WellTyped b → Over b s → IsBatch s (rows rs) → HasNoFault b (rows rs) → (n : ℕ) → NeverFaults n b rs
