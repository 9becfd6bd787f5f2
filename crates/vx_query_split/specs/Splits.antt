-- What a split tree gives over a batch.
use Rattle.std.specs.Prelude.{List, [], ◌∷◌, map, Option, Some, None, Result, Err}
use Rattle.vx_dtype.specs.declared.error.VortexError.{VortexError}
use Rattle.vx_value.specs.Columns.{Batch, batch}
use Rattle.vx_value.specs.Types.{Name, Datum}
use Rattle.vx_tree.specs.Faults.{each_fault}
use Rattle.vx_tree.specs.Meaning.{mean}
use Rattle.vx_tree.specs.Trees.{BoundTree, BoundTrees, no_bound, bound, node_type, unbound}
use Rattle.vx_eval.specs.Columns.{unless_fault}
use Rattle.vx_eval.specs.Evaluation.{evaluation}
use Rattle.vx_partition_laws.specs.Items.{struct_type, joined}

-- for each partition the column of its source's meaning at each row
abbrev pub part_columns : BoundTrees → Batch → List Batch
part_columns no_bound c = []
part_columns (bound b bs) c = batch (node_type b) (map (mean (unbound b) c.type) c.rows) ∷ part_columns bs c

-- the fault of the first partition that faults, or their columns
abbrev pub part_answers : BoundTrees → Batch → Result (List Batch) VortexError
part_answers bs c = unless_fault (each_fault bs c.rows) (part_columns bs c)

-- the column of the structs that the partitions' values make
abbrev pub joined_column : List Name → BoundTrees → List Datum → Batch
joined_column names parts rows = batch (struct_type names parts) (map (joined parts) rows)

-- the fault, or else the answer
abbrev pub fault_or : {A : Type 0} → Option VortexError → Result A VortexError → Result A VortexError
fault_or None answer = answer
fault_or (Some fault) answer = Err fault

-- the fault of the first partition that faults, or what the root gives over the joined column
abbrev pub split_evaluation : List Name → BoundTrees → BoundTree → Batch → Result Batch VortexError
split_evaluation names parts root c = fault_or (each_fault parts c.rows) (evaluation root (joined_column names parts c.rows))
