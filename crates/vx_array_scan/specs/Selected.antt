-- The rows of a batch at which a plan's source is true.
use Rattle.std.specs.Prelude.{◌≡◌, Bool, List, map, Result}
use Rattle.std.specs.Result.{result_map_both}
use Rattle.vx_dtype.specs.Returns.{ReturnsOrOom}
use Rattle.vx_dtype.specs.declared.error.VortexError.{VortexError}
use Rattle.vx_value.specs.Columns.{Batch}
use Rattle.vx_fn.specs.Values.{is_true}
use Rattle.vx_tree.specs.Trees.{BoundTree}
use Rattle.vx_eval.specs.Evaluation.{evaluation}
use Rattle.vx_scan.specs.Scans.{KeepsMeaning}

-- what the tree gives over the batch, unless memory ran out: for each source that the tree keeps, and that doesn't fault on the batch, its meaning in each row
abbrev pub AreValues : BoundTree → Batch → Result Batch VortexError → Type 0
AreValues u c values = ReturnsOrOom (λ x. x) values (evaluation u c) × KeepsMeaning u c values

-- for each row whether it is true
abbrev pub true_rows : Batch → List Bool
true_rows c = map is_true c.rows

-- the rows at which the tree's values over the batch are true, or why there are none
abbrev pub IsSelection : BoundTree → Batch → Result (List Bool) VortexError → Type 0
IsSelection u c rows = (values : Result Batch VortexError) × AreValues u c values × (rows ≡ result_map_both true_rows (λ e. e) values)
