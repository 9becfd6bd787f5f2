-- Columns of values, the rows of several of them, and what a function gives over them.
use Rattle.std.specs.Prelude.{ℕ, List, map, Option, Some, None, Result, Ok, Err, Bool}
use Rattle.std.proofs.Math.ListN.{replicate}
use Rattle.vx_dtype.specs.declared.error.VortexError.{VortexError}
use Rattle.vx_dtype.specs.Returns.{ReturnsOrOom}
use Rattle.vx_value.specs.Types.{LogicalType, Datum, bool}
use Rattle.vx_value.specs.Views.{value_of}
use Rattle.vx_fn.specs.Functions.{Function}
use Rattle.vx_fn.specs.Values.{fn_value}
use Rattle.vx_fn.specs.Faults.{node_fault}
pub use Rattle.vx_eval_masks.specs.Merges.{values_of, each_row, row_at}
pub use Rattle.vx_eval.specs.Items.{datum_at, item_at, truth_datum, AllLong, HaveRow}
use Rattle.vx_eval.specs.declared.rows.Rows.{Rows}
use Rattle.vx_eval.specs.declared.rows.Rows.TheVariants.{Lent, Shared, Item, Owned, Same, Truths, Compared}

-- the truth value that a value is, if it is one
abbrev pub truth_of : Datum → Option Bool
truth_of (bool b) = Some b
truth_of _ = None

-- the values of a column at work, row by row
abbrev pub rows_view : Rows → List Datum
rows_view (Lent values) = values_of values.now
rows_view (Shared values) = values_of values.now.value.items
rows_view (Item values k c) = map (item_at k) (values_of values.now)
rows_view (Owned values) = values_of values.items
rows_view (Same v n) = replicate n (value_of v.now)
rows_view (Truths truths c) = map truth_datum truths.items
rows_view (Compared items) = items

-- the same of each of some columns
abbrev pub rows_views : List Rows → List (List Datum)
rows_views rs = map rows_view rs

-- the first n rows of columns
abbrev pub rows_of : ℕ → List (List Datum) → List (List Datum)
rows_of n cs = each_row n (row_at cs)

-- the fault, or what there is without one
abbrev pub unless_fault : {A : Type 0} → Option VortexError → A → Result A VortexError
unless_fault None a = Ok a
unless_fault (Some fault) a = Err fault

-- what a node gives over the rows of its children's values
abbrev pub node_answer : Function → List LogicalType → List (List Datum) → Result (List Datum) VortexError
node_answer f ts rows = unless_fault (node_fault f ts rows) (map (fn_value f ts) rows)

-- a call answers what the function gives over the first n rows of the columns
abbrev pub Evaluates : Function → List LogicalType → ℕ → List (List Datum) → Result Rows VortexError → Type 0
Evaluates f ts n cs r = ReturnsOrOom rows_view r (node_answer f ts (rows_of n cs))
