-- As many rows are selected, or not, as the batch has.
use Rattle.std.proofs.Common.{◌≡◌, List, length, map, Ok, Err, Option, Some, None, ap, ◌∙◌}
use Rattle.std.specs.Prelude.{Bool}
use Rattle.std.proofs.lemmas.List.{length-map}
use Rattle.vx_dtype.specs.declared.error.VortexError.{VortexError}
use Rattle.vx_value.specs.Columns.{Batch, batch}
use Rattle.vx_fn.specs.Values.{is_true}
use Rattle.vx_tree.specs.Faults.{first_fault}
use Rattle.vx_tree.specs.Meaning.{mean}
use Rattle.vx_tree.specs.Trees.{BoundTree, node_type, unbound}
use Rattle.vx_eval.specs.Columns.{unless_fault}
use Rattle.vx_array_scan.specs.Selected.{IsSelection, true_rows}

as_long : (fault : Option VortexError) (c b : Batch) → unless_fault fault c ≡ Ok b → length b.rows ≡ length c.rows
as_long None c b is = cc
as_long (Some e) c b is = cc

pub selection_long : (u : BoundTree) (c : Batch) (found : List Bool) → IsSelection u c (Ok found) → length found ≡ length c.rows
selection_long u c found (Ok b, values, is) =
    let same : found ≡ true_rows b = cc in
    ap length same ∙ length-map b.rows is_true ∙ as_long (first_fault u c.rows) (batch (node_type u) (map (mean (unbound u) c.type) c.rows)) b values.0 ∙ length-map c.rows (mean (unbound u) c.type)
selection_long u c found (Err e, values, is) = cc
