-- The page of a column of selected rows.
use Rattle.std.proofs.Common.{◌≡◌, ℕ, List, Result, Ok, Err, subst}
use Rattle.std.specs.Prelude.{Bool, IfOk}
use Rattle.vx_value.specs.Columns.{Batch, batch}
use Rattle.vx_array_build.specs.Taken.{rows_where}
use Rattle.vx_array_scan.specs.Selected.{IsSelection}
use Rattle.vx_data_buffers.specs.Rows.{column_said}
use Rattle.vx_ffi_plan.specs.declared.kept.KeptPlan.{KeptPlan}
use Rattle.vx_ffi_plan.specs.Columns.{IsColumnOf, IsFilteredPage}
use Rattle.vx_ffi_plan.specs.Kept.{planned_tree, scope_of}

pub filtered : {A E : Type 0} (items : A → List ℕ) (kept : KeptPlan) (rows : ℕ) (buffers : List (List ℕ)) (c column : Batch) (found : List Bool) (r : Result A E)
    → column_said buffers (scope_of kept) rows ≡ Ok c → IsSelection (planned_tree kept) c (Ok found) → column ≡ batch c.type (rows_where c.rows found)
    → IfOk r (λ page. IsColumnOf column (items page)) → IfOk r (λ page. IsFilteredPage kept rows buffers (items page))
filtered items kept rows buffers c column found (Ok page) said selected is h = (c, found, said, selected, subst (λ b. IsColumnOf b (items page)) is h)
filtered items kept rows buffers c column found (Err e) said selected is h = tt
