use Rattle.std.proofs.Common.{Ok, length, sym, ap, ◌∙◌}
use Rattle.vx_data_buffers.specs.Bytes.{bytes_in}
use Rattle.vx_ffi_plan.specs.Kept.{planned_tree}
use Rattle.vx_ffi_plan.proofs.Filtered.{filtered}
use Rattle.vx_ffi_plan.proofs.SelectedRows.{selection_long}
use Rattle.vx_ffi_plan.proofs.laid.filtered_column.Goals as goal

pub filter-requires : goal.filter-requires
filter-requires c =
    ap length c.deref-4.ensures ∙ selection_long (planned_tree c.args.plan.now) c.deref-2.result.now c.in_ok-rows.rows.value c.in_ok-rows.ensures.rows
    ∙ ap (λ a. length a.rows) (c.deref-2.ensures ∙ sym c.deref-3.ensures)

pub returns-in-Ok-clause-page : goal.returns-in-Ok-clause-page
returns-in-Ok-clause-page c =
    filtered (λ page. page.items) c.args.plan.now c.args.batch.now.rows (bytes_in c.args.batch.now.buffers.now) c.deref-2.result.now c.in-Ok.kept c.in_ok-rows.rows.value c.column_page.result
    (c.in_ok-array.ensures.batch ∙ ap Ok (sym c.deref-2.ensures)) c.in_ok-rows.ensures.rows (cc (c.in-Ok.ensures, c.deref-2.ensures, c.deref-3.ensures, c.deref-4.ensures)) c.column_page.ensures.page
