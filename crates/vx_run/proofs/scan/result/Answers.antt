use Rattle.std.proofs.Common.{◌≡◌, ◌∙◌, sym, ap}
use Rattle.vx_value.specs.Columns.{Batch}
use Rattle.vx_value.specs.Views.{type_of}
use Rattle.vx_tree.specs.Views.{bound_of}
use Rattle.vx_run.proofs.Scanned.{both_scanned}
use Rattle.vx_run.proofs.scan.result.Goals as goal

pub returns : goal.returns
returns c =
    let read : c.reader_of-reader.result.column ≡ c.args.batch.now = c.reader_of-reader.ensures.column ∙ c.in_ok-clone.ensures.cases in
    let same : c.reader_of-reader.result.column.type ≡ type_of c.args.plan.now.scope = ap (λ (b : Batch). b.type) read ∙ c.requires.batch ∙ sym c.requires.scope in
    both_scanned c.args.batch.now c.reader_of-reader.result.column (bound_of c.args.plan.now.tree) c.scan-answer.result read c.requires.batch c.requires.tree (c.scan-answer.ensures.meaning same) (c.scan-answer.ensures.typed same)
