use Rattle.std.proofs.Common.{◌∙◌, sym, ap}
use Rattle.vx_value.specs.Columns.{Batch}
use Rattle.vx_value.specs.Views.{type_of}
use Rattle.vx_scan.proofs.Scanning.{differs}
use Rattle.vx_test_runner.proofs.answers.scans.reader.Goals as goal

-- a column of another type than the plan's
pub returns-then-ne : goal.returns-then-ne
returns-then-ne c = λ same.
    let as_asked = c.dtype.ensures ∙ ap (λ (b : Batch). b.type) (sym c.new.ensures.column) ∙ same ∙ ap type_of (sym c.scope.ensures) in
    absurd (differs (type_of c.dtype.result.now) (type_of c.scope.result.now) c.ne.result c.ne.ensures c.if-ne.true as_asked)
