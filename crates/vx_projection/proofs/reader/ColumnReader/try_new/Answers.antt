use Rattle.std.proofs.Common.{◌≡◌, ◌∙◌, ap, sym, subst, None}
use Rattle.vx_value.specs.Columns.{Batch}
use Rattle.vx_value.specs.Paths.{minimal_paths}
use Rattle.vx_rewrite_paths.specs.Leading.{EachLeads}
use Rattle.vx_projection.specs.Lost.{first_lost}
use Rattle.vx_projection.proofs.Finding.{all_found-lead, unrefused}
use Rattle.vx_projection.proofs.reader.ColumnReader.try_new.Goals as goal

pub returns-clause-lead : goal.returns-clause-lead
returns-clause-lead c =
    let paths = minimal_paths c.args.allowed.now in
    let found : first_lost paths c.args.column.type ≡ None = ap (first_lost paths) (sym c.dtype.ensures) ∙ unrefused _ tt c.in_ok-check_paths.field-0 c.in_ok-check_paths.ensures in
    let lead = all_found-lead paths c.args.column.type found in
    subst (λ ps. EachLeads ps c.new.result.column.type) (ap minimal_paths (sym c.new.ensures.allowed)) (subst (λ t. EachLeads paths t) (ap (λ (b : Batch). b.type) (sym c.new.ensures.column)) lead)
