use Rattle.std.proofs.Common.{sym, ap, ◌∙◌, take, drop}
use Rattle.vx_value.specs.Types.{null, Datum}
use Rattle.vx_array.specs.Shown.{shown}
use Rattle.vx_array.proofs.Parts.{part-map}
use Rattle.vx_array.proofs.Masked.{part-masked}
use Rattle.vx_array.proofs.validity.Validity.slice.Goals as goal

pub returns-in-Nothing : goal.returns-in-Nothing
returns-in-Nothing c = λ ds. sym (part-map (λ (d : Datum). null) c.args.from c.args.len ds) ∙ ap (λ v. take c.args.len (drop c.args.from (shown v ds))) (sym c.in-Nothing.is)

pub returns-in_ok-slice-in-Rows : goal.returns-in_ok-slice-in-Rows
returns-in_ok-slice-in-Rows c = λ ds. part-masked c.args.from c.args.len c.in-Rows.bits c.in_ok-slice-in-Rows.field-0 ds c.in_ok-slice-in-Rows.ensures ∙ ap (λ v. take c.args.len (drop c.args.from (shown v ds))) (sym c.in-Rows.is)
