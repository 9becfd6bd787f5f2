use Rattle.std.proofs.Common.{◌∙◌, ap, sym}
use Rattle.std.proofs.Math.ListN.{replicate}
use Rattle.vx_value.specs.Views.{value_of}
use Rattle.vx_array.proofs.Reading.{value_of-Bool, value_of-Null}
use Rattle.vx_array_kernels.proofs.Chosen.{null_truths, same_truths}
use Rattle.vx_array_kernels.proofs.truths.repeated.Goals as goal

pub returns-in_ok-zeros-in-Null-2 : goal.returns-in_ok-zeros-in-Null-2
returns-in_ok-zeros-in-Null-2 c =
    null_truths c.args.count c.in_ok-zeros-in-Null.field-0 c.in_ok-zeros-in-Null-2.field-0 c.in_ok-zeros-in-Null.ensures c.in_ok-zeros-in-Null-2.ensures ∙ ap (replicate c.args.count) (sym (ap value_of c.in-Null.is ∙ value_of-Null))

pub returns-in_ok-same_rows-in-Bool : goal.returns-in_ok-same_rows-in-Bool
returns-in_ok-same_rows-in-Bool c =
    same_truths c.args.count c.in-Bool.truth c.in_ok-all_rows-in-Bool.field-0 c.in_ok-same_rows-in-Bool.field-0 c.in_ok-all_rows-in-Bool.ensures c.in_ok-same_rows-in-Bool.ensures
    ∙ ap (replicate c.args.count) (sym (ap value_of c.in-Bool.is ∙ value_of-Bool c.in-Bool.truth))
