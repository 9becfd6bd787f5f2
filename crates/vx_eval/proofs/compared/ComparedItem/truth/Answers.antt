use Rattle.std.proofs.Common.{◌<◌, ap, sym, subst, ◌∙◌, length, get_or}
use Rattle.vx_value.specs.Types.{null}
use Rattle.vx_value.specs.Views.{value_of}
use Rattle.vx_fn.specs.Values.{binary_value}
use Rattle.vx_fn.specs.Views.{operation_of}
use Rattle.vx_eval_masks.specs.Merges.{values_of}
use Rattle.vx_eval.proofs.Filled.{told_at}
use Rattle.vx_eval.proofs.compared.ComparedItem.truth.Goals as goal

pub returns : goal.returns
returns c =
    let op = operation_of c.self.inside.operator in
    let d = value_of c.self.inside.value.now in
    let rows = values_of c.self.inside.rows.now in
    c.compared_by.ensures
    ∙ ap (λ x. binary_value op x d) c.item_row-item.ensures
    ∙ sym (told_at op c.self.inside.place d rows c.args.i (subst (λ ds. c.args.i < length ds) (sym c.self.view_is) c.requires.within))
    ∙ ap (λ ds. get_or ds c.args.i null) c.self.view_is
