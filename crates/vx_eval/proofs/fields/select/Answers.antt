use Rattle.std.proofs.Common.{◌≡◌, rules, refl, sym, ap, ◌∙◌, ◌∷◌, [], get_or}
use Rattle.vx_value.specs.Types.{null}
use Rattle.vx_value.specs.Views.{type_of, value_of}
use Rattle.vx_fn.specs.Functions.{select}
use Rattle.vx_eval.specs.Columns.{rows_view}
use Rattle.vx_eval.specs.Kernels.{items_at}
use Rattle.vx_eval.proofs.Filled.{evaluated}
use Rattle.vx_eval.proofs.fields.select.Goals as goal

pub returns : goal.returns
returns c =
    evaluated (select c.args.selection.now) (type_of c.args.dtype.now ∷ []) c.args.count (rows_view c.args.input.now ∷ []) _ refl
    (c.tabulated.ensures.rows _ (λ i v lt p.
    let row = get_or (rows_view c.args.input.now) i null in
    let items : value_of v ≡ items_at c.as_slice-places.result.now row = search rules in
    items ∙ ap (λ ks. items_at ks row) c.as_slice-places.ensures.value ∙ sym (c.in_ok-places.ensures.places row)))
    c.tabulated.ensures.memory
