use Rattle.std.proofs.Common.{◌∙◌, ap, sym, arith, get_or}
use Rattle.vx_value.specs.Items.{item_at}
use Rattle.vx_value.specs.Views.{value_of}
use Rattle.vx_array.proofs.Reading.{value_of-Null}
use Rattle.vx_array.proofs.Itemed.{item_there, item_missing}
use Rattle.vx_array.proofs.items.item_of.Goals as goal

pub returns-in_ok-clone-in-Some : goal.returns-in_ok-clone-in-Some
returns-in_ok-clone-in-Some c =
    let k = c.args.place in
    let x = c.in-Some.item.now in
    c.in_ok-clone-in-Some.ensures.cases ∙ item_there c.in-Struct.items k x (omega (arith, c.in-Some.ensures)) (c.in-Some.ensures.lookup.1 ∙ ap (λ l. get_or l k x) c.deref.ensures.value) ∙ ap (λ v. item_at k (value_of v)) (sym c.in-Struct.is)

pub returns-in-None : goal.returns-in-None
returns-in-None c = value_of-Null ∙ item_missing c.in-Struct.items c.args.place (omega (arith, c.in-None.ensures)) ∙ ap (λ v. item_at c.args.place (value_of v)) (sym c.in-Struct.is)
