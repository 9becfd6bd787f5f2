use Rattle.std.proofs.Common.{◌≡◌, rules, arith, subst, IfOk}
use Rattle.std.proofs.lemmas.Grind.{common_steps}
use Rattle.vx_value.specs.Views.{value_of}
use Rattle.vx_eval.specs.Columns.{item_at}
use Rattle.vx_eval.proofs.Structs.{item_taken, item_past}
use Rattle.vx_eval.proofs.fields.item_copied.Goals as goal

pub returns-in-Some : goal.returns-in-Some
returns-in-Some c =
    let item : value_of c.in-Some.item.now ≡ item_at c.args.place (value_of c.args.row.now) = item_taken _ _ _ _ c.in-Struct.is (grind (arith, common_steps)) (search rules) in
    subst (λ d. IfOk c.copied.result (λ copy. value_of copy ≡ d)) item c.copied.ensures

pub returns-in-None : goal.returns-in-None
returns-in-None c = item_past _ c.in-Struct.items _ c.in-Struct.is (grind (arith, common_steps))
