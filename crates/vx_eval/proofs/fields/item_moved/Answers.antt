use Rattle.std.proofs.Common.{◌≡◌, get_or, arith, rules}
use Rattle.std.proofs.lemmas.Grind.{common_steps}
use Rattle.vx_value.specs.declared.value.Value.{the_lemmas}
use Rattle.vx_eval.proofs.Structs.{item_taken, item_past}
use Rattle.vx_eval.proofs.fields.item_moved.Goals as goal

pub returns-then-place-len : goal.returns-then-place-len
returns-then-place-len c =
    let at : c.swap_remove.result ≡ get_or c.in-Struct.items.items c.args.place c.swap_remove.result = search (rules, the_lemmas) in
    item_taken _ _ _ _ c.in-Struct.is (grind (arith, common_steps)) at

pub returns-in-Struct : goal.returns-in-Struct
returns-in-Struct c = item_past _ c.in-Struct.items _ c.in-Struct.is (grind (arith, common_steps))
