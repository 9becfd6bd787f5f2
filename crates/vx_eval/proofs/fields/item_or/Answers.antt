use Rattle.std.proofs.Common.{arith, rules, ◌∙◌, sym}
use Rattle.std.proofs.lemmas.Grind.{common_steps}
use Rattle.vx_eval.proofs.Structs.{item_taken, item_past, value_of-Null}
use Rattle.vx_eval.proofs.fields.item_or.Goals as goal

pub returns-in-Some : goal.returns-in-Some
returns-in-Some c = item_taken _ _ _ _ c.in-Struct.is (grind (arith, common_steps)) (search rules)

pub returns-in-None : goal.returns-in-None
returns-in-None c = c.requires ∙ sym value_of-Null ∙ item_past _ c.in-Struct.items _ c.in-Struct.is (grind (arith, common_steps))
