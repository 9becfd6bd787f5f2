use Rattle.std.proofs.Common.{ap, sym, ◌∙◌, arith, get_or}
use Rattle.vx_value.specs.Views.{value_of}
use Rattle.vx_value.specs.Items.{item_at}
use Rattle.vx_array_build.proofs.Filling.{item_missing, item_there}
use Rattle.vx_array_build.proofs.columns.item_in.Goals as goal

pub returns-in-Some : goal.returns-in-Some
returns-in-Some c = item_there c.in-Struct.items c.args.j c.in-Some.item.now (omega (arith, c.in-Some.ensures)) (c.in-Some.ensures.lookup.1 ∙ ap (λ l. get_or l c.args.j c.in-Some.item.now) c.deref.ensures.value) ∙ ap (λ v. item_at c.args.j (value_of v)) (sym c.in-Struct.is)

pub returns-in-None : goal.returns-in-None
returns-in-None c = c.requires ∙ item_missing c.in-Struct.items c.args.j (omega (arith, c.in-None.ensures)) ∙ ap (λ v. item_at c.args.j (value_of v)) (sym c.in-Struct.is)
