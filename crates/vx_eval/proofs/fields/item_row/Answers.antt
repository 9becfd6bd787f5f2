use Rattle.std.proofs.Common.{◌∙◌}
use Rattle.vx_eval.proofs.Structs.{item_row}
use Rattle.vx_eval.proofs.fields.item_row.Goals as goal

pub returns : goal.returns
returns c = c.item_or.ensures ∙ item_row c.args.place c.index-rows-i.result c.args.rows.now c.args.i c.requires.within c.index-rows-i.is
