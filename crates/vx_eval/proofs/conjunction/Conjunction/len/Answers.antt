use Rattle.std.proofs.Common.{sym, ap, ◌∙◌, length}
use Rattle.vx_eval.proofs.Conjoined.{conjoined_long}
use Rattle.vx_eval.proofs.conjunction.Conjunction.len.Goals as goal

pub returns : goal.returns
returns c = sym (conjoined_long c.self.inside.count c.self.inside.items.items) ∙ ap length c.self.view_is
