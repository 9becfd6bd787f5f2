-- The comparison with the beginning tells it.
use Rattle.std.proofs.Common.{◌∙◌, ap, is_lt}
use Rattle.vx_prune_bounds.proofs.Texts.{told-past}
use Rattle.vx_prune_bounds.proofs.beginning.is_past_beginning.Goals as goal

pub returns : goal.returns
returns c = c.is_lt.ensures ∙ ap is_lt c.compare_beginning.ensures ∙ told-past c.args.pattern.now c.args.text.now c.utf8.pattern c.utf8.text
