use Rattle.std.proofs.Common.{◌∙◌, ap, is_lt}
use Rattle.vx_prune_bounds.proofs.BegunTexts.{told-past}
use Rattle.vx_prune_bounds.proofs.begun.comes_behind.Goals as goal

pub returns : goal.returns
returns c = c.is_lt.ensures ∙ ap is_lt c.compare_beginning.ensures ∙ told-past c.args.prefix.now c.args.text.now c.utf8.prefix c.utf8.text
