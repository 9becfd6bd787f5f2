-- The comparison with the beginning tells it.
use Rattle.std.proofs.Common.{◌∙◌, ap, is_gt}
use Rattle.vx_prune_bounds.proofs.Texts.{told-before}
use Rattle.vx_prune_bounds.proofs.beginning.is_before_beginning.Goals as goal

pub returns : goal.returns
returns c = c.is_gt.ensures ∙ ap is_gt c.compare_beginning.ensures ∙ told-before c.args.pattern.now c.args.text.now c.utf8.pattern c.utf8.text
