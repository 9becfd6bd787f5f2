use Rattle.std.proofs.Common.{◌∙◌, ap, is_gt}
use Rattle.vx_prune_bounds.proofs.BegunTexts.{told-before}
use Rattle.vx_prune_bounds.proofs.begun.comes_before.Goals as goal

pub returns : goal.returns
returns c = c.is_gt.ensures ∙ ap is_gt c.compare_beginning.ensures ∙ told-before c.args.prefix.now c.args.text.now c.utf8.prefix c.utf8.text
