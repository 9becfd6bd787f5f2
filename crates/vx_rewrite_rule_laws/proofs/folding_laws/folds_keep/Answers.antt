use Rattle.vx_rewrite_rule_laws.proofs.FoldingKeeping.{folds_keep}
use Rattle.vx_rewrite_rule_laws.proofs.folding_laws.folds_keep.Goals as goal

pub returns : goal.returns
returns c = folds_keep
