use Rattle.std.proofs.Common.{rules}
use Rattle.vx_eval.specs.Columns.{rows_view}
use Rattle.vx_eval.proofs.Trues.{true_among}
use Rattle.vx_eval.proofs.rows.Rows.true_rows.Goals as goal

pub returns-in-Compared : goal.returns-in-Compared
returns-in-Compared c = true_among (rows_view c.args.self.now) _ _ _ c.requires (search rules) (c.mask_of.ensures _ (λ i b lt p. search rules))

pub returns-in_default : goal.returns-in_default
returns-in_default c = true_among (rows_view c.args.self.now) _ _ _ c.requires (search rules) (c.mask_of-in_default.ensures _ (λ i b lt p. search rules))
