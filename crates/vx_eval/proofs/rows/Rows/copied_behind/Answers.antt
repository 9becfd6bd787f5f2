use Rattle.std.proofs.Common.{rules, sym}
use Rattle.vx_eval.specs.Columns.{rows_view}
use Rattle.vx_eval.proofs.Filled.{put_behind, all_rows}
use Rattle.vx_eval.proofs.rows.Rows.copied_behind.Goals as goal

pub returns-in-Truths : goal.returns-in-Truths
returns-in-Truths c =
    put_behind _ _ _ _ (all_rows (rows_view c.args.self.now) _ (sym c.len-count.ensures)) (c.made_behind.ensures _ (λ i v lt p. search rules))

pub returns-in-Compared : goal.returns-in-Compared
returns-in-Compared c =
    put_behind _ _ _ _ (all_rows (rows_view c.args.self.now) _ (sym c.len-count.ensures)) (c.made_behind-in-Compared.ensures _ (λ i v lt p. search rules))

pub returns-in_default : goal.returns-in_default
returns-in_default c =
    put_behind _ _ _ _ (all_rows (rows_view c.args.self.now) _ (sym c.len-count.ensures)) (c.made_behind-in_default.ensures _ (λ i v lt p. search rules))

pub returns-in-Item : goal.returns-in-Item
returns-in-Item c =
    put_behind _ _ _ _ (all_rows (rows_view c.args.self.now) _ (sym c.len-count.ensures)) (c.made_behind-in-Item.ensures _ (λ i v lt p. search rules))
