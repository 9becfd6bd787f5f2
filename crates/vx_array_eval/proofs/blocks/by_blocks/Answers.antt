use Rattle.std.proofs.Common.{◌≡◌, ◌+◌, ◌-◌, ◌++◌, ◌∙◌, ap, arith, sym, rules, drop, take}
use Rattle.vx_tree.specs.Views.{bound_of}
use Rattle.vx_array.specs.Rows.{lanes_rows}
use Rattle.vx_eval.specs.Evaluation.{tree_answer}
use Rattle.vx_eval.proofs.Cuts.{told_more}
use Rattle.vx_array_eval.proofs.blocks.by_blocks.Goals as goal

pub loop-from-preserved : goal.loop-from-preserved
loop-from-preserved g c =
    let b = bound_of c.args.b.now in
    let all = lanes_rows c.args.batch.now in
    let rows = g.B.RowsBuilder.rows in
    let from = c.loop-from.from in
    let len = c.min-len.result in
    let out = lanes_rows c.in_ok-block.block in
    let cut : len ≡ from + len - from = omega arith in
    let pushed : rows c.in-Some.more ≡ rows c.loop-from.rows ++ out = search rules in
    told_more b all (rows c.loop-from.rows) _ out from (from + len) c.requires.apart (omega (arith, c.min-len.ensures, c.loop-from-test.true)) (omega (arith, c.min-len.ensures, c.loop-from-test.true, c.len-count.ensures)) c.loop-from.invariant
    (ap (λ k. tree_answer b (take k (drop from all))) (sym cut) ∙ ap (tree_answer b) (sym c.in_ok-slice.ensures) ∙ c.in_ok-block.ensures) pushed
