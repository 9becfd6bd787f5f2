use Rattle.std.proofs.Common.{◌∙◌, ap, arith}
use Rattle.std.proofs.lemmas.List.{length-map}
use Rattle.vx_tree.specs.Views.{bound_of}
use Rattle.vx_value.specs.Views.{value_of}
use Rattle.vx_eval.specs.Evaluation.{tree_answer}
use Rattle.vx_eval.proofs.Cuts.{told_more, told_all, values_between}
use Rattle.vx_eval.proofs.blocks.by_blocks.Goals as goal

pub loop-from-preserved : goal.loop-from-preserved
loop-from-preserved c =
    told_more _ _ _ _ _ _ _ c.requires.apart (omega (arith, c.min.ensures, c.loop-from-test.true)) (omega (arith, c.min.ensures, c.loop-from.invariant.within, length-map c.args.rows.now value_of)) c.loop-from.invariant
    (ap (tree_answer (bound_of c.args.b.now)) (values_between _ _ c.args.rows.now) ∙ c.in_ok-evaluate.ensures) c.in_ok-values-2.ensures

pub returns : goal.returns
returns c = told_all _ _ _ _ (omega (arith, c.requires.some, length-map c.args.rows.now value_of)) (omega (arith, c.loop-from-test.false, length-map c.args.rows.now value_of)) c.loop-from.invariant
