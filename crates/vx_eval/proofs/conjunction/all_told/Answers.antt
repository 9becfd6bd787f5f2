use Rattle.std.proofs.Common.{◌≡◌, ◌∙◌, ap, arith, rules, get_or, true, false}
use Rattle.vx_value.specs.Types.{null, bool}
use Rattle.vx_eval.specs.Columns.{row_at}
use Rattle.vx_eval.proofs.Conjoined.{none_false, all_start, all_more, all_false, all_told, still_true, then_null, have_there}
use Rattle.vx_eval.proofs.conjunction.all_told.Goals as goal
use Rattle.vx_eval.proofs.conjunction.all_told.Goals.{in-Some-true, in-None}

pub loop-k-init : goal.loop-k-init
loop-k-init c = all_start (row_at c.args.items.now c.args.i)

pub truth-requires-clause-within : goal.truth-requires-clause-within
truth-requires-clause-within c = have_there c.args.i c.loop-k.k c.args.items.now c.index-items-k.result c.requires.within (omega arith) c.index-items-k.is

pub returns-in-Some-false : goal.returns-in-Some-false
returns-in-Some-false c =
    let here : bool false ≡ get_or c.index-items-k.result c.args.i null = search rules in
    all_false c.args.i c.loop-k.k c.args.items.now c.index-items-k.result c.loop-k.all_true (omega arith) c.index-items-k.is c.loop-k.invariant here

pub loop-k-preserved : goal.loop-k-preserved
loop-k-preserved c =
    elim c.match-truth.branch [
      | in-Some-true w ↦
          let here : bool true ≡ get_or c.index-items-k.result c.args.i null = search rules in
          all_more c.args.i c.loop-k.k c.args.items.now c.index-items-k.result _ _ _ (omega arith) c.index-items-k.is c.loop-k.invariant here (ap none_false w.all_true-is ∙ still_true c.loop-k.all_true)
      | in-None w ↦
          let here : null ≡ get_or c.index-items-k.result c.args.i null = search rules in
          all_more c.args.i c.loop-k.k c.args.items.now c.index-items-k.result _ _ _ (omega arith) c.index-items-k.is c.loop-k.invariant here (ap none_false w.all_true-is ∙ then_null c.loop-k.all_true)
    ]

pub returns-then-all_true : goal.returns-then-all_true
returns-then-all_true c =
    let is : true ≡ c.loop-k.all_true = search rules in
    ap none_false is ∙ all_told c.args.i c.loop-k.k c.args.items.now c.loop-k.all_true c.loop-k-test.false c.loop-k.invariant

pub returns-else-all_true : goal.returns-else-all_true
returns-else-all_true c =
    let is : false ≡ c.loop-k.all_true = search rules in
    ap none_false is ∙ all_told c.args.i c.loop-k.k c.args.items.now c.loop-k.all_true c.loop-k-test.false c.loop-k.invariant
