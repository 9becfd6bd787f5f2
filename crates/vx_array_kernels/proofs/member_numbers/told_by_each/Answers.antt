use Rattle.std.proofs.Common.{◌∙◌, ap, false, length}
use Rattle.std.proofs.lemmas.List.{length-map, length-replicate}
use Rattle.vx_array_kernels.proofs.Members.{each_more, none_found}
use Rattle.vx_array_kernels.proofs.member_numbers.told_by_each.Goals as goal

pub loop-other-init : goal.loop-other-init
loop-other-init g c = record {
  told = c.in_ok-told.ensures ∙ none_found c.args.numbers.now;
  long = ap length c.in_ok-same.ensures ∙ length-replicate (length c.args.numbers.now) false;
}

pub loop-other-preserved : goal.loop-other-preserved
loop-other-preserved g c = record {
  told = c.or_with.ensures ∙ each_more g.T.Number.number c.args.others.now c.args.numbers.now c.loop-other.other-index c.other-item.result _ _ c.loop-other-test.true c.other-item.is c.loop-other.invariant.told c.compare.ensures;
  long = ap length c.compare.ensures ∙ length-map c.args.numbers.now _;
}
