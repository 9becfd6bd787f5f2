use Rattle.std.proofs.Common.{◌∙◌, sym}
use Rattle.vx_rewrite_folding.proofs.Pairs.{kept_pair, nothing_left, else_left}
use Rattle.vx_rewrite_folding.proofs.cases.without_idle.Goals.{in_default-rest, in-len1-up+in_ok-clone-3+in_ok-push-3}
use Rattle.vx_rewrite_folding.proofs.cases.without_idle.Goals as goal

pub returns : goal.returns
returns c = elim c.if-rest-lt1.branch [
  | in_default-rest w ↦ rw w.kept-is (nothing_left c.loop-rest.rest.now c.loop-rest.kept.items _ w.in_default-rest.len_below c.loop-rest.invariant)
  | in-len1-up+in_ok-clone-3+in_ok-push-3 w ↦ rw w.kept-is (else_left c.loop-rest.rest.now c.loop-rest.kept.items _ w.otherwise-item.result w.in_ok-clone-3.field-0 _ c.in_default.len_below w.in-len1-up.len_at_least w.otherwise-item.is w.in_ok-clone-3.ensures.cases w.in_ok-push-3.ensures.items c.loop-rest.invariant)
]

pub loop-rest-preserved-in_ok-push-2 : goal.loop-rest-preserved-in_ok-push-2
loop-rest-preserved-in_ok-push-2 c =
    kept_pair c.loop-rest.rest.now c.loop-rest.kept.items _ _ c.condition-item.result c.then-item.result c.in_ok-clone.field-0 c.in_ok-clone-2.field-0
    c.in-len2-up.len_at_least c.condition-item.is c.then-item.is c.in_ok-clone.ensures.cases c.in_ok-clone-2.ensures.cases c.in_ok-push.ensures.items c.in_ok-push-2.ensures.items (sym c.is_idle.ensures ∙ c.if-not-is_idle.true) ∙ c.loop-rest.invariant
