use Rattle.vx_eval.proofs.Gathered.{HasFirst}
use Rattle.vx_eval.proofs.membership.elements.set_of.Given as goal

abbrev pub invariant-loop-item : goal.invariant-loop-item
invariant-loop-item l = HasFirst l.item-index l.set l.items
