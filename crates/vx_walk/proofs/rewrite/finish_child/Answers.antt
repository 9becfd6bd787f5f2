use Rattle.std.proofs.Common.{rules, ◌≡◌, Err}
use Rattle.vx_walk.proofs.rewrite.finish_child.Goals as goal

pub returns-in_err-up-clause-finished : goal.returns-in_err-up-clause-finished
returns-in_err-up-clause-finished g c =
    let e : c.from_residual.result ≡ Err c.in_err-up.field-0.0 = search rules in
    rw e (c.take_last-node.new.self.items, c.take_last-node.result, c.take_last-node.ensures.items, c.in_err-up.ensures.finished)

pub returns-clause-finished : goal.returns-clause-finished
returns-clause-finished g c =
    (c.take_last-node.new.self.items, c.take_last-node.result, c.take_last-node.ensures.items, c.in_ok-up.up, c.push.ensures.pushed, c.in_ok-up.ensures.finished)
