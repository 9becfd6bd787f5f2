use Rattle.std.proofs.Common.{rules, ◌≡◌, Err}
use Rattle.vx_walk.proofs.Rewriting.{Rewritten-lost, Rewritten-finished}
use Rattle.vx_walk.proofs.rewrite.rewrite_node.Goals as goal

pub returns-in_err-handed-clause-rewritten : goal.returns-in_err-handed-clause-rewritten
returns-in_err-handed-clause-rewritten g c =
    let e : c.from_residual.result ≡ Err c.in_err-handed.field-0.0 = search rules in
    rw e c.in_err-handed.ensures.begun

pub returns-in-Whole-clause-rewritten : goal.returns-in-Whole-clause-rewritten
returns-in-Whole-clause-rewritten g c = rw c.in-Whole.is at c.in_ok-handed.ensures.begun

pub returns-in_err-below-in-Open-clause-rewritten : goal.returns-in_err-below-in-Open-clause-rewritten
returns-in_err-below-in-Open-clause-rewritten g c =
    let e : c.from_residual-in_err-below-in-Open.result ≡ Err c.in_err-below-in-Open.field-0.0 = search rules in
    let k = rw c.in-Open.is at c.in_ok-handed.ensures.begun in
    rw e (Rewritten-lost _ _ _ _ _ _ k.0 k.1 c.in_err-below-in-Open.ensures.rewritten)

pub returns-in_err-up-in-Open-clause-rewritten : goal.returns-in_err-up-in-Open-clause-rewritten
returns-in_err-up-in-Open-clause-rewritten g c =
    let e : c.from_residual-in_err-up-in-Open.result ≡ Err c.in_err-up-in-Open.field-0.0 = search rules in
    let k = rw c.in-Open.is at c.in_ok-handed.ensures.begun in
    rw e (Rewritten-finished _ _ _ _ _ _ k.0 k.1 c.in_ok-below-in-Open.ensures.rewritten c.in_err-up-in-Open.ensures.finished)

pub returns-in_ok-up-in-Open-clause-rewritten : goal.returns-in_ok-up-in-Open-clause-rewritten
returns-in_ok-up-in-Open-clause-rewritten g c =
    let k = rw c.in-Open.is at c.in_ok-handed.ensures.begun in
    rw c.marked.ensures (Rewritten-finished _ _ _ _ _ _ k.0 k.1 c.in_ok-below-in-Open.ensures.rewritten c.in_ok-up-in-Open.ensures.finished)
