use Rattle.std.proofs.Common.{rules, ◌≡◌, refl, Ok, Err}
use Rattle.vx_walk.proofs.Rewriting.{Rewritten-refused, Rewritten-stopped, Rewritten-skipped}
use Rattle.vx_walk.proofs.rewrite.begin.Goals as goal

pub returns-in_err-down-clause-begun : goal.returns-in_err-down-clause-begun
returns-in_err-down-clause-begun g c =
    let e : c.from_residual.result ≡ Err c.in_err-down.field-0.0 = search rules in
    rw e (Rewritten-refused _ _ _ _ (record { node = _; looks = refl; answer = _; sees = refl; step = c.in_err-down.ensures.gives }))

pub returns-in-Stop-clause-begun : goal.returns-in-Stop-clause-begun
returns-in-Stop-clause-begun g c =
    Rewritten-stopped _ _ _ _ _ (record { node = _; looks = refl; answer = _; sees = refl; step = c.in_ok-down.ensures.gives }) c.in-Stop.is

pub returns-in_err-up-in-Skip-clause-begun : goal.returns-in_err-up-in-Skip-clause-begun
returns-in_err-up-in-Skip-clause-begun g c =
    let e : c.from_residual-in_err-up-in-Skip.result ≡ Err c.in_err-up-in-Skip.field-0.0 = search rules in
    rw e (Rewritten-skipped _ _ _ _ _ (Err c.in_err-up-in-Skip.field-0.0)
    (record { node = _; looks = refl; answer = _; sees = refl; step = c.in_ok-down.ensures.gives }) c.in-Skip.is
    (record { node = _; looks = refl; answer = _; sees = refl; step = c.in_err-up-in-Skip.ensures.gives }))

pub returns-in_ok-up-in-Skip-clause-begun : goal.returns-in_ok-up-in-Skip-clause-begun
returns-in_ok-up-in-Skip-clause-begun g c =
    rw c.marked.ensures (Rewritten-skipped _ _ _ _ _ (Ok _)
    (record { node = _; looks = refl; answer = _; sees = refl; step = c.in_ok-down.ensures.gives }) c.in-Skip.is
    (record { node = _; looks = refl; answer = _; sees = refl; step = c.in_ok-up-in-Skip.ensures.gives }))
