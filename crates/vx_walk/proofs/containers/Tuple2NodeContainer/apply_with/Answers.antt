use Rattle.std.proofs.Common.{rules, ◌≡◌, Err}
use Rattle.vx_walk.proofs.Calls.{Reached-start, Reached-next, Reached-last, Reached-stop, Reached-fail, GoesOn-from_cases}
use Rattle.vx_walk.proofs.containers.Tuple2NodeContainer.apply_with.Goals as goal

pub returns-in_err-apply_with-clause-applied : goal.returns-in_err-apply_with-clause-applied
returns-in_err-apply_with-clause-applied g c =
    let e : c.from_residual.result ≡ Err c.in_err-apply_with.field-0.0 = search rules in
    rw e (Reached-fail _ (Reached-start _ _ _) c.in_err-apply_with.ensures.applied)

pub returns-in-Stop-clause-applied : goal.returns-in-Stop-clause-applied
returns-in-Stop-clause-applied g c = Reached-stop _ (Reached-start _ _ _) (rw c.in-Stop.is at c.in_ok-apply_with.ensures.applied)

pub returns-in-Skip : goal.returns-in-Skip
returns-in-Skip g c = record {
  applied = Reached-last _ (Reached-next _ (Reached-start _ _ _) c.in_ok-apply_with.ensures.applied (GoesOn-from_cases c.in-Skip.is)) c.apply_with-in-Skip.ensures.applied;
  ready = c.apply_with-in-Skip.ensures.ready;
}
