use Rattle.std.proofs.Common.{rules, ◌≡◌, refl, inl, inr, Err}
use Rattle.vx_walk.proofs.Calls.{GoesOn-from_cases}
use Rattle.vx_walk.proofs.Mappings.{MapFront-start, MapFront-next, MapFront-step, MapFront-fail, MapFront-done}
use Rattle.vx_walk.proofs.containers.Tuple2NodeContainer.map_with.Goals as goal
use Rattle.vx_walk.proofs.containers.Tuple2NodeContainer.map_with.Goals.{in-Stop, in-Skip+in_ok-second-in-Skip}

pub returns-in_err-first-clause-mapped : goal.returns-in_err-first-clause-mapped
returns-in_err-first-clause-mapped g c =
    let e : c.from_residual.result ≡ Err c.in_err-first.field-0.0 = search rules in
    rw e (MapFront-fail _ _ g.C.NodeContainer.shape (MapFront-start _ _ _ _ _) (λ q. cc) c.in_err-first.ensures.mapped)

pub returns-in_err-second-in-Skip : goal.returns-in_err-second-in-Skip
returns-in_err-second-in-Skip g c =
    let e : c.from_residual-in_err-second-in-Skip.result ≡ Err c.in_err-second-in-Skip.field-0.0 = search rules in
    let f = MapFront-next _ _ g.C.NodeContainer.shape c.in_ok-first.first (MapFront-start _ _ _ _ _) (λ q. cc) c.in_ok-first.ensures.mapped in
    record {
      mapped = rw e (MapFront-fail _ _ _ f (GoesOn-from_cases c.in-Skip.is) c.in_err-second-in-Skip.ensures.mapped);
      ready = search rules;
    }

pub returns-clause-mapped : goal.returns-clause-mapped
returns-clause-mapped g c =
    let f = MapFront-next _ _ g.C.NodeContainer.shape c.in_ok-first.first (MapFront-start _ _ _ _ _) (λ q. cc) c.in_ok-first.ensures.mapped in
    MapFront-done _ _ _ refl (MapFront-step _ _ _ _ c.match-first.second f
    (elim c.match-first.branch [
      | in-Stop w ↦ inl (w.in-Stop.is, w.mapper-is, w.second-is)
      | in-Skip+in_ok-second-in-Skip w ↦ inr (GoesOn-from_cases w.in-Skip.is, rw (w.second-is, w.mapper-is) w.in_ok-second-in-Skip.ensures.mapped)
    ]))
