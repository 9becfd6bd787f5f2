-- A visitor that always goes on visits each element once, from left to right.
use Rattle.std.proofs.Common.{◌≡◌, List, refl, ap, subst, Ok, Err}
use Rattle.std.specs.List.{FoldsTo}
use Rattle.vx_dtype.specs.declared.error.VortexError.{VortexError}
use Rattle.vx_walk.specs.declared.order.TraversalOrder.{TraversalOrder}
use Rattle.vx_walk.specs.declared.order.TraversalOrder.TheVariants.{Stop, Continue}
use Rattle.vx_walk.specs.Orders.{Answer}
use Rattle.vx_walk.specs.Shapes.{Shape, Row, elements, row_elements}
use Rattle.vx_walk.specs.Visits.{Visited, at, along, within, VisitedRow, done, next, stop, fail, Continues, VisitsEach}
use Rattle.vx_walk.proofs.Steps.{FoldsTo-append}

order-value : {o p : TraversalOrder} → ◌≡◌ {A = Answer} (Ok o) (Ok p) → o ≡ p
order-value e = cc

stop-differs : ◌≡◌ {A = Answer} (Ok Stop) (Ok Continue) → ⊥
stop-differs e = cc

refusal-differs : {e : VortexError} → ◌≡◌ {A = Answer} (Err e) (Ok Continue) → ⊥
refusal-differs e = cc

module _ {V E : Type 0} (R : V → E → Answer → V → Type 0) (k : Continues R) where
  -- a step that answers Continue
  abbrev GoesOnFrom : V → E → V → Type 0
  GoesOnFrom u e w = R u e (Ok Continue) w

  abbrev Each : V → List E → Answer → V → Type 0
  Each v es a w = (a ≡ Ok Continue) × FoldsTo GoesOnFrom v es w

  mutual
    Visited-each : {v : V} {s : Shape E} {a : Answer} {w : V} → Visited R v s a w → Each v (elements s) a w
    Visited-each (at {v} {w} {e} {a} c) = let p = k v e a w c in (p, (w, subst (λ b. R v e b w) p c, refl))
    Visited-each (along r) = VisitedRow-each r refl
    Visited-each (within x) = Visited-each x

    VisitedRow-each : {o : TraversalOrder} {v : V} {r : Row E} {a : Answer} {w : V} → VisitedRow R o v r a w → o ≡ Continue → Each v (row_elements r) a w
    VisitedRow-each done e = (ap (λ p. Ok p) e, refl)
    VisitedRow-each (next {o} {p} {u} {v} {w} {s} {r} x g q) e =
        let one = Visited-each x in
        let rest = VisitedRow-each q (order-value one.0) in
        (rest.0, FoldsTo-append GoesOnFrom u v w (elements s) (row_elements r) one.1 rest.1)
    VisitedRow-each (stop x) e = absurd (stop-differs (Visited-each x).0)
    VisitedRow-each (fail x) e = absurd (refusal-differs (Visited-each x).0)

  pub Visited-visits_each : {v : V} {s : Shape E} {a : Answer} (w : V) → Visited R v s a w → VisitsEach R v (elements s) a
  Visited-visits_each w x = let each = Visited-each x in record { answer = each.0; after = w; steps = each.1 }
