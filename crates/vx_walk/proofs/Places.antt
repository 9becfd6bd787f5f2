-- What is handed back for a container has the same places.
use Rattle.std.proofs.Common.{◌≡◌, refl, ap, ◌∙◌, sym, Ok, Err, IfOk}
use Rattle.vx_walk.specs.declared.order.TraversalOrder.{TraversalOrder}
use Rattle.vx_walk.specs.Handed.{Back, seen}
use Rattle.vx_walk.specs.Shapes.{Shape, element, row, inside, rc, Row, no_part, part, shape_seen, row_seen, places}
use Rattle.vx_walk.specs.Containers.{Mapped, at, along, within, cloned, not_begun, not_held, MappedRow, none, keep, next, fail}

-- the places of parts
abbrev row_places : {E : Type 0} → Row E → Row (Unit {0})
row_places r = row_seen (λ e. tt) r

mutual
  -- elements that are seen by f stand in the same places
  places-seen : {E M : Type 0} (f : E → M) (s : Shape E) → places (shape_seen f s) ≡ places s
  places-seen f (element e) = refl
  places-seen f (row r) = ap (λ q. row q) (row_places-seen f r)
  places-seen f (inside h s) = ap (λ q. inside h q) (places-seen f s)

  row_places-seen : {E M : Type 0} (f : E → M) (r : Row E) → row_places (row_seen f r) ≡ row_places r
  row_places-seen f no_part = refl
  row_places-seen f (part s r) = ap (λ q. part q (row_places (row_seen f r))) (places-seen f s) ∙ ap (λ q. part (places s) q) (row_places-seen f r)

-- containers whose elements are seen alike have the same places
places-alike : {E M : Type 0} (f : E → M) (s t : Shape E) → shape_seen f s ≡ shape_seen f t → places s ≡ places t
places-alike f s t e = sym (places-seen f s) ∙ ap (λ q. places q) e ∙ places-seen f t

-- of what is handed back
abbrev Placed : {E : Type 0} → Back (Shape E) → Shape E → Type 0
Placed a s = IfOk a (λ t. places t.value ≡ places s)

Placed-through : {E : Type 0} (a : Back (Shape E)) (s t : Shape E) → places s ≡ places t → Placed a s → Placed a t
Placed-through (Ok b) s t e p = p ∙ e
Placed-through (Err b) s t e p = tt

module _ {V E M : Type 0} (mirror : E → M) (R : V → E → Back E → V → Type 0) where
  mutual
    pub Mapped-places : {v : V} {s : Shape E} {a : Back (Shape E)} {w : V} → Mapped mirror R v s a w → IfOk a (λ t. places t.value ≡ places s)
    Mapped-places (at (Ok t) c) = refl
    Mapped-places (at (Err e) c) = tt
    Mapped-places (along (Ok t) m) = ap (λ q. row q) (MappedRow-places m)
    Mapped-places (along (Err e) m) = tt
    Mapped-places (within {h = h} (Ok t) m) = ap (λ q. inside h q) (Mapped-places m)
    Mapped-places (within (Err e) m) = tt
    Mapped-places (cloned {s = s} {a = a} copy e m) = Placed-through a (inside rc copy) (inside rc s) (ap (λ q. inside rc q) (places-alike mirror copy s e)) (Mapped-places m)
    Mapped-places (not_begun k) = tt
    Mapped-places (not_held k m) = tt

    MappedRow-places : {o : TraversalOrder} {v : V} {r : Row E} {a : Back (Row E)} {w : V} → MappedRow mirror R o v r a w → IfOk a (λ t. row_places t.value ≡ row_places r)
    MappedRow-places none = refl
    MappedRow-places (keep {s = s} (Ok t) m) = ap (λ q. part (places s) q) (MappedRow-places m)
    MappedRow-places (keep (Err e) m) = tt
    MappedRow-places (next {s = s} {t = t} (Ok q) g m n) = ap (λ p. part p (row_places q.value)) (Mapped-places m) ∙ ap (λ p. part (places s) p) (MappedRow-places n)
    MappedRow-places (next (Err e) g m n) = tt
    MappedRow-places (fail g m) = tt

-- the same of a container, seen by its shape
pub places_stay : {V C E M : Type 0} (mirror : E → M) (R : V → E → Back E → V → Type 0) (shape : C → Shape E) {v w : V} {s : Shape E} (a : Back C) → Mapped mirror R v s (seen shape a) w → IfOk a (λ t. places (shape t.value) ≡ places s)
places_stay mirror R shape (Ok t) m = Mapped-places mirror R m
places_stay mirror R shape (Err e) m = tt
