-- How a container is visited.
use Rattle.std.specs.Prelude.{◌≡◌, List, Ok, Err}
use Rattle.std.specs.List.{FoldsTo}
use Rattle.vx_dtype.specs.declared.error.VortexError.{VortexError}
use Rattle.vx_walk.specs.declared.order.TraversalOrder.{TraversalOrder}
use Rattle.vx_walk.specs.declared.order.TraversalOrder.TheVariants.{Stop, Continue}
use Rattle.vx_walk.specs.Orders.{Answer, GoesOn}
use Rattle.vx_walk.specs.Shapes.{Holder, Shape, element, row, inside, Row, no_part, part}

module _ {V E : Type 0} (R : V → E → Answer → V → Type 0) where
  mutual
    -- the elements of a container are visited from left to right until Stop or a refusal; the last answer is the answer
    pub data Visited : V → Shape E → Answer → V → Type 0 where
      at : {v w : V} {e : E} {a : Answer} → R v e a w → Visited v (element e) a w
      -- without a part the answer is Continue
      along : {v w : V} {r : Row E} {a : Answer} → VisitedRow Continue v r a w → Visited v (row r) a w
      within : {h : Holder} {v w : V} {s : Shape E} {a : Answer} → Visited v s a w → Visited v (inside h s) a w

    -- the parts of a row are visited from left to right; o is the answer of the one before
    pub data VisitedRow : TraversalOrder → V → Row E → Answer → V → Type 0 where
      -- no part is left: the last answer is the answer
      done : {o : TraversalOrder} {v : V} → VisitedRow o v no_part (Ok o) v
      -- Skip or Continue of a part, then the later ones
      next : {o p : TraversalOrder} {u v w : V} {s : Shape E} {r : Row E} {a : Answer} → Visited u s (Ok p) v → GoesOn p → VisitedRow p v r a w → VisitedRow o u (part s r) a w
      -- Stop of a part ends the visits
      stop : {o : TraversalOrder} {v w : V} {s : Shape E} {r : Row E} → Visited v s (Ok Stop) w → VisitedRow o v (part s r) (Ok Stop) w
      -- a refusal ends the visits
      fail : {o : TraversalOrder} {v w : V} {s : Shape E} {r : Row E} {e : VortexError} → Visited v s (Err e) w → VisitedRow o v (part s r) (Err e) w

  -- the same, whatever the visitor becomes
  abbrev pub VisitedFrom : V → Shape E → Answer → Type 0
  VisitedFrom v s a = (w : V) × Visited v s a w

-- each step answers Continue
abbrev pub Continues : {V E : Type 0} → (V → E → Answer → V → Type 0) → Type 0
Continues {V} {E} R = (v : V) (e : E) (a : Answer) (w : V) → R v e a w → a ≡ Ok Continue

-- each element is visited once, from left to right, and the answer is Continue
pub record VisitsEach {V E : Type 0} (R : V → E → Answer → V → Type 0) (v : V) (es : List E) (a : Answer) : Type 0 where
  pub answer : a ≡ Ok Continue
  pub after : V
  pub steps : FoldsTo (λ (u : V) (e : E) (w : V). R u e (Ok Continue) w) v es after
