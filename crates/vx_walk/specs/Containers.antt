-- How a container is mapped: its elements are handed over and back.
use Rattle.std.specs.Prelude.{◌≡◌, ◌||◌, Ok, Err, Bool, false}
use Rattle.vx_dtype.specs.declared.error.VortexError.{VortexError}
use Rattle.vx_dtype.specs.declared.error.VortexError.TheVariants.{OutOfMemory}
use Rattle.vx_walk.specs.declared.order.TraversalOrder.{TraversalOrder}
use Rattle.vx_walk.specs.declared.order.TraversalOrder.TheVariants.{Stop, Continue}
use Rattle.vx_walk.specs.declared.transformed.Transformed.{Transformed}
use Rattle.vx_walk.specs.Handed.{Back, seen}
use Rattle.vx_walk.specs.Orders.{GoesOn}
use Rattle.vx_walk.specs.Shapes.{Holder, vector, box, rc, Shape, element, row, inside, Row, no_part, part, shape_seen}

-- a part, changed where c says so, in front of what is handed back for the later ones
abbrev pub part_front : {E : Type 0} → Shape E → Bool → Back (Row E) → Back (Row E)
part_front s c (Ok t) = Ok (record { value = part s t.value; order = t.order; changed = c || t.changed })
part_front s c (Err e) = Err e

-- a vector is reserved, and the clone of what an `Rc` shares is made, before an element is handed over
abbrev pub AsksFirst : Holder → Type 0
AsksFirst vector = Unit {0}
AsksFirst box = ⊥
AsksFirst rc = Unit {0}

-- a new box and a new `Rc` are made after the last one is handed back
abbrev pub AsksLast : Holder → Type 0
AsksLast vector = ⊥
AsksLast box = Unit {0}
AsksLast rc = Unit {0}

module _ {V E M : Type 0} (mirror : E → M) (R : V → E → Back E → V → Type 0) where
  mutual
    -- the elements of a container are handed over and back from left to right, each to its own place, until Stop or a refusal
    pub data Mapped : V → Shape E → Back (Shape E) → V → Type 0 where
      at : {v w : V} {e : E} (a : Back E) → R v e a w → Mapped v (element e) (seen element a) w
      along : {v w : V} {r : Row E} (a : Back (Row E)) → MappedRow Continue v r a w → Mapped v (row r) (seen row a) w
      within : {h : Holder} {v w : V} {s : Shape E} (a : Back (Shape E)) → Mapped v s a w → Mapped v (inside h s) (seen (inside h) a) w
      -- what an `Rc` shares is cloned, and the clone's elements are seen alike
      cloned : {v w : V} {s : Shape E} {a : Back (Shape E)} (copy : Shape E) → shape_seen mirror copy ≡ shape_seen mirror s → Mapped v (inside rc copy) a w → Mapped v (inside rc s) a w
      -- there was no memory to begin
      not_begun : {h : Holder} {v : V} {s : Shape E} → AsksFirst h → Mapped v (inside h s) (Err OutOfMemory) v
      -- there was no memory to hold what was handed back
      not_held : {h : Holder} {v w : V} {s : Shape E} {t : Transformed (Shape E)} → AsksLast h → Mapped v s (Ok t) w → Mapped v (inside h s) (Err OutOfMemory) w

    -- the parts of a row are handed over and back from left to right, each to its own place; o is the order of the one before
    pub data MappedRow : TraversalOrder → V → Row E → Back (Row E) → V → Type 0 where
      -- no part is left: the last order is the order
      none : {o : TraversalOrder} {v : V} → MappedRow o v no_part (Ok (record { value = no_part; order = o; changed = false })) v
      -- after Stop a part stays
      keep : {v w : V} {s : Shape E} {r : Row E} (a : Back (Row E)) → MappedRow Stop v r a w → MappedRow Stop v (part s r) (part_front s false a) w
      -- a part is handed back, then the later ones; it is changed where one is
      next : {o : TraversalOrder} {u v w : V} {s : Shape E} {r : Row E} {t : Transformed (Shape E)} (a : Back (Row E)) → GoesOn o → Mapped u s (Ok t) v → MappedRow t.order v r a w → MappedRow o u (part s r) (part_front t.value t.changed a) w
      -- a refusal is the answer
      fail : {o : TraversalOrder} {v w : V} {s : Shape E} {r : Row E} {e : VortexError} → GoesOn o → Mapped v s (Err e) w → MappedRow o v (part s r) (Err e) w
