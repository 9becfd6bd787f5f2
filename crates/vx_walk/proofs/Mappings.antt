-- A loop that hands parts over and back, one after another.
use Rattle.std.proofs.Common.{◌≡◌, ℕ, List, [], ◌∷◌, ◌++◌, length, refl, ap, sym, subst, arith, Ok, Err, Bool, true, false, ◌||◌, ◌⊎◌, inl, inr}
use Rattle.vx_dtype.specs.declared.error.VortexError.{VortexError}
use Rattle.vx_dtype.proofs.Lists.{in_front, in_front-push, in_front-all}
use Rattle.vx_walk.specs.declared.order.TraversalOrder.{TraversalOrder}
use Rattle.vx_walk.specs.declared.order.TraversalOrder.TheVariants.{Stop, Continue}
use Rattle.vx_walk.specs.declared.transformed.Transformed.{Transformed}
use Rattle.vx_walk.specs.Handed.{Back, looking}
use Rattle.vx_walk.specs.Orders.{GoesOn}
use Rattle.vx_walk.specs.Shapes.{Shape, row, Row, no_part, part, parts}
use Rattle.vx_walk.specs.Containers.{part_front, Mapped, along, MappedRow, none, keep, next, fail}

module _ {C E : Type 0} (shape : C → Shape E) where
  abbrev put_part : C → Row E → Row E
  put_part x r = part (shape x) r

  -- the parts of xs before the parts r
  abbrev pub parts_before : List C → Row E → Row E
  parts_before = in_front put_part

  parts_before-last : (xs : List C) (x : C) (r : Row E) → parts_before (xs ++ x ∷ []) r ≡ parts_before xs (part (shape x) r)
  parts_before-last xs x r = in_front-push put_part xs x r

  parts_before-none : (xs : List C) → parts_before xs no_part ≡ parts shape xs
  parts_before-none xs = in_front-all put_part no_part (parts shape) refl (λ y ys. refl) xs

  -- the parts of xs, one of them changed where c, before what is handed back for the later ones
  abbrev pub before : List C → Bool → Back (Row E) → Back (Row E)
  before xs c (Ok r) = Ok (record { value = parts_before xs r.value; order = r.order; changed = c || r.changed })
  before xs c (Err e) = Err e

  before-front : (xs : List C) (c : Bool) (x : C) (d : Bool) (r : Back (Row E)) → before xs c (part_front (shape x) d r) ≡ before (xs ++ x ∷ []) (c || d) r
  before-front xs true x d (Ok r) = rw (parts_before-last xs x r.value) refl
  before-front xs false x d (Ok r) = rw (parts_before-last xs x r.value) refl
  before-front xs c x d (Err e) = refl

  before-start : (r : Back (Row E)) → before [] false r ≡ r
  before-start (Ok r) = refl
  before-start (Err e) = refl

  before-end : (xs : List C) (o : TraversalOrder) (c : Bool) → before xs c (Ok (record { value = no_part; order = o; changed = false })) ≡ Ok (record { value = parts shape xs; order = o; changed = c })
  before-end xs o true = rw (parts_before-none xs) refl
  before-end xs o false = rw (parts_before-none xs) refl

module _ {V C E M : Type 0} (mirror : E → M) (R : V → E → Back E → V → Type 0) (shape : C → Shape E) where
  -- the parts `all` have been handed over and back down to `left`: they are xs now, changed where b, the last order was o, and the mapper went from v to w
  pub record MapFront (all left : Row E) (v w : V) (xs : List C) (o : TraversalOrder) (b : Bool) : Type 0 where
    pub rest : (r : Back (Row E)) (x : V) → MappedRow mirror R o w left r x → MappedRow mirror R Continue v all (before shape xs b r) x

  pub MapFront-start : (all : Row E) (v : V) → MapFront all all v v [] Continue false
  MapFront-start all v = record { rest = λ r x h. subst (λ a. MappedRow mirror R Continue v all a x) (sym (before-start shape r)) h }

  pub MapFront-keep : {all left : Row E} (m : C) {v w : V} {xs : List C} {b : Bool} → MapFront all (part (shape m) left) v w xs Stop b → MapFront all left v w (xs ++ m ∷ []) Stop (b || false)
  MapFront-keep {all} {left} m {v} {w} {xs} {b} f =
      record { rest = λ r y q. rw (← before-front shape xs b m false r) (f.rest (part_front (shape m) false r) y (keep r q)) }

  pub MapFront-next : {all left : Row E} {m : Shape E} {v w x : V} {xs : List C} {o : TraversalOrder} {b : Bool} (h : Transformed C) → MapFront all (part m left) v w xs o b → GoesOn o → Mapped mirror R w m (Ok (looking shape h)) x → MapFront all left v x (xs ++ h.value ∷ []) h.order (b || h.changed)
  MapFront-next {all} {left} {m} {v} {w} {x} {xs} {o} {b} h f g k =
      record { rest = λ r y q. rw (← before-front shape xs b h.value h.changed r) (f.rest (part_front (shape h.value) h.changed r) y (next r g k q)) }

  -- after Stop the part of m stays, else it is handed over and back
  pub MapFront-step : {all left : Row E} (m : C) {v w x : V} {xs : List C} {o : TraversalOrder} {b : Bool} (h : Transformed C) → MapFront all (part (shape m) left) v w xs o b → ((o ≡ Stop) × (x ≡ w) × (h ≡ record { value = m; order = Stop; changed = false })) ⊎ (GoesOn o × Mapped mirror R w (shape m) (Ok (looking shape h)) x) → MapFront all left v x (xs ++ h.value ∷ []) h.order (b || h.changed)
  MapFront-step {all} {left} m {v} {w} {x} {xs} {o} {b} h f (inl k) =
      let g : MapFront all (part (shape m) left) v w xs Stop b = rw k.0 at f in
      subst (λ y. MapFront all left v y (xs ++ h.value ∷ []) h.order (b || h.changed)) (sym k.1)
      (subst (λ (z : Transformed C). MapFront all left v w (xs ++ z.value ∷ []) z.order (b || z.changed)) (sym k.2) (MapFront-keep m g))
  MapFront-step m h f (inr k) = MapFront-next h f k.0 k.1

  pub MapFront-fail : {all left : Row E} {m : Shape E} {v w x : V} {xs : List C} {o : TraversalOrder} {b : Bool} {e : VortexError} → MapFront all (part m left) v w xs o b → GoesOn o → Mapped mirror R w m (Err e) x → Mapped mirror R v (row all) (Err e) x
  MapFront-fail {x = x} {e = e} f g c = along (Err e) (f.rest (Err e) x (fail g c))

  pub MapFront-done : {all left : Row E} {v w : V} {xs : List C} {o : TraversalOrder} {b : Bool} → left ≡ no_part → MapFront all left v w xs o b → Mapped mirror R v (row all) (Ok (record { value = row (parts shape xs); order = o; changed = b })) w
  MapFront-done {all} {left} {v} {w} {xs} {o} {b} e g =
      let f : MapFront all no_part v w xs o b = rw e at g in
      along (Ok (record { value = parts shape xs; order = o; changed = b }))
      (subst (λ a. MappedRow mirror R Continue v all a w) (before-end shape xs o b) (f.rest (Ok (record { value = no_part; order = o; changed = false })) w none))

pub empty_from_length : {X : Type 0} (xs : List X) (n : ℕ) → n ≡ 0 → n ≡ length xs → xs ≡ []
empty_from_length [] n e l = refl
empty_from_length (x ∷ xs) n e l = absurd (omega arith)
