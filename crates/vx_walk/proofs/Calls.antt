-- Loops that visit parts one after another.
use Rattle.std.proofs.Common.{◌≡◌, ℕ, suc, ◌+◌, ◌<◌, ◌≤◌, List, [], ◌∷◌, length, map, get_or, drop, add-one, refl, ap, sym, subst, Ok, Err, ◌⊎◌, inl, inr}
use Rattle.std.proofs.Math.Seq.{drop-cons}
use Rattle.std.proofs.lemmas.List.{drop_all}
use Rattle.vx_dtype.specs.declared.error.VortexError.{VortexError}
use Rattle.vx_walk.specs.declared.order.TraversalOrder.{TraversalOrder}
use Rattle.vx_walk.specs.declared.order.TraversalOrder.TheVariants.{Skip, Stop, Continue}
use Rattle.vx_walk.specs.Orders.{Answer, GoesOn}
use Rattle.vx_walk.specs.Shapes.{Shape, row, Row, no_part, part, parts}
use Rattle.vx_walk.specs.Visits.{Visited, along, VisitedRow, done, next, stop, fail}

module _ {V E : Type 0} (R : V → E → Answer → V → Type 0) where
  -- the parts `all` before `left` have been visited; the visitor was v and is w, and answered o last
  pub record Reached (all left : Row E) (v w : V) (o : TraversalOrder) : Type 0 where
    pub rest : (a : Answer) (x : V) → VisitedRow R o w left a x → VisitedRow R Continue v all a x

  pub Reached-start : (all : Row E) (v : V) → Reached all all v v Continue
  Reached-start all v = record { rest = λ a x s. s }

  pub Reached-next : {all left : Row E} {s : Shape E} {v w x : V} {o p : TraversalOrder} → Reached all (part s left) v w o → Visited R w s (Ok p) x → GoesOn p → Reached all left v x p
  Reached-next r c e = record { rest = λ a k s. r.rest a k (next c e s) }

  pub Reached-stop : {all left : Row E} {s : Shape E} {v w x : V} {o : TraversalOrder} → Reached all (part s left) v w o → Visited R w s (Ok Stop) x → Visited R v (row all) (Ok Stop) x
  Reached-stop {x = x} r c = along (r.rest (Ok Stop) x (stop c))

  pub Reached-fail : {all left : Row E} {s : Shape E} {v w x : V} {o : TraversalOrder} {e : VortexError} → Reached all (part s left) v w o → Visited R w s (Err e) x → Visited R v (row all) (Err e) x
  Reached-fail {x = x} {e = e} r c = along (r.rest (Err e) x (fail c))

  -- the last part's answer is the answer
  pub Reached-last : {all : Row E} {s : Shape E} {v w x : V} {o : TraversalOrder} {a : Answer} → Reached all (part s no_part) v w o → Visited R w s a x → Visited R v (row all) a x
  Reached-last {x = x} {a = Ok Stop} r c = Reached-stop r c
  Reached-last {x = x} {a = Ok Skip} r c = along (r.rest (Ok Skip) x (next c (λ e. cc) done))
  Reached-last {x = x} {a = Ok Continue} r c = along (r.rest (Ok Continue) x (next c (λ e. cc) done))
  Reached-last {x = x} {a = Err e} r c = Reached-fail r c

  module _ {C : Type 0} (shape : C → Shape E) where
    -- the part of x stands at i
    pub Reached-at : (cs : List C) (i : ℕ) (x : C) {all : Row E} {v w : V} {o : TraversalOrder} → i < length cs → x ≡ get_or cs i x → Reached all (parts shape (drop i cs)) v w o → Reached all (part (shape x) (parts shape (drop (i + 1) cs))) v w o
    Reached-at cs i x {all} {v} {w} {o} h e r =
        rw add-one (subst (λ y. Reached all (part (shape y) (parts shape (drop (suc i) cs))) v w o) (sym e) (rw (drop-cons cs i x h) at r))

    -- no part is left
    pub Reached-end : (cs : List C) (i : ℕ) {all : Row E} {v w : V} {o : TraversalOrder} → length cs ≤ i → Reached all (parts shape (drop i cs)) v w o → Visited R v (row all) (Ok o) w
    Reached-end cs i {all} {v} {w} {o} h r =
        let s : Reached all no_part v w o = rw (drop_all i cs h) at r in
        along (s.rest (Ok o) w done)

-- Skip and Continue go on
pub GoesOn-from_cases : {o : TraversalOrder} → (o ≡ Skip) ⊎ (o ≡ Continue) → GoesOn o
GoesOn-from_cases (inl a) q = cc
GoesOn-from_cases (inr a) q = cc

-- parts of what things are seen as are parts of the things
pub parts_of_seen : {C M E : Type 0} (f : C → M) (g : M → Shape E) (cs : List C) → parts g (map f cs) ≡ parts (λ c. g (f c)) cs
parts_of_seen f g [] = refl
parts_of_seen f g (c ∷ cs) = ap (λ r. part (g (f c)) r) (parts_of_seen f g cs)
