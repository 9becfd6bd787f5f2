-- The walk of siblings, one after another, and of a node over them.
use Rattle.std.proofs.Common.{◌≡◌, ℕ, suc, ◌+◌, ◌<◌, ◌≤◌, List, [], ◌∷◌, ◌++◌, length, map, get_or, drop, add-one, append_assoc, refl, sym, subst, Ok, Err}
use Rattle.std.proofs.Math.Seq.{drop-cons}
use Rattle.std.proofs.lemmas.List.{drop_all}
use Rattle.std.specs.List.{FoldsTo}
use Rattle.vx_dtype.specs.declared.error.VortexError.{VortexError}
use Rattle.vx_walk.specs.declared.order.TraversalOrder.{TraversalOrder}
use Rattle.vx_walk.specs.declared.order.TraversalOrder.TheVariants.{Skip, Stop, Continue}
use Rattle.vx_walk.specs.Orders.{Answer, GoesOn, Ends}
use Rattle.vx_walk.specs.Walks.{Event, down, up, WalkAll, stopped, failed, skipped, cut, whole, done, next, stop, fail, Step, Walked}
use Rattle.vx_walk.proofs.Steps.{FoldsTo-append, FoldsTo-through, Step-through}

module _ {V M : Type 0} (kids : M → List M) (D U : V → M → Answer → V → Type 0) where
  -- the siblings `all` have been walked down to `left`, the last of them with the order o, and the visitor went from v to w
  pub record Front (all left : List M) (v w : V) (o : TraversalOrder) : Type 0 where
    pub events : List (Event M Answer)
    pub steps : FoldsTo (Step D U) v events w
    pub rest : (fs : List (Event M Answer)) (a : Answer) → WalkAll kids o left fs a → WalkAll kids Continue all (events ++ fs) a

  -- the siblings `all` have been walked, with the answer a
  pub record WalkedAll (all : List M) (v w : V) (a : Answer) : Type 0 where
    pub events : List (Event M Answer)
    pub is : WalkAll kids Continue all events a
    pub steps : FoldsTo (Step D U) v events w

  pub Front-start : (all : List M) (v : V) → Front all all v v Continue
  Front-start all v = record { events = []; steps = refl; rest = λ fs a h. h }

  pub Front-next : {all left : List M} {n : M} {v w x : V} {o p : TraversalOrder} → Front all (n ∷ left) v w o → Walked kids D U n w x (Ok p) → GoesOn p → Front all left v x p
  Front-next {all} {left} {n} {v} {w} {x} f k g = record {
    events = f.events ++ k.events;
    steps = FoldsTo-append (Step D U) v w x f.events k.events f.steps k.steps;
    rest = λ fs a h. rw append_assoc (f.rest (k.events ++ fs) a (next k.is g h));
  }

  pub Front-stop : {all left : List M} {n : M} {v w x : V} {o : TraversalOrder} → Front all (n ∷ left) v w o → Walked kids D U n w x (Ok Stop) → WalkedAll all v x (Ok Stop)
  Front-stop {v = v} {w = w} {x = x} f k = record {
    events = f.events ++ k.events;
    is = f.rest k.events (Ok Stop) (stop k.is);
    steps = FoldsTo-append (Step D U) v w x f.events k.events f.steps k.steps;
  }

  pub Front-fail : {all left : List M} {n : M} {v w x : V} {o : TraversalOrder} {e : VortexError} → Front all (n ∷ left) v w o → Walked kids D U n w x (Err e) → WalkedAll all v x (Err e)
  Front-fail {v = v} {w = w} {x = x} {e = e} f k = record {
    events = f.events ++ k.events;
    is = f.rest k.events (Err e) (fail k.is);
    steps = FoldsTo-append (Step D U) v w x f.events k.events f.steps k.steps;
  }

  pub Front-done : {all : List M} {v w : V} {o : TraversalOrder} → Front all [] v w o → WalkedAll all v w (Ok o)
  Front-done {o = o} f = record { events = f.events ++ []; is = f.rest [] (Ok o) done; steps = FoldsTo-append (Step D U) _ _ _ f.events [] f.steps refl }

  pub Walked-failed : {n : M} {v w : V} {e : VortexError} → D v n (Err e) w → Walked kids D U n v w (Err e)
  Walked-failed {n} {v} {w} {e} d = record { events = down n (Err e) ∷ []; is = failed; steps = (w, d, refl) }

  pub Walked-stopped : {n : M} {v w : V} → D v n (Ok Stop) w → Walked kids D U n v w (Ok Stop)
  Walked-stopped {n} {v} {w} d = record { events = down n (Ok Stop) ∷ []; is = stopped; steps = (w, d, refl) }

  pub Walked-skipped : {n : M} {v w x : V} {a : Answer} → D v n (Ok Skip) w → U w n a x → Walked kids D U n v x a
  Walked-skipped {n} {v} {w} {x} {a} d u = record { events = down n (Ok Skip) ∷ (up n a ∷ []); is = skipped; steps = (w, d, (x, u, refl)) }

  pub Walked-cut : {n : M} {v w x : V} {a : Answer} → D v n (Ok Continue) w → WalkedAll (kids n) w x a → Ends a → Walked kids D U n v x a
  Walked-cut {n} {v} {w} {x} d k e = record { events = down n (Ok Continue) ∷ k.events; is = cut k.is e; steps = (w, d, k.steps) }

  pub Walked-whole : {n : M} {v w x y : V} {a : Answer} → D v n (Ok Continue) w → WalkedAll (kids n) w x (Ok Continue) → U x n a y → Walked kids D U n v y a
  Walked-whole {n} {v} {w} {x} {y} {a} d k u = record {
    events = down n (Ok Continue) ∷ (k.events ++ (up n a ∷ []));
    is = whole k.is;
    steps = (w, d, FoldsTo-append (Step D U) w x y k.events (up n a ∷ []) k.steps (y, u, refl));
  }

module _ {V N M : Type 0} (mirror : N → M) (kids : M → List M) (D U : V → M → Answer → V → Type 0) where
  -- the sibling x stands at i
  pub Front-at : (all : List N) (ms : List M) (i : ℕ) (x : N) {v w : V} {o : TraversalOrder} → i < length all → x ≡ get_or all i x → Front kids D U ms (map mirror (drop i all)) v w o → Front kids D U ms (mirror x ∷ map mirror (drop (i + 1) all)) v w o
  Front-at all ms i x {v} {w} {o} h e f =
      rw add-one (subst (λ y. Front kids D U ms (mirror y ∷ map mirror (drop (suc i) all)) v w o) (sym e) (rw (drop-cons all i x h) at f))

  pub Front-end : (all : List N) (ms : List M) (i : ℕ) {v w : V} {o : TraversalOrder} → length all ≤ i → Front kids D U ms (map mirror (drop i all)) v w o → WalkedAll kids D U ms v w (Ok o)
  Front-end all ms i h f = Front-done kids D U (rw (drop_all i all h) at f)

-- the same walk, the visitor's state seen by p
pub Walked-through : {V W M : Type 0} (kids : M → List M) (p : V → W) (D U : V → M → Answer → V → Type 0) (D' U' : W → M → Answer → W → Type 0) → ((v : V) (m : M) (a : Answer) (w : V) → D v m a w → D' (p v) m a (p w)) → ((v : V) (m : M) (a : Answer) (w : V) → U v m a w → U' (p v) m a (p w)) → {n : M} {v w : V} {a : Answer} → Walked kids D U n v w a → Walked kids D' U' n (p v) (p w) a
Walked-through kids p D U D' U' k l {n} {v} {w} {a} r = record {
  events = r.events;
  is = r.is;
  steps = FoldsTo-through p (Step D U) (Step D' U') (Step-through p D U D' U' k l) v r.events w r.steps;
}
