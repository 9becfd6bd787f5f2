-- The rewrite of siblings, one after another, and of a node over them.
use Rattle.std.proofs.Common.{◌≡◌, List, [], ◌∷◌, ◌++◌, map, refl, subst, Result, Ok, Err, Bool, ◌||◌}
use Rattle.std.proofs.Math.Bool.{or_assoc}
use Rattle.std.specs.List.{FoldsTo}
use Rattle.vx_dtype.specs.declared.error.VortexError.{VortexError}
use Rattle.vx_walk.specs.declared.order.TraversalOrder.{TraversalOrder}
use Rattle.vx_walk.specs.declared.order.TraversalOrder.TheVariants.{Skip, Stop, Continue}
use Rattle.vx_walk.specs.declared.transformed.Transformed.{Transformed}
use Rattle.vx_walk.specs.declared.siblings.Siblings.{Siblings}
use Rattle.vx_walk.specs.Handed.{Back, looking, marked}
use Rattle.vx_walk.specs.Mapping.{MappedAll, none, keep, next, fail, spent, RebuiltAs}
use Rattle.vx_walk.specs.Rewrites as Rewrites
use Rattle.vx_walk.specs.Rewrites.{RewriteAll, refused, stopped, skipped, lost, cut, whole, RewritesTo, Rewritten}
use Rattle.vx_walk.specs.Begun.{Finishes, not_rebuilt, handed_on, goes_up}
use Rattle.vx_walk.specs.Siblings.{row_seen}
use Rattle.vx_walk.specs.Walks.{Event, down, up, Step}
use Rattle.vx_walk.proofs.Steps.{FoldsTo-append, FoldsTo-through, Step-through}

marked-twice : {M : Type 0} (c d : Bool) (a : Back M) → marked (c || d) a ≡ marked d (marked c a)
marked-twice c d (Ok t) = rw (or_assoc t.changed c d) refl
marked-twice c d (Err e) = refl

module _ {V M : Type 0} (kids : M → List M) (B : M → List M → Result M VortexError → Type 0) (D U : V → M → Back M → V → Type 0) where
  -- the siblings are rewritten; the rewriter goes from v to w by its own steps over the events
  record RewrittenAll (o : TraversalOrder) (v : V) (ms : List M) (r : Back (List M)) (w : V) : Type 0 where
    events : List (Event M (Back M))
    is : RewriteAll kids B o ms events r
    steps : FoldsTo (Step D U) v events w

  -- siblings whose rewrites are handed over and back are rewritten
  RewrittenAll-mapped : {o : TraversalOrder} {v w : V} {ms : List M} {r : Back (List M)} → MappedAll (RewritesTo kids B D U) o v ms r w → RewrittenAll o v ms r w
  RewrittenAll-mapped none = record { events = []; is = Rewrites.none; steps = refl }
  RewrittenAll-mapped (keep r k) = let q = RewrittenAll-mapped k in record { events = q.events; is = Rewrites.keep r q.is; steps = q.steps }
  RewrittenAll-mapped (next {u = u} {v = v} {w = w} r g c k) =
      let q = RewrittenAll-mapped k in
      record { events = c.events ++ q.events; is = Rewrites.next r g c.is q.is; steps = FoldsTo-append (Step D U) u v w c.events q.events c.steps q.steps }
  RewrittenAll-mapped (fail g c) = record { events = c.events; is = Rewrites.fail g c.is; steps = c.steps }
  RewrittenAll-mapped spent = record { events = []; is = Rewrites.spent; steps = refl }

  pub Rewritten-refused : {n : M} {v w : V} {e : VortexError} → D v n (Err e) w → Rewritten kids B D U n v w (Err e)
  Rewritten-refused {n} {v} {w} {e} d = record { events = down n (Err e) ∷ []; is = refused; steps = (w, d, refl) }

  pub Rewritten-stopped : {n : M} {v w : V} (t : Transformed M) → D v n (Ok t) w → t.order ≡ Stop → Rewritten kids B D U n v w (Ok t)
  Rewritten-stopped {n} {v} {w} t d e = record { events = down n (Ok t) ∷ []; is = stopped e; steps = (w, d, refl) }

  pub Rewritten-skipped : {n : M} {v w x : V} (t : Transformed M) (a : Back M) → D v n (Ok t) w → t.order ≡ Skip → U w t.value a x → Rewritten kids B D U n v x (marked t.changed a)
  Rewritten-skipped {n} {v} {w} {x} t a d e u = record { events = down n (Ok t) ∷ (up t.value a ∷ []); is = skipped a e; steps = (w, d, (x, u, refl)) }

  -- a child is refused
  pub Rewritten-lost : {n : M} {v w x : V} (t : Transformed M) (e : VortexError) → D v n (Ok t) w → t.order ≡ Continue → MappedAll (RewritesTo kids B D U) Continue w (kids t.value) (Err e) x → Rewritten kids B D U n v x (Err e)
  Rewritten-lost {n} {v} {w} {x} t e d c m =
      let k = RewrittenAll-mapped m in
      record { events = down n (Ok t) ∷ k.events; is = lost c k.is; steps = (w, d, k.steps) }

  -- the way down, the children, and the second part
  pub Rewritten-finished : {n : M} {v w x y : V} (t : Transformed M) (r : Transformed (List M)) {a : Back M} → D v n (Ok t) w → t.order ≡ Continue → MappedAll (RewritesTo kids B D U) Continue w (kids t.value) (Ok r) x → Finishes B U t.value r x a y → Rewritten kids B D U n v y (marked t.changed a)
  Rewritten-finished {n} {v} {w} {x} t r d c m (not_rebuilt b) =
      let k = RewrittenAll-mapped m in
      record { events = down n (Ok t) ∷ k.events; is = Rewrites.not_rebuilt c k.is b; steps = (w, d, k.steps) }
  Rewritten-finished {n} {v} {w} {x} t r d c m (handed_on h b o) =
      let k = RewrittenAll-mapped m in
      record { events = down n (Ok t) ∷ k.events; is = cut h c k.is b o; steps = (w, d, k.steps) }
  Rewritten-finished {n} {v} {w} {x} {y} t r d c m (goes_up h a b o u) =
      let k = RewrittenAll-mapped m in
      subst (λ z. Rewritten kids B D U n v y z) (marked-twice r.changed t.changed a) (record {
        events = down n (Ok t) ∷ (k.events ++ (up h a ∷ []));
        is = whole h a c k.is b o;
        steps = (w, d, FoldsTo-append (Step D U) w x y k.events (up h a ∷ []) k.steps (y, u, refl));
      })

-- the node over the siblings s is handed on, or goes its way up
module _ {V N M : Type 0} (f : N → M) (B : M → List M → Result M VortexError → Type 0) (U : V → M → Back M → V → Type 0) where
  abbrev pub IsOver : M → Siblings N → Transformed N → Type 0
  IsOver n s h = (h.order ≡ s.order) × (h.changed ≡ s.changed) × RebuiltAs B n (map f s.handed_back.items) s.changed (Ok (f h.value))

  pub Finishes-handed_on : {n : M} {v : V} (s : Siblings N) (h : Transformed N) → IsOver n s h → ¬ (h.order ≡ Continue) → Finishes B U n (row_seen f s) v (Ok (looking f h)) v
  Finishes-handed_on s h b o = rw (b.0, b.1) (handed_on (f h.value) b.2 (rw b.0 at o))

  pub Finishes-goes_up : {n : M} {v w : V} (s : Siblings N) (h : Transformed N) (a : Back M) → IsOver n s h → h.order ≡ Continue → U v (f h.value) a w → Finishes B U n (row_seen f s) v (marked h.changed a) w
  Finishes-goes_up s h a b o u = rw b.1 (goes_up (f h.value) a b.2 (rw b.0 at o) u)

-- the same rewrite, the rewriter's state seen by p
pub Rewritten-through : {V W M : Type 0} (kids : M → List M) (B : M → List M → Result M VortexError → Type 0) (p : V → W) (D U : V → M → Back M → V → Type 0) (D' U' : W → M → Back M → W → Type 0) → ((v : V) (m : M) (a : Back M) (w : V) → D v m a w → D' (p v) m a (p w)) → ((v : V) (m : M) (a : Back M) (w : V) → U v m a w → U' (p v) m a (p w)) → {n : M} {v w : V} {a : Back M} → Rewritten kids B D U n v w a → Rewritten kids B D' U' n (p v) (p w) a
Rewritten-through kids B p D U D' U' k l {n} {v} {w} {a} r = record {
  events = r.events;
  is = r.is;
  steps = FoldsTo-through p (Step D U) (Step D' U') (Step-through p D U D' U' k l) v r.events w r.steps;
}
