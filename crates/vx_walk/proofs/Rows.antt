-- Siblings that are handed over and back, one after another.
use Rattle.std.proofs.Common.{◌≡◌, ℕ, suc, ◌+◌, ◌<◌, ◌≤◌, List, [], ◌∷◌, ◌++◌, length, map, get_or, drop, add-one, append_assoc, append-nil, refl, ap, sym, subst, ◌∙◌, Result, Ok, Err, Bool, true, false, ◌||◌, IfOk, IfErr}
use Rattle.std.specs.List.{Contains}
use Rattle.std.proofs.Math.Seq.{drop-cons}
use Rattle.std.proofs.lemmas.List.{drop_all, length-map, get_or-map, map-append}
use Rattle.vx_dtype.specs.declared.error.VortexError.{VortexError}
use Rattle.vx_dtype.specs.declared.error.VortexError.TheVariants.{OutOfMemory}
use Rattle.vx_walk.specs.declared.order.TraversalOrder.{TraversalOrder}
use Rattle.vx_walk.specs.declared.order.TraversalOrder.TheVariants.{Stop, Continue}
use Rattle.vx_walk.specs.declared.transformed.Transformed.{Transformed}
use Rattle.vx_walk.specs.declared.siblings.Siblings.{Siblings}
use Rattle.vx_walk.specs.Handed.{Back, in_front, looking, seen}
use Rattle.vx_walk.specs.Orders.{GoesOn}
use Rattle.vx_walk.specs.Mapping.{MappedAll, none, keep, next, fail, spent, RebuiltAs, MappedBy, refused, not_rebuilt, back}
use Rattle.vx_walk.specs.Siblings.{Pushed, seen_siblings, StepAt, stays, goes, not_cloned}

-- ms, one of them changed where c, before what is handed back for the later ones
abbrev pub before : {M : Type 0} → List M → Bool → Back (List M) → Back (List M)
before ms c (Ok r) = Ok (record { value = ms ++ r.value; order = r.order; changed = c || r.changed })
before ms c (Err e) = Err e

before-front : {M : Type 0} (ms : List M) (c : Bool) (m : M) (d : Bool) (r : Back (List M)) → before ms c (in_front m d r) ≡ before (ms ++ m ∷ []) (c || d) r
before-front ms true m d (Ok r) = rw append_assoc refl
before-front ms false m d (Ok r) = rw append_assoc refl
before-front ms c m d (Err e) = refl

before-start : {M : Type 0} (r : Back (List M)) → before [] false r ≡ r
before-start (Ok r) = refl
before-start (Err e) = refl

before-end : {M : Type 0} (ms : List M) (o : TraversalOrder) (c : Bool) → before ms c (Ok (record { value = []; order = o; changed = false })) ≡ Ok (record { value = ms; order = o; changed = c })
before-end ms o true = rw (append-nil ms) refl
before-end ms o false = rw (append-nil ms) refl

module _ {V N M : Type 0} (f : N → M) (C : V → M → Back M → V → Type 0) where
  -- the siblings ms have been handed over and back down to `left`: they are xs now, one of them changed where b, the last order was o, and the state went from v to w
  pub record RowFront (ms left : List M) (v w : V) (xs : List N) (o : TraversalOrder) (b : Bool) : Type 0 where
    pub rest : (r : Back (List M)) (x : V) → MappedAll C o w left r x → MappedAll C Continue v ms (before (map f xs) b r) x

  pub RowFront-start : (ms : List M) (v : V) → RowFront ms ms v v [] Continue false
  RowFront-start ms v = record { rest = λ r x h. subst (λ a. MappedAll C Continue v ms a x) (sym (before-start r)) h }

  before-last : (xs : List N) (b : Bool) (y : N) (d : Bool) (r : Back (List M)) → before (map f xs) b (in_front (f y) d r) ≡ before (map f (xs ++ y ∷ [])) (b || d) r
  before-last xs b y d r = rw (map-append f xs (y ∷ [])) (before-front (map f xs) b (f y) d r)

  StepAt-next : {ms : List M} {m : M} {v w x : V} {o : TraversalOrder} {t : Transformed M} → StepAt C o v m (Ok t) w → (r : Back (List M)) → MappedAll C t.order w ms r x → MappedAll C o v (m ∷ ms) (in_front t.value t.changed r) x
  StepAt-next (stays k) r q = rw k (keep r q)
  StepAt-next (goes k c) r q = next r k c q

  -- a sibling was handed back
  pub RowFront-step : {ms left : List M} {m : M} {v w x : V} {xs : List N} {o : TraversalOrder} {b : Bool} (h : Transformed N) → RowFront ms (m ∷ left) v w xs o b → StepAt C o w m (Ok (looking f h)) x → RowFront ms left v x (xs ++ h.value ∷ []) h.order (b || h.changed)
  RowFront-step {ms} {v = v} {xs = xs} {b = b} h q s = record {
    rest = λ r y n. subst (λ a. MappedAll C Continue v ms a y) (before-last xs b h.value h.changed r) (q.rest (in_front (f h.value) h.changed r) y (StepAt-next s r n));
  }

  -- a sibling was refused, or there was no memory for its clone
  pub RowFront-fail : {ms left : List M} {m : M} {v w x : V} {xs : List N} {o : TraversalOrder} {b : Bool} {e : VortexError} → RowFront ms (m ∷ left) v w xs o b → StepAt C o w m (Err e) x → MappedAll C Continue v ms (Err e) x
  RowFront-fail {x = x} {e = e} q (goes k c) = q.rest (Err e) x (fail k c)
  RowFront-fail {w = w} q not_cloned = q.rest (Err OutOfMemory) w spent

  -- a sibling was put behind the others
  pub RowFront-pushed : {ms left : List M} {m : M} {v w x : V} (s : Siblings N) {after : Siblings N} (t : Transformed N) → RowFront ms (m ∷ left) v w s.handed_back.items s.order s.changed → Pushed s.handed_back.items s.changed t after → StepAt C s.order w m (Ok (looking f t)) x → RowFront ms left v x after.handed_back.items after.order after.changed
  RowFront-pushed s t q p k = rw (p.items, p.order, p.changed) (RowFront-step t q k)

  -- the sibling x stands at i
  pub RowFront-at : (items : List N) (i : ℕ) (x : N) {ms : List M} {v w : V} {xs : List N} {o : TraversalOrder} {b : Bool} → i < length items → x ≡ get_or items i x → RowFront ms (map f (drop i items)) v w xs o b → RowFront ms (f x ∷ map f (drop (i + 1) items)) v w xs o b
  RowFront-at items i x {ms} {v} {w} {xs} {o} {b} h e q =
      rw add-one (subst (λ z. RowFront ms (f z ∷ map f (drop (suc i) items)) v w xs o b) (sym e) (rw (drop-cons items i x h) at q))

  -- no sibling is left
  pub RowFront-end : (items : List N) (i : ℕ) {ms : List M} {v w : V} {xs : List N} {o : TraversalOrder} {b : Bool} → length items ≤ i → RowFront ms (map f (drop i items)) v w xs o b → MappedAll C Continue v ms (Ok (record { value = map f xs; order = o; changed = b })) w
  RowFront-end items i {ms} {v} {w} {xs} {o} {b} h q =
      let k : RowFront ms [] v w xs o b = rw (drop_all i items h) at q in
      subst (λ a. MappedAll C Continue v ms a w) (before-end (map f xs) o b) (k.rest (Ok (record { value = []; order = o; changed = false })) w none)

-- ---- the node over its siblings

-- the children were refused
pub MappedBy-refused : {V M : Type 0} (B : M → List M → Result M VortexError → Type 0) (C : V → M → Back M → V → Type 0) (ns : List M) (n : M) (v w : V) (e : VortexError) → MappedAll C Continue v ns (Err e) w → MappedBy B C ns n v (Err e) w
MappedBy-refused B C ns n v w e k = refused k

-- the node was rebuilt, or stays
pub MappedBy-rebuilt : {V N M : Type 0} (f : N → M) (B : M → List M → Result M VortexError → Type 0) (C : V → M → Back M → V → Type 0) (ns : List M) (n : M) (v w : V) (s : Siblings N) (result : Back N) → MappedAll C Continue v ns (seen_siblings f (Ok s)) w → IfOk result (λ t. (t.order ≡ s.order) × (t.changed ≡ s.changed) × RebuiltAs B n (map f s.handed_back.items) s.changed (Ok (f t.value))) → IfErr result (λ e. RebuiltAs B n (map f s.handed_back.items) s.changed (Err e)) → MappedBy B C ns n v (seen f result) w
MappedBy-rebuilt f B C ns n v w s (Ok t) k h q = rw (h.0, h.1) (back (f t.value) k h.2)
MappedBy-rebuilt f B C ns n v w s (Err e) k h q = not_rebuilt k q

-- ---- places

-- a child is lower than its node
pub child_is_lower : {N M : Type 0} (mirror : N → M) (kids : M → List M) (height : M → ℕ) → ((m k : M) → Contains (kids m) k → height k < height m) → (items : List N) (i : ℕ) (x : N) (n : M) → i < length items → x ≡ get_or items i x → map mirror items ≡ kids n → height (mirror x) < height n
child_is_lower mirror kids height low items i x n h e k =
    low n (mirror x) (subst (λ l. Contains l (mirror x)) k (i, rw length-map h, get_or-map mirror items i x (mirror x) h ∙ ap mirror (sym e)))
