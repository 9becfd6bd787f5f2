-- A sibling whose children are rewritten while it waits behind the others.
use Rattle.std.proofs.Common.{◌≡◌, ℕ, ◌≤◌, List, [], ◌∷◌, ◌++◌, sym, ap, subst, ◌∙◌, Result, Ok, Err, Bool, ◌||◌}
use Rattle.std.proofs.Math.Bool.{or_assoc, or_comm}
use Rattle.std.proofs.lemmas.List.{same_from_push}
use Rattle.vx_dtype.specs.declared.error.VortexError.{VortexError}
use Rattle.vx_walk.specs.declared.order.TraversalOrder.TheVariants.{Continue}
use Rattle.vx_walk.specs.declared.siblings.Siblings.{Siblings}
use Rattle.vx_walk.specs.declared.transformed.Transformed.{Transformed}
use Rattle.vx_walk.specs.Begun.{Opened, Finishes, FinishesAt}
use Rattle.vx_walk.specs.Handed.{Back, looking, marked, seen}
use Rattle.vx_walk.specs.Mapping.{AtOwned, MappedAll}
use Rattle.vx_walk.specs.Orders.{GoesOn}
use Rattle.vx_walk.specs.Rewrites.{RewritesTo}
use Rattle.vx_walk.specs.Siblings.{Pushed, row_seen, seen_siblings, goes}
use Rattle.vx_walk.proofs.Rewriting.{Rewritten-lost, Rewritten-finished}
use Rattle.vx_walk.proofs.Rows.{RowFront, RowFront-step, RowFront-fail}

-- ---- heights

ok-value : {A : Type 0} {s t : Transformed A} → ◌≡◌ {A = Back A} (Ok s) (Ok t) → s ≡ t
ok-value e = cc

module _ {V N M : Type 0} (mirror : N → M) (height : M → ℕ) (ready : V → Type 0) (D : V → N → Back N → V → Type 0) (law : (v w : V) (n : N) (t : Transformed N) → ready v → D v n (Ok t) w → t.order ≡ Continue → height (mirror t.value) ≤ height (mirror n)) where
  no_higher-seen : {v w : V} (n : N) (a : Back N) (t : Transformed M) → seen mirror a ≡ Ok t → ready v → D v n a w → t.order ≡ Continue → height t.value ≤ height (mirror n)
  no_higher-seen {v} {w} n (Ok s) t e r d o =
      let q : looking mirror s ≡ t = ok-value e in
      subst (λ (u : Transformed M). height u.value ≤ height (mirror n)) q (law v w n s r d (subst (λ (u : Transformed M). u.order ≡ Continue) (sym q) o))
  no_higher-seen n (Err x) t e r d o = absurd cc

  -- what waits is no higher than what it was made of
  pub Opened-no_higher : {v w : V} {m : M} (t : Transformed N) → ready v → Opened mirror (AtOwned mirror D) v m t w → height (mirror t.value) ≤ height m
  Opened-no_higher t r k =
      subst (λ x. height (mirror t.value) ≤ height x) k.0.looks (no_higher-seen k.0.node k.0.answer (looking mirror t) k.0.sees r k.0.step k.1)

-- ---- the siblings and the one that waits behind them

or-swap : (b c d : Bool) → (b || c) || d ≡ b || (d || c)
or-swap b c d = or_assoc b c d ∙ ap (λ x. b || x) (or_comm c d)

module _ {V N M : Type 0} (f : N → M) (kids : M → List M) (B : M → List M → Result M VortexError → Type 0) (D U : V → M → Back M → V → Type 0) where
  -- the one that waits is the last
  same_last : (s : Siblings N) {after : Siblings N} (t : Transformed N) (others : List N) (n : N) → Pushed s.handed_back.items s.changed t after → after.handed_back.items ≡ others ++ n ∷ [] → (s.handed_back.items ≡ others) × (t.value ≡ n)
  same_last s t others n p e = same_from_push s.handed_back.items others t.value n (sym p.items ∙ e)

  -- one of its children was refused
  pub RowFront-lost : {ms left : List M} {m : M} {v w x y : V} (s : Siblings N) {opened : Siblings N} {e : VortexError} (t : Transformed N) (others : List N) (last : N) → RowFront f (RewritesTo kids B D U) ms (m ∷ left) v w s.handed_back.items s.order s.changed → Pushed s.handed_back.items s.changed t opened → GoesOn s.order → Opened f D w m t x → opened.handed_back.items ≡ others ++ last ∷ [] → MappedAll (RewritesTo kids B D U) Continue x (kids (f last)) (Err e) y → MappedAll (RewritesTo kids B D U) Continue v ms (Err e) y
  RowFront-lost {x = x} {y = y} s {e = e} t others last q p g k stood below =
      let here : MappedAll (RewritesTo kids B D U) Continue x (kids (f t.value)) (Err e) y = subst (λ n. MappedAll (RewritesTo kids B D U) Continue x (kids (f n)) (Err e) y) (sym (same_last s t others last p stood).1) below in
      RowFront-fail f (RewritesTo kids B D U) q (goes g (Rewritten-lost kids B D U (looking f t) e k.0 k.1 here))

  -- it was finished, or that was refused
  Finished : {m : M} {w x y z : V} (below : Siblings N) {a : Back M} (t : Transformed N) (n last : N) → Opened f D w m t x → t.value ≡ n → t.value ≡ last → MappedAll (RewritesTo kids B D U) Continue x (kids (f last)) (seen_siblings f (Ok below)) y → Finishes B U (f n) (row_seen f below) y a z → RewritesTo kids B D U w m (marked t.changed a) z
  Finished {x = x} {y = y} {z = z} below {a = a} t n last k is_n is_last mapped fin =
      Rewritten-finished kids B D U (looking f t) (row_seen f below) k.0 k.1
      (subst (λ j. MappedAll (RewritesTo kids B D U) Continue x (kids (f j)) (seen_siblings f (Ok below)) y) (sym is_last) mapped)
      (subst (λ j. Finishes B U (f j) (row_seen f below) y a z) (sym is_n) fin)

  pub RowFront-unfinished : {ms left : List M} {m : M} {v w x y z : V} (s below : Siblings N) {opened : Siblings N} {e : VortexError} (t : Transformed N) (others : List N) (last : N) → RowFront f (RewritesTo kids B D U) ms (m ∷ left) v w s.handed_back.items s.order s.changed → Pushed s.handed_back.items s.changed t opened → GoesOn s.order → Opened f D w m t x → opened.handed_back.items ≡ others ++ last ∷ [] → MappedAll (RewritesTo kids B D U) Continue x (kids (f last)) (seen_siblings f (Ok below)) y → FinishesAt {A = Unit {0}} f B U below opened y (Err e) opened z → MappedAll (RewritesTo kids B D U) Continue v ms (Err e) z
  RowFront-unfinished s below t others last q p g k stood mapped fin =
      RowFront-fail f (RewritesTo kids B D U) q (goes g (Finished below t fin.1 last k (same_last s t fin.0 fin.1 p fin.2).1 (same_last s t others last p stood).1 mapped fin.3))

  pub RowFront-finished : {ms left : List M} {m : M} {v w x y z : V} (s below : Siblings N) {opened after : Siblings N} (t : Transformed N) (others : List N) (last : N) → RowFront f (RewritesTo kids B D U) ms (m ∷ left) v w s.handed_back.items s.order s.changed → Pushed s.handed_back.items s.changed t opened → GoesOn s.order → Opened f D w m t x → opened.handed_back.items ≡ others ++ last ∷ [] → MappedAll (RewritesTo kids B D U) Continue x (kids (f last)) (seen_siblings f (Ok below)) y → FinishesAt {A = Unit {0}} f B U below opened y (Ok tt) after z → RowFront f (RewritesTo kids B D U) ms left v z after.handed_back.items after.order after.changed
  RowFront-finished s below t others last q p g k stood mapped fin =
      let h = fin.3 in
      let put = fin.4 in
      let at = same_last s t fin.0 fin.1 p fin.2 in
      rw (put.items, put.order, put.changed, p.changed, or-swap s.changed t.changed h.changed, ← at.0)
      (RowFront-step f (RewritesTo kids B D U) (record { value = h.value; order = h.order; changed = h.changed || t.changed }) q
      (goes g (Finished below t fin.1 last k at.1 (same_last s t others last p stood).1 mapped fin.5)))
