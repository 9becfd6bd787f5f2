-- Rewrites: the events of a rewriter's way through a tree, with the nodes handed back.
use Rattle.std.specs.Prelude.{◌≡◌, List, [], ◌∷◌, ◌++◌, Result, Ok, Err, false, ◌||◌}
use Rattle.std.specs.List.{FoldsTo}
use Rattle.vx_dtype.specs.declared.error.VortexError.{VortexError}
use Rattle.vx_dtype.specs.declared.error.VortexError.TheVariants.{OutOfMemory}
use Rattle.vx_walk.specs.declared.order.TraversalOrder.{TraversalOrder}
use Rattle.vx_walk.specs.declared.order.TraversalOrder.TheVariants.{Skip, Stop, Continue}
use Rattle.vx_walk.specs.declared.transformed.Transformed.{Transformed}
use Rattle.vx_walk.specs.Handed.{Back, unchanged, seen, marked, in_front}
use Rattle.vx_walk.specs.Mapping.{RebuiltAs}
use Rattle.vx_walk.specs.Orders.{GoesOn}
use Rattle.vx_walk.specs.Walks.{Event, down, up, Step}

module _ {M : Type 0} (kids : M → List M) (B : M → List M → Result M VortexError → Type 0) where
  mutual
    -- the rewrite of a node makes these events and answers so
    pub data Rewrite : M → List (Event M (Back M)) → Back M → Type 0 where
      -- the rewriter refuses on the way down
      refused : {n : M} {e : VortexError} → Rewrite n (down n (Err e) ∷ []) (Err e)
      -- Stop on the way down returns the node that was handed back
      stopped : {n : M} {t : Transformed M} → t.order ≡ Stop → Rewrite n (down n (Ok t) ∷ []) (Ok t)
      -- Skip on the way down: the children stay, and then the way up
      skipped : {n : M} {t : Transformed M} (a : Back M) → t.order ≡ Skip → Rewrite n (down n (Ok t) ∷ (up t.value a ∷ [])) (marked t.changed a)
      -- Continue, and a child is refused
      lost : {n : M} {t : Transformed M} {es : List (Event M (Back M))} {e : VortexError} → t.order ≡ Continue → RewriteAll Continue (kids t.value) es (Err e) → Rewrite n (down n (Ok t) ∷ es) (Err e)
      -- Continue, and the node over the children handed back is refused
      not_rebuilt : {n : M} {t : Transformed M} {es : List (Event M (Back M))} {r : Transformed (List M)} {e : VortexError} → t.order ≡ Continue → RewriteAll Continue (kids t.value) es (Ok r) → RebuiltAs B t.value r.value r.changed (Err e) → Rewrite n (down n (Ok t) ∷ es) (Err e)
      -- Continue, then the children, whose last order is Skip or Stop: the node over them is handed on
      cut : {n : M} (m : M) {t : Transformed M} {es : List (Event M (Back M))} {r : Transformed (List M)} → t.order ≡ Continue → RewriteAll Continue (kids t.value) es (Ok r) → RebuiltAs B t.value r.value r.changed (Ok m) → ¬ (r.order ≡ Continue) → Rewrite n (down n (Ok t) ∷ es) (Ok (record { value = m; order = r.order; changed = r.changed || t.changed }))
      -- Continue, then the children, whose last order is Continue, then the way up of the node over them
      whole : {n : M} (m : M) {t : Transformed M} {es : List (Event M (Back M))} {r : Transformed (List M)} (a : Back M) → t.order ≡ Continue → RewriteAll Continue (kids t.value) es (Ok r) → RebuiltAs B t.value r.value r.changed (Ok m) → r.order ≡ Continue → Rewrite n (down n (Ok t) ∷ (es ++ (up m a ∷ []))) (marked (r.changed || t.changed) a)

    -- the rewrites of siblings, from left to right; o is the order of the sibling before them
    pub data RewriteAll : TraversalOrder → List M → List (Event M (Back M)) → Back (List M) → Type 0 where
      -- no sibling is left
      none : {o : TraversalOrder} → RewriteAll o [] [] (Ok (record { value = []; order = o; changed = false }))
      -- after Stop a sibling stays
      keep : {n : M} {ns : List M} {es : List (Event M (Back M))} (r : Back (List M)) → RewriteAll Stop ns es r → RewriteAll Stop (n ∷ ns) es (in_front n false r)
      -- a sibling is handed back in its own place, then the later ones
      next : {o : TraversalOrder} {n : M} {ns : List M} {es fs : List (Event M (Back M))} {t : Transformed M} (r : Back (List M)) → GoesOn o → Rewrite n es (Ok t) → RewriteAll t.order ns fs r → RewriteAll o (n ∷ ns) (es ++ fs) (in_front t.value t.changed r)
      -- a refusal ends the rewrite
      fail : {o : TraversalOrder} {n : M} {ns : List M} {es : List (Event M (Back M))} {e : VortexError} → GoesOn o → Rewrite n es (Err e) → RewriteAll o (n ∷ ns) es (Err e)
      -- there was no memory for the siblings
      spent : {o : TraversalOrder} {ns : List M} → RewriteAll o ns [] (Err OutOfMemory)

module _ {V M : Type 0} (kids : M → List M) (B : M → List M → Result M VortexError → Type 0) (D U : V → M → Back M → V → Type 0) where
  -- a rewrite of n that answers a; the rewriter goes from v to w by its own steps over the events
  pub record Rewritten (n : M) (v w : V) (a : Back M) : Type 0 where
    pub events : List (Event M (Back M))
    pub is : Rewrite kids B n events a
    pub steps : FoldsTo (Step D U) v events w

-- the same as a step of the rewriter at the node
abbrev pub RewritesTo : {V M : Type 0} → (M → List M) → (M → List M → Result M VortexError → Type 0) → (V → M → Back M → V → Type 0) → (V → M → Back M → V → Type 0) → V → M → Back M → V → Type 0
RewritesTo kids B D U v n a w = Rewritten kids B D U n v w a

-- on the way up a node is handed back as it is
abbrev pub GoesUpUnchanged : {V M : Type 0} → V → M → Back M → V → Type 0
GoesUpUnchanged v m a w = (a ≡ Ok (unchanged m)) × (w ≡ v)

-- a rewrite from the state v whose steps on the way down are D, and in which a node is handed back as it is on the way up
abbrev pub TransformedDown : {V M : Type 0} → (M → List M) → (M → List M → Result M VortexError → Type 0) → (V → M → Back M → V → Type 0) → M → V → Back M → Type 0
TransformedDown {V} kids B D n v a = (w : V) × Rewritten kids B D GoesUpUnchanged n v w a

-- each step hands its node back equal, unchanged, with Continue
abbrev pub HandsBack : {V N M : Type 0} → (N → M) → (V → N → Back N → V → Type 0) → Type 0
HandsBack {V} {N} mirror R = (v : V) (n : N) (a : Back N) (w : V) → R v n a w → seen mirror a ≡ Ok (unchanged (mirror n))
