-- Folds: the events of a folder's way through a tree, with the results of the children.
use Rattle.std.specs.Prelude.{◌≡◌, List, [], ◌∷◌, ◌++◌, Result, Ok, Err}
use Rattle.std.specs.List.{FoldsTo}
use Rattle.vx_dtype.specs.declared.error.VortexError.{VortexError}
use Rattle.vx_dtype.specs.declared.error.VortexError.TheVariants.{OutOfMemory}
use Rattle.vx_walk.specs.declared.fold.FoldDownContext.{FoldDownContext}
use Rattle.vx_walk.specs.declared.fold.FoldDownContext.TheVariants as Down
use Rattle.vx_walk.specs.declared.fold.FoldUp.{FoldUp}
use Rattle.vx_walk.specs.declared.fold.FoldUp.TheVariants as Up

-- what happens in a fold of nodes M with contexts X and results R: a node on the way down or on the way up, and the answer
pub data FoldEvent (M X R : Type 0) : Type 0 where
  down : X → M → Result (FoldDownContext X R) VortexError → FoldEvent M X R
  up : M → X → List R → Result (FoldUp R) VortexError → FoldEvent M X R

-- the results of all siblings, or the one that ended the fold
pub data FoldedRow (R : Type 0) : Type 0 where
  all : List R → FoldedRow R
  ended : R → FoldedRow R

-- r before the results of the later siblings
abbrev pub in_front : {R : Type 0} → R → Result (FoldedRow R) VortexError → Result (FoldedRow R) VortexError
in_front r (Ok (all rs)) = Ok (all (r ∷ rs))
in_front r (Ok (ended s)) = Ok (ended s)
in_front r (Err e) = Err e

module _ {M X R : Type 0} (kids : M → List M) where
  mutual
    -- the fold of a node with a context makes these events and answers so
    pub data Fold : X → M → List (FoldEvent M X R) → Result (FoldUp R) VortexError → Type 0 where
      -- the folder refuses on the way down
      refused : {x : X} {n : M} {e : VortexError} → Fold x n (down x n (Err e) ∷ []) (Err e)
      -- Skip gives the node's result, without its children and its way up
      skipped : {x : X} {n : M} {r : R} → Fold x n (down x n (Ok (Down.Skip r)) ∷ []) (Ok (Up.Continue r))
      -- Stop ends the fold
      stopped : {x : X} {n : M} {r : R} → Fold x n (down x n (Ok (Down.Stop r)) ∷ []) (Ok (Up.Stop r))
      -- Continue with a context for the children, and one of them is refused
      lost : {x y : X} {n : M} {es : List (FoldEvent M X R)} {e : VortexError} → FoldAll y (kids n) es (Err e) → Fold x n (down x n (Ok (Down.Continue y)) ∷ es) (Err e)
      -- Continue, and a child ends the fold: no way up
      cut : {x y : X} {n : M} {es : List (FoldEvent M X R)} {r : R} → FoldAll y (kids n) es (Ok (ended r)) → Fold x n (down x n (Ok (Down.Continue y)) ∷ es) (Ok (Up.Stop r))
      -- Continue, then the children, then the way up over their results in order
      whole : {x y : X} {n : M} {es : List (FoldEvent M X R)} {rs : List R} {a : Result (FoldUp R) VortexError} → FoldAll y (kids n) es (Ok (all rs)) → Fold x n (down x n (Ok (Down.Continue y)) ∷ (es ++ (up n y rs a ∷ []))) a

    -- the folds of siblings with one context, from left to right
    pub data FoldAll : X → List M → List (FoldEvent M X R) → Result (FoldedRow R) VortexError → Type 0 where
      -- no sibling is left
      none : {y : X} → FoldAll y [] [] (Ok (all []))
      -- the result of a sibling, then the later ones
      next : {y : X} {n : M} {ns : List M} {es fs : List (FoldEvent M X R)} {r : R} (a : Result (FoldedRow R) VortexError) → Fold y n es (Ok (Up.Continue r)) → FoldAll y ns fs a → FoldAll y (n ∷ ns) (es ++ fs) (in_front r a)
      -- Stop of a sibling ends the fold
      end : {y : X} {n : M} {ns : List M} {es : List (FoldEvent M X R)} {r : R} → Fold y n es (Ok (Up.Stop r)) → FoldAll y (n ∷ ns) es (Ok (ended r))
      -- a refusal ends the fold
      fail : {y : X} {n : M} {ns : List M} {es : List (FoldEvent M X R)} {e : VortexError} → Fold y n es (Err e) → FoldAll y (n ∷ ns) es (Err e)
      -- there was no memory for the siblings
      spent : {y : X} {ns : List M} → FoldAll y ns [] (Err OutOfMemory)

module _ {V N M X R : Type 0} (mirror : N → M) (kids : M → List M) (D : V → X → N → Result (FoldDownContext X R) VortexError → V → Type 0) (U : V → N → X → List R → Result (FoldUp R) VortexError → V → Type 0) where
  -- a folder's own step at an event, at a node that is seen so
  abbrev pub FoldStep : V → FoldEvent M X R → V → Type 0
  FoldStep v (down x m a) w = (n : N) × (mirror n ≡ m) × D v x n a w
  FoldStep v (up m x rs a) w = (n : N) × (mirror n ≡ m) × U v n x rs a w

  -- a fold of m with the context x that answers a; the folder goes from v to w by its own steps over the events
  pub record Folded (x : X) (m : M) (v w : V) (a : Result (FoldUp R) VortexError) : Type 0 where
    pub events : List (FoldEvent M X R)
    pub is : Fold kids x m events a
    pub steps : FoldsTo FoldStep v events w

-- the way up of a node that is seen as m and handed over, unless there is no memory for a clone of it
pub data HandedUp {V N M X R : Type 0} (mirror : N → M) (U : V → N → X → List R → Result (FoldUp R) VortexError → V → Type 0) (m : M) (x : X) (rs : List R) (v : V) : Result (FoldUp R) VortexError → V → Type 0 where
  not_cloned : HandedUp mirror U m x rs v (Err OutOfMemory) v
  handed : {a : Result (FoldUp R) VortexError} {w : V} (n : N) → mirror n ≡ m → U v n x rs a w → HandedUp mirror U m x rs v a w
