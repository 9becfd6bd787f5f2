-- The refusals of a closure that annotates nodes, and the first of them.
use Rattle.std.specs.Prelude.{◌≡◌, ◌⊎◌, Bool, List, [], ◌∷◌, Option, None, Some, Result, Ok, Err, IsOkAnd, MatchResult, Vec}
use Rattle.std.specs.Borrow.{Bor}
use Rattle.std.specs.Option.{option_or}
use Rattle.vx_dtype.specs.declared.error.VortexError.{VortexError}
use Rattle.vx_dtype.specs.declared.error.VortexError.TheVariants.{OutOfMemory}
use Rattle.vx_tree.specs.Trees.{BoundTree, scope, node, BoundTrees, no_bound, bound}
use Rattle.vx_tree.specs.Views.{bound_of}
use Rattle.vx_tree.specs.declared.bound.BoundExpression.{BoundExpression}
use Rattle.vx_rewrite_analysis.specs.Annotations.{SameAnnotations}

-- a closure that answers by its tree alone, as said says, save where memory runs out
abbrev pub SaysBy : {A Z : Type 0} → (A → A → Bool) → (Bor BoundExpression → Result (Vec A Z) VortexError → Type 0) → (BoundTree → Result (List A) VortexError) → Type 0
SaysBy {A} {Z} eq post said = (x : Bor BoundExpression) (r : Result (Vec A Z) VortexError) → post x r
    → MatchResult r (λ v. IsOkAnd (said (bound_of x.now)) (SameAnnotations eq v.items)) (λ y. (y ≡ OutOfMemory) ⊎ (said (bound_of x.now) ≡ Err y))

-- memory ran out, or the closure refuses so at one of these nodes
abbrev pub IsRefusalOf : {A Z : Type 0} → (Bor BoundExpression → Result (Vec A Z) VortexError → Type 0) → (BoundTree → Type 0) → VortexError → Type 0
IsRefusalOf post Here y = (y ≡ OutOfMemory) ⊎ ((x : Bor BoundExpression) × Here (bound_of x.now) × post x (Err y))

module _ {A : Type 0} where
  -- the refusal that is met: a node's own; none where it has answers; else that below it
  abbrev pub refusal_or : Result (List A) VortexError → Option VortexError → Option VortexError
  refusal_or (Err y) below = Some y
  refusal_or (Ok []) below = below
  refusal_or (Ok (a ∷ rest)) below = None

  module _ (said : BoundTree → Result (List A) VortexError) where
    -- the first refusal that is met: at the node, or, where it has no answers, at its children from left to right
    abbrev mutual
      pub first_refusal : BoundTree → Option VortexError
      first_refusal (scope t) = refusal_or (said (scope t)) None
      first_refusal (node t f bs) = refusal_or (said (node t f bs)) (first_refusal_in bs)

      pub first_refusal_in : BoundTrees → Option VortexError
      first_refusal_in no_bound = None
      first_refusal_in (bound b bs) = option_or (first_refusal b) (first_refusal_in bs)

module _ {A Z : Type 0} (eq : A → A → Bool) (post : Bor BoundExpression → Result (Vec A Z) VortexError → Type 0) (b : BoundTree) where
  -- memory ran out, or it is the first refusal that is met, by whatever the closure says
  abbrev pub IsFirstRefusal : VortexError → Type 0
  IsFirstRefusal y = (said : BoundTree → Result (List A) VortexError) → SaysBy eq post said → (y ≡ OutOfMemory) ⊎ (first_refusal said b ≡ Some y)

  -- no refusal is met, by whatever the closure says
  abbrev pub MeetsNoRefusal : Type 0
  MeetsNoRefusal = (said : BoundTree → Result (List A) VortexError) → SaysBy eq post said → first_refusal said b ≡ None
