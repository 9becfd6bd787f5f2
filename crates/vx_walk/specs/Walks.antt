-- Walks: the events of a visitor's way through a tree.
use Rattle.std.specs.Prelude.{◌≡◌, List, [], ◌∷◌, ◌++◌, Ok, Err}
use Rattle.std.specs.List.{FoldsTo}
use Rattle.vx_dtype.specs.declared.error.VortexError.{VortexError}
use Rattle.vx_walk.specs.declared.order.TraversalOrder.{TraversalOrder}
use Rattle.vx_walk.specs.declared.order.TraversalOrder.TheVariants.{Skip, Stop, Continue}
use Rattle.vx_walk.specs.Orders.{Answer, GoesOn, Ends}

-- what happens in a walk: a node on the way down or on the way up, and the answer
pub data Event (M A : Type 0) : Type 0 where
  down : M → A → Event M A
  up : M → A → Event M A

-- a step at an event: D on the way down, U on the way up
abbrev pub Step : {V M A : Type 0} → (V → M → A → V → Type 0) → (V → M → A → V → Type 0) → V → Event M A → V → Type 0
Step D U v (down n a) w = D v n a w
Step D U v (up n a) w = U v n a w

-- a step at a node that is seen as m
pub record At {V N M A : Type 0} (mirror : N → M) (R : V → N → A → V → Type 0) (v : V) (m : M) (a : A) (w : V) : Type 0 where
  pub node : N
  pub looks : mirror node ≡ m
  pub step : R v node a w

module _ {M : Type 0} (kids : M → List M) where
  mutual
    -- the walk of a node makes these events and answers so
    pub data Walk : M → List (Event M Answer) → Answer → Type 0 where
      -- the visitor refuses on the way down
      failed : {n : M} {e : VortexError} → Walk n (down n (Err e) ∷ []) (Err e)
      -- Stop on the way down, and nothing more
      stopped : {n : M} → Walk n (down n (Ok Stop) ∷ []) (Ok Stop)
      -- Skip on the way down, then the way up
      skipped : {n : M} {a : Answer} → Walk n (down n (Ok Skip) ∷ (up n a ∷ [])) a
      -- Continue, then the children, whose last answer is a refusal, Skip or Stop: no way up
      cut : {n : M} {es : List (Event M Answer)} {a : Answer} → WalkAll Continue (kids n) es a → Ends a → Walk n (down n (Ok Continue) ∷ es) a
      -- Continue, then the children, whose last answer is Continue, then the way up
      whole : {n : M} {es : List (Event M Answer)} {a : Answer} → WalkAll Continue (kids n) es (Ok Continue) → Walk n (down n (Ok Continue) ∷ (es ++ (up n a ∷ []))) a

    -- the walks of siblings, from left to right; o is the answer of the sibling before them
    pub data WalkAll : TraversalOrder → List M → List (Event M Answer) → Answer → Type 0 where
      -- no sibling is left: the last answer is the answer
      done : {o : TraversalOrder} → WalkAll o [] [] (Ok o)
      -- Skip or Continue of a sibling, then the later ones
      next : {o p : TraversalOrder} {n : M} {ns : List M} {es fs : List (Event M Answer)} {a : Answer} → Walk n es (Ok p) → GoesOn p → WalkAll p ns fs a → WalkAll o (n ∷ ns) (es ++ fs) a
      -- Stop of a sibling ends the walk
      stop : {o : TraversalOrder} {n : M} {ns : List M} {es : List (Event M Answer)} → Walk n es (Ok Stop) → WalkAll o (n ∷ ns) es (Ok Stop)
      -- a refusal ends the walk
      fail : {o : TraversalOrder} {n : M} {ns : List M} {es : List (Event M Answer)} {e : VortexError} → Walk n es (Err e) → WalkAll o (n ∷ ns) es (Err e)

module _ {V M : Type 0} (kids : M → List M) (D U : V → M → Answer → V → Type 0) where
  -- a walk of n that answers a; the visitor goes from v to w by its own steps over the events
  pub record Walked (n : M) (v w : V) (a : Answer) : Type 0 where
    pub events : List (Event M Answer)
    pub is : Walk kids n events a
    pub steps : FoldsTo (Step D U) v events w

-- on the way up nothing happens, and the walk goes on
abbrev pub GoesUp : {V M : Type 0} → V → M → Answer → V → Type 0
GoesUp v m a w = (a ≡ Ok Continue) × (w ≡ v)

-- a walk from the state v whose steps on the way down are D, and in which nothing happens on the way up
abbrev pub WalkedDown : {V M : Type 0} → (M → List M) → (V → M → Answer → V → Type 0) → M → V → Answer → Type 0
WalkedDown {V} kids D n v a = (w : V) × Walked kids D GoesUp n v w a
