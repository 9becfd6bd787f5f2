-- The rewrite of a node in two parts, as the code makes it: as far as its way down, and from its children on.
use Rattle.std.specs.Prelude.{◌≡◌, List, [], ◌∷◌, ◌++◌, Result, Ok, Err, Bool, true, false}
use Rattle.vx_dtype.specs.declared.error.VortexError.{VortexError}
use Rattle.vx_walk.specs.declared.order.TraversalOrder.TheVariants.{Continue}
use Rattle.vx_walk.specs.declared.rewrite.Begun.{Begun}
use Rattle.vx_walk.specs.declared.rewrite.Begun.TheVariants.{Whole, Open}
use Rattle.vx_walk.specs.declared.siblings.Siblings.{Siblings}
use Rattle.vx_walk.specs.declared.transformed.Transformed.{Transformed}
use Rattle.vx_walk.specs.Handed.{Back, looking, marked}
use Rattle.vx_walk.specs.Mapping.{RebuiltAs}
use Rattle.vx_walk.specs.Orders.{GoesOn}
use Rattle.vx_walk.specs.Siblings.{Pushed, row_seen, StepAt}

-- a way down by D, after which the children come next
abbrev pub Opened : {V N M : Type 0} → (N → M) → (V → M → Back M → V → Type 0) → V → M → Transformed N → V → Type 0
Opened mirror D v m t w = D v m (Ok (looking mirror t)) w × (t.order ≡ Continue)

-- the first part: the whole rewrite by C, or the way down by D alone
abbrev pub Begins : {V N M : Type 0} → (N → M) → (V → M → Back M → V → Type 0) → (V → M → Back M → V → Type 0) → V → M → Result (Begun N) VortexError → V → Type 0
Begins mirror C D v m (Ok (Whole t)) w = C v m (Ok (looking mirror t)) w
Begins mirror C D v m (Ok (Open t)) w = Opened mirror D v m t w
Begins mirror C D v m (Err e) w = C v m (Err e) w

-- the same of a sibling behind those of s: what was handed back is put behind them, and whether its children come next is answered
abbrev pub BeginsAt : {V N M : Type 0} → (N → M) → (V → M → Back M → V → Type 0) → (V → M → Back M → V → Type 0) → Siblings N → V → M → Result Bool VortexError → Siblings N → V → Type 0
BeginsAt {N = N} mirror C D s v m (Ok false) after w = (t : Transformed N) × Pushed s.handed_back.items s.changed t after × StepAt C s.order v m (Ok (looking mirror t)) w
BeginsAt {N = N} mirror C D s v m (Ok true) after w = (t : Transformed N) × Pushed s.handed_back.items s.changed t after × GoesOn s.order × Opened mirror D v m t w
BeginsAt mirror C D s v m (Err e) after w = StepAt C s.order v m (Err e) w

-- the second part: the node n over its children that were handed back, and its way up by U where their last order is Continue
pub data Finishes {V M : Type 0} (B : M → List M → Result M VortexError → Type 0) (U : V → M → Back M → V → Type 0) (n : M) (r : Transformed (List M)) (v : V) : Back M → V → Type 0 where
  not_rebuilt : {e : VortexError} → RebuiltAs B n r.value r.changed (Err e) → Finishes B U n r v (Err e) v
  handed_on : (m : M) → RebuiltAs B n r.value r.changed (Ok m) → ¬ (r.order ≡ Continue) → Finishes B U n r v (Ok (record { value = m; order = r.order; changed = r.changed })) v
  goes_up : {w : V} (m : M) (a : Back M) → RebuiltAs B n r.value r.changed (Ok m) → r.order ≡ Continue → U v m a w → Finishes B U n r v (marked r.changed a) w

-- the same of the last of the siblings s, over its children below: what was handed back is put in its place
abbrev pub FinishesAt : {V N M A : Type 0} → (N → M) → (M → List M → Result M VortexError → Type 0) → (V → M → Back M → V → Type 0) → Siblings N → Siblings N → V → Result A VortexError → Siblings N → V → Type 0
FinishesAt {N = N} mirror B U below s v (Ok u) after w = (others : List N) × (n : N) × (s.handed_back.items ≡ others ++ n ∷ []) × (t : Transformed N) × Pushed others s.changed t after × Finishes B U (mirror n) (row_seen mirror below) v (Ok (looking mirror t)) w
FinishesAt {N = N} mirror B U below s v (Err e) after w = (others : List N) × (n : N) × (s.handed_back.items ≡ others ++ n ∷ []) × Finishes B U (mirror n) (row_seen mirror below) v (Err e) w
