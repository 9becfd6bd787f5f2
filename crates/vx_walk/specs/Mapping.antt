-- The children of a node, handed over and back one after another, and the node over them.
use Rattle.std.specs.Prelude.{◌≡◌, List, [], ◌∷◌, Result, Ok, Err, Bool, true, false}
use Rattle.vx_dtype.specs.declared.error.VortexError.{VortexError}
use Rattle.vx_dtype.specs.declared.error.VortexError.TheVariants.{OutOfMemory}
use Rattle.vx_walk.specs.declared.order.TraversalOrder.{TraversalOrder}
use Rattle.vx_walk.specs.declared.order.TraversalOrder.TheVariants.{Stop, Continue}
use Rattle.vx_walk.specs.declared.transformed.Transformed.{Transformed}
use Rattle.vx_walk.specs.Handed.{Back, seen, in_front}
use Rattle.vx_walk.specs.Orders.{GoesOn}

-- a step at an element that is seen as m, whose answer is seen as a
pub record AtOwned {V N M : Type 0} (mirror : N → M) (R : V → N → Back N → V → Type 0) (v : V) (m : M) (a : Back M) (w : V) : Type 0 where
  pub node : N
  pub looks : mirror node ≡ m
  pub answer : Back N
  pub sees : seen mirror answer ≡ a
  pub step : R v node answer w

module _ {V N : Type 0} (C : V → N → Back N → V → Type 0) where
  -- the elements are handed over and back from left to right, each to its own place; o is the order of the one before
  pub data MappedAll : TraversalOrder → V → List N → Back (List N) → V → Type 0 where
    none : {o : TraversalOrder} {v : V} → MappedAll o v [] (Ok (record { value = []; order = o; changed = false })) v
    -- after Stop an element stays
    keep : {v w : V} {n : N} {ns : List N} (r : Back (List N)) → MappedAll Stop v ns r w → MappedAll Stop v (n ∷ ns) (in_front n false r) w
    next : {o : TraversalOrder} {u v w : V} {n : N} {ns : List N} {t : Transformed N} (r : Back (List N)) → GoesOn o → C u n (Ok t) v → MappedAll t.order v ns r w → MappedAll o u (n ∷ ns) (in_front t.value t.changed r) w
    fail : {o : TraversalOrder} {v w : V} {n : N} {ns : List N} {e : VortexError} → GoesOn o → C v n (Err e) w → MappedAll o v (n ∷ ns) (Err e) w
    -- there was no memory for the elements
    spent : {o : TraversalOrder} {v : V} {ns : List N} → MappedAll o v ns (Err OutOfMemory) v

-- the node over children that were handed back, by B where one was changed; else it stays
abbrev pub RebuiltAs : {M : Type 0} → (M → List M → Result M VortexError → Type 0) → M → List M → Bool → Result M VortexError → Type 0
RebuiltAs B n ms true a = B n ms a
RebuiltAs B n ms false a = a ≡ Ok n

-- a node whose children were handed over and back, with the order of the last; rebuilt where one was changed
pub data MappedBy {V M : Type 0} (B : M → List M → Result M VortexError → Type 0) (C : V → M → Back M → V → Type 0) (ns : List M) (n : M) (v : V) : Back M → V → Type 0 where
  refused : {e : VortexError} {w : V} → MappedAll C Continue v ns (Err e) w → MappedBy B C ns n v (Err e) w
  not_rebuilt : {r : Transformed (List M)} {e : VortexError} {w : V} → MappedAll C Continue v ns (Ok r) w → RebuiltAs B n r.value r.changed (Err e) → MappedBy B C ns n v (Err e) w
  back : (m : M) {r : Transformed (List M)} {w : V} → MappedAll C Continue v ns (Ok r) w → RebuiltAs B n r.value r.changed (Ok m) → MappedBy B C ns n v (Ok (record { value = m; order = r.order; changed = r.changed })) w

-- the same, whatever the mapper becomes
abbrev pub MappedTo : {V M : Type 0} → (M → List M → Result M VortexError → Type 0) → (V → M → Back M → V → Type 0) → List M → M → V → Back M → Type 0
MappedTo {V} B C ns n v a = (w : V) × MappedBy B C ns n v a w
