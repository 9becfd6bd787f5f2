-- Siblings that were handed back, as the code keeps them, and one of them.
use Rattle.std.specs.Prelude.{◌≡◌, List, [], ◌∷◌, ◌++◌, map, Result, Ok, Err, Bool, false, ◌||◌}
use Rattle.vx_dtype.specs.declared.error.VortexError.{VortexError}
use Rattle.vx_dtype.specs.declared.error.VortexError.TheVariants.{OutOfMemory}
use Rattle.vx_walk.specs.declared.siblings.Siblings.{Siblings}
use Rattle.vx_walk.specs.declared.transformed.Transformed.{Transformed}
use Rattle.vx_walk.specs.Handed.{Back}
use Rattle.vx_walk.specs.declared.order.TraversalOrder.{TraversalOrder}
use Rattle.vx_walk.specs.declared.order.TraversalOrder.TheVariants.{Stop}
use Rattle.vx_walk.specs.Orders.{GoesOn}

-- the code's siblings, seen by f
abbrev pub row_seen : {N M : Type 0} → (N → M) → Siblings N → Transformed (List M)
row_seen f s = record { value = map f s.handed_back.items; order = s.order; changed = s.changed }

-- the same as what is handed back, or the refusal
abbrev pub seen_siblings : {N M : Type 0} → (N → M) → Result (Siblings N) VortexError → Back (List M)
seen_siblings f (Ok s) = Ok (row_seen f s)
seen_siblings f (Err e) = Err e

-- the siblings are xs, of which one was changed where c, and behind them one that was handed back
pub record Pushed {N : Type 0} (xs : List N) (c : Bool) (handed : Transformed N) (s : Siblings N) : Type 0 where
  pub items : s.handed_back.items ≡ xs ++ handed.value ∷ []
  pub order : s.order ≡ handed.order
  pub changed : s.changed ≡ c || handed.changed

-- a sibling behind one whose order was o: after Stop it stays, and else it is handed over and back by C
pub data StepAt {V M : Type 0} (C : V → M → Back M → V → Type 0) (o : TraversalOrder) (v : V) (m : M) : Back M → V → Type 0 where
  stays : o ≡ Stop → StepAt C o v m (Ok (record { value = m; order = Stop; changed = false })) v
  goes : {a : Back M} {w : V} → GoesOn o → C v m a w → StepAt C o v m a w
  -- there was no memory for a clone
  not_cloned : StepAt C o v m (Err OutOfMemory) v
