-- Values that can be compared, and others.
use Rattle.std.proofs.Common.{◌≡◌, Bool, true, false, Some, None, refl}
use Rattle.vx_value.specs.Types.{Datum}
use Rattle.vx_prune_bounds.specs.Order.{at_most, comparable}
use Rattle.vx_prune_bounds.proofs.Ordered.{at_most-left, at_most-right, comparable-own}

-- one that is comparable is the value itself
pub comparable-is : (v w : Datum) → Some w ≡ comparable v → w ≡ v
comparable-is v w e = go (at_most v v) refl
  where
    go : (b : Bool) → at_most v v ≡ b → w ≡ v
    go true h = let s : comparable v ≡ Some v = rw h refl in cc
    go false h = let s : comparable v ≡ None = rw h refl in cc

-- what can't be compared with itself can't with another
pub alone_left : (v w : Datum) → None ≡ comparable v → at_most v w ≡ false
alone_left v w e = go (at_most v w) refl
  where
    go : (b : Bool) → at_most v w ≡ b → b ≡ false
    go true h = let s = comparable-own v (at_most-left v w h) in cc
    go false h = refl

pub alone_right : (v w : Datum) → None ≡ comparable w → at_most v w ≡ false
alone_right v w e = go (at_most v w) refl
  where
    go : (b : Bool) → at_most v w ≡ b → b ≡ false
    go true h = let s = comparable-own w (at_most-right v w h) in cc
    go false h = refl
