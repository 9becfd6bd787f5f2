-- Types that differ in nullability alone, and their join.
use Rattle.std.proofs.Common.{◌≡◌, refl, Bool, true, false}
use Rattle.std.specs.Prelude.{Some, None, IsSome, if◌then◌else◌}
use Rattle.vx_dtype.proofs.Unions.{union-there}
use Rattle.vx_dtype.specs.Deciding.{same_atomic-Decides}
use Rattle.vx_dtype.specs.Joins.{same_base, join, Narrower}
use Rattle.vx_dtype.specs.Types.{LogicalType, Atomic, same_atomic}
use Rattle.vx_fn.proofs.Monotone.{narrower_refl}

-- a type differs from one above it in nullability alone
pub narrower-same : (t u : LogicalType) → Narrower t u → same_base t u ≡ true
narrower-same t u p = go (same_base t u) (union-there t u u p (narrower_refl u))
  where
    go : (b : Bool) → IsSome (if b then Some (join t u) else None) → b ≡ true
    go true h = refl
    go false h = cc

pub same_atomic-refl : (p : Atomic) → same_atomic p p ≡ true
same_atomic-refl p = (same_atomic-Decides p p).1 refl
