-- What is read only where a keyword stands.
use Rattle.std.proofs.Common.{◌≡◌, Bool, true, false, Option, None, refl}

abbrev pub where_true : {A : Type 0} → Bool → Option A → Option A
where_true true o = o
where_true false o = None

-- nothing is read either way
pub nothing : {A : Type 0} (b : Bool) → ◌≡◌ {A = Option A} None (where_true b None)
nothing true = refl
nothing false = refl
