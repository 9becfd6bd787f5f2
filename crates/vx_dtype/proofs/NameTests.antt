-- The test of names, by their bytes, decides whether they are one.
use Rattle.std.proofs.Common.{◌≡◌, refl, true, false}
use Rattle.std.specs.Str.{bytes_eq}
use Rattle.std.proofs.lemmas.Bool.{false_from_ne_true}
use Rattle.std.proofs.lemmas.Slice.Eq.{bytes_eq-Decides}
use Rattle.vx_dtype.specs.Types.{Name}

pub own_name : (a : Name) → bytes_eq a a ≡ true
own_name a = (bytes_eq-Decides a a).1 refl

pub same_name : (a b : Name) → bytes_eq a b ≡ true → a ≡ b
same_name a b e = (bytes_eq-Decides a b).0 e

pub other_name : (a b : Name) → (a ≡ b → ⊥) → bytes_eq a b ≡ false
other_name a b apart = false_from_ne_true _ (λ e. apart (same_name a b e))
