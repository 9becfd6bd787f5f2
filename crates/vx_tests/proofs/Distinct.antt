-- One name is distinct from all others of its list.
use Rattle.std.proofs.Common.{◌≡◌, List, [], ◌∷◌, Result, Ok, Err, IfOk}
use Rattle.std.specs.List.{IsDistinct}
use Rattle.std.specs.Str.{bytes_eq}
use Rattle.vx_dtype.specs.declared.error.VortexError.{VortexError}
use Rattle.vx_dtype.specs.Returns.{ReturnsOrOom}
use Rattle.vx_dtype.specs.Types.{Name}

one_is_distinct : (a : Name) → IsDistinct bytes_eq (a ∷ [])
unfolding IsDistinct
one_is_distinct a = (tt, tt)

-- what is answered where a list of one name was asked for
pub one_answered : (a : Name) (names : List Name) (r : Result (List Name) VortexError) → names ≡ a ∷ [] → ReturnsOrOom (λ all. all) r (Ok names) → IfOk r (λ all. IsDistinct bytes_eq all)
one_answered a names (Ok all) is answers = let one : a ∷ [] ≡ all = cc in rw (← one) (one_is_distinct a)
one_answered a names (Err e) is answers = tt
