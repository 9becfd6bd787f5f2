-- The children of a CASE, and how many there are.
use Rattle.std.proofs.Common.{◌≡◌, List, [], ◌∷◌, length, Some, refl, arith}
use Rattle.std.specs.Prelude.{Option, None, is_some}
use Rattle.vx_fn.specs.Functions.{case_children}
use Rattle.vx_build.specs.Operands.{case_operands}

pub length-case_operands : {A : Type 0} (pairs : List (A × A)) (else_value : Option A) → length (case_operands pairs else_value) ≡ case_children (length pairs) (is_some else_value)
length-case_operands [] None = refl
length-case_operands [] (Some v) = refl
length-case_operands (p ∷ pairs) None = omega (arith, length-case_operands pairs None)
length-case_operands (p ∷ pairs) (Some v) = omega (arith, length-case_operands pairs (Some v))
