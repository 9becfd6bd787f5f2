-- What is said of lanes that are found.
use Rattle.std.proofs.Common.{Option, Some, None, Result, Ok, Err, IfOk}
use Rattle.std.specs.Prelude.{IfSome}
use Rattle.vx_array.specs.declared.lanes.Lanes.{Lanes}

pub found_map : {E : Type 0} (r : Result (Option Lanes) E) (P Q : Lanes → Type 0) → ((out : Lanes) → P out → Q out) → IfOk r (λ found. IfSome found P) → IfOk r (λ found. IfSome found Q)
found_map (Ok (Some out)) P Q h p = h out p
found_map (Ok None) P Q h p = tt
found_map (Err e) P Q h p = tt
