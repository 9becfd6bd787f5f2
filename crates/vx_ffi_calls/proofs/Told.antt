-- What stops a call tells of the texts as they were given what it tells of them as they are read.
use Rattle.std.proofs.Common.{◌≡◌, ◌⊎◌, inl, inr, ℕ, List, subst}
use Rattle.vx_commands.specs.declared.error.RowsError.{RowsError}
use Rattle.vx_ffi_calls.specs.RowStops.{RowsStops, TellsRows}
use Rattle.vx_ffi_calls.specs.Stops.{IsExhausted}
use Rattle.vx_ffi_calls.specs.declared.stop.CallError.{CallError}

pub told_of : (P : List ℕ → List ℕ → RowsError → Type 0) (read given_read schema given_schema : List ℕ) (error : RowsError) (stop : CallError) → read ≡ given_read → schema ≡ given_schema → P read schema error
    → IsExhausted stop ⊎ TellsRows error read schema stop → RowsStops (P given_read given_schema) given_read given_schema stop
told_of P read given_read schema given_schema error stop a b is (inl exhausted) = inl exhausted
told_of P read given_read schema given_schema error stop a b is (inr tells) = inr (inr (inr (
  error,
  subst (λ x. P x given_schema error) a (subst (λ y. P read y error) b is),
  subst (λ x. TellsRows error x given_schema stop) a (subst (λ y. TellsRows error read y stop) b tells),
)))
