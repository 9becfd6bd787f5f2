-- What stops calls over a batch.
use Rattle.std.proofs.Common.{◌≡◌, ◌≢◌, ◌⊎◌, inl, inr, ℕ, List, Err, subst}
use Rattle.vx_value.specs.Types.{LogicalType}
use Rattle.vx_data_buffers.specs.declared.error.BufferError.{BufferError}
use Rattle.vx_data_buffers.specs.declared.error.BufferError.TheVariants.{OutOfMemory}
use Rattle.vx_data_buffers.specs.Rows.{column_said}
use Rattle.vx_ffi_calls.specs.declared.stop.CallError.{CallError}
use Rattle.vx_ffi_calls.specs.Stops.{IsExhausted}
use Rattle.vx_ffi_plan.specs.declared.kept.KeptPlan.{KeptPlan}
use Rattle.vx_ffi_plan.specs.Kept.{scope_of}
use Rattle.vx_ffi_plan.specs.ScanStops.{IsBadData, IsNoBatch}

-- buffers that have no batch of the plan's type
pub no_batch : (kept : KeptPlan) (rows : ℕ) (buffers : List (List ℕ)) (t : LogicalType) (error : BufferError) (stop : CallError) → t ≡ scope_of kept
    → IsExhausted stop ⊎ (IsBadData stop × (error ≢ OutOfMemory)) → (error ≡ OutOfMemory) ⊎ (column_said buffers t rows ≡ Err error) → IsExhausted stop ⊎ IsNoBatch kept rows buffers stop
no_batch kept rows buffers t error stop same (inl exhausted) told = inl exhausted
no_batch kept rows buffers t error stop same (inr bad) (inl memory) = absurd (bad.1 memory)
no_batch kept rows buffers t error stop same (inr bad) (inr said) = inr (bad.0, (error, subst (λ s. column_said buffers s rows ≡ Err error) same said))
