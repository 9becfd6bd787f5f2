-- What calls on a plan's handle answer, and what the handle has then.
use Rattle.std.specs.Prelude.{◌≡◌, ◌≢◌, ◌⊎◌, ℕ, List, [], Option, Some, None}
use Rattle.vx_command_pages.specs.Inputs.{IsCommandError}
use Rattle.vx_ffi_calls.specs.declared.answer.Answer.{Answer}
use Rattle.vx_ffi_calls.specs.declared.answer.Status.{Status}
use Rattle.vx_ffi_calls.specs.declared.answer.Status.TheVariants.{Answered, NoPlan, OutOfMemory}
use Rattle.vx_ffi_calls.specs.declared.stop.CallError.{CallError}
use Rattle.vx_ffi_calls.specs.Endings.{EndsCall, IsNowhere, number_of}
use Rattle.vx_ffi_calls.specs.Stops.{IsExhausted, Stops}
use Rattle.vx_ffi_plan.specs.declared.kept.KeptPlan.{KeptPlan}
use Rattle.vx_ffi_plan.specs.Kept.{IsKept}

-- there is no plan, or memory ran out before that was told
abbrev pub IsPlanless : CallError → Type 0
IsPlanless stop = IsExhausted stop ⊎ ((stop.status ≡ NoPlan) × IsNowhere stop.place)

-- how a call on a handle ends: as one on the plan that it has, else there is none
abbrev pub HeldEnds : (KeptPlan → List ℕ → Type 0) → (KeptPlan → CallError → Type 0) → Option KeptPlan → List ℕ → Status → List ℕ → Answer → Type 0
HeldEnds IsPage IsStop None before status after answer = EndsCall (λ _. ⊥) IsPlanless before status after answer
HeldEnds IsPage IsStop (Some kept) before status after answer = EndsCall (IsPage kept) (IsStop kept) before status after answer

-- the same of the number that a call answers
abbrev pub HeldEndsWith : (KeptPlan → List ℕ → Type 0) → (KeptPlan → CallError → Type 0) → Option KeptPlan → List ℕ → ℕ → List ℕ → Answer → Type 0
HeldEndsWith IsPage IsStop plan before number after answer = (status : Status) × (number ≡ number_of status) × HeldEnds IsPage IsStop plan before status after answer

-- how the call ends that shares the plan of a handle with another one, by the plan that this has then
abbrev pub ShareEnds : Option KeptPlan → Status → Option KeptPlan → Type 0
ShareEnds None status other = (status ≡ NoPlan) × (other ≡ None)
ShareEnds (Some kept) status other = ((status ≡ Answered) × (other ≡ Some kept)) ⊎ ((status ≡ OutOfMemory) × (other ≡ None))

-- the same of the number that the call answers
abbrev pub ShareEndsWith : Option KeptPlan → ℕ → Option KeptPlan → Type 0
ShareEndsWith plan number other = (status : Status) × (number ≡ number_of status) × ShareEnds plan status other

-- a plan of these texts is there where the call answered, and none where it didn't
abbrev pub IsMade : List ℕ → List ℕ → Option KeptPlan → Status → Type 0
IsMade expression schema None status = status ≢ Answered
IsMade expression schema (Some kept) status = (status ≡ Answered) × IsKept expression schema kept

-- how a call ends that makes a plan, of which the page is empty
abbrev pub NewEnds : List ℕ → List ℕ → Option KeptPlan → List ℕ → Status → List ℕ → Answer → Type 0
NewEnds expression schema plan before status after answer = IsMade expression schema plan status
    × EndsCall (λ page. page ≡ []) (Stops (IsCommandError expression schema) expression schema) before status after answer

-- the same of the number that a call answers
abbrev pub NewEndsWith : List ℕ → List ℕ → Option KeptPlan → List ℕ → ℕ → List ℕ → Answer → Type 0
NewEndsWith expression schema plan before number after answer = (status : Status) × (number ≡ number_of status) × NewEnds expression schema plan before status after answer
