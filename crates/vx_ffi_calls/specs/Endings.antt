-- How a call ends, and what it leaves in its buffer.
use Rattle.std.specs.Prelude.{◌≡◌, ◌⊎◌, ◌++◌, ◌<◌, ◌≤◌, ℕ, List, Result, Ok, Err, IfOk, IfErr, [], ◌∷◌, codes, length, drop, string_bytes}
use Rattle.std.specs.Global.{Vec}
use Rattle.vx_ffi_calls.specs.declared.answer.Answer.{Answer}
use Rattle.vx_ffi_calls.specs.declared.answer.Place.{Place}
use Rattle.vx_ffi_calls.specs.declared.answer.Status.{Status}
use Rattle.vx_ffi_calls.specs.declared.answer.Status.TheVariants.{Answered, TooSmall, OutOfMemory, Unread, Refused, Faulted, BadData, NoPlan}
use Rattle.vx_ffi_calls.specs.declared.stop.CallError.{CallError}

-- the number that a call answers
abbrev pub number_of : Status → ℕ
number_of Answered = 0
number_of TooSmall = 1
number_of OutOfMemory = 2
number_of Unread = 3
number_of Refused = 4
number_of Faulted = 5
number_of BadData = 6
number_of NoPlan = 7

-- the version of the library, on a line
abbrev pub version_line : List ℕ
version_line = codes "0.1.0" ++ 10 ∷ []

-- no place is told
abbrev pub IsNowhere : Place → Type 0
IsNowhere place = (place.text ≡ 0) × (place.start ≡ 0) × (place.end ≡ 0) × (place.line ≡ 0) × (place.column ≡ 0) × (place.record ≡ 0)

-- the buffer begins with the text, and is as it was behind it
abbrev pub Holds : List ℕ → List ℕ → List ℕ → Type 0
Holds text before after = (length text ≤ length before) × (after ≡ text ++ drop (length text) before)

-- the buffer holds the text, and the status is the one that is wanted; or the text is longer than the buffer, which is as it was
abbrev pub IsPut : List ℕ → Status → List ℕ → Status → List ℕ → Type 0
IsPut text wanted before status after = ((status ≡ wanted) × Holds text before after) ⊎ ((status ≡ TooSmall) × (length before < length text) × (after ≡ before))

-- how a call ends that makes this page, or is stopped so
abbrev pub EndsAs : Result (Vec ℕ) CallError → List ℕ → Status → List ℕ → Answer → Type 0
EndsAs (Ok page) before status after answer = IsPut page.items Answered before status after × (answer.needed ≡ length page.items) × IsNowhere answer.place
EndsAs (Err stop) before status after answer = IsPut (string_bytes stop.message) stop.status before status after × (answer.needed ≡ length (string_bytes stop.message)) × (answer.place ≡ stop.place)

-- how a call ends that makes such a page, or is stopped by such a stop
abbrev pub EndsCall : (List ℕ → Type 0) → (CallError → Type 0) → List ℕ → Status → List ℕ → Answer → Type 0
EndsCall IsPage IsStop before status after answer = (made : Result (Vec ℕ) CallError) × IfOk made (λ page. IsPage page.items) × IfErr made IsStop × EndsAs made before status after answer

-- the same of the number that a call answers
abbrev pub EndsWith : (List ℕ → Type 0) → (CallError → Type 0) → List ℕ → ℕ → List ℕ → Answer → Type 0
EndsWith IsPage IsStop before number after answer = (status : Status) × (number ≡ number_of status) × EndsCall IsPage IsStop before status after answer
