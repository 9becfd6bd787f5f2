-- How calls on a handle end, by the plan that it has.
use Rattle.std.proofs.Common.{◌≡◌, ◌≢◌, inl, inr, ◌<◌, ℕ, List, [], length, Option, Some, None, Ok, Err, sym, ap, ◌∙◌, arith}
use Rattle.std.specs.Prelude.{string_bytes}
use Rattle.std.specs.Global.{Vec}
use Rattle.vx_command_pages.specs.Inputs.{IsCommandError}
use Rattle.vx_command_pages.specs.declared.error.CommandError.{CommandError}
use Rattle.vx_command_pages.specs.declared.error.CommandError.TheVariants.{OutOfMemory as Exhausted, UnreadExpression, UnreadSchema, Unfit, Refused as RefusedAt}
use Rattle.vx_ffi_calls.specs.declared.answer.Answer.{Answer}
use Rattle.vx_ffi_calls.specs.declared.answer.Status.{Status}
use Rattle.vx_ffi_calls.specs.declared.answer.Status.TheVariants.{Answered, TooSmall, OutOfMemory, Unread, Refused}
use Rattle.vx_ffi_calls.specs.declared.stop.CallError.{CallError}
use Rattle.vx_ffi_calls.specs.Endings.{EndsCall, EndsAs, IsPut, number_of}
use Rattle.vx_ffi_calls.specs.Stops.{Stops, Tells}
use Rattle.vx_ffi_plan.specs.declared.kept.KeptPlan.{KeptPlan}
use Rattle.vx_ffi_plan.specs.Kept.{IsKept}
use Rattle.vx_ffi_plan.specs.Held.{HeldEnds, IsPlanless, NewEnds}

-- ---- calls on a plan

module _ (IsPage : KeptPlan → List ℕ → Type 0) (IsStop : KeptPlan → CallError → Type 0) (held : Option KeptPlan) (before : List ℕ) (status : Status) (after : List ℕ) (answer : Answer) where
  pub on_plan : (kept seen : KeptPlan) → Some kept ≡ held → seen ≡ kept → EndsCall (IsPage seen) (IsStop seen) before status after answer → HeldEnds IsPage IsStop held before status after answer
  on_plan kept seen has same ends = rw (← has, ← same) ends

  pub on_none : (stop : CallError) → None ≡ held → IsPlanless stop → EndsAs (Err stop) before status after answer → HeldEnds IsPage IsStop held before status after answer
  on_none stop has is ends = rw (← has) (Err stop, tt, is, ends)

-- ---- the call that makes a plan

other : (s t : Status) → s ≡ t → 0 < number_of t → s ≢ Answered
other s t is more answered = let same : number_of t ≡ 0 = ap number_of (sym is ∙ answered) in absurd (omega arith)

-- no error is told by a page
tells_other : (c : CommandError) (expression schema : List ℕ) (stop : CallError) → Tells c expression schema stop → stop.status ≢ Answered
tells_other Exhausted expression schema stop is = other _ OutOfMemory is.0 (omega arith)
tells_other (UnreadExpression at expected) expression schema stop is = other _ Unread is.0 (omega arith)
tells_other (UnreadSchema at expected) expression schema stop is = other _ Unread is.0 (omega arith)
tells_other (Unfit literal) expression schema stop is = other _ Refused is.0 (omega arith)
tells_other (RefusedAt span refusal remedy) expression schema stop is = other _ Refused is.0 (omega arith)

stops_other : (IsC : CommandError → Type 0) (expression schema : List ℕ) (stop : CallError) → Stops IsC expression schema stop → stop.status ≢ Answered
stops_other IsC expression schema stop (inl exhausted) = other _ OutOfMemory exhausted.0 (omega arith)
stops_other IsC expression schema stop (inr (inl no_text)) = other _ Unread no_text.0 (omega arith)
stops_other IsC expression schema stop (inr (inr (inl no_text))) = other _ Unread no_text.0 (omega arith)
stops_other IsC expression schema stop (inr (inr (inr (c, is, tells)))) = tells_other c expression schema stop tells

-- a text that is wanted with another status is put with another status
put_other : (text : List ℕ) (wanted : Status) (before : List ℕ) (status : Status) (after : List ℕ) → wanted ≢ Answered → IsPut text wanted before status after → status ≢ Answered
put_other text wanted before status after never (inl put) answered = never (sym put.0 ∙ answered)
put_other text wanted before status after never (inr small) answered = other status TooSmall small.0 (omega arith) answered

-- the empty text fits every buffer
put_empty : (text before : List ℕ) (status : Status) (after : List ℕ) → text ≡ [] → IsPut text Answered before status after → status ≡ Answered
put_empty text before status after empty (inl put) = put.0
put_empty text before status after empty (inr small) = let none = ap length empty in let short = small.1 in absurd (omega arith)

module _ (expression schema before : List ℕ) (status : Status) (after : List ℕ) (answer : Answer) where
  pub made : (kept : KeptPlan) (page : Vec ℕ) → IsKept expression schema kept → page.items ≡ [] → EndsAs (Ok page) before status after answer → NewEnds expression schema (Some kept) before status after answer
  made kept page is empty ends = ((put_empty page.items before status after empty ends.0, is), (Ok page, empty, tt, ends))

  pub stopped : (stop : CallError) → Stops (IsCommandError expression schema) expression schema stop → EndsAs (Err stop) before status after answer → NewEnds expression schema None before status after answer
  stopped stop is ends = (put_other (string_bytes stop.message) stop.status before status after (stops_other _ expression schema stop is) ends.0, (Err stop, tt, is, ends))
