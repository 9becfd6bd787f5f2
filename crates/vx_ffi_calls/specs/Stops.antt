-- What stops a call.
use Rattle.std.specs.Prelude.{◌≡◌, ◌⊎◌, ◌+◌, ℕ, List, [], take, string_bytes}
use Rattle.std.specs.List.{count_by}
use Rattle.std.specs.Str.{IsValidUpTo}
use Rattle.vx_command_pages.specs.Positions.{is_newline}
use Rattle.vx_command_pages.specs.declared.error.CommandError.{CommandError}
use Rattle.vx_command_pages.specs.declared.error.CommandError.TheVariants.{OutOfMemory as Exhausted, UnreadExpression, UnreadSchema, Unfit, Refused as RefusedAt}
use Rattle.vx_ffi_calls.specs.declared.answer.Place.{Place}
use Rattle.vx_ffi_calls.specs.declared.answer.Status.TheVariants.{OutOfMemory, Unread, Refused}
use Rattle.vx_ffi_calls.specs.declared.stop.CallError.{CallError}
use Rattle.vx_ffi_calls.specs.declared.text.Given.{Given}
use Rattle.vx_ffi_calls.specs.declared.text.Given.TheVariants.{Expression, Schema, Records}
use Rattle.vx_ffi_calls.specs.Endings.{IsNowhere}

-- the number of the text in a place
abbrev pub text_number : Given → ℕ
text_number Expression = 1
text_number Schema = 2
text_number Records = 3

-- the place is of those bytes of the text, with the line that the first of them stands in
abbrev pub IsPlaceIn : Given → List ℕ → ℕ → ℕ → Place → Type 0
IsPlaceIn given text start end place = (place.text ≡ text_number given) × (place.start ≡ start) × (place.end ≡ end) × (place.line ≡ 1 + count_by is_newline (take start text))

-- memory ran out, of which there is no message
abbrev pub IsExhausted : CallError → Type 0
IsExhausted stop = (stop.status ≡ OutOfMemory) × (string_bytes stop.message ≡ []) × IsNowhere stop.place

-- the text is UTF-8 up to the place alone
abbrev pub IsNoText : Given → List ℕ → CallError → Type 0
IsNoText given text stop = (stop.status ≡ Unread) × IsValidUpTo text stop.place.start × IsPlaceIn given text stop.place.start stop.place.end stop.place

-- the stop tells where the error in those texts is
abbrev pub Tells : CommandError → List ℕ → List ℕ → CallError → Type 0
Tells Exhausted expression schema stop = IsExhausted stop
Tells (UnreadExpression at expected) expression schema stop = (stop.status ≡ Unread) × IsPlaceIn Expression expression at at stop.place
Tells (UnreadSchema at expected) expression schema stop = (stop.status ≡ Unread) × IsPlaceIn Schema schema at at stop.place
Tells (Unfit literal) expression schema stop = (stop.status ≡ Refused) × IsPlaceIn Expression expression literal.value.span.start literal.value.span.end stop.place
Tells (RefusedAt span refusal remedy) expression schema stop = (stop.status ≡ Refused) × IsPlaceIn Expression expression span.start span.end stop.place

-- a text is no UTF-8, there is such an error in the texts, or memory ran out
abbrev pub Stops : (CommandError → Type 0) → List ℕ → List ℕ → CallError → Type 0
Stops IsError expression schema stop = IsExhausted stop
    ⊎ IsNoText Expression expression stop
    ⊎ IsNoText Schema schema stop
    ⊎ ((error : CommandError) × IsError error × Tells error expression schema stop)
