-- How a scalar is read, token by token: a number with its type, or a value, and its type where it isn't plain.
use Rattle.std.specs.Prelude.{◌≡◌, ◌⊎◌, ◌≤◌, ℕ, List, ◌∷◌, length, Option, Some, None, Result, Ok, Err}
use Rattle.vx_value.specs.Columns.{Constant}
use Rattle.vx_value.specs.Types.{LogicalType}
use Rattle.vx_source_types.specs.declared.error.ParseError.{ParseError}
use Rattle.vx_source_types.specs.declared.error.ParseError.TheVariants.{OutOfMemory, Unexpected}
use Rattle.vx_source_types.specs.declared.expectation.Expected.{Expected}
use Rattle.vx_source_types.specs.declared.expectation.Expected.TheVariants.{Value, Number, FittingType}
use Rattle.vx_source_types.specs.declared.token.Sign.TheVariants.{DoubleColon}
use Rattle.vx_source_types.specs.Tokens.{Lexeme, number as numeral, sign}
use Rattle.vx_source_types.specs.Reading.{Goes, more, done, Step, refused, IsRead, Stops}
use Rattle.vx_source_types.specs.TypeReading.{TypeState, type_start, type_step}
use Rattle.vx_source_types.specs.Literals.{number_literal, plain_literal, typed_literal}
use Rattle.vx_source_types.specs.ValueReading.{Drafted, ValueState, value_start, value_step}

-- what is due next: a scalar; more of a value; more of its type; nothing
pub data ScalarState : Type 0 where
  scalar_due : ScalarState
  in_value : ValueState → ScalarState
  in_type : Drafted → TypeState → ScalarState
  whole_scalar : Constant → ScalarState

abbrev pub ScalarAnswer : Type 0
ScalarAnswer = Result (Goes ScalarState Constant) Expected

-- the number with a type behind it, or that there is no such number, if the token is a number with a word behind it
abbrev pub suffixed : Lexeme → Option (Option Constant)
suffixed (numeral negative magnitude (b ∷ suffix)) = Some (number_literal negative magnitude (b ∷ suffix))
suffixed _ = None

-- a value has begun
abbrev pub value_begun : Lexeme → Result (Goes ValueState Drafted) Expected → ScalarAnswer
value_begun x (Ok (more s)) = Ok (more (in_value s))
value_begun x (Ok (done d)) = refused x Value
value_begun x (Err e) = Err e

-- the beginning of a scalar
abbrev pub scalar_begins : ℕ → Lexeme → Option (Option Constant) → ScalarAnswer
scalar_begins room x (Some (Some c)) = Ok (more (whole_scalar c))
scalar_begins room x (Some None) = Err Number
scalar_begins room x None = value_begun x (value_step (value_start room) x)

-- a scalar, where there is one
abbrev pub ended : Result Constant Expected → ScalarAnswer
ended (Ok c) = Ok (done c)
ended (Err e) = Err e

-- what follows a value
abbrev pub value_ended : ℕ → Drafted → Lexeme → ScalarAnswer
value_ended room d (sign DoubleColon) = Ok (more (in_type d (type_start room)))
value_ended room d x = ended (plain_literal d)

abbrev pub value_after : ℕ → Lexeme → Result (Goes ValueState Drafted) Expected → ScalarAnswer
value_after room x (Ok (more s)) = Ok (more (in_value s))
value_after room x (Ok (done d)) = value_ended room d x
value_after room x (Err e) = Err e

-- what follows a type
abbrev pub type_ended : Option Constant → ScalarAnswer
type_ended (Some c) = Ok (done c)
type_ended None = Err FittingType

abbrev pub type_after : Drafted → Result (Goes TypeState LogicalType) Expected → ScalarAnswer
type_after d (Ok (more s)) = Ok (more (in_type d s))
type_after d (Ok (done t)) = type_ended (typed_literal d t)
type_after d (Err e) = Err e

-- what a token makes of a scalar that is being read, with so much nesting allowed
abbrev pub scalar_step : ℕ → Step ScalarState Constant
scalar_step room scalar_due x = scalar_begins room x (suffixed x)
scalar_step room (in_value s) x = value_after room x (value_step s x)
scalar_step room (in_type d s) x = type_after d (type_step s x)
scalar_step room (whole_scalar c) x = Ok (done c)

-- the call gave what is said, seen by view, or refused for the same reason, at the token or where the value begins, unless
-- memory ran out
abbrev pub ReadsFrom : {A B : Type 0} → ℕ → ℕ → (A → B) → Result A ParseError → Result B Expected → Type 0
ReadsFrom begun at view (Ok x) said = said ≡ Ok (view x)
ReadsFrom begun at view (Err OutOfMemory) said = Unit {0}
ReadsFrom begun at view (Err (Unexpected place e)) said = ((place ≡ at) ⊎ (place ≡ begun)) × (said ≡ Err e)

-- what a whole text comes to: what is read, seen by view, or what stops reading, with a place within the text, unless memory
-- ran out
abbrev pub ParsesWithin : {S A B : Type 0} → Step S B → S → List ℕ → (A → B) → Result A ParseError → Type 0
ParsesWithin step s bs view (Ok x) = IsRead step s bs (view x)
ParsesWithin step s bs view (Err OutOfMemory) = Unit {0}
ParsesWithin step s bs view (Err (Unexpected at e)) = (at ≤ length bs) × ((ds : List ℕ) × Stops step s bs ds e)
