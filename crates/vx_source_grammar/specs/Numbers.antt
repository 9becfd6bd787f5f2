-- How values and numbers begin.
use Rattle.std.specs.Prelude.{ℕ, List, [], Option, Some, None, Result, Ok, Err}
use Rattle.vx_value.specs.Columns.{Constant}
use Rattle.vx_fn.specs.Functions.{literal}
use Rattle.vx_source_types.specs.declared.expectation.Expected.{Expected}
use Rattle.vx_source_types.specs.declared.expectation.Expected.TheVariants.{Value, Number}
use Rattle.vx_source_types.specs.Tokens.{Lexeme}
use Rattle.vx_source_types.specs.Reading.{Goes, more, done, refused}
use Rattle.vx_source_types.specs.ValueReading.{Drafted, ValueState, value_start, value_step}
use Rattle.vx_source_grammar.specs.Closing.{node_stands}
use Rattle.vx_source_grammar.specs.States.{Frame, in_value, ExpressionAnswer, goes}

-- a value begins
abbrev pub value_begun : List Frame → ℕ → Lexeme → Result (Goes ValueState Drafted) Expected → ExpressionAnswer
value_begun fs r x (Ok (more s)) = goes fs (in_value s) r
value_begun fs r x (Ok (done d)) = refused x Value
value_begun fs r x (Err e) = Err e

abbrev pub value_begins : List Frame → ℕ → Lexeme → ExpressionAnswer
value_begins fs r x = value_begun fs r x (value_step (value_start r) x)

-- a number with the type behind it, or without
abbrev pub number_begins : List Frame → ℕ → Lexeme → Option (Option Constant) → ExpressionAnswer
number_begins fs r x (Some (Some c)) = node_stands fs r (literal c.type c.value) []
number_begins fs r x (Some None) = Err Number
number_begins fs r x None = value_begins fs r x
