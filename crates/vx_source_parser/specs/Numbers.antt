-- A number behind an operand.
use Rattle.std.specs.Prelude.{ℕ, ◌==◌, if◌then◌else◌, drop, true, false, List, Option, Some, None}
use Rattle.vx_tree.specs.Trees.{Tree}
use Rattle.vx_source_types.specs.declared.first.Found.{Found}
use Rattle.vx_source_types.specs.Tokens.{Lexeme, number as numeral, point, next}
use Rattle.vx_source_types.specs.Views.{lexeme_of}
use Rattle.vx_source_grammar.specs.Closing.{closes}
use Rattle.vx_source_grammar.specs.Following.{less_goes}
use Rattle.vx_source_grammar.specs.States.{Frame, ExpressionAnswer}

-- the number without its sign, if it is below zero
abbrev pub unsigned : Lexeme → Option Lexeme
unsigned (numeral true magnitude suffix) = Some (numeral false magnitude suffix)
unsigned (point s) = if next s == 45 then Some (point (drop 1 s)) else None
unsigned x = None

-- what follows an operand where the token is a number: one without its sign is taken from it
abbrev pub number_goes : List Frame → ℕ → Tree → Lexeme → Option Lexeme → ExpressionAnswer
number_goes fs r e x (Some y) = less_goes fs r e y
number_goes fs r e x None = closes fs r e x

-- the token of what was found
abbrev pub lexeme_in : Found → Lexeme
lexeme_in x = lexeme_of x.token
