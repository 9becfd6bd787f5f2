-- The options of a selection, read part after part.
use Rattle.std.proofs.Common.{◌≡◌, Bool, true, false, List, [], ◌∷◌, Option, Some, None, refl}
use Rattle.vx_value.specs.Types.{Name}
use Rattle.vx_fn.specs.declared.options.FieldSelection.{FieldSelection}
use Rattle.vx_fn.specs.Functions.{Function, select}
use Rattle.vx_source_types.specs.declared.token.Sign.TheVariants.{OpenBrace, CloseBrace, Tilde}
use Rattle.vx_source_types.specs.Tokens.{Lexeme, sign}
use Rattle.vx_source_grammar.specs.OptionReading.{braced, names_read, select_read}
use Rattle.vx_source_operands.specs.NameParts.{is_closed, selected}
use Rattle.vx_source_operands.specs.OptionViews.{selecting}

abbrev chosen : Option (Bool × List Lexeme) → Option Function
chosen (Some (excludes, xs)) = braced (selecting excludes) (names_read xs)
chosen None = None

pub select_is : (xs : List Lexeme) → select_read xs ≡ chosen (selected xs)
select_is (sign Tilde ∷ sign OpenBrace ∷ xs) = refl
select_is (sign OpenBrace ∷ xs) = refl
select_is xs = refl

abbrev closed : Bool → Function → Option Function
closed true f = Some f
closed false f = None

by_rest : (selection : List Name → FieldSelection) (names : List Name) (xs : List Lexeme)
    → braced selection (names, xs) ≡ closed (is_closed xs) (select (selection names))
by_rest selection names (sign CloseBrace ∷ []) = refl
by_rest selection names xs = refl

pub braced_is : (selection : List Name → FieldSelection) (read : List Name × List Lexeme)
    → braced selection read ≡ closed (is_closed read.1) (select (selection read.0))
braced_is selection (names, xs) = by_rest selection names xs
