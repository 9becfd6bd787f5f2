-- What stands around names.
use Rattle.std.specs.Prelude.{Bool, true, false, List, [], ◌∷◌, Option, Some, None}
use Rattle.vx_source_types.specs.declared.token.Sign.TheVariants.{CloseBracket, OpenBrace, CloseBrace, Tilde}
use Rattle.vx_source_types.specs.Tokens.{Lexeme, sign}

-- whether a tilde leaves the names out, and what stands behind the opening brace
abbrev pub selected : List Lexeme → Option (Bool × List Lexeme)
selected (sign Tilde ∷ sign OpenBrace ∷ xs) = Some (true, xs)
selected (sign OpenBrace ∷ xs) = Some (false, xs)
selected xs = None

-- whether the closing brace is all that is left
abbrev pub is_closed : List Lexeme → Bool
is_closed (sign CloseBrace ∷ []) = true
is_closed xs = false

-- what is left behind a closing bracket
abbrev pub behind_bracket : List Lexeme → Option (List Lexeme)
behind_bracket (sign CloseBracket ∷ xs) = Some xs
behind_bracket xs = None
