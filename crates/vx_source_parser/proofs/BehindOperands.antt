-- What follows an operand where the token is a number, and what begins with a minus.
use Rattle.std.proofs.Common.{◌≡◌, ℕ, ◌<◌, refl, Bool, true, false, List, [], ◌∷◌, length, get_or, Some, None, drop, ◌==◌, if◌then◌else◌, arith, rules}
use Rattle.std.proofs.lemmas.Bool.{eqb-true}
use Rattle.vx_tree.specs.Trees.{Tree}
use Rattle.vx_source_types.specs.Tokens.{Lexeme, number as numeral, point, next}
use Rattle.vx_source_grammar.specs.Closing.{closes}
use Rattle.vx_source_grammar.specs.Following.{follows, less_goes}
use Rattle.vx_source_grammar.specs.States.{Frame}
use Rattle.vx_source_parser.specs.Numbers.{number_goes, unsigned}

-- whether the token is a number
abbrev pub is_numeral : Lexeme → Bool
is_numeral (numeral negative magnitude suffix) = true
is_numeral (point s) = true
is_numeral x = false

pub follows_number : (fs : List Frame) (r : ℕ) (e : Tree) (x : Lexeme) → is_numeral x ≡ true → follows fs r e x ≡ number_goes fs r e x (unsigned x)
follows_number fs r e (numeral true magnitude suffix) h = refl
follows_number fs r e (numeral false magnitude suffix) h = refl
follows_number fs r e (point s) h = go (next s == 45)
  where
    go : (b : Bool) → (if b then less_goes fs r e (point (drop 1 s)) else closes fs r e (point s)) ≡ number_goes fs r e (point s) (if b then Some (point (drop 1 s)) else None)
    go true = refl
    go false = refl
follows_number fs r e _ h = cc

-- what begins with a minus has a byte, which is ASCII
pub begins_with_minus : (s : List ℕ) → next s == 45 ≡ true → (0 < length s) × (get_or s 0 0 < 128)
begins_with_minus [] h = cc
begins_with_minus (b ∷ bs) h = let is : b ≡ 45 = eqb-true b 45 h in (search (rules, arith), omega (arith, is))
