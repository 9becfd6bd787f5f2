-- A sign that is spelled at the front is the first token.
use Rattle.std.proofs.Common.{◌≡◌, ℕ, Bool, true, false, List, ◌∷◌, Option, Some, None, refl, ap}
use Rattle.std.specs.Prelude.{◌==◌}
use Rattle.vx_source_types.specs.declared.token.Sign.{Sign}
use Rattle.vx_source_types.specs.declared.token.Sign.TheVariants.{OpenParen, CloseParen, OpenBracket, CloseBracket, OpenBrace, CloseBrace, Comma, Question, Equal, DoubleEqual}
use Rattle.vx_source_types.specs.Tokens.{sign, next, sign_taken, first}
use Rattle.vx_dtype.proofs.Choice.{no}

-- a byte that begins no sign of two
alone : (t : Bool) → (elim t as (λ v. Option Sign) [ true ↦ None | false ↦ None ]) ≡ None
alone true = refl
alone false = refl

pub first_open_paren : (rest : List ℕ) → first (40 ∷ rest) ≡ (sign OpenParen, rest)
first_open_paren rest = ap (λ o. sign_taken o (Some OpenParen) rest) (alone (next rest == 61))

pub first_close_paren : (rest : List ℕ) → first (41 ∷ rest) ≡ (sign CloseParen, rest)
first_close_paren rest = ap (λ o. sign_taken o (Some CloseParen) rest) (alone (next rest == 61))

pub first_comma : (rest : List ℕ) → first (44 ∷ rest) ≡ (sign Comma, rest)
first_comma rest = ap (λ o. sign_taken o (Some Comma) rest) (alone (next rest == 61))

pub first_question : (rest : List ℕ) → first (63 ∷ rest) ≡ (sign Question, rest)
first_question rest = ap (λ o. sign_taken o (Some Question) rest) (alone (next rest == 61))

pub first_open_bracket : (rest : List ℕ) → first (91 ∷ rest) ≡ (sign OpenBracket, rest)
first_open_bracket rest = ap (λ o. sign_taken o (Some OpenBracket) rest) (alone (next rest == 61))

pub first_close_bracket : (rest : List ℕ) → first (93 ∷ rest) ≡ (sign CloseBracket, rest)
first_close_bracket rest = ap (λ o. sign_taken o (Some CloseBracket) rest) (alone (next rest == 61))

pub first_open_brace : (rest : List ℕ) → first (123 ∷ rest) ≡ (sign OpenBrace, rest)
first_open_brace rest = ap (λ o. sign_taken o (Some OpenBrace) rest) (alone (next rest == 61))

pub first_close_brace : (rest : List ℕ) → first (125 ∷ rest) ≡ (sign CloseBrace, rest)
first_close_brace rest = ap (λ o. sign_taken o (Some CloseBrace) rest) (alone (next rest == 61))

-- an equals sign that no other follows
pub first_equal : (rest : List ℕ) → (next rest == 61) ≡ false → first (61 ∷ rest) ≡ (sign Equal, rest)
first_equal rest e = ap (λ o. sign_taken o (Some Equal) rest) (no (next rest == 61) (Some DoubleEqual) None e)
