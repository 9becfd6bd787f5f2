-- More signs that are spelled at the front are the first token.
use Rattle.std.proofs.Common.{◌≡◌, ℕ, Bool, true, false, List, ◌∷◌, Option, Some, None, refl, ap}
use Rattle.std.specs.Prelude.{◌==◌}
use Rattle.vx_source_types.specs.declared.token.Sign.{Sign}
use Rattle.vx_source_types.specs.declared.token.Sign.TheVariants.{Dot, Dollar}
use Rattle.vx_source_types.specs.Tokens.{sign, next, sign_taken, first}

-- a byte that begins no sign of two
alone : (t : Bool) → (elim t as (λ v. Option Sign) [ true ↦ None | false ↦ None ]) ≡ None
alone true = refl
alone false = refl

pub first_dot : (rest : List ℕ) → first (46 ∷ rest) ≡ (sign Dot, rest)
first_dot rest = ap (λ o. sign_taken o (Some Dot) rest) (alone (next rest == 61))

pub first_dollar : (rest : List ℕ) → first (36 ∷ rest) ≡ (sign Dollar, rest)
first_dollar rest = ap (λ o. sign_taken o (Some Dollar) rest) (alone (next rest == 61))
