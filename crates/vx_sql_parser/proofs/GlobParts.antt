-- What stands behind an opening bracket.
use Rattle.std.proofs.Common.{◌≡◌, ℕ, Bool, false, List, ◌∷◌, None, ap, ◌∙◌}
use Rattle.std.specs.Prelude.{◌==◌, ◌&&◌, if◌then◌else◌}
use Rattle.std.proofs.lemmas.Bool.{cond-false}
use Rattle.vx_sql_parser.specs.Globs.{bracketed, globbed, is_pair, just, paired}

both : (p r s : List ℕ) (c d : ℕ) → p ≡ c ∷ r → r ≡ d ∷ s → p ≡ c ∷ d ∷ s
both p r s c d first second = first ∙ ap (λ (q : List ℕ). c ∷ q) second

-- one character
pub bracket_just : (i : Bool) (p r s : List ℕ) (c d : ℕ) → p ≡ c ∷ r → r ≡ d ∷ s → d ≡ 93 → (c == 94) ≡ false → bracketed i p ≡ just i c (globbed i s)
bracket_just i p r s c d first second closes other =
    ap (bracketed i) (both p r s c d first second) ∙ ap (λ (d : ℕ). bracketed i (c ∷ d ∷ s)) closes ∙ cond-false (c == 94) None (just i c (globbed i s)) other

-- two
pub bracket_pair : (i : Bool) (p r s : List ℕ) (c d : ℕ) → p ≡ c ∷ r → r ≡ d ∷ s → (d == 93) ≡ false → bracketed i p ≡ paired i (i && is_pair c d) c s
bracket_pair i p r s c d first second more =
    ap (bracketed i) (both p r s c d first second) ∙ cond-false (d == 93) (if c == 94 then None else just i c (globbed i s)) (paired i (i && is_pair c d) c s) more
