-- Texts begin with what is fixed of the parts that spell them.
use Rattle.std.proofs.Common.{◌≡◌, ℕ, true, List, [], ◌∷◌, ◌++◌, ◌∙◌, refl, ap, eqb-true}
use Rattle.std.proofs.lemmas.Bool.{and_parts}
use Rattle.vx_fn.specs.Values.{Part, any_text, any_one, just, matches}
use Rattle.vx_prune_bounds.specs.Beginnings.{fixed_characters}

-- what is fixed of the parts, and more
abbrev pub Begins : List Part → List ℕ → Type 0
Begins ps cs = (rest : List ℕ) × (cs ≡ fixed_characters ps ++ rest)

pub matches-begins : (ps : List Part) (cs : List ℕ) → matches ps cs ≡ true → Begins ps cs
matches-begins [] cs e = (cs, refl)
matches-begins (any_text ∷ ps) cs e = (cs, refl)
matches-begins (any_one ∷ ps) cs e = (cs, refl)
matches-begins (just d ∷ ps) [] e = cc
matches-begins (just d ∷ ps) (c ∷ cs) e =
    let x = and_parts _ _ e in
    let more = matches-begins ps cs x.1 in
    (more.0, ap (λ z. z ∷ cs) (eqb-true c d x.0) ∙ ap (λ z. d ∷ z) more.1)
