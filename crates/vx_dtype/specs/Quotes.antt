-- Texts between quotes.
use Rattle.std.specs.Prelude.{ℕ, true, false, ◌==◌, List, [], ◌∷◌, ◌++◌}

-- the text with each quote in it doubled
abbrev pub doubled : ℕ → List ℕ → List ℕ
doubled q [] = []
doubled q (b ∷ bs) = elim (b == q) [ true ↦ q ∷ q ∷ doubled q bs | false ↦ b ∷ doubled q bs ]

-- the text between quotes
abbrev pub between_quotes : ℕ → List ℕ → List ℕ
between_quotes q bs = q ∷ (doubled q bs ++ q ∷ [])
