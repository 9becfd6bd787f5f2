-- What a writer holds after a text was written to it.
use Rattle.std.specs.Prelude.{◌≡◌, ◌⊎◌, ◌<◌, ℕ, List, length, take, Option}
use Rattle.std.specs.Io.KnownBytes.{Appends}

-- a beginning of the text, and not the whole of it, was written
abbrev pub Breaks : Option (List ℕ) → Option (List ℕ) → List ℕ → Type 0
Breaks old new text = (n : ℕ) × (n < length text) × Appends old new (take n text)

-- the text was written whole and the status is the one wanted, or it broke off and the status is 1
abbrev pub Tells : Option (List ℕ) → Option (List ℕ) → List ℕ → ℕ → ℕ → Type 0
Tells old new text wanted status =
    ((status ≡ wanted) × Appends old new text) ⊎ ((status ≡ 1) × Breaks old new text)
