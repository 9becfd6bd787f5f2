-- Bits in words of 64, least first.
use Rattle.std.specs.Prelude.{ℕ, ◌/◌, ◌%◌, ◌==◌, List, map, get_or, Bool}
use Rattle.std.specs.Int.{bit_at, div_ceil}
use Rattle.std.specs.List.{range_with_len, count_by}

-- the values of f at the first n rows
abbrev pub each_row : {A : Type 0} → ℕ → (ℕ → A) → List A
each_row n f = map f (range_with_len 0 n)

-- how many words n bits need
abbrev pub words_for : ℕ → ℕ
words_for n = div_ceil n 64

-- whether a bit of the word is one
abbrev pub bit_of : ℕ → ℕ → Bool
bit_of word i = bit_at word i == 1

-- whether bit k is one: bit k % 64 of word k / 64
abbrev pub bit : List ℕ → ℕ → Bool
bit words k = bit_of (get_or words (k / 64) 0) (k % 64)

-- the first n bits
abbrev pub first_bits : ℕ → List ℕ → List Bool
first_bits n words = each_row n (bit words)

-- how many are true
abbrev pub count_true : List Bool → ℕ
count_true bs = count_by (λ b. b) bs
