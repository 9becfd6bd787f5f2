-- Bytes of rows that are added to one buffer.
use Rattle.std.specs.Prelude.{◌≡◌, ℕ, ◌-◌, ◌≤◌, ◌<◌, List, map, length, get_or}
use Rattle.std.specs.List.{range_with_len}
use Rattle.vx_array.specs.Kinds.{span_at}

-- the bytes of each row, of which there is one fewer than offsets
abbrev pub cuts_in : List ℕ → List ℕ → List (List ℕ)
cuts_in offsets bytes = map (span_at offsets bytes) (range_with_len 0 (length offsets - 1))

-- the offsets lie within the bytes, and the last one at their end
pub record AreCuts (offsets bytes : List ℕ) : Type 0 where
  pub some : 0 < length offsets
  pub within : (k : ℕ) → get_or offsets k 0 ≤ length bytes
  pub whole : get_or offsets (length offsets - 1) 0 ≡ length bytes
