-- Buffers one behind the other, on a page.
use Rattle.std.specs.Prelude.{ℕ, ◌-◌, ◌%◌, List, ◌++◌, length, replicate}
use Rattle.std.specs.Int.{to_le_bytes, w64}
use Rattle.std.specs.List.{flat_map}

-- zeros up to a multiple of 8
abbrev pub padding : ℕ → List ℕ
padding length = replicate ((8 - length % 8) % 8) 0

-- the length of the buffer in 8 bytes, least first, its bytes, and zeros up to a multiple of 8
abbrev pub framed_one : List ℕ → List ℕ
framed_one bytes = to_le_bytes w64 (length bytes) ++ (bytes ++ padding (length bytes))

-- the number of rows in 8 bytes, and each buffer
abbrev pub framed : ℕ → List (List ℕ) → List ℕ
framed rows buffers = to_le_bytes w64 rows ++ flat_map framed_one buffers
