-- The end of a comment, byte by byte.
use Rattle.std.proofs.Common.{ℕ, ◌+◌, Option, Some, None}

-- the end, behind so many bytes
abbrev pub later : ℕ → Option ℕ → Option ℕ
later n None = None
later n (Some k) = Some (n + k)
