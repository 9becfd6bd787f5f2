-- The ranges of whole numbers.
use Rattle.std.specs.Prelude.{ℕ, ◌^◌, Bool, ◌&&◌, ℤ, pos, negsuc, nat_lt}

-- whether a number lies below 2 ^ bits and, of a type with a sign, not below the negative of that, else not below 0
abbrev pub in_range : Bool → ℕ → ℤ → Bool
in_range signed bits (pos n) = nat_lt n (2 ^ bits)
in_range signed bits (negsuc n) = signed && nat_lt n (2 ^ bits)
