-- Lines and columns of a text, as editors count.
use Rattle.std.specs.Prelude.{ℕ, Bool, ◌||◌, nat_lt, nat_le, nat_eq}

abbrev pub is_newline : ℕ → Bool
is_newline b = nat_eq b 10

-- whether a character of UTF-8 begins with the byte
abbrev pub begins_character : ℕ → Bool
begins_character b = nat_lt b 128 || nat_le 192 b
