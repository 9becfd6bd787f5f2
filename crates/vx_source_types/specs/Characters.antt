-- What the characters of a source text are for.
use Rattle.std.specs.Prelude.{ℕ, Bool, ◌||◌, ◌&&◌, ◌==◌, nat_le}

-- whether the byte is a letter or an underscore, with which a word begins
abbrev pub is_letter : ℕ → Bool
is_letter b = nat_le 97 b && nat_le b 122 || (nat_le 65 b && nat_le b 90 || b == 95)

-- whether the byte is a decimal digit
abbrev pub is_digit : ℕ → Bool
is_digit b = nat_le 48 b && nat_le b 57

-- whether a word goes on with the byte
abbrev pub is_word : ℕ → Bool
is_word b = is_letter b || is_digit b

-- whether the byte is a space, a tab or the end of a line
abbrev pub is_blank : ℕ → Bool
is_blank b = b == 32 || (b == 10 || (b == 9 || b == 13))
