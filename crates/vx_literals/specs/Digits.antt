-- Digits of numbers.
use Rattle.std.specs.Prelude.{ℕ, zero, suc, ◌+◌, ◌-◌, ◌*◌, ◌/◌, ◌%◌, ◌^◌, Bool, ◌&&◌, nat_le, List, [], ◌∷◌, Option, Some, None, if◌then◌else◌}
use Rattle.std.specs.List.{prefix_len}
use Rattle.std.specs.Option.{option_and_then}

-- the last k digits of a number
abbrev pub last_digits : ℕ → ℕ → List ℕ
last_digits zero n = []
last_digits (suc k) n = (48 + n / 10 ^ k % 10) ∷ last_digits k n

-- whether the byte lies from one to another
abbrev pub is_within : ℕ → ℕ → ℕ → Bool
is_within low high b = nat_le low b && nat_le b high

-- whether it is a digit
abbrev pub is_digit : ℕ → Bool
is_digit = is_within 48 57

-- how many digits there are at the front
abbrev pub digits_in_front : List ℕ → ℕ
digits_in_front = prefix_len is_digit

-- the digit that a byte is
abbrev pub digit_of : ℕ → Option ℕ
digit_of b = if is_digit b then Some (b - 48) else None

-- the number that digits are behind those of another one, if each byte is a digit
abbrev pub digits_behind : ℕ → List ℕ → Option ℕ
digits_behind n [] = Some n
digits_behind n (b ∷ bs) = option_and_then (λ d. digits_behind (10 * n + d) bs) (digit_of b)

-- the number that digits are
abbrev pub number_of : List ℕ → Option ℕ
number_of bs = digits_behind 0 bs
