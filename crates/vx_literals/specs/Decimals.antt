-- Decimals as texts.
use Rattle.std.specs.Prelude.{ℕ, ◌+◌, ◌-◌, ◌*◌, ◌/◌, ◌^◌, ◌==◌, ◌&&◌, List, [], ◌∷◌, ◌++◌, length, take, drop, get_or, not, Option, Some, None, ℤ, pos, negsuc, neg_ℤ, unsigned_abs, nat_le, codes, if◌then◌else◌}
use Rattle.std.specs.Fmt.{decimal}
use Rattle.std.specs.List.{list_all, prefix_len}
use Rattle.std.specs.Option.{option_and_then, option_map}
use Rattle.vx_literals.specs.Digits.{digits_behind, digits_in_front, is_within, last_digits}

-- ---- written

-- the sign of a number below zero
abbrev pub sign_text : ℤ → List ℕ
sign_text (pos n) = []
sign_text (negsuc n) = codes "-"

-- a point and the last k digits, if that are any
abbrev pub point_text : ℕ → ℕ → List ℕ
point_text k n = if k == 0 then [] else codes "." ++ last_digits k n

-- so many units, 10 to the scale of which are one
abbrev pub decimal_text : ℤ → ℕ → List ℕ
decimal_text i scale = sign_text i ++ (decimal (unsigned_abs i / 10 ^ scale) ++ point_text scale (unsigned_abs i))

-- ---- read

-- digits without the zeros before them
abbrev pub significant : List ℕ → List ℕ
significant bs = drop (prefix_len (is_within 48 48) bs) bs

-- the units of whole digits and of those behind the point: these end with zeros beyond the scale, and there are at most 38 digits in all
abbrev pub units_of : ℕ → List ℕ → List ℕ → Option ℕ
units_of scale whole behind =
    if nat_le (length (significant whole) + scale) 38 && list_all (λ b. b == 48) (drop scale behind)
    then option_map (λ n. n * 10 ^ (scale - length behind)) (option_and_then (λ n. digits_behind n (take scale behind)) (digits_behind 0 (significant whole)))
    else None

-- the units of so many digits at the front of a text, and of what is behind a point, if there is one: at least one digit stands on each side
abbrev pub size_at : ℕ → List ℕ → ℕ → Option ℕ
size_at scale bs k =
    if k == 0 then None
    else if k == length bs then units_of scale bs []
    else if get_or bs k 0 == 46 && not (k + 1 == length bs) then units_of scale (take k bs) (drop (k + 1) bs)
    else None

abbrev pub size_read : ℕ → List ℕ → Option ℕ
size_read scale bs = size_at scale bs (digits_in_front bs)

-- the units of a decimal, 10 to the scale of which are one; none where it has other digits, or more than 38
abbrev pub decimal_read : ℕ → List ℕ → Option ℤ
decimal_read scale bs = if get_or bs 0 0 == 45 then option_map (λ n. neg_ℤ (pos n)) (size_read scale (drop 1 bs)) else option_map pos (size_read scale bs)
