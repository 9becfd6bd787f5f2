-- Patterns of LIKE that are spelled by the texts with one beginning, and by no others.
use Rattle.std.specs.Prelude.{◌≡◌, ℕ, ◌==◌, Bool, false, ◌&&◌, ◌||◌, not, List, [], ◌∷◌, Option, Some, None, option_map, option_and_then, if◌then◌else◌, chars}
use Rattle.std.specs.List.{list_all}
use Rattle.std.specs.Str.{is_utf8}
use Rattle.vx_fn.specs.Values.{is_like, starts_with_text}

-- whether the character stands for itself in a pattern: 37 is '%', 95 is '_' and 92 is the backslash
abbrev pub stands_for_itself : ℕ → Bool
stands_for_itself c = not (c == 37 || (c == 95 || c == 92))

-- whether all characters of the text do
abbrev pub is_plain_text : List ℕ → Bool
is_plain_text q = is_utf8 q && list_all stands_for_itself (chars q)

-- what stands before a '%' at the end
abbrev pub before_percent : List ℕ → Option (List ℕ)
before_percent [] = None
before_percent (c ∷ []) = if c == 37 then Some [] else None
before_percent (c ∷ d ∷ cs) = option_map (λ q. c ∷ q) (before_percent (d ∷ cs))

-- what each text begins with that is like the pattern: what stands before a '%' at its end, where no other sign does
abbrev pub beginning_of : List ℕ → Option (List ℕ)
beginning_of p = option_and_then (λ q. if is_plain_text q then Some q else None) (before_percent p)

-- a text is like such a pattern exactly where it begins so
abbrev pub LikeIsBeginning : Type 0
LikeIsBeginning = (t p q : List ℕ) → beginning_of p ≡ Some q → is_like false t p ≡ starts_with_text t q
