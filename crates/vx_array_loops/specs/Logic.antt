-- And, Or and Not, row by row, also of truth values that may be null (Kleene's).
use Rattle.std.specs.Prelude.{List, Bool, ◌&&◌, ◌||◌, not}
use Rattle.std.specs.Simd.Lanes.{zip2}

-- both are true, row by row
abbrev pub both : List Bool → List Bool → List Bool
both = zip2 (λ a b. a && b)

-- one of them is true, row by row
abbrev pub either : List Bool → List Bool → List Bool
either = zip2 (λ a b. a || b)

-- the first is true and the other isn't, row by row
abbrev pub but : List Bool → List Bool → List Bool
but = zip2 (λ a b. a && not b)

-- the first is true or the other isn't, row by row
abbrev pub unless : List Bool → List Bool → List Bool
unless = zip2 (λ a b. a || not b)

-- whether an And is valid of a and b, which are valid where v and w are true: where both are, or one that is valid is false
abbrev pub and_valid : Bool → Bool → Bool → Bool → Bool
and_valid v a w b = ((v && w) || (v && not a)) || (w && not b)

-- whether an Or is: where both are valid, or one that is valid is true
abbrev pub or_valid : Bool → Bool → Bool → Bool → Bool
or_valid v a w b = ((v && w) || (v && a)) || (w && b)
