-- What typing and operators promise.
use Rattle.std.specs.Prelude.{ℕ, Bool, true, List, ◌≡◌, ◌↔◌, Ok, IfSome}
use Rattle.vx_value.specs.Types.{LogicalType, Datum}
use Rattle.vx_value.specs.Joins.{Narrower, NarrowerEach}
use Rattle.vx_fn.specs.Functions.{Function, fn_type, Operation, swapped}
use Rattle.vx_fn.specs.Rows.{FnType}
use Rattle.vx_fn.specs.Values.{Part, matches, Matches, is_like, IsLike, binary_value}

-- the function and the relation give the same types
abbrev pub TypingIsTheRelation : Type 0
TypingIsTheRelation = (f : Function) (ts : List LogicalType) (t : LogicalType) → (fn_type f ts ≡ Ok t) ↔ FnType f ts t

-- children of narrower types are typed again, with a narrower type
abbrev pub TypingIsMonotone : Type 0
TypingIsMonotone = (f : Function) (ts us : List LogicalType) (u : LogicalType) → NarrowerEach ts us → fn_type f us ≡ Ok u →
    (t : LogicalType) × (fn_type f ts ≡ Ok t) × Narrower t u

-- the swapped operation, if there is one, gives over operands what the operation gives over them exchanged
abbrev pub SwappedOverExchangedOperands : Type 0
SwappedOverExchangedOperands = (op : Operation) (v w : Datum) → IfSome (swapped op) (λ other. binary_value other v w ≡ binary_value op w v)

-- the test by search and the relation by cuts are one
abbrev pub MatchesIsDecided : Type 0
MatchesIsDecided = (ps : List Part) (cs : List ℕ) → (matches ps cs ≡ true) ↔ Matches ps cs

-- so are whether a text is like a pattern, and that it is
abbrev pub LikeIsDecided : Type 0
LikeIsDecided = (ignore_case : Bool) (t p : List ℕ) → (is_like ignore_case t p ≡ true) ↔ IsLike ignore_case t p
