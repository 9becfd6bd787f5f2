-- The children of a CASE, two at a time.
use Rattle.std.proofs.Common.{◌≡◌, ◌≤◌, List, [], ◌∷◌, length, get_or, drop, take, ◌-◌, map, Some, None, sym, ap, ◌∙◌, arith}
use Rattle.std.proofs.lemmas.List.{take_all}
use Rattle.std.specs.Prelude.{option_and_then}
use Rattle.vx_value.specs.Types.{LogicalType}
use Rattle.vx_value.specs.Joins.{union, union_all}
use Rattle.vx_fn.specs.Functions.{branches}

-- what is left of a slice after its first two
abbrev pub later : {A : Type 0} → List A → List A
later es = take (length es - 2) (drop 2 es)

pub branches_step : {A : Type 0} (f : A → LogicalType) (es : List A) (v : A) → 2 ≤ length es → v ≡ get_or es 1 v → branches (map f es) ≡ f v ∷ branches (map f (later es))
branches_step f [] v h e = absurd (omega arith)
branches_step f (c ∷ []) v h e = absurd (omega arith)
branches_step f (c ∷ w ∷ rest) v h e =
    let all : take (length (c ∷ w ∷ rest) - 2) rest ≡ rest = take_all _ rest (omega arith) in
    ap (λ u. f u ∷ branches (map f rest)) (sym e) ∙ ap (λ us. f v ∷ branches (map f us)) (sym all)

pub union_all_some : (t u w : LogicalType) (us : List LogicalType) → Some w ≡ union t u → union_all w us ≡ union_all t (u ∷ us)
union_all_some t u w us e = ap (option_and_then (λ x. union_all x us)) e

pub union_all_none : (t u : LogicalType) (us : List LogicalType) → None ≡ union t u → None ≡ union_all t (u ∷ us)
union_all_none t u us e = ap (option_and_then (λ x. union_all x us)) e
