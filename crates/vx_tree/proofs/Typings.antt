-- The types so far, and then the rest.
use Rattle.std.proofs.Common.{◌≡◌, ℕ, ◌+◌, ◌<◌, ◌≤◌, List, [], ◌∷◌, ◌++◌, length, get_or, drop, drop-cons, drop_of_length-le, map, add-one, Result, Ok, Err, refl, sym, ap, ◌∙◌}
use Rattle.vx_dtype.specs.declared.dtype.DType.{DType}
use Rattle.vx_dtype.specs.declared.error.VortexError.{VortexError}
use Rattle.vx_dtype.proofs.Lists.{in_front, in_front-push, in_front-all}
use Rattle.vx_value.specs.Types.{LogicalType}
use Rattle.vx_value.specs.Views.{type_of}
use Rattle.vx_tree.specs.declared.expression.Expression.{Expression}
use Rattle.vx_tree.specs.Trees.{on_ok, typed, each_typed}
use Rattle.vx_tree.specs.Views.{tree_of, trees_of}

abbrev ok_types : List LogicalType → Result (List LogicalType) VortexError
ok_types ts = Ok ts

abbrev put : LogicalType → Result (List LogicalType) VortexError → Result (List LogicalType) VortexError
put t rest = on_ok (λ ts. Ok (t ∷ ts)) rest

abbrev put_type : DType → List LogicalType → List LogicalType
put_type d ts = type_of d ∷ ts

abbrev pub before : List DType → List LogicalType → List LogicalType
before = in_front put_type

abbrev pub after : List DType → Result (List LogicalType) VortexError → Result (List LogicalType) VortexError
after made rest = on_ok (λ ts. Ok (before made ts)) rest

before_push : (made : List DType) (d : DType) (ts : List LogicalType) → before (made ++ d ∷ []) ts ≡ before made (type_of d ∷ ts)
before_push made d ts = in_front-push put_type made d ts

before_nothing : (made : List DType) → before made [] ≡ map type_of made
before_nothing made = in_front-all put_type [] (map type_of) refl (λ x xs. refl) made

after_push : (made : List DType) (d : DType) (rest : Result (List LogicalType) VortexError) → after (made ++ d ∷ []) rest ≡ after made (put (type_of d) rest)
after_push made d (Ok ts) = ap ok_types (before_push made d ts)
after_push made d (Err e) = refl

-- one more type is made
pub next : (es : List Expression) (s : LogicalType) (made new : List DType) (i : ℕ) (e : Expression) (d : DType) (all : Result (List LogicalType) VortexError)
    → i < length es → e ≡ get_or es i e → new ≡ made ++ d ∷ [] → typed (tree_of e) s ≡ Ok (type_of d)
    → all ≡ after made (each_typed (trees_of (drop i es)) s) → all ≡ after new (each_typed (trees_of (drop (i + 1) es)) s)
next es s made new i e d all h is pushed made_of so_far =
    let rest = each_typed (trees_of (drop (i + 1) es)) s in
    let step : each_typed (trees_of (drop i es)) s ≡ on_ok (λ t. put t rest) (typed (tree_of e) s) = rw (add-one, drop-cons es i e h, ← is) in
    so_far ∙ ap (after made) (step ∙ ap (on_ok (λ t. put t rest)) made_of) ∙ sym (after_push made d rest) ∙ ap (λ ds. after ds rest) (sym pushed)

-- all types are made
pub end : (es : List Expression) (s : LogicalType) (made : List DType) (i : ℕ) (all : Result (List LogicalType) VortexError) → length es ≤ i
    → all ≡ after made (each_typed (trees_of (drop i es)) s) → all ≡ Ok (map type_of made)
end es s made i all h so_far = so_far ∙ rw (drop_of_length-le es h) (ap ok_types (before_nothing made))
