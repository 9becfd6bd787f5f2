-- Items of structs that are packed and taken apart again.
use Rattle.std.proofs.Common.{◌≡◌, ℕ, ◌<◌, List, [], ◌∷◌, map, length, get_or, refl, sym, ap, ◌∙◌, arith, zero, suc, Option, Some, None, Ok, Err, IsOk, Bool, true, false, Vec, Global}
use Rattle.std.specs.Prelude.{⊤, MatchOption, if◌then◌else◌, ◌==◌, position}
use Rattle.std.specs.declared.sync.Arc.{Arc}
use Rattle.std.specs.Str.{bytes_eq}
use Rattle.std.proofs.lemmas.List.Quantifiers.{position-Some}
use Rattle.std.proofs.lemmas.Bool.Decides.{nat_tests}
use Rattle.vx_dtype.specs.declared.error.VortexError.{VortexError}
use Rattle.vx_dtype.specs.declared.error.VortexError.TheVariants.{ArityMismatch}
use Rattle.vx_dtype.specs.declared.dtype.DType.{DType}
use Rattle.vx_dtype.proofs.Lists.{map_same}
use Rattle.vx_value.specs.Fields.{field_value, fields_named, data_of}
use Rattle.vx_value.specs.Types.{Name, LogicalType, ty, struct, Datum, null, struct_of}
use Rattle.vx_value.specs.Views.{type_of}
use Rattle.vx_fn.specs.declared.function.ScalarFnRef.{ScalarFnRef}
use Rattle.vx_fn.specs.declared.function.ScalarFnRef.TheVariants.{GetItem}
use Rattle.vx_fn.specs.Functions.{Function, get_item, pack, fn_type, pack_type}
use Rattle.vx_fn.specs.Values.{item_value}
use Rattle.vx_fn.specs.Views.{function_of}
use Rattle.vx_tree.specs.declared.bound.BoundExpression.{BoundExpression, Scalar}
use Rattle.vx_tree.specs.Faults.{each_fault}
use Rattle.vx_tree.specs.Meaning.{value, values}
use Rattle.vx_tree.specs.Trees.{node, BoundTrees, no_bound, bound, node_types, EachWellTyped}
use Rattle.vx_tree.specs.Views.{bound_of, bounds_of}
use Rattle.vx_eval.specs.Evaluation.{columns, tree_answer, each_answer}
use Rattle.vx_eval.specs.PackedItem.{item_answer, PacksAt, place_in_node, place_taken, TakesOut}
use Rattle.vx_tree.proofs.Held.{bound_of-Scalar}

-- the first field of a name is the value at the first place of the name
named_at : (a : Name) (names : List Name) (ts : List LogicalType) (vs : List Datum) (k : ℕ) → length ts ≡ length names → length vs ≡ length names → k < length names →
    bytes_eq a (get_or names k []) ≡ true → ((j : ℕ) → j < k → bytes_eq a (get_or names j []) ≡ false) → field_value a (fields_named names ts) (data_of vs) ≡ get_or vs k null
named_at a [] ts vs k e f lt here before = absurd (omega arith)
named_at a (b ∷ names) [] vs k e f lt here before = absurd (omega arith)
named_at a (b ∷ names) (t ∷ ts) [] k e f lt here before = absurd (omega arith)
named_at a (b ∷ names) (t ∷ ts) (v ∷ vs) zero e f lt here before = rw here refl
named_at a (b ∷ names) (t ∷ ts) (v ∷ vs) (suc k) e f lt here before =
    let other : bytes_eq a b ≡ false = before 0 (omega arith) in
    rw other (named_at a names ts vs k (omega arith) (omega arith) (omega arith) here (λ j h. before (suc j) (omega arith)))

values_long : (bs : BoundTrees) (v : Datum) → length (values bs v) ≡ length (node_types bs)
values_long no_bound v = refl
values_long (bound b bs) v = ap suc (values_long bs v)

-- a column of the children is the children's values there
column_at : (bs : BoundTrees) (rows : List Datum) (k : ℕ) → k < length (node_types bs) → map (λ v. get_or (values bs v) k null) rows ≡ get_or (columns bs rows) k []
column_at no_bound rows k lt = absurd (omega arith)
column_at (bound b bs) rows zero lt = refl
column_at (bound b bs) rows (suc k) lt = column_at bs rows k (omega arith)

-- a pack has as many children as names, and their types
record Packs (names : List Name) (n : Bool) (bs : BoundTrees) (u : LogicalType) : Type 0 where
  many : length (node_types bs) ≡ length names
  typed : u ≡ ty (struct (fields_named names (node_types bs))) n

packs : (names : List Name) (n : Bool) (bs : BoundTrees) (u : LogicalType) → fn_type (pack names n) (node_types bs) ≡ Ok u → Packs names n bs u
packs names n bs u e = go (length (node_types bs) == length names) refl e
  where
    go : (c : Bool) → (length (node_types bs) == length names) ≡ c → (if c then pack_type names n (node_types bs) else Err (ArityMismatch (length names) (length (node_types bs)))) ≡ Ok u → Packs names n bs u
    go true q e = record { many = grind (arith, nat_tests, q); typed = cc }
    go false q e = cc

pub takes_item : (a : Name) (names : List Name) (n : Bool) (bs : BoundTrees) (u : LogicalType) (k : ℕ) → fn_type (pack names n) (node_types bs) ≡ Ok u → Some k ≡ position (bytes_eq a) names →
    TakesOut (get_item a) (bound (node u (pack names n) bs) no_bound) k
takes_item a names n bs u k e at =
    let p = packs names n bs u e in
    let first = position-Some (bytes_eq a) names k [] (sym at) in
    let within : k < length (node_types bs) = omega (arith, p.many, first.0) in
    ((tt, within), λ t rows. answers t rows p within first (each_fault bs rows) refl)
  where
    answers : (t : LogicalType) (rows : List Datum) → Packs names n bs u → k < length (node_types bs) → (k < length names) × (bytes_eq a (get_or names k []) ≡ true) × ((j : ℕ) → j < k → bytes_eq a (get_or names j []) ≡ false) →
        (o : Option VortexError) → each_fault bs rows ≡ o → tree_answer (node t (get_item a) (bound (node u (pack names n) bs) no_bound)) rows ≡ item_answer (node u (pack names n) bs) k rows
    answers t rows p within first None q =
        let b = node t (get_item a) (bound (node u (pack names n) bs) no_bound) in
        let each : (v : Datum) → value b v ≡ get_or (values bs v) k null =
        λ v. ap (λ w. item_value a (w ∷ []) (struct_of (data_of (values bs v)))) p.typed ∙ named_at a names (node_types bs) (values bs v) k p.many (values_long bs v ∙ p.many) first.0 first.1 first.2 in
        rw q (ap Ok (map_same (value b) (λ v. get_or (values bs v) k null) rows (λ v _. each v) ∙ column_at bs rows k within))
    answers t rows p within first (Some fault) q = rw q refl

-- a node that is asked for such an item of a pack takes it out
pub place_takes : (f : Function) (bs : BoundTrees) (r : Option ℕ) → IsOk (fn_type f (node_types bs)) → EachWellTyped bs → r ≡ place_taken f bs → MatchOption r ⊤ (λ k. TakesOut f bs k)
place_takes f bs None ok typed e = tt
place_takes (get_item a) (bound (node u (pack names n) bs) no_bound) (Some k) ok typed e = takes_item a names n bs u k typed.0.0 e
place_takes f bs (Some k) ok typed e = cc

-- the place in the only child
pub place_of_first : (f : ScalarFnRef) (a : Name) (children : List BoundExpression) (x : BoundExpression) (r : Option ℕ) → f ≡ GetItem a → IsOk (fn_type (function_of f) (node_types (bounds_of children))) →
    x ≡ get_or children 0 x → r ≡ place_in_node a (bound_of x) → r ≡ place_taken (function_of f) (bounds_of children)
place_of_first f a children x r is typed first at = rw is (go children (rw is at typed) first)
  where
    go : (children : List BoundExpression) → IsOk (fn_type (get_item a) (node_types (bounds_of children))) → x ≡ get_or children 0 x → r ≡ place_taken (get_item a) (bounds_of children)
    go [] ok e = cc
    go (y ∷ ys) ok e = at ∙ ap (λ z. place_in_node a (bound_of z)) e

-- ---- from what the calls give

-- a node that takes an item out gives the item's column
pub item_given : (e : BoundExpression) (t : DType) (f : ScalarFnRef) (all : Arc (Vec BoundExpression Global) Global) (children : List BoundExpression) (x : BoundExpression) (k : ℕ) (batch : List Datum) →
    e ≡ Scalar t f all → children ≡ all.value.items → x ≡ get_or children 0 x → TakesOut (function_of f) (bounds_of children) k → item_answer (bound_of x) k batch ≡ tree_answer (bound_of e) batch
item_given e t f all children x k batch is those first takes = rw (is, bound_of-Scalar t f all, ← those) (go children first takes)
  where
    go : (children : List BoundExpression) → x ≡ get_or children 0 x → TakesOut (function_of f) (bounds_of children) k → item_answer (bound_of x) k batch ≡ tree_answer (node (type_of t) (function_of f) (bounds_of children)) batch
    go [] e takes = absurd takes
    go (y ∷ ys) e takes = ap (λ z. item_answer (bound_of z) k batch) e ∙ sym (takes.1 (type_of t) batch)

pub place_within : (e : BoundExpression) (t : DType) (f : ScalarFnRef) (all : Arc (Vec BoundExpression Global) Global) (children : List BoundExpression) (k : ℕ) →
    e ≡ Scalar t f all → children ≡ all.value.items → PacksAt (bound_of e) k → k < length (node_types (bounds_of children))
place_within e t f all children k is those packs = rw those ((rw (is, bound_of-Scalar t f all) at packs).1)

-- the item of a pack whose children's columns are there
pub picked_is : (e : BoundExpression) (t : DType) (f : ScalarFnRef) (all : Arc (Vec BoundExpression Global) Global) (children : List BoundExpression) (batch : List Datum) (cs : List (List Datum)) (k : ℕ) →
    e ≡ Scalar t f all → children ≡ all.value.items → each_answer (bounds_of children) batch ≡ Ok cs → Ok (get_or cs k []) ≡ item_answer (bound_of e) k batch
picked_is e t f all children batch cs k is those given = rw (is, bound_of-Scalar t f all, ← those, given) refl
