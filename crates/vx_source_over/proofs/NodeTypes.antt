-- Nodes over trees whose types are known.
use Rattle.std.proofs.Common.{◌≡◌, ◌≢◌, ℕ, suc, zero, ◌+◌, ◌<◌, ◌≤◌, List, [], ◌∷◌, ◌++◌, length, get_or, drop, drop_of_length-le, map, Result, Ok, Err, refl, sym, ap, subst, ◌∙◌, arith}
use Rattle.std.specs.Prelude.{Option, Some, None, IfSome, option_map, ◌==◌, if◌then◌else◌}
use Rattle.std.specs.Option.{is_some}
use Rattle.std.proofs.Common.{Bool, true, false, ltb}
use Rattle.std.proofs.lemmas.Bool.{ltb-false, ltb-true}
use Rattle.std.proofs.lemmas.Bool.Decides.{nat_tests}
use Rattle.std.proofs.lemmas.List.{length-map}
use Rattle.vx_tree.proofs.Nodes.{tree_at-trees_of}
use Rattle.std.specs.Option.{option_or}
use Rattle.std.specs.Borrow.{Bor}
use Rattle.vx_dtype.proofs.Lists.{drop_next}
use Rattle.vx_dtype.specs.declared.dtype.DType.{DType}
use Rattle.vx_tree.specs.declared.expression.Expression.{Expression}
use Rattle.vx_tree.specs.Nodes.{tree_at}
use Rattle.std.specs.Result.{result_ok}
use Rattle.vx_dtype.specs.declared.error.VortexError.{VortexError}
use Rattle.vx_value.specs.Types.{LogicalType, Datum}
use Rattle.vx_value.specs.Views.{type_of}
use Rattle.vx_fn.specs.Functions.{Function, literal, Typing, fn_type}
use Rattle.vx_tree.specs.Trees.{Tree, call, on_ok, typed, each_typed}
use Rattle.vx_tree.specs.Views.{tree_of, trees_from, trees_of}
use Rattle.vx_source_over.specs.declared.nodes.Settled.{Settled}
use Rattle.vx_source_over.specs.Settling.{type_over, first_type}
use Rattle.vx_source_over.specs.Views.{settled_tree, settled_trees, AreTyped, EachTyped, dtype_in, own_trees, put_type, type_of_all, types_of}

pub types_of-push : (xs : List Settled) (x : Settled) → types_of (xs ++ x ∷ []) ≡ types_of xs ++ put_type (option_map type_of x.dtype) []
types_of-push [] x = refl
types_of-push (y ∷ xs) x = go (option_map type_of y.dtype) (types_of-push xs x)
  where
    go : (t : Option LogicalType) → types_of (xs ++ x ∷ []) ≡ types_of xs ++ put_type (option_map type_of x.dtype) [] → put_type t (types_of (xs ++ x ∷ [])) ≡ put_type t (types_of xs) ++ put_type (option_map type_of x.dtype) []
    go None e = e
    go (Some t) e = ap (λ ts. t ∷ ts) e

few_types : (xs : List Settled) → length (types_of xs) ≤ length xs
few_types [] = omega arith
few_types (x ∷ xs) = go (option_map type_of x.dtype) (few_types xs)
  where
    go : (t : Option LogicalType) → length (types_of xs) ≤ length xs → length (put_type t (types_of xs)) ≤ length (x ∷ xs)
    go None h = omega arith
    go (Some t) h = omega arith

-- what is known of a type, told of the typing
known : (r : Typing) (t : LogicalType) → Some t ≡ result_ok r → r ≡ Ok t
known (Ok u) t h = cc
known (Err e) t h = cc

unknown : (r : Typing) → None ≡ result_ok r → (e : VortexError) × (r ≡ Err e)
unknown (Ok u) h = cc
unknown (Err e) h = (e, refl)

-- where each has a type, these are the types
pub all_typed : (s : LogicalType) (xs : List Settled) → EachTyped s xs → length (types_of xs) ≡ length xs → each_typed (settled_trees xs) s ≡ Ok (types_of xs)
all_typed s [] h n = refl
all_typed s (x ∷ xs) h n = go (option_map type_of x.dtype) h.0 (λ m. all_typed s xs h.1 m) n
  where
    go : (t : Option LogicalType) → t ≡ type_over s (settled_tree x) → (length (types_of xs) ≡ length xs → each_typed (settled_trees xs) s ≡ Ok (types_of xs)) → length (put_type t (types_of xs)) ≡ length (x ∷ xs) → each_typed (settled_trees (x ∷ xs)) s ≡ Ok (put_type t (types_of xs))
    go None e k m = absurd (omega (arith, few_types xs))
    go (Some t) e k m =
        let rest : length (types_of xs) ≡ length xs = omega arith in
        ap (on_ok (λ t. on_ok (λ ts. Ok (t ∷ ts)) (each_typed (settled_trees xs) s))) (known (typed (settled_tree x) s) t e) ∙ ap (on_ok (λ ts. Ok (t ∷ ts))) (k rest)

-- where one has none, there is none above them
pub one_untyped : (s : LogicalType) (xs : List Settled) → EachTyped s xs → length (types_of xs) ≢ length xs → (e : VortexError) × (each_typed (settled_trees xs) s ≡ Err e)
one_untyped s [] h n = absurd (n refl)
one_untyped s (x ∷ xs) h n = go (option_map type_of x.dtype) h.0 (λ m. one_untyped s xs h.1 m) n
  where
    go : (t : Option LogicalType) → t ≡ type_over s (settled_tree x) → (length (types_of xs) ≢ length xs → (e : VortexError) × (each_typed (settled_trees xs) s ≡ Err e)) → length (put_type t (types_of xs)) ≢ length (x ∷ xs)
        → (e : VortexError) × (each_typed (settled_trees (x ∷ xs)) s ≡ Err e)
    go None e k m = let q = unknown (typed (settled_tree x) s) e in (q.0, ap (on_ok (λ t. on_ok (λ ts. Ok (t ∷ ts)) (each_typed (settled_trees xs) s))) q.1)
    go (Some t) e k m =
        let rest = k (λ n. m (ap suc n)) in
        (rest.0, ap (on_ok (λ t. on_ok (λ ts. Ok (t ∷ ts)) (each_typed (settled_trees xs) s))) (known (typed (settled_tree x) s) t e) ∙ ap (on_ok (λ ts. Ok (t ∷ ts))) rest.1)

same_number : (k n : ℕ) → (k == n) ≡ true → k ≡ n
same_number k n h = grind (arith, nat_tests)

other_number : (k n : ℕ) → (k == n) ≡ false → k ≢ n
other_number k n h = grind (arith, nat_tests)

-- the type of a node over them
pub node_typed : (s : LogicalType) (f : Function) (xs : List Settled) (ts : List LogicalType) (n : ℕ) (dtype : Option LogicalType) (t : Tree) → EachTyped s xs → ts ≡ types_of xs → n ≡ length xs → dtype ≡ type_of_all f ts n → t ≡ call f (settled_trees xs) → dtype ≡ type_over s t
node_typed s f xs ts n dtype t h same count is node = go (length ts == n) refl is ∙ sym (ap (type_over s) node)
  where
    go : (b : Bool) → (length ts == n) ≡ b → dtype ≡ (if b then result_ok (fn_type f ts) else None) → dtype ≡ type_over s (call f (settled_trees xs))
    go true q is =
        let below : each_typed (settled_trees xs) s ≡ Ok ts = all_typed s xs h (ap length (sym same) ∙ same_number (length ts) n q ∙ count) ∙ ap (λ us. Ok us) (sym same) in
        is ∙ sym (ap (λ r. result_ok (on_ok (fn_type f) r)) below)
    go false q is =
        let below = one_untyped s xs h (λ k. other_number (length ts) n q (ap length same ∙ k ∙ sym count)) in
        is ∙ sym (ap (λ r. result_ok (on_ok (fn_type f) r)) below.1)

pub when_same : {A : Type 0} (k n : ℕ) (x y : A) → k ≡ n → (if k == n then x else y) ≡ x
when_same k n x y h = let q : (k == n) ≡ true = grind (arith, nat_tests) in ap (λ b. if b then x else y) q

pub when_other : {A : Type 0} (k n : ℕ) (x y : A) → k ≢ n → (if k == n then x else y) ≡ y
when_other k n x y h = let q : (k == n) ≡ false = grind (arith, nat_tests) in ap (λ b. if b then x else y) q

-- ---- the type of a literal

pub literal_typed : (s : LogicalType) (es : List Expression) (t : LogicalType) (v : Datum) → length es ≡ 0 → Some t ≡ type_over s (call (literal t v) (trees_of es))
literal_typed s [] t v h = refl
literal_typed s (e ∷ es) t v h = absurd (omega arith)

pub literal_untyped : (s : LogicalType) (es : List Expression) (t : LogicalType) (v : Datum) → length es ≢ 0 → None ≡ type_over s (call (literal t v) (trees_of es))
literal_untyped s [] t v h = absurd (h refl)
literal_untyped s (e ∷ es) t v h = go (typed (tree_of e) s) (each_typed (trees_of es) s)
  where
    go : (one : Typing) (more : Result (List LogicalType) VortexError) → None ≡ result_ok (on_ok (fn_type (literal t v)) (on_ok (λ t. on_ok (λ ts. Ok (t ∷ ts)) more) one))
    go (Err r) more = refl
    go (Ok u) (Err r) = refl
    go (Ok u) (Ok us) = refl

-- ---- what is taken apart

map_push : {A B : Type 0} (f : A → B) (xs : List A) (x : A) → map f (xs ++ x ∷ []) ≡ map f xs ++ f x ∷ []
map_push f [] x = refl
map_push f (y ∷ xs) x = ap (λ zs. f y ∷ zs) (map_push f xs x)

pub trees_push : (made new : List Expression) (xs : List Settled) (x : Settled) → new ≡ made ++ x.tree ∷ [] → map tree_of made ≡ map settled_tree xs → map tree_of new ≡ map settled_tree (xs ++ x ∷ [])
trees_push made new xs x pushed so_far = ap (map tree_of) pushed ∙ map_push tree_of made x.tree ∙ ap (λ zs. zs ++ tree_of x.tree ∷ []) so_far ∙ sym (map_push settled_tree xs x)

pub types_push : (made new : List DType) (xs : List Settled) (x : Settled) → map type_of new ≡ map type_of made ++ put_type (option_map type_of x.dtype) [] → map type_of made ≡ types_of xs → map type_of new ≡ types_of (xs ++ x ∷ [])
types_push made new xs x pushed so_far = pushed ∙ ap (λ ts. ts ++ put_type (option_map type_of x.dtype) []) so_far ∙ sym (types_of-push xs x)

pub map_length : {A B C : Type 0} (f : A → C) (g : B → C) (xs : List A) (ys : List B) → map f xs ≡ map g ys → length xs ≡ length ys
map_length f g xs ys h = sym (length-map xs f) ∙ ap length h ∙ length-map ys g

pub trees_same : (made : List Expression) (xs : List Settled) → map tree_of made ≡ map settled_tree xs → trees_of made ≡ settled_trees xs
trees_same made xs h = ap trees_from h

-- ---- the first type of those that are there

-- it is that of those from an index on
abbrev pub TypeLater : List (Option Settled) → ℕ → Type 0
TypeLater own i = (s : LogicalType) → AreTyped s own → AreTyped s (drop i own) × (first_type s (own_trees own) ≡ first_type s (own_trees (drop i own)))

later_step : (own : List (Option Settled)) (i : ℕ) (x : Option Settled) (s : LogicalType) → i < length own → x ≡ get_or own i x → AreTyped s (drop i own) × (first_type s (own_trees own) ≡ first_type s (own_trees (drop i own)))
    → AreTyped s (x ∷ drop (i + 1) own) × (first_type s (own_trees own) ≡ first_type s (own_trees (x ∷ drop (i + 1) own)))
later_step own i x s lt is h = let q = drop_next own i x lt is in subst (λ xs. AreTyped s xs × (first_type s (own_trees own) ≡ first_type s (own_trees xs))) q h

no_type_here : (s : LogicalType) (x : Option Settled) (own : List (Option Settled)) (all : Option LogicalType) → None ≡ dtype_in x → AreTyped s (x ∷ own) × (all ≡ first_type s (own_trees (x ∷ own))) → AreTyped s own × (all ≡ first_type s (own_trees own))
no_type_here s None own all none h = h
no_type_here s (Some x) own all none h =
    let known : None ≡ type_over s (settled_tree x) = ap (option_map type_of) none ∙ h.0.0 in
    (h.0.1, h.1 ∙ ap (λ t. option_or t (first_type s (own_trees own))) (sym known))

pub later_next : (own : List (Option Settled)) (i : ℕ) (x : Option Settled) → i < length own → x ≡ get_or own i x → None ≡ dtype_in x → TypeLater own i → TypeLater own (i + 1)
later_next own i x lt is none h = λ s typed_so. no_type_here s x (drop (i + 1) own) (first_type s (own_trees own)) none (later_step own i x s lt is (h s typed_so))

type_here : (s : LogicalType) (x : Option Settled) (t : DType) (own : List (Option Settled)) → Some t ≡ dtype_in x → AreTyped s (x ∷ own) → first_type s (own_trees (x ∷ own)) ≡ Some (type_of t)
type_here s None t own found h = cc
type_here s (Some x) t own found h =
    let known : Some (type_of t) ≡ type_over s (settled_tree x) = ap (option_map type_of) found ∙ h.0 in
    ap (λ u. option_or u (first_type s (own_trees own))) (sym known)

pub type_found : (own : List (Option Settled)) (i : ℕ) (x : Option Settled) (t : DType) → i < length own → x ≡ get_or own i x → Some t ≡ dtype_in x → TypeLater own i → (s : LogicalType) → AreTyped s own → Some (type_of t) ≡ first_type s (own_trees own)
type_found own i x t lt is found h s typed_so = let q = later_step own i x s lt is (h s typed_so) in sym (q.1 ∙ type_here s x t (drop (i + 1) own) found q.0)

pub none_found : (own : List (Option Settled)) (i : ℕ) → length own ≤ i → TypeLater own i → (s : LogicalType) → AreTyped s own → None ≡ first_type s (own_trees own)
none_found own i h later s typed_so = sym ((later s typed_so).1 ∙ rw (drop_of_length-le own h) refl)

-- ---- the child of a node

no_child : (es : List Expression) (i : ℕ) → length es ≤ i → tree_at (trees_of es) i ≡ None
no_child [] i h = refl
no_child (e ∷ es) zero h = absurd (omega arith)
no_child (e ∷ es) (suc i) h = no_child es i (omega arith)

pub lent_child : (r : Option (Bor Expression)) (es : List Expression) (i : ℕ) → is_some r ≡ ltb i (length es) → IfSome r (λ x. x.now ≡ get_or es i x.now) → option_map (λ d. tree_of d.now) r ≡ tree_at (trees_of es) i
lent_child None es i h k = sym (no_child es i (ltb-false i (length es) (sym h)))
lent_child (Some x) es i h k = ap (λ e. Some (tree_of e)) k ∙ sym (tree_at-trees_of es i x.now (ltb-true i (length es) (sym h)))
