-- Steps of the code that finds bounds.
use Rattle.std.proofs.Common.{◌≡◌, ℕ, ◌+◌, ◌*◌, ◌<◌, ◌≤◌, List, [], ◌∷◌, length, get_or, drop, refl, sym, ap, ◌∙◌, true, false, Option, Some, None, arith, Vec}
use Rattle.std.specs.Prelude.{is_some}
use Rattle.std.specs.declared.alloc.Global.{Global}
use Rattle.std.specs.declared.sync.Arc.{Arc}
use Rattle.std.proofs.lemmas.List.{drop_more}
use Rattle.vx_value.specs.Paths.{Path}
use Rattle.vx_value.specs.Types.{LogicalType}
use Rattle.vx_fn.specs.Functions.{Function, case_when, get_item, literal, pack, select, fill_null, zip, binary, logical_not, between, like, is_null, is_not_null, mask, cast, starts_with, byte_length, list_contains}
use Rattle.vx_tree.proofs.Held.{bound_of-Scalar}
use Rattle.vx_tree.specs.Trees.{BoundTree, scope, node, node_type}
use Rattle.vx_tree.specs.Views.{bound_of, bounds_of}
use Rattle.vx_tree.specs.declared.bound.BoundExpression.{BoundExpression, Scalar}
use Rattle.vx_value.specs.Views.{type_of}
use Rattle.vx_fn.specs.Views.{function_of}
use Rattle.vx_fn.specs.declared.function.ScalarFnRef.{ScalarFnRef}
use Rattle.vx_dtype.specs.declared.dtype.DType.{DType}
use Rattle.vx_prune_bounds.specs.Bounds.{Bounds, any_of, meet}
use Rattle.vx_prune_bounds.specs.Kernels.{case_bounds, choice_bounds}
use Rattle.vx_prune_bounds.specs.Truths.{truths_in}
use Rattle.vx_prune_bounds.specs.declared.truths.Truths.{Truths}
use Rattle.vx_prune_tree.specs.Stats.{Facts, facts_at, field_bounds}
use Rattle.vx_prune_tree.specs.Bounding.{at_path_or, bounds_in, each_bounds_in, fn_bounds, given_bounds, item_path, path_to, path_to_only, searched, unknown}
use Rattle.vx_prune_tree.specs.Cases.{is_of_children}

-- ---- a node

pub some_path : (o : Option Path) → is_some o ≡ true → (path : Path) × (o ≡ Some path)
some_path None e = cc
some_path (Some path) e = (path, refl)

along_path : (facts : Facts) (b : BoundTree) (path : Path) → path_to b ≡ Some path → meet (any_of (node_type b)) (field_bounds facts.rows (facts_at facts.fields path)) ≡ bounds_in facts b
along_path facts (scope t) path e = sym (ap (λ o. meet (any_of t) (at_path_or facts o unknown)) e)
along_path facts (node t f bs) path e = sym (ap (λ o. meet (any_of t) (at_path_or facts o (given_bounds f (searched f bs) (each_bounds_in facts bs)))) e)

-- the bounds of a tree that is a path, by those along it
pub path-given : (facts : Facts) (b : BoundTree) (t : LogicalType) (r y : Bounds) → is_some (path_to b) ≡ true → t ≡ node_type b →
    ((path : Path) → path_to b ≡ Some path → y ≡ field_bounds facts.rows (facts_at facts.fields path)) → r ≡ meet (any_of t) y → r ≡ bounds_in facts b
path-given facts b t r y s e along m =
    let p = some_path (path_to b) s in
    let known : y ≡ field_bounds facts.rows (facts_at facts.fields p.0) = along p.0 p.1 in
    m ∙ ap (λ u. meet (any_of u) y) e ∙ ap (meet (any_of (node_type b))) known ∙ along_path facts b p.0 p.1

no_path : (o : Option Path) → is_some o ≡ false → o ≡ None
no_path None e = refl
no_path (Some path) e = cc

-- and of one that is none, by those that its function gives
pub node-given : (facts : Facts) (e : BoundExpression) (t : DType) (f : ScalarFnRef) (all : Arc (Vec BoundExpression Global) Global) (children : List BoundExpression) (r y : Bounds) →
    e ≡ Scalar t f all → children ≡ all.value.items → is_some (path_to (bound_of e)) ≡ false → y ≡ given_bounds (function_of f) (searched (function_of f) (bounds_of children)) (each_bounds_in facts (bounds_of children)) →
    r ≡ meet (any_of (type_of t)) y → r ≡ bounds_in facts (bound_of e)
node-given facts e t f all children r y is those s given m =
    let bs = bounds_of children in
    let seen : bound_of e ≡ node (type_of t) (function_of f) bs = ap bound_of is ∙ bound_of-Scalar t f all ∙ ap (λ ds. node (type_of t) (function_of f) (bounds_of ds)) (sym those) in
    let none : item_path (function_of f) (path_to_only bs) ≡ None = ap path_to (sym seen) ∙ no_path (path_to (bound_of e)) s in
    m ∙ ap (meet (any_of (type_of t))) given
    ∙ sym (ap (λ o. meet (any_of (type_of t)) (at_path_or facts o (given_bounds (function_of f) (searched (function_of f) bs) (each_bounds_in facts bs)))) none) ∙ sym (ap (bounds_in facts) seen)

-- ---- children

-- a function of three children or more searches nothing known
pub three-given : (facts : Facts) (f : Function) (bs : List BoundExpression) (r : Bounds) → 3 ≤ length bs →
    r ≡ fn_bounds f (each_bounds_in facts (bounds_of bs)) → r ≡ given_bounds f (searched f (bounds_of bs)) (each_bounds_in facts (bounds_of bs))
three-given facts f [] r h e = absurd (omega arith)
three-given facts f (a ∷ []) r h e = absurd (omega arith)
three-given facts f (a ∷ b ∷ []) r h e = absurd (omega arith)
three-given facts f (a ∷ b ∷ c ∷ bs) r h e = e

-- of four children or more nothing is known
pub many-unknown : (facts : Facts) (f : Function) (bs : List BoundExpression) → is_of_children f ≡ true → 4 ≤ length bs →
    given_bounds f (searched f (bounds_of bs)) (each_bounds_in facts (bounds_of bs)) ≡ unknown
many-unknown facts f [] k h = absurd (omega arith)
many-unknown facts f (a ∷ []) k h = absurd (omega arith)
many-unknown facts f (a ∷ b ∷ []) k h = absurd (omega arith)
many-unknown facts f (a ∷ b ∷ c ∷ []) k h = absurd (omega arith)
many-unknown facts (case_when pairs has_else) (a ∷ b ∷ c ∷ d ∷ bs) k h = cc
many-unknown facts (literal u v) (a ∷ b ∷ c ∷ d ∷ bs) k h = cc
many-unknown facts (pack names n) (a ∷ b ∷ c ∷ d ∷ bs) k h = cc
many-unknown facts (get_item name) (a ∷ b ∷ c ∷ d ∷ bs) k h = refl
many-unknown facts (select selection) (a ∷ b ∷ c ∷ d ∷ bs) k h = refl
many-unknown facts fill_null (a ∷ b ∷ c ∷ d ∷ bs) k h = refl
many-unknown facts zip (a ∷ b ∷ c ∷ d ∷ bs) k h = refl
many-unknown facts (binary op) (a ∷ b ∷ c ∷ d ∷ bs) k h = refl
many-unknown facts logical_not (a ∷ b ∷ c ∷ d ∷ bs) k h = refl
many-unknown facts (between ls us) (a ∷ b ∷ c ∷ d ∷ bs) k h = refl
many-unknown facts (like negated ci) (a ∷ b ∷ c ∷ d ∷ bs) k h = refl
many-unknown facts is_null (a ∷ b ∷ c ∷ d ∷ bs) k h = refl
many-unknown facts is_not_null (a ∷ b ∷ c ∷ d ∷ bs) k h = refl
many-unknown facts mask (a ∷ b ∷ c ∷ d ∷ bs) k h = refl
many-unknown facts (cast u) (a ∷ b ∷ c ∷ d ∷ bs) k h = refl
many-unknown facts starts_with (a ∷ b ∷ c ∷ d ∷ bs) k h = refl
many-unknown facts byte_length (a ∷ b ∷ c ∷ d ∷ bs) k h = refl
many-unknown facts list_contains (a ∷ b ∷ c ∷ d ∷ bs) k h = refl

-- one pair more, in front of those that a CASE was gone through
pub case-more : (facts : Facts) (bs : List BoundExpression) (i j : ℕ) (c v : BoundExpression) (m : Truths) (r y z : Bounds) → i + 1 < length bs → j ≡ i + 1 + 1 → c ≡ get_or bs i c → v ≡ get_or bs (i + 1) v →
    m ≡ truths_in (bounds_in facts (bound_of c)) → y ≡ bounds_in facts (bound_of v) → z ≡ case_bounds (each_bounds_in facts (bounds_of (drop j bs))) →
    r ≡ choice_bounds m y z → r ≡ case_bounds (each_bounds_in facts (bounds_of (drop i bs)))
case-more facts bs i j c v m r y z h n p q e f g k =
    let rest = drop (i + 1 + 1) bs in
    let first : drop i bs ≡ c ∷ drop (i + 1) bs = drop_more bs i c (omega arith) ∙ ap (λ d. d ∷ drop (i + 1) bs) (sym p) in
    let second : drop (i + 1) bs ≡ v ∷ rest = drop_more bs (i + 1) v (omega arith) ∙ ap (λ d. d ∷ rest) (sym q) in
    k ∙ ap (λ w. choice_bounds w y z) e ∙ ap (λ w. choice_bounds (truths_in (bounds_in facts (bound_of c))) w z) f
    ∙ ap (choice_bounds (truths_in (bounds_in facts (bound_of c))) (bounds_in facts (bound_of v))) (g ∙ ap (λ k. case_bounds (each_bounds_in facts (bounds_of (drop k bs)))) n)
    ∙ sym (ap (λ ds. case_bounds (each_bounds_in facts (bounds_of ds))) (first ∙ ap (λ ds. c ∷ ds) second))

-- no pair is left
pub case-all : (facts : Facts) (bs : List BoundExpression) (i : ℕ) (r : Bounds) → i ≤ 0 → r ≡ case_bounds (each_bounds_in facts (bounds_of (drop (2 * i) bs))) → r ≡ case_bounds (each_bounds_in facts (bounds_of bs))
case-all facts bs i r h e = let none : 2 * i ≡ 0 = omega arith in e ∙ ap (λ k. case_bounds (each_bounds_in facts (bounds_of (drop k bs)))) none
