-- Lists of expressions seen as trees: how many there are, which is where, and what other children give.
use Rattle.std.proofs.Common.{◌≡◌, ◌≢◌, ℕ, zero, suc, ◌<◌, Bool, true, false, ◌&&◌, List, [], ◌∷◌, length, get_or, map, Some, Result, Ok, Err, refl, sym, ap, subst, ◌∙◌, arith}
use Rattle.std.specs.Prelude.{Option, None, option_map, IsErr, IfSome, ◌==◌, if◌then◌else◌}
use Rattle.std.proofs.lemmas.Bool.Decides.{nat_tests}
use Rattle.std.proofs.Math.Bool.{and-false}
use Rattle.vx_dtype.specs.declared.error.VortexError.{VortexError}
use Rattle.vx_dtype.specs.declared.error.VortexError.TheVariants.{ArityMismatch, RootChildren}
use Rattle.vx_value.specs.Types.{LogicalType}
use Rattle.vx_fn.specs.Functions.{Function, case_when, get_item, literal, pack, select, fill_null, zip, binary, logical_not, between, like, is_null, is_not_null, mask, cast, starts_with, byte_length, list_contains, Typing, fn_type, arity_of, of_one, of_two, of_three, of_many, case_children, case_type, pack_type}
use Rattle.vx_tree.specs.declared.expression.Expression.{Expression}
use Rattle.vx_tree.specs.declared.bound.BoundExpression.{BoundExpression}
use Rattle.vx_tree.specs.Binding.{node_over}
use Rattle.vx_tree.specs.Equality.{equal_tree, equal_trees, equal_bound, equal_bounds}
use Rattle.vx_tree.specs.Nodes.{children_of, count_of, tree_at, call_over, tree_over, bound_children_of, bound_count_of, bound_at, bound_over, number_refusal}
use Rattle.vx_tree.specs.Trees.{Tree, root, call, tree, BoundTree, scope, node, BoundTrees, no_bound, bound, unbound, unbound_each, node_type, node_types, on_ok}
use Rattle.vx_tree.specs.Views.{trees_from, tree_of, trees_of, bound_of, bounds_of}

-- ---- lists of expressions

pub count_of-trees_of : (es : List Expression) → count_of (trees_of es) ≡ length es
count_of-trees_of [] = refl
count_of-trees_of (e ∷ es) = omega (arith, count_of-trees_of es)

pub tree_at-trees_of : (es : List Expression) (i : ℕ) (d : Expression) → i < length es → tree_at (trees_of es) i ≡ Some (tree_of (get_or es i d))
tree_at-trees_of [] i d h = absurd (omega arith)
tree_at-trees_of (e ∷ es) zero d h = refl
tree_at-trees_of (e ∷ es) (suc i) d h = tree_at-trees_of es i d (omega arith)

pub equal_trees-lengths : (ds es : List Expression) → length ds ≢ length es → equal_trees (trees_of ds) (trees_of es) ≡ false
equal_trees-lengths [] [] h = absurd (h refl)
equal_trees-lengths [] (e ∷ es) h = refl
equal_trees-lengths (d ∷ ds) [] h = refl
equal_trees-lengths (d ∷ ds) (e ∷ es) h =
    ap (λ b. equal_tree (tree_of d) (tree_of e) && b) (equal_trees-lengths ds es (λ p. h (ap suc p))) ∙ and-false (equal_tree (tree_of d) (tree_of e))

pub bound_count_of-bounds_of : (bs : List BoundExpression) → bound_count_of (bounds_of bs) ≡ length bs
bound_count_of-bounds_of [] = refl
bound_count_of-bounds_of (b ∷ bs) = omega (arith, bound_count_of-bounds_of bs)

pub bound_at-bounds_of : (bs : List BoundExpression) (i : ℕ) (d : BoundExpression) → i < length bs → bound_at (bounds_of bs) i ≡ Some (bound_of (get_or bs i d))
bound_at-bounds_of [] i d h = absurd (omega arith)
bound_at-bounds_of (b ∷ bs) zero d h = refl
bound_at-bounds_of (b ∷ bs) (suc i) d h = bound_at-bounds_of bs i d (omega arith)

pub none_of-bounds_of : (bs : List BoundExpression) → bounds_of bs ≡ no_bound → length bs ≡ 0
none_of-bounds_of [] h = refl
none_of-bounds_of (b ∷ bs) h = cc

pub equal_bounds-lengths : (bs cs : List BoundExpression) → length bs ≢ length cs → equal_bounds (bounds_of bs) (bounds_of cs) ≡ false
equal_bounds-lengths [] [] h = absurd (h refl)
equal_bounds-lengths [] (c ∷ cs) h = refl
equal_bounds-lengths (b ∷ bs) [] h = refl
equal_bounds-lengths (b ∷ bs) (c ∷ cs) h =
    ap (λ x. equal_bound (bound_of b) (bound_of c) && x) (equal_bounds-lengths bs cs (λ p. h (ap suc p))) ∙ and-false (equal_bound (bound_of b) (bound_of c))

pub length-node_types : (bs : List BoundExpression) → length (node_types (bounds_of bs)) ≡ length bs
length-node_types [] = refl
length-node_types (b ∷ bs) = omega (arith, length-node_types bs)

-- ---- a number of children that is the arity, and one that isn't

pub call_over-fits : (f : Function) (es : List Expression) → length es ≡ arity_of f → call_over f (trees_of es) ≡ Ok (call f (trees_of es))
call_over-fits f es h = rw (count_of-trees_of es) (grind (arith, nat_tests, h))

call_over-length : (f : Function) (es : List Expression) → length es ≢ arity_of f → call_over f (trees_of es) ≡ Err (ArityMismatch (arity_of f) (length es))
call_over-length f es h = rw (count_of-trees_of es) (grind (arith, nat_tests, h))

pub call_over-other : (f : Function) (es : List Expression) (n k : ℕ) → n ≡ arity_of f → k ≡ length es → k ≢ n → call_over f (trees_of es) ≡ Err (ArityMismatch n k)
call_over-other f es n k p q h = let r = call_over-length f es (λ e. h (q ∙ e ∙ sym p)) in cc

of_one-other : (row : LogicalType → Typing) (ts : List LogicalType) → length ts ≢ 1 → of_one row ts ≡ Err (ArityMismatch 1 (length ts))
of_one-other row [] h = refl
of_one-other row (t ∷ []) h = absurd (h refl)
of_one-other row (t ∷ u ∷ ts) h = refl

of_two-other : (row : LogicalType → LogicalType → Typing) (ts : List LogicalType) → length ts ≢ 2 → of_two row ts ≡ Err (ArityMismatch 2 (length ts))
of_two-other row [] h = refl
of_two-other row (t ∷ []) h = refl
of_two-other row (t ∷ u ∷ []) h = absurd (h refl)
of_two-other row (t ∷ u ∷ w ∷ ts) h = refl

of_three-other : (row : LogicalType → LogicalType → LogicalType → Typing) (ts : List LogicalType) → length ts ≢ 3 → of_three row ts ≡ Err (ArityMismatch 3 (length ts))
of_three-other row [] h = refl
of_three-other row (t ∷ []) h = refl
of_three-other row (t ∷ u ∷ []) h = refl
of_three-other row (t ∷ u ∷ w ∷ []) h = absurd (h refl)
of_three-other row (t ∷ u ∷ w ∷ x ∷ ts) h = refl

of_many-other : (n : ℕ) (row : List LogicalType → Typing) (ts : List LogicalType) → length ts ≢ n → of_many n row ts ≡ Err (ArityMismatch n (length ts))
of_many-other n row ts h = grind (arith, nat_tests, h)

-- typing refuses another number of children before all else
pub fn_type-other : (f : Function) (ts : List LogicalType) → length ts ≢ arity_of f → fn_type f ts ≡ Err (ArityMismatch (arity_of f) (length ts))
fn_type-other (case_when k e) ts h = of_many-other (case_children k e) (case_type k e) ts h
fn_type-other (get_item a) ts h = of_one-other _ ts h
fn_type-other (literal t v) [] h = absurd (h refl)
fn_type-other (literal t v) (u ∷ ts) h = refl
fn_type-other (pack names n) ts h = of_many-other (length names) (pack_type names n) ts h
fn_type-other (select selection) ts h = of_one-other _ ts h
fn_type-other fill_null ts h = of_two-other _ ts h
fn_type-other zip ts h = of_three-other _ ts h
fn_type-other (binary op) ts h = of_two-other _ ts h
fn_type-other logical_not ts h = of_one-other _ ts h
fn_type-other (between l u) ts h = of_three-other _ ts h
fn_type-other (like n c) ts h = of_two-other _ ts h
fn_type-other is_null ts h = of_one-other _ ts h
fn_type-other is_not_null ts h = of_one-other _ ts h
fn_type-other mask ts h = of_two-other _ ts h
fn_type-other (cast u) ts h = of_one-other _ ts h
fn_type-other starts_with ts h = of_two-other _ ts h
fn_type-other byte_length ts h = of_one-other _ ts h
fn_type-other list_contains ts h = of_two-other _ ts h

node_over-length : (f : Function) (bs : List BoundExpression) → length bs ≢ arity_of f → node_over f (bounds_of bs) ≡ Err (ArityMismatch (arity_of f) (length bs))
node_over-length f bs h =
    let n = length-node_types bs in
    ap (on_ok (λ t. Ok (node t f (bounds_of bs)))) (fn_type-other f (node_types (bounds_of bs)) (subst (λ k. k ≢ arity_of f) (sym n) h)) ∙ ap (λ k. Err (ArityMismatch (arity_of f) k)) n

-- the types of nodes, seen one by one
pub types_seen : (bs : List BoundExpression) → map (λ b. node_type (bound_of b)) bs ≡ node_types (bounds_of bs)
types_seen [] = refl
types_seen (b ∷ bs) = ap (λ ts. node_type (bound_of b) ∷ ts) (types_seen bs)

-- ---- other children

pub tree_over-root : (e : Tree) (es : List Expression) (k : ℕ) → e ≡ root → k ≡ length es → k ≢ 0 → tree_over e (trees_of es) ≡ Err (RootChildren k)
tree_over-root e [] k is q h = absurd (h q)
tree_over-root e (x ∷ es) k is q h = ap (λ d. tree_over d (trees_of (x ∷ es))) is ∙ ap (λ n. Err (RootChildren n)) (count_of-trees_of (x ∷ es) ∙ sym q)

pub bound_over-scope : (b : BoundTree) (t : LogicalType) (bs : List BoundExpression) (k : ℕ) → b ≡ scope t → k ≡ length bs → k ≢ 0 → bound_over b (bounds_of bs) ≡ Err (RootChildren k)
bound_over-scope b t [] k is q h = absurd (h q)
bound_over-scope b t (x ∷ bs) k is q h = ap (λ d. bound_over d (bounds_of (x ∷ bs))) is ∙ ap (λ n. Err (RootChildren n)) (bound_count_of-bounds_of (x ∷ bs) ∙ sym q)

pub number_refusal-scope : (b : BoundTree) (t : LogicalType) (bs : List BoundExpression) (k : ℕ) → b ≡ scope t → k ≡ length bs → k ≢ 0 → number_refusal b (bounds_of bs) ≡ Some (RootChildren k)
number_refusal-scope b t [] k is q h = absurd (h q)
number_refusal-scope b t (x ∷ bs) k is q h = ap (λ d. number_refusal d (bounds_of (x ∷ bs))) is ∙ ap (λ n. Some (RootChildren n)) (bound_count_of-bounds_of (x ∷ bs) ∙ sym q)

-- ---- what is said, where it is known

-- what is said to be there is no refusal
pub no_refusal : {A : Type 0} {P : Type 0} (said : Result A VortexError) (y : A) → said ≡ Ok y → IsErr said → P
no_refusal said y h e = cc

pub IfSome-err : {B : Type 0} (said : Option VortexError) (x : VortexError) (r : Result B VortexError) → said ≡ Some x → r ≡ Err x → IfSome said (λ e. r ≡ Err e)
IfSome-err said x r h q = subst (λ s. IfSome s (λ e. r ≡ Err e)) (sym h) q

differ : (k n : ℕ) → (k == n) ≡ false → k ≢ n
differ k n h = grind (arith, nat_tests)

refused : {B : Type 0} (r : Result B VortexError) (x : VortexError) (k n : ℕ) → (k ≢ n → r ≡ Err x) → (same : Bool) → (k == n) ≡ same → IfSome (if same then None else Some x) (λ e. r ≡ Err e)
refused r x k n h true q = tt
refused r x k n h false q = h (differ k n q)

-- what refuses each number of children but the arity refuses as it is said of a function node
pub number_refusal-node : {B : Type 0} (b : BoundTree) (t : LogicalType) (f : Function) (old : BoundTrees) (bs : List BoundExpression) (r : Result B VortexError) → b ≡ node t f old
    → (length bs ≢ arity_of f → r ≡ Err (ArityMismatch (arity_of f) (length bs))) → IfSome (number_refusal b (bounds_of bs)) (λ e. r ≡ Err e)
number_refusal-node b t f old bs r is h =
    let n = bound_count_of-bounds_of bs in
    let k = bound_count_of (bounds_of bs) in
    let at_node = refused r (ArityMismatch (arity_of f) k) k (arity_of f) (λ q. h (λ e. q (n ∙ e)) ∙ ap (λ m. Err (ArityMismatch (arity_of f) m)) (sym n)) (k == arity_of f) refl in
    subst (λ d. IfSome (number_refusal d (bounds_of bs)) (λ e. r ≡ Err e)) (sym is) at_node

-- ---- bound trees and their sources

pub unbound_each-bounds_of : (bs : List BoundExpression) → unbound_each (bounds_of bs) ≡ trees_from (map (λ b. unbound (bound_of b)) bs)
unbound_each-bounds_of [] = refl
unbound_each-bounds_of (b ∷ bs) = ap (tree (unbound (bound_of b))) (unbound_each-bounds_of bs)

pub children_of-unbound : (b : BoundTree) → children_of (unbound b) ≡ unbound_each (bound_children_of b)
children_of-unbound (scope t) = refl
children_of-unbound (node t f bs) = refl

count_of-unbound_each : (bs : BoundTrees) → count_of (unbound_each bs) ≡ bound_count_of bs
count_of-unbound_each no_bound = refl
count_of-unbound_each (bound b bs) = omega (arith, count_of-unbound_each bs)

pub count_of-unbound : (b : BoundTree) → count_of (children_of (unbound b)) ≡ bound_count_of (bound_children_of b)
count_of-unbound b = ap count_of (children_of-unbound b) ∙ count_of-unbound_each (bound_children_of b)

tree_at-unbound_each : (bs : BoundTrees) (i : ℕ) → tree_at (unbound_each bs) i ≡ option_map unbound (bound_at bs i)
tree_at-unbound_each no_bound i = refl
tree_at-unbound_each (bound b bs) zero = refl
tree_at-unbound_each (bound b bs) (suc i) = tree_at-unbound_each bs i

pub tree_at-unbound : (b : BoundTree) (i : ℕ) → tree_at (children_of (unbound b)) i ≡ option_map unbound (bound_at (bound_children_of b) i)
tree_at-unbound b i = ap (λ es. tree_at es i) (children_of-unbound b) ∙ tree_at-unbound_each (bound_children_of b) i
