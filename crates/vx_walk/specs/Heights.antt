-- Trees as nodes: their children as a list, and their heights.
use Rattle.std.specs.Prelude.{◌≡◌, ℕ, ◌+◌, ◌<◌, ◌==◌, Bool, true, false, if◌then◌else◌, List, [], ◌∷◌, length, max, refl, slice_index_or, Result, Ok, Err, IsErr, IfOk, IfSome, IsTrue}
use Rattle.std.specs.List.{Contains}
use Rattle.std.proofs.Common.{ap, subst, ◌∙◌, arith, suc, zero}
use Rattle.vx_dtype.specs.declared.error.VortexError.{VortexError}
use Rattle.vx_dtype.specs.declared.error.VortexError.TheVariants.{ArityMismatch}
use Rattle.vx_value.specs.Returns.{ReturnsOrOom, Returns}
use Rattle.vx_value.specs.Types.{LogicalType}
use Rattle.vx_fn.specs.Functions.{Function, arity_of, fn_type}
use Rattle.vx_tree.specs.Binding.{node_over}
use Rattle.vx_tree.specs.Trees.{Tree, root, call, Trees, no_tree, tree, BoundTree, scope, node, BoundTrees, no_bound, bound, unbound, unbound_each, WellTyped, EachWellTyped, node_types, on_ok}
use Rattle.vx_tree.specs.Nodes.{is_root, children_of, bound_children_of, count_of, tree_over, bound_over, number_refusal}
use Rattle.vx_tree.specs.Views.{trees_from, bounds_from}

-- the trees as a list
abbrev pub items_of : Trees → List Tree
items_of no_tree = []
items_of (tree e es) = e ∷ items_of es

-- the bound trees as a list
abbrev pub bound_items_of : BoundTrees → List BoundTree
bound_items_of no_bound = []
bound_items_of (bound b bs) = b ∷ bound_items_of bs

-- the children of a node, as a list
abbrev pub kids_of : Tree → List Tree
kids_of e = items_of (children_of e)

-- the children of a bound node, as a list
abbrev pub bound_kids_of : BoundTree → List BoundTree
bound_kids_of b = bound_items_of (bound_children_of b)

abbrev mutual
  -- 0 without children, else one more than the highest child's
  pub height_of : Tree → ℕ
  height_of root = 0
  height_of (call f es) = rise_of es

  -- one more than the highest tree's, 0 where there is none
  pub rise_of : Trees → ℕ
  rise_of no_tree = 0
  rise_of (tree e es) = max (height_of e + 1) (rise_of es)

-- the height of a bound tree: that of its source
abbrev pub bound_height_of : BoundTree → ℕ
bound_height_of b = height_of (unbound b)

-- what `with_children` answers for a tree and other children, all seen as trees
pub record RebuildsTree (e : Tree) (es : List Tree) (answer : Result Tree VortexError) : Type 0 where
  pub node : ReturnsOrOom (λ t. t) answer (tree_over e (trees_from es))
  pub refusal : IsErr (tree_over e (trees_from es)) → Returns (λ t. t) answer (tree_over e (trees_from es))
  pub scope : e ≡ root → Returns (λ t. t) answer (tree_over e (trees_from es))

-- what `with_children` answers for a bound tree and other children, all seen as bound trees
pub record RebuildsBound (b : BoundTree) (bs : List BoundTree) (answer : Result BoundTree VortexError) : Type 0 where
  pub node : ReturnsOrOom (λ t. t) answer (bound_over b (bounds_from bs))
  pub well_typed : EachWellTyped (bounds_from bs) → IfOk answer WellTyped
  pub same : WellTyped b → bounds_from bs ≡ bound_children_of b → ReturnsOrOom (λ t. t) answer (Ok b)
  pub number : IfSome (number_refusal b (bounds_from bs)) (λ e. answer ≡ Err e)
  pub scope : IsTrue (is_root (unbound b)) → Returns (λ t. t) answer (bound_over b (bounds_from bs))

pub items-trees : (es : List Tree) → items_of (trees_from es) ≡ es
items-trees [] = refl
items-trees (e ∷ es) = ap (λ l. e ∷ l) (items-trees es)

pub bound_items-bounds : (bs : List BoundTree) → bound_items_of (bounds_from bs) ≡ bs
bound_items-bounds [] = refl
bound_items-bounds (b ∷ bs) = ap (λ l. b ∷ l) (bound_items-bounds bs)

lower_at : (es : Trees) (k : Tree) (i : ℕ) → i < length (items_of es) → slice_index_or (items_of es) i k ≡ k → height_of k < rise_of es
lower_at no_tree k i h e = absurd (omega arith)
lower_at (tree x es) k zero h e =
    let f : x ≡ k = e in
    subst (λ y. height_of y < max (height_of x + 1) (rise_of es)) f (omega arith)
lower_at (tree x es) k (suc i) h e =
    let l = lower_at es k i (omega arith) e in omega arith

bound_lower_at : (bs : BoundTrees) (k : BoundTree) (i : ℕ) → i < length (bound_items_of bs) → slice_index_or (bound_items_of bs) i k ≡ k → bound_height_of k < rise_of (unbound_each bs)
bound_lower_at no_bound k i h e = absurd (omega arith)
bound_lower_at (bound x bs) k zero h e =
    let f : x ≡ k = e in
    subst (λ y. bound_height_of y < max (bound_height_of x + 1) (rise_of (unbound_each bs))) f (omega arith)
bound_lower_at (bound x bs) k (suc i) h e =
    let l = bound_lower_at bs k i (omega arith) e in omega arith

-- each child is lower than its node
pub kids_are_lower_of_tree : (m k : Tree) → Contains (kids_of m) k → height_of k < height_of m
kids_are_lower_of_tree root k c = absurd (omega (arith, c.1))
kids_are_lower_of_tree (call f es) k c = lower_at es k c.0 c.1 c.2

-- each bound child is lower than its node
pub kids_are_lower_of_bound : (m k : BoundTree) → Contains (bound_kids_of m) k → bound_height_of k < bound_height_of m
kids_are_lower_of_bound (scope t) k c = absurd (omega (arith, c.1))
kids_are_lower_of_bound (node t f bs) k c = bound_lower_at bs k c.0 c.1 c.2

-- what is there if the test holds
if_ok : {A : Type 0} (P : A → Type 0) (b : Bool) (x : A) (e : VortexError) → P x → IfOk (if b then Ok x else Err e) P
if_ok P true x e p = p
if_ok P false x e p = cc

node_children : (e : Tree) (es : Trees) → IfOk (tree_over e es) (λ n. children_of n ≡ es)
node_children root no_tree = refl
node_children root (tree e es) = cc
node_children (call f old) es = if_ok (λ n. children_of n ≡ es) (count_of es == arity_of f) (call f es) (ArityMismatch (arity_of f) (count_of es)) refl

typed_children : (f : Function) (bs : BoundTrees) (t : Result LogicalType VortexError) → IfOk (on_ok (λ t. Ok (node t f bs)) t) (λ n. bound_children_of n ≡ bs)
typed_children f bs (Ok t) = refl
typed_children f bs (Err e) = cc

bound_node_children : (b : BoundTree) (bs : BoundTrees) → IfOk (bound_over b bs) (λ n. bound_children_of n ≡ bs)
bound_node_children (scope t) no_bound = refl
bound_node_children (scope t) (bound b bs) = cc
bound_node_children (node t f old) bs = typed_children f bs (fn_type f (node_types bs))

-- a tree that was rebuilt has exactly the children that it was given
pub rebuilt_over_of_tree : (m n : Tree) (ks : List Tree) → RebuildsTree m ks (Ok n) → kids_of n ≡ ks
rebuilt_over_of_tree m n ks r =
    let e : children_of n ≡ trees_from ks = subst (λ a. IfOk a (λ n. children_of n ≡ trees_from ks)) r.node (node_children m (trees_from ks)) in
    ap items_of e ∙ items-trees ks

-- a bound tree that was rebuilt has exactly the children that it was given
pub rebuilt_over_of_bound : (m n : BoundTree) (ks : List BoundTree) → RebuildsBound m ks (Ok n) → bound_kids_of n ≡ ks
rebuilt_over_of_bound m n ks r =
    let e : bound_children_of n ≡ bounds_from ks = subst (λ a. IfOk a (λ n. bound_children_of n ≡ bounds_from ks)) r.node (bound_node_children m (bounds_from ks)) in
    ap bound_items_of e ∙ bound_items-bounds ks
