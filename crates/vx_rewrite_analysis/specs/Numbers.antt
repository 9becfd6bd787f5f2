-- Nodes that are numbered by their place in a list. No public contract names this file.
use Rattle.std.specs.Prelude.{◌≡◌, ◌<◌, ◌++◌, ℕ, Bool, false, List, [], map, get_or, length, Some, All, nat_eq, slice_get}
use Rattle.std.specs.Ordering.{eq_of_both}
use Rattle.std.specs.Cmp.{IsEquivalence, on_equiv, and_equiv, first_so, second_so}
use Rattle.std.specs.Hash.{HashWrites}
use Rattle.std.specs.Hash as fed
use Rattle.std.specs.List.{list_any}
use Rattle.std.proofs.Common.{true, refl, sym, ap, ◌∙◌}
use Rattle.std.specs.Cmp.Lexicographic.{pointwise, nat_list_eq_equiv, same_text}
use Rattle.vx_value.specs.Types.{ty, struct, no_field}
use Rattle.vx_fn.specs.Equality.{function_fed}
use Rattle.vx_tree.specs.Digests.{digest_of}
use Rattle.vx_tree.specs.Equality.{equal_bound, equal_bound_equiv, equal_bound-Decides}
use Rattle.vx_tree.specs.Nodes.{bound_children_of}
use Rattle.vx_tree.specs.Trees.{BoundTree, scope, node, BoundTrees, no_bound}
use Rattle.vx_tree.specs.Views.{bound_of, bounds_from}
use Rattle.vx_rewrite_analysis.specs.declared.numbers.NumberedNode.{NumberedNode}

-- a node without its children
abbrev pub head_of : BoundTree → BoundTree
head_of (scope t) = scope t
head_of (node t f bs) = node t f no_bound

-- the tree of a numbered node
abbrev pub node_tree : NumberedNode → BoundTree
node_tree n = bound_of n.tree.now

-- whether two numbered nodes have children of the same numbers, and are alike without them
abbrev pub equal_numbered : NumberedNode → NumberedNode → Bool
equal_numbered m n =
    eq_of_both (λ x y. pointwise nat_eq x.children.items y.children.items) (λ x y. equal_bound (head_of (node_tree x)) (head_of (node_tree y))) m n

-- so the test is an equivalence
pub equal_numbered_equiv : IsEquivalence equal_numbered
equal_numbered_equiv = and_equiv (on_equiv (λ x. x.children.items) nat_list_eq_equiv) (on_equiv (λ x. head_of (node_tree x)) equal_bound_equiv)

-- the tree of a number; of one that is no number any tree
abbrev pub tree_at : List NumberedNode → ℕ → BoundTree
tree_at ns i = get_or (map node_tree ns) i (scope (ty (struct no_field) false))

-- the trees of the numbers
abbrev pub trees_at : List NumberedNode → List ℕ → BoundTrees
trees_at ns is = bounds_from (map (tree_at ns) is)

-- i is a number of the tree
abbrev pub IsNumberOf : List NumberedNode → ℕ → BoundTree → Type 0
IsNumberOf ns i b = (i < length ns) × (tree_at ns i ≡ b)

-- whether one of the nodes has the tree
abbrev pub has_node : BoundTree → List NumberedNode → Bool
has_node n ns = list_any (λ m. equal_bound n (node_tree m)) ns

-- what is a number of a tree stays one
abbrev pub KeepsNumbers : List NumberedNode → List NumberedNode → Type 0
KeepsNumbers old new = (i : ℕ) (b : BoundTree) → IsNumberOf old i b → IsNumberOf new i b

-- each node has its children's numbers, which are below its own
abbrev pub HasChildrenBelow : List NumberedNode → Type 0
HasChildrenBelow ns = (i : ℕ) (n : NumberedNode) → slice_get ns i ≡ Some n
    → (trees_at ns n.children.items ≡ bound_children_of (node_tree n)) × All (λ k. k < i) n.children.items

-- no tree has two numbers
abbrev pub HasOneNumberEach : List NumberedNode → Type 0
HasOneNumberEach ns = (i j : ℕ) → i < length ns → j < length ns → tree_at ns i ≡ tree_at ns j → i ≡ j

-- the nodes are numbered, each behind its children and once
abbrev pub IsNumbered : List NumberedNode → Type 0
IsNumbered ns = HasChildrenBelow ns × HasOneNumberEach ns

-- the first numbers have the digests of their trees
abbrev pub HasDigests : List NumberedNode → List ℕ → Type 0
HasDigests ns ds = (i : ℕ) → i < length ds → get_or ds i 0 ≡ digest_of (tree_at ns i)

-- what is at a node feeds its function to a hasher, if it has one
abbrev pub head_fed : BoundTree → HashWrites
head_fed (scope t) = []
head_fed (node t f bs) = function_fed f

-- a numbered node feeds its children's numbers, and what is at it
abbrev pub numbered_fed : NumberedNode → HashWrites
numbered_fed n = fed.slice fed.usize n.children.items ++ head_fed (node_tree n)

-- nodes that are alike without their children feed alike
heads_alike : (b c : BoundTree) → equal_bound (head_of b) (head_of c) ≡ true → head_fed b ≡ head_fed c
heads_alike b c same = sym (of_head b) ∙ ap head_fed ((equal_bound-Decides (head_of b) (head_of c)).0 same) ∙ of_head c
  where
    of_head : (b : BoundTree) → head_fed (head_of b) ≡ head_fed b
    of_head (scope t) = refl
    of_head (node t f bs) = refl

-- equal numbered nodes are hashed alike
pub numbered_alike : (m n : NumberedNode) → equal_numbered m n ≡ true → numbered_fed m ≡ numbered_fed n
numbered_alike m n same =
    let numbers : Bool = pointwise nat_eq m.children.items n.children.items in
    let heads : Bool = equal_bound (head_of (node_tree m)) (head_of (node_tree n)) in
    let lists : m.children.items ≡ n.children.items = same_text m.children.items n.children.items (sym (first_so numbers heads same)) in
    ap (λ ks. fed.slice fed.usize ks ++ head_fed (node_tree m)) lists ∙ ap (λ x. fed.slice fed.usize n.children.items ++ x) (heads_alike (node_tree m) (node_tree n) (second_so numbers heads same))
