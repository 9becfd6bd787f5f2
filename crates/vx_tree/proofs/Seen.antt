-- Nodes of either kind, seen as trees: what is at a node, and how many nodes there are below it.
use Rattle.std.proofs.Common.{◌≡◌, ℕ, zero, suc, ◌<◌, ◌≤◌, List, [], ◌∷◌, length, get_or, map, Some, ap, arith}
use Rattle.vx_fn.specs.Functions.{Function}
use Rattle.vx_tree.specs.Nodes.{function_at, children_of, size_of, sizes_of}
use Rattle.vx_tree.specs.Trees.{Tree, root, call}
use Rattle.vx_tree.specs.Views.{trees_from}

pub function_node : (e : Tree) (f : Function) → Some f ≡ function_at e → e ≡ call f (children_of e)
function_node root f h = absurd (cc)
function_node (call g es) f h = cc

-- ---- a child has fewer nodes

pub item_smaller : {A : Type 0} (view : A → Tree) (xs : List A) (i : ℕ) (x : A) → i < length xs → x ≡ get_or xs i x → size_of (view x) ≤ sizes_of (trees_from (map view xs))
item_smaller view [] i x h at = absurd (omega arith)
item_smaller view (y ∷ xs) zero x h at = omega (arith, ap (λ z. size_of (view z)) at)
item_smaller view (y ∷ xs) (suc i) x h at = omega (arith, item_smaller view xs i x (omega arith) at)

pub sizes_of-children : (e : Tree) → sizes_of (children_of e) < size_of e
sizes_of-children root = omega arith
sizes_of-children (call f es) = omega arith

pub child_smaller : {A : Type 0} (view : A → Tree) (e : Tree) (xs : List A) (i : ℕ) (x : A) → trees_from (map view xs) ≡ children_of e → i < length xs → x ≡ get_or xs i x → size_of (view x) < size_of e
child_smaller view e xs i x is h at = omega (arith, item_smaller view xs i x h at, sizes_of-children e, ap sizes_of is)
