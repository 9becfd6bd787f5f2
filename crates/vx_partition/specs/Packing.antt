-- What is made of the groups: their partitions, and the holes that take the pieces out of them. No public contract names this file: it is for the contracts of the steps within the crate.
use Rattle.std.specs.Prelude.{ℕ, zero, suc, List, [], ◌∷◌, Option, None, slice_get}
use Rattle.vx_value.specs.Types.{Name, LogicalType}
use Rattle.vx_fn.specs.Functions.{get_item}
use Rattle.vx_tree.specs.Nodes.{bound_children_of}
use Rattle.vx_tree.specs.Trees.{BoundTree, node, BoundTrees, no_bound, bound, node_type}
use Rattle.vx_partition_laws.specs.Pieces.{Group}
use Rattle.vx_partition_laws.specs.Partitions.{piece_names}

-- the item of that name, of which the type is known
abbrev pub typed_item : LogicalType → Name → BoundTree → BoundTree
typed_item t a b = node t (get_item a) (bound b no_bound)

-- the pieces as they are taken out of a partition under their names
abbrev pub holes_of : BoundTree → List Name → BoundTrees → List BoundTree
holes_of from (a ∷ names) (bound b bs) = typed_item (node_type b) a from ∷ holes_of from names bs
holes_of from _ _ = []

-- those of each partition, which is an item of the root
abbrev pub all_holes : BoundTree → List Name → List (List Name) → BoundTrees → List (List BoundTree)
all_holes root (a ∷ names) (own ∷ piece_names) (bound b bs) = holes_of (typed_item (node_type b) a root) own (bound_children_of b) ∷ all_holes root names piece_names bs
all_holes root _ _ _ = []

-- the hole at a place, if there is one
abbrev pub hole_at : List (List BoundTree) → ℕ → ℕ → Option BoundTree
hole_at [] g i = None
hole_at (hs ∷ holes) zero i = slice_get hs i
hole_at (hs ∷ holes) (suc g) i = hole_at holes g i

-- the names of each group's pieces
abbrev pub all_names : {A : Type 0} (text : A → List ℕ) → List (Group A) → List (List Name)
all_names text [] = []
all_names text (g ∷ gs) = piece_names (text g.0) 0 g.1 ∷ all_names text gs
