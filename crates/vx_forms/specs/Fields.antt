-- Fields that are reached by names.
use Rattle.std.specs.Prelude.{List, [], ◌∷◌, ℕ}
use Rattle.std.specs.List.{slice_split}
use Rattle.vx_value.specs.Types.{Name}
use Rattle.vx_fn.specs.Functions.{get_item}
use Rattle.vx_tree.specs.Trees.{Tree, call, tree, no_tree}
use lib.Dec.{eqb}

-- the names between the dots, of which 46 is the code
abbrev pub names_in : List ℕ → List Name
names_in path = slice_split (λ code. eqb code 46) path

-- the field of the tree that is reached by these names, each one that of a field of the last
abbrev pub field_below : Tree → List Name → Tree
field_below e [] = e
field_below e (name ∷ names) = field_below (call (get_item name) (tree e no_tree)) names
