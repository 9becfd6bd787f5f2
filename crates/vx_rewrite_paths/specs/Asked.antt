-- Which paths of its scope's row a tree asks for.
use Rattle.std.specs.Prelude.{Bool, List, [], ◌∷◌, ◌++◌, map, if◌then◌else◌}
use Rattle.std.specs.List.{flat_map}
use Rattle.vx_value.specs.Fields.{is_among}
use Rattle.vx_value.specs.Paths.{Path, add_paths}
use Rattle.vx_value.specs.Types.{Name, LogicalType, ty, struct}
use Rattle.vx_fn.specs.Functions.{Function, get_item, select, included}
use Rattle.vx_fn.specs.declared.options.FieldSelection.{FieldSelection}
use Rattle.vx_tree.specs.Trees.{BoundTree, scope, node, BoundTrees, no_bound, bound, node_types}

-- the root path alone, which asks for the whole
abbrev pub whole : List Path
whole = [] ∷ []

-- for each of the names the path of it alone
abbrev pub each_alone : List Name → List Path
each_alone names = map (λ a. a ∷ []) names

-- what a selection of these names asks for, for one path that it is asked for: each of the names for the whole,
-- else the path, if it begins with one of them
abbrev pub selected_path : List Name → Path → List Path
selected_path names [] = each_alone names
selected_path names (a ∷ path) = if is_among names a then (a ∷ path) ∷ [] else []

-- what a selection of these names asks for; where there is no name, the whole of a struct that may be null, to tell
-- whether it is null
abbrev pub selected_paths : List Name → Bool → List Path → List Path
selected_paths [] nullable paths = if nullable then whole else []
selected_paths (a ∷ names) nullable paths = flat_map (selected_path (a ∷ names)) paths

-- what a selection asks a child of that type for
abbrev pub select_paths : FieldSelection → LogicalType → List Path → List Path
select_paths selection (ty (struct fs) nullable) paths = selected_paths (included selection fs) nullable paths
select_paths selection _ paths = whole

-- what a node asks each child for, by its function and its children's types
abbrev pub child_paths : Function → List LogicalType → List Path → List Path
child_paths f ts [] = []
child_paths (get_item a) ts (path ∷ paths) = map (λ p. a ∷ p) (path ∷ paths)
child_paths (select selection) (t ∷ ts) (path ∷ paths) = select_paths selection t (path ∷ paths)
child_paths _ ts (path ∷ paths) = whole

-- the paths of the row that a tree asks for where its own value is asked for these, its children's from left to right
abbrev mutual
  pub asked : BoundTree → List Path → List Path
  asked (scope t) paths = paths
  asked (node t f bs) paths = each_asked bs (child_paths f (node_types bs) paths)

  pub each_asked : BoundTrees → List Path → List Path
  each_asked no_bound paths = []
  each_asked (bound b bs) paths = asked b paths ++ each_asked bs paths

-- the paths that the whole tree asks for, each at its first place
abbrev pub referenced : BoundTree → List Path
referenced b = add_paths [] (asked b whole)
