-- A plan as JSON data.
use Rattle.std.specs.Prelude.{List, ◌∷◌, map, codes, Option, Some, None}
use Rattle.serde_json.specs.Data.{Data, null, string, array, object, Items, no_items, item, member, no_members}
use Rattle.serde_json.specs.View.{items_of}
use Rattle.vx_value.specs.Paths.{Path}
use Rattle.vx_value.specs.Types.{Name, LogicalType}
use Rattle.vx_tree.specs.Trees.{BoundTree, BoundTrees, bound, unbound, node_type}
use Rattle.vx_source_types.specs.TypeTexts.{type_source}
use Rattle.vx_source_writer.specs.SourceTexts.{source}
use Rattle.vx_query_split.specs.Division.{Parts}

-- the source text of a tree, and of a type
abbrev pub tree_data : BoundTree → Data
tree_data b = string (source (unbound b))

abbrev pub type_data : LogicalType → Data
type_data t = string (type_source t)

-- a path as the array of its names
abbrev pub path_data : Path → Data
path_data path = array (items_of (map string path))

abbrev pub paths_data : List Path → Data
paths_data paths = array (items_of (map path_data paths))

-- a partition: its name, its tree and the tree's type
abbrev pub partition_data : Name → BoundTree → Data
partition_data name b = object (member (codes "name") (string name) (member (codes "tree") (tree_data b) (member (codes "type") (type_data (node_type b)) no_members)))

-- the partitions, as many as names and trees both give
abbrev pub partition_items : List Name → BoundTrees → Items
partition_items (name ∷ names) (bound b bs) = item (partition_data name b) (partition_items names bs)
partition_items _ _ = no_items

-- the root, and the partitions, of a split
abbrev pub root_data : Option Parts → Data
root_data (Some parts) = tree_data parts.root
root_data None = null

abbrev pub partitions_data : Option Parts → Data
partitions_data (Some parts) = array (partition_items parts.names parts.partitions)
partitions_data None = array no_items

-- a plan: its tree with its type and scope, the paths that it reads, and what it is split into
abbrev pub plan_data : LogicalType → BoundTree → List Path → Option Parts → Data
plan_data s u paths split =
    object (member (codes "partitions") (partitions_data split)
    (member (codes "paths") (paths_data paths)
    (member (codes "root") (root_data split)
    (member (codes "scope") (type_data s)
    (member (codes "tree") (tree_data u)
    (member (codes "type") (type_data (node_type u)) no_members))))))
