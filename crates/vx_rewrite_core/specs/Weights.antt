-- The weight of a tree, which makes the steps of rules end.
use Rattle.std.specs.Prelude.{ℕ, ◌+◌, ◌*◌}
use Rattle.vx_value.specs.Types.{LogicalType, ty, struct}
use Rattle.vx_value.specs.Fields.{field_count}
use Rattle.vx_fn.specs.Functions.{Function, get_item, literal, pack, select, zip, case_when, like}
use Rattle.vx_tree.specs.Trees.{BoundTree, scope, node, BoundTrees, no_bound, bound}

-- how many fields a struct type has
abbrev pub width : LogicalType → ℕ
width (ty (struct fs) n) = field_count fs
width _ = 0

-- the weight of a node of the type, over the weight of its children together
abbrev pub node_weight : Function → LogicalType → ℕ → ℕ
node_weight (literal u c) t k = 1
node_weight (get_item a) t k = 2 + k
node_weight (pack names n) t k = 2 + k
node_weight zip t k = 2 + k
node_weight (case_when pairs has_else) t k = 2 + k
node_weight (like negated case_insensitive) t k = 2 + k
node_weight (select sel) t k = 3 + (width t + 1) * k
node_weight _ t k = 1 + k

-- the weight of a tree, or of trees together
abbrev mutual
  pub weight : BoundTree → ℕ
  weight (scope t) = 1
  weight (node t f bs) = node_weight f t (weights bs)

  pub weights : BoundTrees → ℕ
  weights no_bound = 0
  weights (bound b bs) = weight b + weights bs
