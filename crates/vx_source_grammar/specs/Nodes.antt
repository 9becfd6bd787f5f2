-- What stands between the operators of a text.
use Rattle.std.specs.Prelude.{ℕ, ◌+◌, true, false, max, Result, Ok, Err, nat_lt}
use Rattle.vx_source_types.specs.declared.expectation.Expected.{Expected}
use Rattle.vx_source_types.specs.declared.expectation.Expected.TheVariants.{LessNesting}
use Rattle.vx_fn.specs.Functions.{Function}
use Rattle.vx_tree.specs.Trees.{Tree, root, call, Trees, no_tree, tree}

-- how many function nodes the longest way down has
abbrev mutual
  pub height_of : Tree → ℕ
  height_of root = 0
  height_of (call f es) = heights_of es + 1

  pub heights_of : Trees → ℕ
  heights_of no_tree = 0
  heights_of (tree e es) = max (height_of e) (heights_of es)

-- the node of the function over the trees, if it is no higher than the room
abbrev pub node_read : Function → Trees → ℕ → Result Tree Expected
node_read f es room = elim (nat_lt (heights_of es) room) [ true ↦ Ok (call f es) | false ↦ Err LessNesting ]
