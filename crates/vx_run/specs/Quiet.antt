-- Trees that fault on no batch.
use Rattle.std.specs.Prelude.{Bool, true, false, IsTrue}
use Rattle.vx_fn.specs.Functions.{Function, binary, computes, cast, fill_null}
use Rattle.vx_tree.specs.Trees.{Tree, root, call, Trees, no_tree, tree}

-- whether the function never faults: it is no arithmetic, no cast and no fill
abbrev pub is_quiet : Function → Bool
is_quiet (binary (computes a)) = false
is_quiet (cast t) = false
is_quiet fill_null = false
is_quiet _ = true

-- each function of the tree is one that never faults
abbrev mutual
  pub IsQuiet : Tree → Type 0
  IsQuiet root = Unit {0}
  IsQuiet (call f es) = IsTrue (is_quiet f) × EachQuiet es

  pub EachQuiet : Trees → Type 0
  EachQuiet no_tree = Unit {0}
  EachQuiet (tree e es) = IsQuiet e × EachQuiet es
