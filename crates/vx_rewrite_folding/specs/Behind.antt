-- Trees behind others.
use Rattle.std.specs.Prelude.{List, [], ◌∷◌}
use Rattle.vx_tree.specs.Trees.{BoundTree, BoundTrees, bound}

-- the trees of the list, and behind them the others
abbrev pub behind_all : List BoundTree → BoundTrees → BoundTrees
behind_all [] rest = rest
behind_all (b ∷ bs) rest = bound b (behind_all bs rest)
