use Rattle.std.proofs.Common.{◌≡◌, ℕ, List, ◌++◌, drop}
use Rattle.std.specs.Fmt.{HasWritten, IsPlainFormatter}
use Rattle.vx_fn.specs.Views.{function_of}
use Rattle.vx_tree.specs.Nodes.{size_of}
use Rattle.vx_tree.specs.TreeTexts.{prefix_of}
use Rattle.vx_tree.proofs.TreeTexts.{children_text}
use Rattle.vx_tree.proofs.tree_text.+fmt_tree.Given as goal

abbrev pub decreases-fmt_tree : goal.decreases-fmt_tree
decreases-fmt_tree g l = size_of (g.T.TreeNode.tree l.node.now)

-- what is written of the children, and what is left to write, is the text of all
abbrev pub invariant-loop-index : goal.invariant-loop-index
invariant-loop-index g l =
    IsPlainFormatter l.initial.f
    → (done : List ℕ) × HasWritten g.W.Write.write_str_gives l.initial.f done l.f
    × (done ++ children_text g.T.TreeNode.tree (prefix_of l.prefix) (function_of l.scalar_fn) l.count l.index (drop l.index l.children)
    ≡ children_text g.T.TreeNode.tree (prefix_of l.prefix) (function_of l.scalar_fn) l.count 0 l.children)
