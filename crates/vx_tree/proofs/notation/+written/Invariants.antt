use Rattle.std.proofs.Common.{◌≡◌, ℕ, ◌+◌, ◌*◌, List, ◌++◌, map, drop}
use Rattle.std.specs.Fmt.{HasWritten, IsPlainFormatter}
use Rattle.vx_dtype.proofs.Commas.{after_commas}
use Rattle.vx_fn.specs.Texts.{named_texts, pairs_sql}
use Rattle.vx_tree.specs.Nodes.{size_of, sizes_of}
use Rattle.vx_tree.specs.Views.{trees_from}
use Rattle.vx_tree.specs.Notations.{names_in, texts_of}
use Rattle.vx_tree.proofs.notation.+written.Given as goal

abbrev pub decreases-write_tree : goal.decreases-write_tree
decreases-write_tree g l = 16 * size_of (g.T.TreeNode.tree l.node.now)

abbrev pub decreases-write_own : goal.decreases-write_own
decreases-write_own g l = 16 * sizes_of (trees_from (map g.T.TreeNode.tree l.children.now)) + 8

abbrev pub decreases-write_call : goal.decreases-write_call
decreases-write_call g l = 16 * sizes_of (trees_from (map g.T.TreeNode.tree l.children.now)) + 5

abbrev pub decreases-write_child : goal.decreases-write_child
decreases-write_child g l = 16 * sizes_of (trees_from (map g.T.TreeNode.tree l.children.now)) + 1

abbrev pub decreases-write_list : goal.decreases-write_list
decreases-write_list g l = 16 * sizes_of (trees_from (map g.T.TreeNode.tree l.children.now)) + 3

abbrev pub decreases-case::write_case : goal.decreases-case::write_case
decreases-case::write_case g l = 16 * sizes_of (trees_from (map g.T.TreeNode.tree l.children.now)) + 5

abbrev pub decreases-case::write_branches : goal.decreases-case::write_branches
decreases-case::write_branches g l = 16 * sizes_of (trees_from (map g.T.TreeNode.tree l.children.now)) + 3

abbrev pub decreases-case::write_pair : goal.decreases-case::write_pair
decreases-case::write_pair g l = 16 * sizes_of (trees_from (map g.T.TreeNode.tree l.children.now)) + 2

abbrev pub decreases-infix::write_below : goal.decreases-infix::write_below
decreases-infix::write_below g l = 16 * sizes_of (trees_from (map g.T.TreeNode.tree l.children.now)) + 2

abbrev pub decreases-pack::write_pack : goal.decreases-pack::write_pack
decreases-pack::write_pack g l = 16 * sizes_of (trees_from (map g.T.TreeNode.tree l.children.now)) + 5

abbrev pub decreases-pack::write_named : goal.decreases-pack::write_named
decreases-pack::write_named g l = 16 * sizes_of (trees_from (map g.T.TreeNode.tree l.children.now)) + 3

abbrev pub decreases-pack::write_named_child : goal.decreases-pack::write_named_child
decreases-pack::write_named_child g l = 16 * sizes_of (trees_from (map g.T.TreeNode.tree l.children.now)) + 2

abbrev pub decreases-infix::write_binary : goal.decreases-infix::write_binary
decreases-infix::write_binary g l = 16 * sizes_of (trees_from (map g.T.TreeNode.tree l.operands.now)) + 5

abbrev pub decreases-infix::write_like : goal.decreases-infix::write_like
decreases-infix::write_like g l = 16 * sizes_of (trees_from (map g.T.TreeNode.tree l.children.now)) + 5

abbrev pub decreases-infix::write_between : goal.decreases-infix::write_between
decreases-infix::write_between g l = 16 * sizes_of (trees_from (map g.T.TreeNode.tree l.children.now)) + 5

abbrev pub decreases-write_select : goal.decreases-write_select
decreases-write_select g l = 16 * sizes_of (trees_from (map g.T.TreeNode.tree l.children.now)) + 5

-- what is written, and what is left to write, is the text of all
abbrev pub invariant-write_list-loop-index : goal.invariant-write_list-loop-index
invariant-write_list-loop-index g l =
    IsPlainFormatter l.initial.f
    → (done : List ℕ) × HasWritten g.W.Write.write_str_gives l.initial.f done l.f
    × (done ++ after_commas (drop l.index (texts_of g.N.Notation.words g.T.TreeNode.tree l.children)) ≡ after_commas (drop 1 (texts_of g.N.Notation.words g.T.TreeNode.tree l.children)))

-- the same of children behind their names
abbrev pub invariant-pack::write_named-loop-index : goal.invariant-pack::write_named-loop-index
invariant-pack::write_named-loop-index g l =
    IsPlainFormatter l.initial.f
    → (done : List ℕ) × HasWritten g.W.Write.write_str_gives l.initial.f done l.f
    × (done ++ after_commas (drop l.index (named_texts (names_in g.N.Notation.words l.names) (texts_of g.N.Notation.words g.T.TreeNode.tree l.children))) ≡ after_commas (drop 1 (named_texts (names_in g.N.Notation.words l.names) (texts_of g.N.Notation.words g.T.TreeNode.tree l.children))))

-- the same of pairs of children
abbrev pub invariant-case::write_branches-loop-pair : goal.invariant-case::write_branches-loop-pair
invariant-case::write_branches-loop-pair g l =
    IsPlainFormatter l.initial.f
    → (done : List ℕ) × HasWritten g.W.Write.write_str_gives l.initial.f done l.f
    × (done ++ pairs_sql (drop (2 * l.pair) (texts_of g.N.Notation.words g.T.TreeNode.tree l.children)) ≡ pairs_sql (texts_of g.N.Notation.words g.T.TreeNode.tree l.children))

abbrev pub decreases-write_full : goal.decreases-write_full
decreases-write_full g l = 16 * sizes_of (trees_from (map g.T.TreeNode.tree l.children.now)) + 8
