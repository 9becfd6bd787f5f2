use Rattle.std.proofs.Common.{◌≡◌, [], ◌++◌, length, refl, ap, ◌∙◌, rules, arith}
use Rattle.std.proofs.Output.{has_written_append, has_written_of_eq}
use Rattle.vx_fn.specs.Texts.{function_text}
use Rattle.vx_fn.specs.Views.{function_of}
use Rattle.vx_tree.specs.TreeTexts.{prefix_of, text_behind}
use Rattle.vx_tree.proofs.TreeTexts.{children_text-turn, children_text-end, text_behind-node}
use Rattle.vx_tree.proofs.Seen.{child_smaller}
use Rattle.vx_tree.proofs.tree_text.+fmt_tree.Goals as goal

pub loop-index-init : goal.loop-index-init
loop-index-init g t c = λ plain. ([], search rules, refl)

pub fmt_tree-requires : goal.fmt_tree-requires
fmt_tree-requires g t c κs within =
    let view = g.T.TreeNode.tree in
    let smaller = child_smaller view (view c.args.node.now) c.node_children-children.result.now c.loop-index.index c.index-children-index.result c.node_children-children.ensures (omega arith) c.index-children-index.is in
    (omega (arith, smaller, c.decreases), within)

pub loop-index-preserved : goal.loop-index-preserved
loop-index-preserved g t c = λ plain.
    let l = c.loop-index in
    let children = c.node_children-children.result.now in
    let (done, wrote, left) = l.invariant plain in
    let one = c.fmt_branch.ensures wrote.plain (search rules) in
    let two = c.fmt_name.ensures one.plain (search rules) in
    let three = c.fmt_tree.ensures two.plain (search rules) in (
      _,
      has_written_append _ _ _ _ _ _ (has_written_append _ _ _ _ _ _ (has_written_append _ _ _ _ _ _ wrote one) two) three,
      children_text-turn g.T.TreeNode.tree (prefix_of c.args.prefix.now) (function_of c.in-Some.scalar_fn.now) (length children) done children l.index c.index-children-index.result _ (omega arith) c.index-children-index.is refl refl ∙ left,
    )

pub returns : goal.returns
returns g t c plain ok =
    let l = c.loop-index in
    let view = g.T.TreeNode.tree in
    let prefix = prefix_of c.args.prefix.now in
    let children = c.node_children-children.result.now in
    let f = function_of c.in-Some.scalar_fn.now in
    let first = c.fmt.ensures.writes plain (search rules) in
    let (done, wrote, left) = l.invariant first.plain in
    let below = children_text-end view prefix f (length children) l.index children done (omega arith) ∙ left in
    let whole = text_behind-node view prefix (view c.args.node.now) f children c.in-Some.ensures c.node_children-children.ensures in
    let all : function_text f ++ done ≡ text_behind prefix (view c.args.node.now) = ap (λ x. function_text f ++ x) below ∙ whole in
    has_written_of_eq _ _ _ _ _ all (has_written_append _ _ _ _ _ _ first wrote)
