use Rattle.std.proofs.Common.{◌≡◌, sym, ◌∙◌, ap, rules}
use Rattle.vx_tree.specs.declared.expression.Expression.{the_lemmas}
use Rattle.vx_tree.specs.Nodes.{children_of, count_of}
use Rattle.vx_tree.specs.Views.{tree_of, trees_of}
use Rattle.vx_tree.proofs.Nodes.{count_of-trees_of}
use Rattle.vx_tree.proofs.expression.Expression.children.Goals as goal

pub returns-in-Scalar-clause-count : goal.returns-in-Scalar-clause-count
returns-in-Scalar-clause-count c =
    let same : trees_of c.as_slice.result.now ≡ children_of (tree_of c.args.self.now) = search (rules, the_lemmas) in
    sym (count_of-trees_of c.as_slice.result.now) ∙ ap count_of same
