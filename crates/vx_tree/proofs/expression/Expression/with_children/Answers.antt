use Rattle.std.proofs.Common.{◌≡◌, ◌≢◌, inr, arith, rules}
use Rattle.vx_tree.specs.declared.expression.Expression.{the_lemmas}
use Rattle.vx_tree.specs.Trees.{root}
use Rattle.vx_tree.specs.Views.{tree_of}
use Rattle.vx_tree.proofs.Nodes.{tree_over-root}
use Rattle.vx_tree.proofs.expression.Expression.with_children.Goals as goal

pub returns-else-is_empty-clause-node : goal.returns-else-is_empty-clause-node
returns-else-is_empty-clause-node c =
    let is : tree_of c.args.self ≡ root = search (rules, the_lemmas) in
    let some : c.len.result ≢ 0 = grind arith in
    inr (tree_over-root _ c.args.children.items _ is (grind arith) some)

pub returns-else-is_empty-clause-refusal : goal.returns-else-is_empty-clause-refusal
returns-else-is_empty-clause-refusal c =
    let is : tree_of c.args.self ≡ root = search (rules, the_lemmas) in
    let some : c.len.result ≢ 0 = grind arith in
    λ _. tree_over-root _ c.args.children.items _ is (grind arith) some

pub returns-else-is_empty-clause-root : goal.returns-else-is_empty-clause-root
returns-else-is_empty-clause-root c =
    let is : tree_of c.args.self ≡ root = search (rules, the_lemmas) in
    let some : c.len.result ≢ 0 = grind arith in
    λ _. tree_over-root _ c.args.children.items _ is (grind arith) some
