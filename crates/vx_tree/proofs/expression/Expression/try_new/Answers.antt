use Rattle.std.proofs.Common.{◌≡◌, inr, ap, ◌∙◌, Ok, arith, rules}
use Rattle.vx_tree.specs.declared.expression.Expression.{Scalar, the_lemmas}
use Rattle.vx_tree.specs.Trees.{call}
use Rattle.vx_tree.specs.Views.{tree_of, trees_of}
use Rattle.vx_fn.specs.Views.{function_of}
use Rattle.vx_tree.proofs.Nodes.{call_over-fits, call_over-other, no_refusal}
use Rattle.vx_tree.proofs.expression.Expression.try_new.Goals as goal

pub returns-then-got-expected-clause-node : goal.returns-then-got-expected-clause-node
returns-then-got-expected-clause-node c =
    inr (call_over-other (function_of c.args.scalar_fn) c.args.children.items _ _ c.arity-expected.ensures (grind arith) c.if-got-expected.true)

pub returns-then-got-expected-clause-refusal : goal.returns-then-got-expected-clause-refusal
returns-then-got-expected-clause-refusal c =
    λ _. call_over-other (function_of c.args.scalar_fn) c.args.children.items _ _ c.arity-expected.ensures (grind arith) c.if-got-expected.true

pub returns-in_err-new-clause-refusal : goal.returns-in_err-new-clause-refusal
returns-in_err-new-clause-refusal c = no_refusal _ _ (call_over-fits (function_of c.args.scalar_fn) c.args.children.items (grind arith))

pub returns-clause-node : goal.returns-clause-node
returns-clause-node c =
    let is : call (function_of c.args.scalar_fn) (trees_of c.args.children.items) ≡ tree_of (Scalar c.args.scalar_fn c.in_ok-new.field-0) = search (rules, the_lemmas) in
    call_over-fits (function_of c.args.scalar_fn) c.args.children.items (grind arith) ∙ ap Ok is

pub returns-clause-refusal : goal.returns-clause-refusal
returns-clause-refusal c = no_refusal _ _ (call_over-fits (function_of c.args.scalar_fn) c.args.children.items (grind arith))
