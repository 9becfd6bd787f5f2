use Rattle.std.proofs.Common.{◌≡◌, Ok, Err, sym, subst, rules}
use Rattle.vx_tree.specs.Views.{tree_of}
use Rattle.vx_source_types.specs.Reading.{Gives}
use Rattle.vx_source_types.proofs.Parsing.{parses_as}
use Rattle.vx_source_grammar.specs.ExpressionReading.{expression_step}
use Rattle.vx_source_operands.specs.OperandViews.{operand_of}
use Rattle.vx_source_parser.specs.Placed.{tree_in}
use Rattle.vx_source_parser.proofs.Parsing.{written_is_read}
use Rattle.vx_source_parser.proofs.whole.parse_with_places.Goals as goal

pub returns-in_err-tree-clause-complete : goal.returns-in_err-tree-clause-complete
returns-in_err-tree-clause-complete c = λ e h.
    let error = c.in_err-tree.field-0.0 in
    let is : c.from_residual.result ≡ Err error = search rules in
    subst (λ r. Gives tree_in r e) (sym is) (parses_as expression_step operand_of (Err error) e c.in_err-tree.ensures h)

pub returns-clause-complete : goal.returns-clause-complete
returns-clause-complete c = λ e h.
    let read : tree_of c.in_ok-tree.field-0.tree.value ≡ e = parses_as expression_step operand_of (Ok c.in_ok-tree.field-0) e c.in_ok-tree.ensures h in
    cc

pub returns-in_err-tree-clause-again : goal.returns-in_err-tree-clause-again
returns-in_err-tree-clause-again c = λ e w h is. returns-in_err-tree-clause-complete c e (written_is_read e c.args.limit c.args.text.now w h is)

pub returns-clause-again : goal.returns-clause-again
returns-clause-again c = λ e w h is. returns-clause-complete c e (written_is_read e c.args.limit c.args.text.now w h is)
