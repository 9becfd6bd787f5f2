use Rattle.std.proofs.Common.{◌≡◌, true, Err, sym, subst, rules}
use Rattle.std.specs.Prelude.{IfErr}
use Rattle.vx_source_types.specs.declared.error.ParseError.TheVariants.{OutOfMemory}
use Rattle.vx_source_types.proofs.Parsing.{parses_as}
use Rattle.vx_source_grammar.specs.ExpressionReading.{step_by}
use Rattle.vx_source_grammar.specs.States.{open_as}
use Rattle.vx_source_operands.specs.OperandViews.{operand_of}
use Rattle.vx_source_parser.specs.Placed.{StopsOpen}
use Rattle.vx_source_parser.proofs.Parsing.{stops_open}
use Rattle.vx_source_parser.proofs.whole.with_second.Goals as goal

pub returns-in_err-tree-clause-complete : goal.returns-in_err-tree-clause-complete
returns-in_err-tree-clause-complete c = λ d h.
    let error = c.in_err-tree.field-0.0 in
    let is : c.from_residual.result ≡ Err error = search rules in
    subst (λ r. IfErr r (λ x. x ≡ OutOfMemory)) (sym is) (parses_as (step_by (open_as true)) operand_of (Err error) d c.in_err-tree.ensures h)

pub returns-in_err-tree-clause-stops : goal.returns-in_err-tree-clause-stops
returns-in_err-tree-clause-stops c =
    let error = c.in_err-tree.field-0.0 in
    let is : c.from_residual.result ≡ Err error = search rules in
    subst (λ r. IfErr r (StopsOpen c.args.limit c.args.text.now)) (sym is) (stops_open true c.args.limit c.args.text.now error c.in_err-tree.ensures)
