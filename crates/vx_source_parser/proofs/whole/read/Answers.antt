use Rattle.std.proofs.Common.{◌≡◌, Ok, Err, refl, sym, subst, ap, ◌∙◌, arith}
use Rattle.vx_source_types.specs.Views.{lexeme_of}
use Rattle.vx_source_operands.specs.declared.operand.Operand.{Operand}
use Rattle.vx_source_operands.specs.declared.state.ExpressionReader.{ExpressionReader}
use Rattle.vx_source_operands.specs.declared.state.ExpressionStep.{ExpressionStep}
use Rattle.vx_source_operands.specs.declared.state.ExpressionStep.TheVariants.{More, Done}
use Rattle.vx_source_operands.specs.OperandViews.{operand_of, reader_of, step_of}
use Rattle.vx_source_operands.specs.PlainViews.{reading_of}
use Rattle.vx_source_types.specs.Reading.{more, done, Leads, stays, whole_text}
use Rattle.vx_source_types.proofs.Reading.{one_more, finished}
use Rattle.vx_source_types.proofs.Parsing.{within_of}
use Rattle.vx_source_grammar.specs.ExpressionReading.{step_by}
use Rattle.vx_source_grammar.specs.States.{ExpressionAnswer, expression_start}
use Rattle.vx_source_parser.proofs.Parsing.{stopped_up_to, takes_some}
use Rattle.vx_source_parser.proofs.whole.read.Goals as goal

answer : ExpressionStep → ExpressionAnswer
answer st = Ok (step_of st)

goes_on : (said : ExpressionAnswer) (st : ExpressionStep) (next : ExpressionReader) → said ≡ Ok (step_of st) → st ≡ More next → said ≡ Ok (more (reader_of next))
unfolding answer
goes_on said st next p q = p ∙ ap answer q

ends : (said : ExpressionAnswer) (st : ExpressionStep) (o : Operand) → said ≡ Ok (step_of st) → st ≡ Done o → said ≡ Ok (done (operand_of o))
unfolding answer
ends said st o p q = p ∙ ap answer q

pub loop-reader-init : goal.loop-reader-init
loop-reader-init c =
    let bs = c.args.text.now in
    (omega arith, subst (λ u. Leads (step_by (reading_of c.args.plain)) (expression_start c.args.limit) bs u bs) (sym c.new-reader.ensures) stays)

pub returns-in-Err : goal.returns-in-Err
returns-in-Err c =
    let t = c.in_ok-found.ensures in
    stopped_up_to (step_by (reading_of c.args.plain)) operand_of step_of c.in-Err.error c.loop-reader.from c.in_ok-found.found.at c.loop-reader.invariant.1 t.token c.in-Err.ensures.reads (omega arith)

pub returns-in-None : goal.returns-in-None
returns-in-None c =
    let t = c.in_ok-found.ensures in
    let o = c.in-Ok-Done.operand in
    within_of (step_by (reading_of c.args.plain)) (expression_start c.args.limit) c.args.text.now operand_of (Ok o)
    (finished (step_by (reading_of c.args.plain)) operand_of (Ok o) (lexeme_of c.in_ok-found.found.token) (operand_of o) c.loop-reader.from c.in_ok-found.found.at c.loop-reader.invariant.1 t.token
    (ends _ c.in-Ok-Done.field-0 o c.in-Ok-Done.ensures.reads c.in-Ok-Done.field-0-is) (subst (λ x. whole_text (operand_of o) x ≡ Ok (operand_of o)) (sym c.in-None.ensures) refl) (omega arith) t.place)

pub returns-in-Some : goal.returns-in-Some
returns-in-Some c =
    let t = c.in_ok-found.ensures in
    let o = c.in-Ok-Done.operand in
    within_of (step_by (reading_of c.args.plain)) (expression_start c.args.limit) c.args.text.now operand_of (Err c.in-Some.error)
    (finished (step_by (reading_of c.args.plain)) operand_of (Err c.in-Some.error) (lexeme_of c.in_ok-found.found.token) (operand_of o) c.loop-reader.from c.in_ok-found.found.at c.loop-reader.invariant.1 t.token
    (ends _ c.in-Ok-Done.field-0 o c.in-Ok-Done.ensures.reads c.in-Ok-Done.field-0-is) (c.in-Some.ensures (operand_of o)) (omega arith) t.place)

pub loop-reader-preserved : goal.loop-reader-preserved
loop-reader-preserved c =
    let t = c.in_ok-found.ensures in
    (omega arith, one_more (step_by (reading_of c.args.plain)) c.loop-reader.invariant.1 t.token (goes_on _ c.in-Ok-More.field-0 c.in-Ok-More.next c.in-Ok-More.ensures.reads c.in-Ok-More.field-0-is))

pub loop-reader-smaller : goal.loop-reader-smaller
loop-reader-smaller c =
    let t = c.in_ok-found.ensures in
    let more = takes_some (reading_of c.args.plain) (reader_of c.loop-reader.reader) _ c.args.text.now c.loop-reader.from c.in_ok-found.found.at c.in_ok-found.found.end _ _ t.token t.place t.within.0 t.within.1 t.forward
    (goes_on _ c.in-Ok-More.field-0 c.in-Ok-More.next c.in-Ok-More.ensures.reads c.in-Ok-More.field-0-is) in
    omega arith
