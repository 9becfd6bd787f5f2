use Rattle.std.proofs.Common.{◌≡◌, Ok, Err, sym, subst, ap, ◌∙◌, arith, rules}
use Rattle.vx_value.specs.Columns.{Constant}
use Rattle.vx_source_types.specs.Views.{lexeme_of}
use Rattle.vx_source_types.specs.declared.scalar_parser.ScalarMode.{ScalarMode}
use Rattle.vx_source_types.specs.declared.scalar_parser.ScalarStep.{ScalarStep}
use Rattle.vx_source_types.specs.declared.scalar_parser.ScalarStep.TheVariants.{More, Done}
use Rattle.vx_source_types.specs.Reading.{more, done, stays}
use Rattle.vx_source_types.proofs.Reading.{one_more, stopped, finished}
use Rattle.vx_source_types.specs.ScalarReading.{ScalarAnswer, scalar_step, scalar_due, ParsesWithin}
use Rattle.vx_source_types.specs.ScalarViews.{mode_of, step_of, begun_of}
use Rattle.vx_source_types.proofs.Parsing.{within_of, stopped_from, takes_some}
use Rattle.vx_source_types.proofs.scalar_parser.read_scalar.Goals as goal

answer : ScalarStep → ScalarAnswer
answer st = Ok (step_of st)

goes_on : (said : ScalarAnswer) (st : ScalarStep) (next : ScalarMode) → said ≡ Ok (step_of st) → st ≡ More next → said ≡ Ok (more (mode_of next))
unfolding answer
goes_on said st next p q = p ∙ ap answer q

ends : (said : ScalarAnswer) (st : ScalarStep) (c : Constant) → said ≡ Ok (step_of st) → st ≡ Done c → said ≡ Ok (done c)
unfolding answer
ends said st c p q = p ∙ ap answer q

pub loop-mode-init : goal.loop-mode-init
loop-mode-init c =
    let t = c.in_ok-first.ensures in
    (omega arith, omega arith, one_more (scalar_step c.args.nesting) stays t.token c.in_ok-mode.ensures)

pub returns-in-Ok-Done : goal.returns-in-Ok-Done
returns-in-Ok-Done c =
    let t = c.in_ok-found.ensures in
    within_of (scalar_step c.args.nesting) scalar_due c.args.text.now (λ d. d) c.whole.result
    (finished (scalar_step c.args.nesting) (λ d. d) c.whole.result (lexeme_of c.in_ok-found.found.token) c.in-Ok-Done.scalar c.loop-mode.from c.in_ok-found.found.at c.loop-mode.invariant.2 t.token
    (ends _ c.in-Ok-Done.field-0 c.in-Ok-Done.scalar c.in-Ok-Done.ensures c.in-Ok-Done.field-0-is) c.whole.ensures (omega arith) t.place)

pub returns-in-Err : goal.returns-in-Err
returns-in-Err c =
    let t = c.in_ok-found.ensures in
    stopped_from (scalar_step c.args.nesting) (λ d. d) step_of c.in-Err.error _ c.loop-mode.from c.in_ok-found.found.at c.loop-mode.invariant.2 t.token c.in-Err.ensures (omega arith) c.loop-mode.invariant.1

pub returns-in_err-mode : goal.returns-in_err-mode
returns-in_err-mode c =
    let t = c.in_ok-first.ensures in
    let e = c.in_err-mode.field-0.0 in
    let is : c.from_residual-in_err-mode.result ≡ Err e = search rules in
    let stop = stopped (scalar_step c.args.nesting) (λ (d : Constant). d) begun_of e 0 c.in_ok-first.first.at stays t.token c.in_err-mode.ensures (omega arith) t.place in
    subst (λ r. ParsesWithin (scalar_step c.args.nesting) scalar_due c.args.text.now (λ d. d) r) (sym is) (within_of (scalar_step c.args.nesting) scalar_due c.args.text.now (λ d. d) (Err e) stop)

pub loop-mode-preserved : goal.loop-mode-preserved
loop-mode-preserved c =
    let t = c.in_ok-found.ensures in
    (omega arith, c.loop-mode.invariant.1, one_more (scalar_step c.args.nesting) c.loop-mode.invariant.2 t.token (goes_on _ c.in-Ok-More.field-0 c.in-Ok-More.next c.in-Ok-More.ensures c.in-Ok-More.field-0-is))

pub loop-mode-smaller : goal.loop-mode-smaller
loop-mode-smaller c =
    let t = c.in_ok-found.ensures in
    let more = takes_some c.args.nesting (mode_of c.loop-mode.mode) _ c.args.text.now c.loop-mode.from c.in_ok-found.found.at c.in_ok-found.found.end _ _ t.token t.place t.within.0 t.within.1 t.forward
    (goes_on _ c.in-Ok-More.field-0 c.in-Ok-More.next c.in-Ok-More.ensures c.in-Ok-More.field-0-is) in
    omega arith
