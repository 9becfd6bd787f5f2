use Rattle.std.proofs.Common.{◌≡◌, Ok, sym, subst, ap, ◌∙◌, arith}
use Rattle.vx_dtype.specs.Views.{type_of}
use Rattle.vx_source_types.specs.Views.{lexeme_of}
use Rattle.vx_source_types.specs.declared.type_state.TypeReader.{TypeReader}
use Rattle.vx_source_types.specs.declared.type_state.TypeStep.{TypeStep}
use Rattle.vx_source_types.specs.declared.type_state.TypeStep.TheVariants.{More, Done}
use Rattle.vx_dtype.specs.declared.dtype.DType.{DType}
use Rattle.vx_source_types.specs.Reading.{more, done, Leads, stays}
use Rattle.vx_source_types.specs.TypeReading.{TypeAnswer, type_step, type_start}
use Rattle.vx_source_types.specs.TypeViews.{reader_of, step_of}
use Rattle.vx_source_types.proofs.Reading.{one_more, stopped, finished}
use Rattle.vx_source_types.proofs.type_parser.read_type.Goals as goal

pub loop-reader-init : goal.loop-reader-init
loop-reader-init c =
    let bs = c.args.text.now in
    (omega arith, subst (λ u. Leads type_step (type_start c.args.nesting) bs u bs) (sym c.new-reader.ensures) stays)

pub returns-in-Err : goal.returns-in-Err
returns-in-Err c =
    let t = c.in_ok-found.ensures in
    stopped type_step type_of step_of c.in-Err.error c.loop-reader.from c.in_ok-found.found.at c.loop-reader.invariant.1 t.token c.in-Err.ensures (omega arith) t.place

answer : TypeStep → TypeAnswer
answer st = Ok (step_of st)

goes_on : (said : TypeAnswer) (st : TypeStep) (next : TypeReader) → said ≡ Ok (step_of st) → st ≡ More next → said ≡ Ok (more (reader_of next))
unfolding answer
goes_on said st next p q = p ∙ ap answer q

ends : (said : TypeAnswer) (st : TypeStep) (t : DType) → said ≡ Ok (step_of st) → st ≡ Done t → said ≡ Ok (done (type_of t))
unfolding answer
ends said st t p q = p ∙ ap answer q

pub returns-in-Ok-Done : goal.returns-in-Ok-Done
returns-in-Ok-Done c =
    let t = c.in_ok-found.ensures in
    finished type_step type_of c.whole.result (lexeme_of c.in_ok-found.found.token) (type_of c.in-Ok-Done.dtype) c.loop-reader.from c.in_ok-found.found.at c.loop-reader.invariant.1 t.token
    (ends _ c.in-Ok-Done.field-0 c.in-Ok-Done.dtype c.in-Ok-Done.ensures c.in-Ok-Done.field-0-is) c.whole.ensures (omega arith) t.place

pub loop-reader-preserved-in-Ok-More : goal.loop-reader-preserved-in-Ok-More
loop-reader-preserved-in-Ok-More c =
    let t = c.in_ok-found.ensures in
    (omega arith, one_more type_step c.loop-reader.invariant.1 t.token (goes_on _ c.in-Ok-More.field-0 c.in-Ok-More.next c.in-Ok-More.ensures c.in-Ok-More.field-0-is))

pub loop-reader-preserved-in-Ok-More-2 : goal.loop-reader-preserved-in-Ok-More-2
loop-reader-preserved-in-Ok-More-2 c =
    let t = c.in_ok-found.ensures in
    (omega arith, one_more type_step c.loop-reader.invariant.1 t.token (goes_on _ c.in-Ok-More.field-0 c.in-Ok-More.next c.in-Ok-More.ensures c.in-Ok-More.field-0-is))

pub loop-reader-preserved-in-Ok-More-3 : goal.loop-reader-preserved-in-Ok-More-3
loop-reader-preserved-in-Ok-More-3 c =
    let t = c.in_ok-found.ensures in
    (omega arith, one_more type_step c.loop-reader.invariant.1 t.token (goes_on _ c.in-Ok-More.field-0 c.in-Ok-More.next c.in-Ok-More.ensures c.in-Ok-More.field-0-is))

pub loop-reader-preserved-in-Ok-More-4 : goal.loop-reader-preserved-in-Ok-More-4
loop-reader-preserved-in-Ok-More-4 c =
    let t = c.in_ok-found.ensures in
    (omega arith, one_more type_step c.loop-reader.invariant.1 t.token (goes_on _ c.in-Ok-More.field-0 c.in-Ok-More.next c.in-Ok-More.ensures c.in-Ok-More.field-0-is))

pub loop-reader-preserved : goal.loop-reader-preserved
loop-reader-preserved c =
    let t = c.in_ok-found.ensures in
    (omega arith, one_more type_step c.loop-reader.invariant.1 t.token (goes_on _ c.in-Ok-More.field-0 c.in-Ok-More.next c.in-Ok-More.ensures c.in-Ok-More.field-0-is))

pub loop-reader-preserved-in-Ok-More-5 : goal.loop-reader-preserved-in-Ok-More-5
loop-reader-preserved-in-Ok-More-5 c =
    let t = c.in_ok-found.ensures in
    (omega arith, one_more type_step c.loop-reader.invariant.1 t.token (goes_on _ c.in-Ok-More.field-0 c.in-Ok-More.next c.in-Ok-More.ensures c.in-Ok-More.field-0-is))
