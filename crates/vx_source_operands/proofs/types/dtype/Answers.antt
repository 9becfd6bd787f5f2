use Rattle.std.proofs.Common.{◌≡◌, ◌+◌, ◌<◌, Err, drop, length, sym, subst, ◌∙◌, arith, rules}
use Rattle.vx_value.specs.Views.{type_of}
use Rattle.vx_source_types.specs.TypeReading.{type_start, type_step}
use Rattle.vx_source_types.specs.TypeViews.{reader_of}
use Rattle.vx_source_grammar.specs.OptionReading.{read_all}
use Rattle.vx_source_operands.specs.Places.{ReadsUpTo}
use Rattle.vx_source_operands.specs.OperandViews.{lexemes_of}
use Rattle.vx_source_operands.proofs.ReadAll.{goes_behind, next, stopped}
use Rattle.vx_source_operands.proofs.types.dtype.Goals as goal

pub loop-found-preserved : goal.loop-found-preserved
loop-found-preserved c =
    let tokens = c.args.tokens.now in
    let i = c.loop-found.found-index in
    let h : i < length tokens = omega arith in
    goes_behind type_step reader_of c.in_ok-reader.reader (lexemes_of (drop (i + 1) tokens)) _ _
    (c.loop-found.invariant ∙ next type_step (reader_of c.loop-found.reader) tokens i c.found-item.result h c.found-item.is) c.in_ok-reader.ensures.reads

pub returns-in_err-reader : goal.returns-in_err-reader
returns-in_err-reader c =
    let tokens = c.args.tokens.now in
    let i = c.loop-found.found-index in
    let h : i < length tokens = omega arith in
    let e = c.in_err-reader.field-0.0 in
    let is : c.from_residual.result ≡ Err e = search rules in
    record {
      reads =
          subst (λ r. ReadsUpTo c.args.context.found.now.at type_of r (read_all type_step (type_start c.args.context.room) (lexemes_of tokens))) (sym is)
          (stopped type_step reader_of type_of c.args.context.found.now.at e (lexemes_of (drop (i + 1) tokens)) _ _
          (c.loop-found.invariant ∙ next type_step (reader_of c.loop-found.reader) tokens i c.found-item.result h c.found-item.is) c.in_err-reader.ensures.reads);
    }
