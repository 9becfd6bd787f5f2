use Rattle.std.proofs.Common.{◌≡◌, ◌+◌, ◌<◌, Err, drop, length, sym, subst, ◌∙◌, arith, rules}
use Rattle.vx_value.specs.Columns.{Constant}
use Rattle.vx_source_types.specs.ScalarReading.{scalar_due, scalar_step}
use Rattle.vx_source_types.specs.ScalarViews.{mode_of}
use Rattle.vx_source_grammar.specs.OptionReading.{read_all}
use Rattle.vx_source_operands.specs.Places.{ReadsUpTo}
use Rattle.vx_source_operands.specs.OperandViews.{lexemes_of}
use Rattle.vx_source_operands.proofs.ReadAll.{goes_behind, next, stopped}
use Rattle.vx_source_operands.proofs.scalars.scalar.Goals as goal

pub loop-found-preserved : goal.loop-found-preserved
loop-found-preserved c =
    let tokens = c.args.tokens.now in
    let i = c.loop-found.found-index in
    let h : i < length tokens = omega arith in
    goes_behind (scalar_step c.args.context.room) mode_of c.in_ok-mode.mode (lexemes_of (drop (i + 1) tokens)) _ _
    (c.loop-found.invariant ∙ next (scalar_step c.args.context.room) (mode_of c.loop-found.mode) tokens i c.found-item.result h c.found-item.is) c.in_ok-mode.ensures.reads

pub returns-in_err-mode : goal.returns-in_err-mode
returns-in_err-mode c =
    let tokens = c.args.tokens.now in
    let i = c.loop-found.found-index in
    let h : i < length tokens = omega arith in
    let e = c.in_err-mode.field-0.0 in
    let is : c.from_residual.result ≡ Err e = search rules in
    record {
      reads =
          subst (λ r. ReadsUpTo c.args.context.found.now.at (λ (d : Constant). d) r (read_all (scalar_step c.args.context.room) scalar_due (lexemes_of tokens))) (sym is)
          (stopped (scalar_step c.args.context.room) mode_of (λ (d : Constant). d) c.args.context.found.now.at e (lexemes_of (drop (i + 1) tokens)) _ _
          (c.loop-found.invariant ∙ next (scalar_step c.args.context.room) (mode_of c.loop-found.mode) tokens i c.found-item.result h c.found-item.is) c.in_err-mode.ensures.reads);
    }
