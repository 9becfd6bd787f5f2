use Rattle.std.proofs.Common.{◌≡◌, ap, subst, sym, true}
use Rattle.vx_source_types.specs.Views.{lexeme_of}
use Rattle.vx_source_operands.specs.Places.{ReadsUpTo}
use Rattle.vx_source_operands.specs.OperandViews.{frames_of, operand_of, step_of}
use Rattle.vx_source_parser.proofs.BehindOperands.{follows_number, is_numeral}
use Rattle.vx_source_parser.proofs.after.after_tight.Goals as goal

pub returns-in-Number : goal.returns-in-Number
returns-in-Number c =
    let number : is_numeral (lexeme_of c.args.context.found.now.token) ≡ true = ap (λ t. is_numeral (lexeme_of t)) c.in-Number.is in
    record { reads = subst (λ said. ReadsUpTo c.args.context.found.now.at step_of c.after_number.result said) (sym (follows_number (frames_of c.args.frames.items) c.args.context.room (operand_of c.args.operand) _ number)) c.after_number.ensures.reads }

pub returns-in-Point : goal.returns-in-Point
returns-in-Point c =
    let number : is_numeral (lexeme_of c.args.context.found.now.token) ≡ true = ap (λ t. is_numeral (lexeme_of t)) c.in-Point.is in
    record { reads = subst (λ said. ReadsUpTo c.args.context.found.now.at step_of c.after_number-in-Point.result said) (sym (follows_number (frames_of c.args.frames.items) c.args.context.room (operand_of c.args.operand) _ number)) c.after_number-in-Point.ensures.reads }
