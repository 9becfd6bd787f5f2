use Rattle.std.proofs.Common.{◌≡◌, ℕ, List, refl, sym, subst, rules}
use Rattle.vx_source_types.specs.declared.token.Sign.TheVariants.{CloseParen}
use Rattle.vx_source_types.specs.Tokens.{Lexeme, sign}
use Rattle.vx_source_types.specs.Views.{lexeme_of}
use Rattle.vx_source_grammar.specs.Beginning.{begins, first_child_at}
use Rattle.vx_source_grammar.specs.States.{Frame}
use Rattle.vx_source_operands.specs.Places.{ReadsUpTo}
use Rattle.vx_source_operands.specs.OperandViews.{frames_of, step_of}
use Rattle.vx_source_parser.proofs.calls.first_child.Goals as goal
use Rattle.vx_source_parser.proofs.calls.first_child.Goals.{in_default-via-in-Sign+in_default, in_default-via-in_default}

-- what is no closing parenthesis begins an operand
begins_child : (fs : List Frame) (r : ℕ) (x : Lexeme) → ¬ (x ≡ sign CloseParen) → first_child_at fs r x ≡ begins fs r x
begins_child fs r (sign CloseParen) h = absurd (h refl)
begins_child fs r x h = refl

pub returns-in_default : goal.returns-in_default
returns-in_default c =
    let at = c.args.context.found.now.at in
    let fs = frames_of c.args.frames.items in
    let r = c.args.context.room in
    let x = lexeme_of c.args.context.found.now.token in
    elim c.in_default.branch [
      | in_default-via-in-Sign+in_default w ↦ record { reads = subst (λ said. ReadsUpTo at step_of c.begin.result said) (sym (begins_child fs r x (λ e. search rules))) c.begin.ensures.reads }
      | in_default-via-in_default w ↦ record { reads = subst (λ said. ReadsUpTo at step_of c.begin.result said) (sym (begins_child fs r x (λ e. search rules))) c.begin.ensures.reads }
    ]
