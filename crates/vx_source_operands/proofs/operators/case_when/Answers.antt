use Rattle.std.proofs.Common.{ap, ◌∙◌}
use Rattle.std.specs.Prelude.{option_map}
use Rattle.vx_source_operands.specs.OperandViews.{lexemes_of}
use Rattle.vx_source_operands.specs.OptionViews.{case_of}
use Rattle.vx_source_operands.proofs.Cases.{without_inside}
use Rattle.vx_source_operands.proofs.operators.case_when.Goals as goal

pub returns-in_err-case_inside : goal.returns-in_err-case_inside
returns-in_err-case_inside c =
    ap (option_map case_of) c.from_residual.ensures
    ∙ without_inside (lexemes_of c.args.options.now) _ c.case_inside.ensures (ap (option_map (λ rest. lexemes_of rest.now)) c.in_err-case_inside.was)
