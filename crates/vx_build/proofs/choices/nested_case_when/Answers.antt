use Rattle.std.proofs.Common.{length, ap}
use Rattle.vx_build.proofs.CaseOperands.{length-case_operands}
use Rattle.vx_build.proofs.choices.nested_case_when.Goals as goal

pub of_function-requires : goal.of_function-requires
of_function-requires g c =
    let counted = length-case_operands c.args.when_then_pairs.items c.args.else_value in
    let made = ap length c.in_ok-children.ensures in
    cc
