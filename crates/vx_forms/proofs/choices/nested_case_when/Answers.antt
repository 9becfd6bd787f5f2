use Rattle.std.proofs.Common.{◌≡◌, ap, length, rules}
use Rattle.vx_build.proofs.CaseOperands.{length-case_operands}
use Rattle.vx_forms.proofs.choices.nested_case_when.Goals as goal

pub of_function-requires : goal.of_function-requires
of_function-requires g c =
    let counted = length-case_operands c.in_ok-pairs.pairs.items c.args.else_value in
    let made = ap length c.in_ok-operands.ensures in
    let given = c.in_ok-children.ensures.count in
    let pairs : length c.in_ok-pairs.pairs.items ≡ g.row.N = search rules in
    let has = c.is_some.ensures in
    cc
