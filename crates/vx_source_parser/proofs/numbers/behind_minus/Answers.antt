use Rattle.std.proofs.Common.{◌∙◌, sym}
use Rattle.std.proofs.lemmas.Str.{IsCharBoundary-after_ascii}
use Rattle.vx_source_parser.proofs.BehindOperands.{begins_with_minus}
use Rattle.vx_source_parser.proofs.numbers.behind_minus.Goals as goal

pub range_from-requires : goal.range_from-requires
range_from-requires c =
    λ _. let minus = begins_with_minus c.args.digits.now (sym c.is_below_zero.ensures ∙ c.if-is_below_zero.true) in
    IsCharBoundary-after_ascii c.args.digits.now 0 c.utf8.digits minus.0 minus.1
