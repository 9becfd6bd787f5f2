use Rattle.std.proofs.Common.{rules}
use Rattle.std.specs.Prelude.{IsFalse}
use Rattle.vx_rewrite_fusing.proofs.Apart.{unbounded_both}
use Rattle.vx_rewrite_fusing.proofs.conjunction.+is_bounded.Goals as goal

pub returns-else-is_bounded : goal.returns-else-is_bounded
returns-else-is_bounded t c = λ f.
    let left : IsFalse c.is_bounded.result = search rules in
    unbounded_both c.args.side c.in-Some.ensures (c.is_bounded.ensures left) (c.is_bounded-else-is_bounded.ensures f)
