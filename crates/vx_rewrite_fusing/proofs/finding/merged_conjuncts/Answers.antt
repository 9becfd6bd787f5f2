use Rattle.std.proofs.Common.{rules}
use Rattle.std.specs.Prelude.{IsFalse}
use Rattle.vx_tree.specs.Views.{bound_of}
use Rattle.vx_rewrite_fusing.specs.declared.ranges.Side.TheVariants.{Below, Above}
use Rattle.vx_rewrite_fusing.proofs.Apart.{unbounded_fused}
use Rattle.vx_rewrite_fusing.proofs.finding.merged_conjuncts.Goals as goal
use Rattle.vx_rewrite_fusing.proofs.finding.merged_conjuncts.Goals.{then-not-is_bounded-via-then-not-is_bounded, then-not-is_bounded-via-else-not-is_bounded+then-not-is_bounded-2}

pub returns-then-not-is_bounded : goal.returns-then-not-is_bounded
returns-then-not-is_bounded c = elim c.then-not-is_bounded.branch [
  | then-not-is_bounded-via-then-not-is_bounded w ↦ (let none : IsFalse c.is_bounded.result = search rules in unbounded_fused Below (bound_of c.args.b.now) (c.is_bounded.ensures none) c.requires.apart)
  | then-not-is_bounded-via-else-not-is_bounded+then-not-is_bounded-2 w ↦ (let none : IsFalse w.is_bounded-else-not-is_bounded.result = search rules in unbounded_fused Above (bound_of c.args.b.now) (w.is_bounded-else-not-is_bounded.ensures none) c.requires.apart)
]
