use Rattle.std.proofs.Common.{sym, subst, ap, ◌∙◌}
use Rattle.std.proofs.lemmas.Result.{IfOk-weaker}
use Rattle.vx_rewrite_fusing.specs.Conjuncts.{MergeTo}
use Rattle.vx_rewrite_fusing.specs.Places.{opposite}
use Rattle.vx_rewrite_fusing.proofs.Pairs.{from_the_left, from_the_right, opposite_twice}
use Rattle.vx_rewrite_fusing.proofs.ranges.between_of.Goals as goal

pub returns-in-Below-clause-merged : goal.returns-in-Below-clause-merged
returns-in-Below-clause-merged c = λ x y e f.
    let other = sym (opposite_twice c.args.d.side) ∙ ap opposite (sym c.requires.sides ∙ c.in-Below.is) in
    IfOk-weaker c.between.result _ _ (λ b node. subst (MergeTo x y) (sym node) (from_the_left c.args.c c.args.d x y e f c.in-Below.is other c.requires.item)) c.between.ensures.node

pub returns-in-Above-clause-merged : goal.returns-in-Above-clause-merged
returns-in-Above-clause-merged c = λ x y e f.
    let other = sym (opposite_twice c.args.d.side) ∙ ap opposite (sym c.requires.sides ∙ c.in-Above.is) in
    IfOk-weaker c.between-in-Above.result _ _ (λ b node. subst (MergeTo x y) (sym node) (from_the_right c.args.c c.args.d x y e f c.in-Above.is other c.requires.item)) c.between-in-Above.ensures.node
