use Rattle.std.proofs.Common.{subst, sym}
use Rattle.vx_rewrite_fusing.specs.Conjuncts.{MergeTo}
use Rattle.vx_rewrite_fusing.proofs.Pairs.{other_item, from_the_left, from_the_right}
use Rattle.vx_rewrite_fusing.proofs.Refusals.{found_as}
use Rattle.vx_rewrite_fusing.proofs.ranges.merged.Goals as goal

pub returns-in-Below-Above : goal.returns-in-Below-Above
returns-in-Below-Above c = λ x y e f.
    let one = from_the_left c.args.c c.args.d x y e f c.in-Below-Above.is-0 c.in-Below-Above.is-1 in
    found_as _ _ _ _ c.between_of_one_item.result (other_item c.args.c c.args.d x y e f) (λ none same. none (_, one same)) (λ b done. subst (MergeTo x y) (sym done.1) (one done.0)) c.between_of_one_item.ensures

pub returns-in-Above-Below : goal.returns-in-Above-Below
returns-in-Above-Below c = λ x y e f.
    let one = from_the_right c.args.c c.args.d x y e f c.in-Above-Below.is-0 c.in-Above-Below.is-1 in
    found_as _ _ _ _ c.between_of_one_item-in-Above-Below.result (λ apart. other_item c.args.c c.args.d x y e f (λ same. apart (sym same))) (λ none same. none (_, one (sym same))) (λ b done. subst (MergeTo x y) (sym done.1) (one (sym done.0)))
    c.between_of_one_item-in-Above-Below.ensures
