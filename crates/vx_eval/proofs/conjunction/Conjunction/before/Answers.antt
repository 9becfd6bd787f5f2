use Rattle.std.proofs.Common.{◌≡◌, ◌++◌, ◌∙◌, sym, ap, subst}
use Rattle.vx_eval.specs.Items.{AllLong, conjoined}
use Rattle.vx_eval.proofs.Conjoined.{conjoined_both, both_long, joined_all, counts_same}
use Rattle.vx_eval.proofs.conjunction.Conjunction.before.Goals as goal

pub invariant_of-joined : goal.invariant_of-joined
invariant_of-joined c =
    let xs = c.joined.inside.items.items in
    let ys = c.other.inside.items.items in
    let now = c.loop-k.joined-inside.items.items in
    let those = c.as_slice-others.ensures.value in
    let all : now ≡ xs ++ ys = joined_all c.loop-k.k xs c.as_slice-others.result.now now c.loop-k-test.false c.loop-k.invariant.items ∙ ap (λ l. xs ++ l) those in
    let same = counts_same c.joined.inside.count c.other.inside.count xs ys c.args.self c.args.other.now c.joined.view_is c.other.view_is c.requires in
    subst (λ n. AllLong n now) (sym c.loop-k.invariant.count) (both_long c.joined.inside.count c.other.inside.count xs ys now c.joined.invariant c.other.invariant same all)

pub returns : goal.returns
returns c =
    let xs = c.joined.inside.items.items in
    let ys = c.other.inside.items.items in
    let now = c.loop-k.joined-inside.items.items in
    let those = c.as_slice-others.ensures.value in
    let all : now ≡ xs ++ ys = joined_all c.loop-k.k xs c.as_slice-others.result.now now c.loop-k-test.false c.loop-k.invariant.items ∙ ap (λ l. xs ++ l) those in
    ap (λ n. conjoined n now) c.loop-k.invariant.count
    ∙ conjoined_both c.joined.inside.count c.other.inside.count xs ys now c.args.self c.args.other.now (sym c.joined.view_is) (sym c.other.view_is) c.requires all
