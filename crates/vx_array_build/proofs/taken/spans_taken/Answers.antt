use Rattle.std.proofs.Common.{◌≡◌, ap, ◌∙◌, arith, List, ℕ, get_or, map}
use Rattle.std.proofs.lemmas.List.{take_all}
use Rattle.vx_array.specs.Kinds.{spans_in}
use Rattle.vx_array_build.proofs.Taking.{ok_map, span_taken}
use Rattle.vx_array_build.proofs.taken.spans_taken.Goals as goal

pub loop-i-preserved : goal.loop-i-preserved
loop-i-preserved c = λ d.
    span_taken (spans_in c.args.spans.now) c.loop-i.taken c.in_ok-taken-2.taken c.args.indices.now c.loop-i.i c.span.result.now d (c.loop-i.invariant d) c.in_ok-taken-2.ensures c.loop-i-test.true (c.requires c.loop-i.i c.loop-i-test.true) c.span.ensures

pub returns : goal.returns
returns c =
    let rows = spans_in c.args.spans.now in
    ok_map c.finish.result (λ s. spans_in s ≡ c.loop-i.taken) (λ s. (d : List ℕ) → spans_in s ≡ map (λ i. get_or rows i d) c.args.indices.now)
    (λ s is d. is ∙ c.loop-i.invariant d ∙ ap (map (λ i. get_or rows i d)) (take_all c.loop-i.i c.args.indices.now (omega arith))) c.finish.ensures
