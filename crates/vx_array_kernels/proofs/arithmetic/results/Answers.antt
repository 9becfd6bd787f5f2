use Rattle.std.proofs.Common.{◌≡◌, ◌∙◌, ap, length, map, get_or, arith, rules}
use Rattle.std.proofs.lemmas.List.{with_items_is}
use Rattle.vx_value.specs.Types.{int}
use Rattle.vx_array.specs.Shown.{shown}
use Rattle.vx_array.proofs.Held.{rows-Numbers}
use Rattle.vx_array_kernels.proofs.Computed.{results_shown}
use Rattle.vx_array_kernels.proofs.arithmetic.results.Goals as goal

pub returns : goal.returns
returns g c f h left right =
    let n = c.args.count in
    let rows = c.write_results.new.rows in
    let zs = c.in_ok-new.field-0 in
    let long : length c.as_mut_slice.result.now ≡ n = omega (arith, ap length c.as_mut_slice.ensures.value, c.in_ok-results.ensures.len) in
    let same : zs ≡ rows = c.in_ok-new.ensures ∙ with_items_is c.in_ok-results.results rows (omega (arith, c.write_results.auto.rows, c.as_mut_slice.ensures.len)) in
    let are = c.write_results.ensures (search rules) f h (λ i x lt. left i x (omega (arith, long))) (λ i y lt. right i y (omega (arith, long))) in
    results_shown g.T.Number.fits g.T.Number.number c.args.computation n c.args.validity zs f h _ c.requires.rows (ap length same ∙ omega (arith, c.write_results.auto.rows, long)) (λ k lt. are.0 k (omega (arith, long)))
    (λ k x lt is. are.1 k x (omega (arith, long)) (is ∙ ap (λ l. get_or l k x) same))
    (rows-Numbers c.numbers.result c.args.validity ∙ ap (λ ns. shown c.args.validity (map int ns)) c.numbers.ensures)
