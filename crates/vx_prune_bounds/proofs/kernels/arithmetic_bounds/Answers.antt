use Rattle.std.proofs.Common.{◌≡◌, rules, sym, subst}
use Rattle.vx_value.specs.Types.{int}
use Rattle.vx_fn.specs.Values.{computed}
use Rattle.vx_prune_bounds.specs.Bounds.{Bounds, Contains}
use Rattle.vx_prune_bounds.specs.Kernels.{arithmetic_bounds}
use Rattle.vx_prune_bounds.specs.Views.{bounds_view}
use Rattle.vx_prune_bounds.proofs.Sums.{a_number, computed-sound}
use Rattle.vx_prune_bounds.proofs.kernels.arithmetic_bounds.Goals as goal

pub returns-clause-hold : goal.returns-clause-hold
returns-clause-hold c =
    let a = c.args.arithmetic in
    let x = bounds_view c.args.x.now in
    let y = bounds_view c.args.y.now in
    let e : bounds_view (record { null = c.if-x.result; value = c.if-x-2.result; least = c.whole_endpoint.result; greatest = c.whole_endpoint-2.result }) ≡ arithmetic_bounds a x y = search rules in
    λ i j h k. subst (λ (b : Bounds). Contains b (computed a (int i) (int j))) (sym e) (computed-sound a x y a_number a_number h k)
