use Rattle.std.proofs.Common.{int_div, FitsSigned, rules}
use Rattle.std.specs.Int.{w128}
use Rattle.std.proofs.lemmas.Int.{to_z-of_z}
use Rattle.vx_prune_bounds.proofs.Spanned.{nearest-outermost}
use Rattle.vx_prune_bounds.proofs.spans.quotient_end.Goals as goal

pub returns : goal.returns
returns c =
    let x = c.args.x in
    let y = c.args.y in
    let a : FitsSigned w128 x.from = search rules in
    let b : FitsSigned w128 x.to = search rules in
    let e : FitsSigned w128 y.from = search rules in
    let d : FitsSigned w128 y.to = search rules in
    nearest-outermost c.args.side (int_div x.from y.from) (int_div x.from y.to) (int_div x.to y.from) (int_div x.to y.to) _ _ _ _ _
    (rw (to_z-of_z w128 x.from a, to_z-of_z w128 y.from e) at c.quotient.ensures)
    (rw (to_z-of_z w128 x.from a, to_z-of_z w128 y.to d) at c.quotient-2.ensures)
    (rw (to_z-of_z w128 x.to b, to_z-of_z w128 y.from e) at c.quotient-3.ensures)
    (rw (to_z-of_z w128 x.to b, to_z-of_z w128 y.to d) at c.quotient-4.ensures)
    c.outermost.ensures
