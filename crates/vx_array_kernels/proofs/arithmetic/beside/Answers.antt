use Rattle.std.proofs.Common.{get_or, map, pos, rules}
use Rattle.vx_array_kernels.proofs.arithmetic.beside.Goals as goal

pub returns : goal.returns
returns g c =
    let num = g.T.Number.number in
    c.results.ensures (λ k. get_or (map num c.args.part.now) k (pos 0)) (λ k. get_or (map num c.args.others.now) k (pos 0)) (λ i x lt post. search rules) (λ i y lt post. search rules)
