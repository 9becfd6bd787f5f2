use Rattle.std.proofs.Common.{ℕ, ℤ, get_or, map, pos, subst, rules}
use Rattle.vx_array_kernels.specs.Results.{FindsComputed}
use Rattle.vx_array_kernels.proofs.arithmetic.with.Goals as goal

pub returns : goal.returns
returns g c =
    let num = g.T.Number.number in
    let f : ℕ → ℤ = λ k. get_or (map num c.args.part.now) k (pos 0) in
    let h : ℕ → ℤ = λ _. num c.args.other in
    subst (λ v. FindsComputed g.T.Number.fits c.args.computation c.args.count v f h c.results.result) c.in_ok-valid.ensures.cases (c.results.ensures f h (λ i x lt post. search rules) (λ i y lt post. search rules))
