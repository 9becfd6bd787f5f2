use Rattle.std.proofs.Common.{◌≡◌, sym, subst, get_or, pos, rules}
use Rattle.vx_array.specs.Kinds.{numbers_in}
use Rattle.vx_array_kernels.specs.Results.{FindsComputed}
use Rattle.vx_array_kernels.proofs.arithmetic.with_number.Goals as goal

pub returns-in-Some-Some : goal.returns-in-Some-Some
returns-in-Some-Some g c =
    let found = λ (ns : _) (z : _). FindsComputed g.T.Number.fits c.args.computation c.args.count c.args.validity.now (λ k. get_or ns k (pos 0)) (λ _. z) c.with.result in
    let one : g.T.Number.number c.in-Some-Some.other ≡ c.args.number.now = search rules in
    subst (λ z. found (numbers_in c.args.numbers.now) z) one (subst (λ ns. found ns (g.T.Number.number c.in-Some-Some.other)) (sym c.in-Some-Some.ensures) c.with.ensures)
