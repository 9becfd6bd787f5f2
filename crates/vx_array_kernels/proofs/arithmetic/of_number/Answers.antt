use Rattle.std.proofs.Common.{◌≡◌, sym, subst, get_or, pos, rules}
use Rattle.vx_array.specs.Kinds.{numbers_in}
use Rattle.vx_array_kernels.specs.Results.{FindsComputed}
use Rattle.vx_array_kernels.proofs.arithmetic.of_number.Goals as goal

pub returns-in-Some-Some : goal.returns-in-Some-Some
returns-in-Some-Some g c =
    let found = λ (z : _) (ns : _). FindsComputed g.T.Number.fits c.args.computation c.args.count c.args.validity.now (λ _. z) (λ k. get_or ns k (pos 0)) c.of_one.result in
    let one : g.T.Number.number c.in-Some-Some.first ≡ c.args.number.now = search rules in
    subst (λ z. found z (numbers_in c.args.numbers.now)) one (subst (λ ns. found (g.T.Number.number c.in-Some-Some.first) ns) (sym c.in-Some-Some.ensures') c.of_one.ensures)
