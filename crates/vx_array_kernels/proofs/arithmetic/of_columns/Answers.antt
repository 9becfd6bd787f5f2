use Rattle.std.proofs.Common.{sym, subst, map, get_or, pos}
use Rattle.vx_array.specs.Kinds.{numbers_in}
use Rattle.vx_array_kernels.specs.Results.{FindsComputed}
use Rattle.vx_array_kernels.proofs.arithmetic.of_columns.Goals as goal

pub returns-in-Some-Some : goal.returns-in-Some-Some
returns-in-Some-Some g c =
    let found = λ (ns ms : _). FindsComputed g.T.Number.fits c.args.computation c.args.count c.args.both (λ k. get_or ns k (pos 0)) (λ k. get_or ms k (pos 0)) c.beside.result in
    subst (λ ms. found (numbers_in c.args.numbers.now) ms) (sym c.in-Some-Some.ensures') (subst (λ ns. found ns (map g.T.Number.number c.in-Some-Some.other.now)) (sym c.in-Some-Some.ensures) c.beside.ensures)
