use Rattle.std.proofs.Common.{◌≡◌, rules}
use Rattle.vx_array_kernels.proofs.Told.{told_numbers}
use Rattle.vx_array_kernels.proofs.comparison.told_in.Goals as goal

pub returns-in_ok-told-in-Some : goal.returns-in_ok-told-in-Some
returns-in_ok-told-in-Some g c =
    let one : g.T.Number.number c.in-Some.other ≡ c.args.number.now = search rules in
    told_numbers g.T.Number.number c.args.comparison c.args.numbers.now c.as_slice.result.now (g.T.Number.number c.in-Some.other) c.args.number.now _ c.as_slice.ensures one c.compare.ensures
