use Rattle.std.proofs.Common.{◌≡◌, rules}
use Rattle.vx_array_kernels.proofs.Chosen.{same_numbers}
use Rattle.vx_array_kernels.proofs.number_rows.repeated_number.Goals as goal

pub returns-in_ok-valid-in-Some : goal.returns-in_ok-valid-in-Some
returns-in_ok-valid-in-Some g c =
    let made = c.in_ok-numbers-in-Some in
    let one : g.T.Number.number c.in-Some.number ≡ c.args.number.now = search rules in
    same_numbers g.T.Number.number c.args.count c.in-Some.number c.args.number.now c.in_ok-valid-in-Some.valid made.numbers.items c.in_ok-valid-in-Some.ensures made.ensures.long
    (λ i y lt is.
    let post = made.ensures.each i y lt is in
    let same : y ≡ c.in-Some.number = search rules in
    same)
    one
