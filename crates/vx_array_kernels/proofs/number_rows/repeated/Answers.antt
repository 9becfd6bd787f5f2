use Rattle.std.proofs.Common.{◌≡◌, ◌∙◌, ap, sym, map}
use Rattle.std.proofs.Math.ListN.{replicate}
use Rattle.vx_value.specs.Types.{int}
use Rattle.vx_value.specs.Views.{value_of}
use Rattle.vx_array.proofs.Reading.{value_of-Int, value_of-Null}
use Rattle.vx_array_kernels.proofs.Chosen.{found_all, null_numbers}
use Rattle.vx_array_kernels.proofs.number_rows.repeated.Goals as goal

pub returns-in_ok-valid-in-Null : goal.returns-in_ok-valid-in-Null
returns-in_ok-valid-in-Null g c =
    null_numbers c.args.count c.in_ok-valid-in-Null.valid (map g.T.Number.number c.in_ok-numbers-in-Null.numbers.items) c.in_ok-valid-in-Null.ensures ∙ ap (replicate c.args.count) (sym (ap value_of c.in-Null.is ∙ value_of-Null))

pub returns-in-Int : goal.returns-in-Int
returns-in-Int g c =
    let n = c.args.count in
    found_all c.repeated_number.result (λ r. r ≡ replicate n (int c.in-Int.number)) (λ r. r ≡ replicate n (value_of c.args.value.now)) (λ r is. is ∙ ap (replicate n) (sym (ap value_of c.in-Int.is ∙ value_of-Int c.in-Int.number))) c.repeated_number.ensures
