use Rattle.std.proofs.Common.{◌≡◌, ◌∙◌, ap, arith, of_z, rules, subst, sym, to_z}
use Rattle.std.specs.Int.{w128}
use Rattle.std.proofs.lemmas.Int.{ints}
use Rattle.json.specs.Print.{IsNumber}
use Rattle.vx_value.specs.Views.{type_of}
use Rattle.vx_data.specs.Numbers.{number_text}
use Rattle.vx_data.proofs.JsonNumbers.{undated_is_number}
use Rattle.vx_data.proofs.json_lines.write.write_number.Goals as goal

pub number-requires : goal.number-requires
number-requires c =
    let i = c.args.number in
    let t = type_of c.args.dtype.now in
    let same : to_z w128 (of_z w128 i) ≡ i = search rules in
    let text = c.as_str-in-Decimal.ensures.value ∙ c.in_ok-number_text-in-Decimal.ensures ∙ ap (λ j. number_text j t) same in
    subst IsNumber (sym text) (undated_is_number i t (omega (arith, ints, c.ranges.number)) (search rules))
