use Rattle.std.proofs.Common.{◌≡◌, ◌∙◌, ap, rules}
use Rattle.vx_value.specs.Types.{is_null_datum}
use Rattle.vx_value.specs.Views.{value_of}
use Rattle.vx_array.specs.Rows.{lanes_rows}
use Rattle.vx_array.proofs.Held.{rows-Same}
use Rattle.vx_array_kernels.proofs.NullRows.{same_null, nulls_are}
use Rattle.vx_array_kernels.proofs.nulls.is_null.Goals as goal

pub returns-in-Same : goal.returns-in-Same
returns-in-Same c =
    let d = value_of c.in-Same.value.value in
    let told : c.is_null.result ≡ is_null_datum d = search rules in
    same_null c.is_null.result c.in-Same.count d (lanes_rows c.args.input.now) (lanes_rows c.in_ok-repeated.field-0) (ap lanes_rows c.in-Same.is ∙ rows-Same c.in-Same.value c.in-Same.count) told c.in_ok-repeated.ensures

pub returns-in_ok-truths-in-Some : goal.returns-in_ok-truths-in-Some
returns-in_ok-truths-in-Some c = nulls_are (lanes_rows c.args.input.now) c.in-Some.values c.in_ok-turned-in-Some.field-0 (lanes_rows c.in_ok-truths-in-Some.field-0) (search rules) c.in_ok-turned-in-Some.ensures c.in_ok-truths-in-Some.ensures
