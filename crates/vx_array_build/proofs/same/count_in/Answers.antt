use Rattle.std.proofs.Common.{◌≡◌, ap, sym, ◌∙◌, true, rules}
use Rattle.std.proofs.Math.ListN.{replicate}
use Rattle.vx_value.specs.Deciding.{equal_datum-Decides}
use Rattle.vx_value.specs.Equality.{equal_datum}
use Rattle.vx_value.specs.Views.{value_of}
use Rattle.vx_array.specs.Rows.{lanes_rows}
use Rattle.vx_array.proofs.Held.{rows-Same}
use Rattle.vx_array_build.proofs.same.count_in.Goals as goal

pub returns-then-eq : goal.returns-then-eq
returns-then-eq c =
    let s = c.in-Same in
    let told : equal_datum (value_of c.as_ref.result.now) (value_of c.args.value.now) ≡ true = search rules in
    let lent : value_of c.as_ref.result.now ≡ value_of s.other.value = search rules in
    let one = sym lent ∙ (equal_datum-Decides (value_of c.as_ref.result.now) (value_of c.args.value.now)).0 told in
    ap lanes_rows s.is ∙ rows-Same s.other s.count ∙ ap (replicate s.count) one
