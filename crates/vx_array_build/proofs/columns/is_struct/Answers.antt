use Rattle.std.proofs.Common.{◌≡◌, ap, sym, arith, length, subst}
use Rattle.std.proofs.lemmas.Bool.{eqb-true}
use Rattle.vx_value.specs.Views.{value_of}
use Rattle.vx_array_build.specs.Filled.{HasItems}
use Rattle.vx_array_build.proofs.Filling.{has_items}
use Rattle.vx_array_build.proofs.columns.is_struct.Goals as goal

pub returns-in-Struct : goal.returns-in-Struct
returns-in-Struct c = λ e.
    let v = c.in-Struct.items in
    let same : c.len.result ≡ c.args.count = eqb-true c.len.result c.args.count e in
    let many : c.args.count ≡ length v.items = omega (arith, same, c.len.ensures, v.ok.0) in
    subst (HasItems c.args.count) (ap value_of (sym c.in-Struct.is)) (has_items v c.args.count many)
