use Rattle.std.proofs.Common.{◌≡◌, ◌∙◌, ap, map, refl, sym}
use Rattle.std.proofs.Math.ListN.{replicate}
use Rattle.vx_value.specs.Types.{list_of}
use Rattle.vx_value.specs.Views.{data_view, value_of}
use Rattle.vx_fn.specs.Values.{contained}
use Rattle.vx_array.specs.Rows.{lanes_rows}
use Rattle.vx_array.proofs.Found.{found_map}
use Rattle.vx_array.proofs.Held.{rows-Same}
use Rattle.vx_array_kernels.specs.Truths.{both_rows}
use Rattle.vx_array_kernels.proofs.Among.{value_of-List}
use Rattle.vx_array_kernels.proofs.Told.{both_before}
use Rattle.vx_array_kernels.proofs.membership.list_contains.Goals as goal

pub returns-in-List : goal.returns-in-List
returns-in-List c =
    let m = c.in-Same in
    let xs = lanes_rows c.args.pair.lhs.now in
    let ys = lanes_rows c.args.pair.rhs.now in
    let n = c.args.pair.count in
    let d = list_of (data_view c.as_slice.result.now) in
    let held : value_of m.list.value ≡ d = ap value_of (sym c.as_ref.ensures ∙ c.in-List.is) ∙ value_of-List c.in-List.items ∙ ap (λ l. list_of (data_view l)) (sym c.as_slice.ensures.value) in
    found_map c.among.result (λ out. lanes_rows out ≡ map (contained d) ys) (λ out. lanes_rows out ≡ both_rows n contained xs ys)
    (λ out is. both_before n m.field-1 contained (λ v w. contained w v) xs ys (lanes_rows out) d (λ v w. refl) c.requires.0 c.requires.1 (ap lanes_rows m.is ∙ rows-Same m.list m.field-1 ∙ ap (replicate m.field-1) held) is) c.among.ensures
