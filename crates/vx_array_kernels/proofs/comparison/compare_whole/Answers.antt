use Rattle.std.proofs.Common.{◌≡◌, ◌∙◌, ap, sym}
use Rattle.std.proofs.Math.ListN.{replicate}
use Rattle.vx_value.specs.Views.{value_of}
use Rattle.vx_fn.specs.Values.{compared}
use Rattle.vx_array.specs.Rows.{lanes_rows}
use Rattle.vx_array.proofs.Held.{rows-Same}
use Rattle.vx_array_kernels.specs.Asked.{asked, compared_rows}
use Rattle.vx_array_kernels.specs.Truths.{both_rows}
use Rattle.vx_array.proofs.Found.{found_map}
use Rattle.vx_array_kernels.proofs.Told.{both_before, both_with, turned_round}
use Rattle.vx_array_kernels.proofs.comparison.compare_whole.Goals as goal

pub returns-in_default-Same : goal.returns-in_default-Same
returns-in_default-Same c =
    let xs = lanes_rows c.args.pair.lhs.now in
    let ys = lanes_rows c.args.pair.rhs.now in
    let n = c.args.pair.count in
    let m = c.in_default-Same.field-1-1 in
    let d = value_of c.as_ref.result.now in
    let g = compared (asked c.args.comparison) in
    let one = ap lanes_rows c.in_default-Same.is-1 ∙ rows-Same c.in_default-Same.value m ∙ ap (λ v. replicate m (value_of v)) (sym c.as_ref.ensures) in
    found_map c.compare_with.result (λ out. lanes_rows out ≡ compared_rows c.args.comparison d xs) (λ out. lanes_rows out ≡ both_rows n g xs ys)
    (λ out is. both_with n m g xs ys (lanes_rows out) d c.requires.0 c.requires.1 one is) c.compare_with.ensures

pub returns-in-Same-default : goal.returns-in-Same-default
returns-in-Same-default c =
    let xs = lanes_rows c.args.pair.lhs.now in
    let ys = lanes_rows c.args.pair.rhs.now in
    let n = c.args.pair.count in
    let m = c.in-Same-default.field-1-0 in
    let d = value_of c.as_ref-in-Same-default.result.now in
    let b = c.mirrored.result in
    let g = compared (asked c.args.comparison) in
    let one = ap lanes_rows c.in-Same-default.is-0 ∙ rows-Same c.in-Same-default.value m ∙ ap (λ v. replicate m (value_of v)) (sym c.as_ref-in-Same-default.ensures) in
    found_map c.compare_with-in-Same-default.result (λ out. lanes_rows out ≡ compared_rows b d ys) (λ out. lanes_rows out ≡ both_rows n g xs ys)
    (λ out is. both_before n m g (compared (asked b)) xs ys (lanes_rows out) d (λ v w. turned_round c.args.comparison b v w c.mirrored.ensures) c.requires.0 c.requires.1 one is) c.compare_with-in-Same-default.ensures
