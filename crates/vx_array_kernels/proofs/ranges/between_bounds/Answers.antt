use Rattle.std.proofs.Common.{◌≡◌, ◌∙◌, ap, length}
use Rattle.vx_fn.specs.Values.{compared, kleene_and}
use Rattle.vx_array.specs.Rows.{lanes_rows}
use Rattle.vx_array_kernels.specs.Asked.{asked}
use Rattle.vx_array_kernels.specs.Truths.{both_rows}
use Rattle.vx_array.proofs.Found.{found_map}
use Rattle.vx_array_kernels.proofs.Told.{length-both_rows}
use Rattle.vx_array_kernels.proofs.ranges.between_bounds.Goals as goal

pub connect-requires : goal.connect-requires
connect-requires c =
    let r = c.args.range in
    let first = rw c.in-Some.is at c.in_ok-above.ensures in
    let second = rw c.in-Some-2.is at c.in_ok-below.ensures in (
      ap length first ∙ length-both_rows r.count (compared (asked c.args.comparisons.0)) (lanes_rows r.lower.now) (lanes_rows r.column.now),
      ap length second ∙ length-both_rows r.count (compared (asked c.args.comparisons.1)) (lanes_rows r.column.now) (lanes_rows r.upper.now),
    )

pub returns : goal.returns
returns c =
    let r = c.args.range in
    let n = r.count in
    let above = lanes_rows c.in-Some.above in
    let below = lanes_rows c.in-Some-2.below in
    let xs = lanes_rows r.column.now in
    let f = both_rows n (compared (asked c.args.comparisons.0)) (lanes_rows r.lower.now) xs in
    let g = both_rows n (compared (asked c.args.comparisons.1)) xs (lanes_rows r.upper.now) in
    let first = rw c.in-Some.is at c.in_ok-above.ensures in
    let second = rw c.in-Some-2.is at c.in_ok-below.ensures in
    found_map c.connect.result (λ out. lanes_rows out ≡ both_rows n kleene_and above below) (λ out. lanes_rows out ≡ both_rows n kleene_and f g)
    (λ out is. is ∙ ap (λ l. both_rows n kleene_and l below) first ∙ ap (both_rows n kleene_and f) second) c.connect.ensures
