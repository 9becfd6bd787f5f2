use Rattle.std.proofs.Common.{◌≡◌, ◌∙◌, ap}
use Rattle.vx_fn.specs.Values.{compared, kleene_and}
use Rattle.vx_array.specs.Rows.{lanes_rows}
use Rattle.vx_array.proofs.Found.{found_map}
use Rattle.vx_array_kernels.specs.Asked.{asked}
use Rattle.vx_array_kernels.specs.Truths.{both_rows}
use Rattle.vx_array_kernels.proofs.Keyed.{keys_compared, keys_long}
use Rattle.vx_array_kernels.proofs.ranges.between_floats.Goals as goal

pub between_bounds-requires : goal.between_bounds-requires
between_bounds-requires c =
    let f = c.args.float_type in
    let r = c.args.range in (
      keys_long f (lanes_rows r.lower.now) (lanes_rows c.in-Some.lower) r.count (rw c.in-Some.is at c.in_ok-lower.ensures) c.requires.0,
      keys_long f (lanes_rows r.column.now) (lanes_rows c.in-Some-2.column) r.count (rw c.in-Some-2.is at c.in_ok-column.ensures) c.requires.1,
      keys_long f (lanes_rows r.upper.now) (lanes_rows c.in-Some-3.upper) r.count (rw c.in-Some-3.is at c.in_ok-upper.ensures) c.requires.2,
    )

pub returns : goal.returns
returns c =
    let f = c.args.float_type in
    let r = c.args.range in
    let n = r.count in
    let ls = lanes_rows r.lower.now in
    let xs = lanes_rows r.column.now in
    let us = lanes_rows r.upper.now in
    let lower = lanes_rows c.in-Some.lower in
    let column = lanes_rows c.in-Some-2.column in
    let upper = lanes_rows c.in-Some-3.upper in
    let a = asked c.args.comparisons.0 in
    let b = asked c.args.comparisons.1 in
    let keyed = rw c.in-Some-2.is at c.in_ok-column.ensures in
    let above = keys_compared a f n ls xs lower column (rw c.in-Some.is at c.in_ok-lower.ensures) keyed in
    let below = keys_compared b f n xs us column upper keyed (rw c.in-Some-3.is at c.in_ok-upper.ensures) in
    found_map c.between_bounds.result (λ out. lanes_rows out ≡ both_rows n kleene_and (both_rows n (compared a) lower column) (both_rows n (compared b) column upper))
    (λ out. lanes_rows out ≡ both_rows n kleene_and (both_rows n (compared a) ls xs) (both_rows n (compared b) xs us))
    (λ out is. is ∙ ap (λ l. both_rows n kleene_and l (both_rows n (compared b) column upper)) above ∙ ap (both_rows n kleene_and (both_rows n (compared a) ls xs)) below) c.between_bounds.ensures
