use Rattle.std.proofs.Common.{◌≡◌, ◌∙◌}
use Rattle.vx_fn.specs.Values.{compared}
use Rattle.vx_array.specs.Rows.{lanes_rows}
use Rattle.vx_array.proofs.Found.{found_map}
use Rattle.vx_array_kernels.specs.Asked.{asked}
use Rattle.vx_array_kernels.specs.Truths.{both_rows}
use Rattle.vx_array_kernels.proofs.Keyed.{keys_compared, keys_long}
use Rattle.vx_array_kernels.proofs.float_comparison.compare_floats.Goals as goal

pub compare_whole-requires : goal.compare_whole-requires
compare_whole-requires c =
    let f = c.args.float_type in
    let pair = c.args.pair in (
      keys_long f (lanes_rows pair.lhs.now) (lanes_rows c.in-Some.lhs) pair.count (rw c.in-Some.is at c.in_ok-lhs.ensures) c.requires.0,
      keys_long f (lanes_rows pair.rhs.now) (lanes_rows c.in-Some-2.rhs) pair.count (rw c.in-Some-2.is at c.in_ok-rhs.ensures) c.requires.1,
    )

pub returns : goal.returns
returns c =
    let f = c.args.float_type in
    let n = c.args.pair.count in
    let xs = lanes_rows c.args.pair.lhs.now in
    let ys = lanes_rows c.args.pair.rhs.now in
    let ks = lanes_rows c.in-Some.lhs in
    let ls = lanes_rows c.in-Some-2.rhs in
    let g = compared (asked c.args.comparison) in
    found_map c.compare_whole.result (λ out. lanes_rows out ≡ both_rows n g ks ls) (λ out. lanes_rows out ≡ both_rows n g xs ys)
    (λ out is. is ∙ keys_compared (asked c.args.comparison) f n xs ys ks ls (rw c.in-Some.is at c.in_ok-lhs.ensures) (rw c.in-Some-2.is at c.in_ok-rhs.ensures)) c.compare_whole.ensures
