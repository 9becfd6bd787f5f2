use Rattle.std.proofs.Common.{◌≡◌}
use Rattle.vx_array.specs.declared.validity.Validity.TheVariants.{Rows}
use Rattle.vx_array.specs.Rows.{lanes_rows}
use Rattle.vx_array.specs.Shown.{shown}
use Rattle.vx_array.proofs.Found.{found_map}
use Rattle.vx_array_kernels.specs.Choices.{IsMask, masked_rows}
use Rattle.vx_array_kernels.proofs.Where.{masked_by}
use Rattle.vx_array_kernels.proofs.masks.mask.Goals as goal

pub returns : goal.returns
returns c =
    let n = c.args.pair.count in
    let x = lanes_rows c.args.pair.lhs.now in
    let y = lanes_rows c.args.pair.rhs.now in
    let told : IsMask c.in-Some.mask y = (rw c.in-Some.is at c.in_ok-mask.ensures) in
    let bits = c.in_ok-new.field-0 in
    found_map c.masked.result (λ out. lanes_rows out ≡ shown (Rows bits) x) (λ out. lanes_rows out ≡ masked_rows n x y) (λ out is. masked_by n c.in-Some.mask bits x y (lanes_rows out) told c.requires.1 c.requires.0 c.in_ok-new.ensures is) c.masked.ensures
