use Rattle.std.proofs.Common.{◌≡◌, map, not, true}
use Rattle.std.proofs.Math.ListN.{replicate}
use Rattle.vx_array_kernels.proofs.Chosen.{all_true, ok_all}
use Rattle.vx_array_kernels.proofs.truths.all_rows.Goals as goal

pub returns : goal.returns
returns c =
    let zeros = c.in_ok-zeros.field-0 in
    ok_all c.turned-2.result (λ b. b ≡ map not zeros) (λ b. b ≡ replicate c.args.count true) (λ b is. all_true c.args.count zeros b c.in_ok-zeros.ensures is) c.turned-2.ensures
