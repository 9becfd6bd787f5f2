use Rattle.std.proofs.Common.{◌≡◌, ◌≤◌, ◌-◌, ◌^◌, ap, ◌∙◌, arith}
use Rattle.std.specs.Int.RustNames.{bit_and, count_ones}
use Rattle.std.proofs.lemmas.Nat.Bits.{ones_shr}
use Rattle.vx_array_loops.proofs.Counted.{ones_of_masked}
use Rattle.vx_array_loops.proofs.count.count_low.Goals as goal

pub returns : goal.returns
returns c =
    let within : 64 - c.args.count ≤ 64 = omega arith in
    let rest : 64 - (64 - c.args.count) ≡ c.args.count = omega arith in
    ap (λ m. count_ones (bit_and c.args.word m)) (ones_shr 64 (64 - c.args.count) within ∙ ap (λ n. 2 ^ n - 1) rest) ∙ ones_of_masked c.args.word c.args.count
