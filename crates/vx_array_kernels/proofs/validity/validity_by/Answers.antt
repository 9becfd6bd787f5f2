use Rattle.std.proofs.Common.{◌≡◌, arith, length}
use Rattle.vx_array_loops.specs.WordBits.{count_true}
use Rattle.vx_array_kernels.proofs.AllValid.{all_shown}
use Rattle.vx_array_kernels.proofs.validity.validity_by.Goals as goal

pub returns-then-count_ones-rows-clause-shown : goal.returns-then-count_ones-rows-clause-shown
returns-then-count_ones-rows-clause-shown c = λ ds long.
    let rows : length c.args.valid ≡ c.args.rows = omega arith in
    let all : count_true c.args.valid ≡ c.args.rows = omega arith in
    all_shown c.args.valid ds (omega (arith, long, rows)) (omega (arith, all, rows))
