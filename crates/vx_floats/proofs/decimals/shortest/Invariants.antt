use Rattle.std.proofs.Common.{◌≡◌, ◌-◌}
use Rattle.std.specs.List.{find, range_with_len}
use Rattle.vx_floats.specs.Parts.{den_of, num_of}
use Rattle.vx_floats.specs.Texts.{is_enough, scale_of}
use Rattle.vx_floats.proofs.decimals.shortest.Given as goal

abbrev pub invariant-loop-scale : goal.invariant-loop-scale
invariant-loop-scale l =
    scale_of l.number l.fraction.negative (num_of l.fraction) (den_of l.fraction) ≡ find (is_enough l.number l.fraction.negative (num_of l.fraction) (den_of l.fraction)) (range_with_len l.scale (23 - l.scale))
