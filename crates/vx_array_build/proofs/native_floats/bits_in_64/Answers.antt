use Rattle.std.proofs.Common.{length, map, rules}
use Rattle.std.specs.Prelude.{to_bits}
use Rattle.std.specs.Float.{binary64}
use Rattle.std.proofs.lemmas.List.{length-map}
use Rattle.vx_array_loops.proofs.Filled.{filled_as}
use Rattle.vx_array_build.proofs.native_floats.bits_in_64.Goals as goal

pub returns : goal.returns
returns c =
    let numbers = c.args.numbers.now in
    filled_as 0 (length numbers) (map (to_bits binary64) numbers) _ c.tabulated.result (length-map numbers (to_bits binary64)) c.tabulated.ensures.long c.tabulated.ensures.each (λ k x lt post. search rules)
