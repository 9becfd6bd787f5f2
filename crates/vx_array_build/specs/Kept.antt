-- Truth values to which others are added.
use Rattle.std.specs.Prelude.{List, Bool}
use Rattle.vx_array_build.specs.declared.joined_bits.Kept.{Kept}
use Rattle.vx_array_build.specs.declared.joined_bits.Kept.TheVariants.{Words, Each}

-- the truth values, in words or one by one
abbrev pub truths_kept : Kept → List Bool
truths_kept (Words bits) = bits
truths_kept (Each truths) = truths.items
