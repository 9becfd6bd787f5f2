-- Floating-point numbers as whole numbers that have their bits.
use Rattle.std.specs.Prelude.{pos}
use Rattle.vx_dtype.specs.declared.float_type.FloatType.{FloatType}
use Rattle.vx_value.specs.Types.{Datum, null, int, float}
use Rattle.vx_array.specs.Kinds.{float_of}

-- the floating-point number of the format with the bits that the number has, null of what has none
abbrev pub float_row : FloatType → Datum → Datum
float_row f (int (pos b)) = float (float_of f b)
float_row f _ = null
