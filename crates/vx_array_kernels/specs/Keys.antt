-- Floating-point numbers as the places that they have in their order.
use Rattle.std.specs.Prelude.{◌≡◌, ℕ, List, map, get_or, pos}
use Rattle.vx_dtype.specs.declared.float_type.FloatType.{FloatType}
use Rattle.vx_floats.specs.declared.float.Float.{Float}
use Rattle.vx_floats.specs.declared.float.Float.TheVariants.{F32, F64}
use Rattle.vx_floats.specs.Floats.{format_of, total_key}
use Rattle.vx_value.specs.Types.{Datum, null, int, float}

-- the place of a floating-point number in the total order of those of its format
abbrev pub float_key : Float → ℕ
float_key (F32 b) = total_key 0x8000_0000 b
float_key (F64 b) = total_key 0x8000_0000_0000_0000 b

-- that of a value as a number, null of what is no floating-point number
abbrev pub key_row : Datum → Datum
key_row (float x) = int (pos (float_key x))
key_row _ = null

-- the value is null or a floating-point number of the format
abbrev pub IsReal : FloatType → Datum → Type 0
IsReal f null = Unit {0}
IsReal f (float x) = format_of x ≡ f
IsReal f _ = ⊥

-- each row is, and the keys are the places of the rows
abbrev pub AreKeys : FloatType → List Datum → List Datum → Type 0
AreKeys f rows keys = ((k : ℕ) → IsReal f (get_or rows k null)) × (keys ≡ map key_row rows)
