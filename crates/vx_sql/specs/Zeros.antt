-- Comparisons of floating-point numbers that may be of -0 with 0, which engines take for one number.
use Rattle.std.specs.Prelude.{ℕ, Bool, true, false, not, ◌==◌, ◌||◌, ◌&&◌, Option, Some, None}
use Rattle.vx_floats.specs.declared.float.Float.{Float}
use Rattle.vx_floats.specs.declared.float.Float.TheVariants.{F32, F64}
use Rattle.vx_value.specs.Columns.{Constant}
use Rattle.vx_value.specs.Types.{floating, LogicalType, ty, atomic, Datum, float}
use Rattle.vx_tree.specs.Nodes.{bound_at}
use Rattle.vx_tree.specs.Trees.{BoundTrees, node_type}
use Rattle.vx_sql.specs.Children.{passes, literal_in}

-- whether the number is 0 or -0, whose sign alone is set
abbrev pub is_zero : Float → Bool
is_zero (F32 b) = b == 0 || b == 0x8000_0000
is_zero (F64 b) = b == 0 || b == 0x8000_0000_0000_0000

-- whether it is a literal, and neither 0 nor -0
abbrev pub no_zero : Datum → Bool
no_zero (float x) = not (is_zero x)
no_zero _ = true

abbrev pub is_no_zero : Option Constant → Bool
is_no_zero None = false
is_no_zero (Some c) = no_zero c.value

-- whether the child at that place is such a literal
abbrev pub no_zero_at : BoundTrees → ℕ → Bool
no_zero_at bs i = passes (λ b. is_no_zero (literal_in b)) (bound_at bs i)

-- whether the first child is a floating-point number
abbrev pub is_float : LogicalType → Bool
is_float (ty (atomic (floating f)) n) = true
is_float _ = false

abbrev pub has_float_first : BoundTrees → Bool
has_float_first bs = passes (λ b. is_float (node_type b)) (bound_at bs 0)

-- whether a comparison of two children may be of -0 with 0
abbrev pub mixes_zeros : BoundTrees → Bool
mixes_zeros bs = has_float_first bs && not (no_zero_at bs 0 || no_zero_at bs 1)

-- the same of the first child and two bounds
abbrev pub mixes_zeros_between : BoundTrees → Bool
mixes_zeros_between bs = has_float_first bs && not (no_zero_at bs 0 || (no_zero_at bs 1 && no_zero_at bs 2))
