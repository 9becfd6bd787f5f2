-- Types whose rows lie in buffers of numbers.
use Rattle.std.specs.Prelude.{Option, Some, None}
use Rattle.vx_dtype.specs.declared.dtype.PType.{PType}
use Rattle.vx_dtype.specs.declared.dtype.PType.TheVariants.{I32, I64}
use Rattle.vx_value.specs.Types.{Shape, atomic, number, date, timestamp}

-- the number type in whose buffers the rows of a type lie: of whole numbers their own, of days I32, of instants I64
abbrev pub lane_of : Shape → Option PType
lane_of (atomic (number p)) = Some p
lane_of (atomic date) = Some I32
lane_of (atomic (timestamp u z)) = Some I64
lane_of _ = None
