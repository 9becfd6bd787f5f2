-- What a reader of scalars stands for.
use Rattle.vx_value.specs.Columns.{Constant}
use Rattle.vx_source_types.specs.declared.scalar_parser.ScalarMode.{ScalarMode}
use Rattle.vx_source_types.specs.declared.scalar_parser.ScalarMode.TheVariants.{Due, Value, Typed, Whole}
use Rattle.vx_source_types.specs.declared.scalar_parser.ScalarStep.{ScalarStep}
use Rattle.vx_source_types.specs.declared.scalar_parser.ScalarStep.TheVariants.{More, Done}
use Rattle.vx_source_types.specs.Reading.{Goes, more, done}
use Rattle.vx_source_types.specs.TypeViews as types
use Rattle.vx_source_types.specs.ScalarReading as reading
use Rattle.vx_source_types.specs.ValueViews.{reader_of, draft_of}

abbrev pub mode_of : ScalarMode → reading.ScalarState
mode_of Due = reading.scalar_due
mode_of (Value r) = reading.in_value (reader_of r)
mode_of (Typed d r) = reading.in_type (draft_of d) (types.reader_of r)
mode_of (Whole c) = reading.whole_scalar c

-- what the first token makes of nothing
abbrev pub begun_of : ScalarMode → Goes reading.ScalarState Constant
begun_of m = more (mode_of m)

abbrev pub step_of : ScalarStep → Goes reading.ScalarState Constant
step_of (More m) = more (mode_of m)
step_of (Done c) = done c
