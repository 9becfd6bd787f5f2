-- What a reader of values stands for.
use Rattle.std.specs.Prelude.{List, map, reverse, string_bytes}
use Rattle.vx_value.specs.Views.{value_of}
use Rattle.vx_source_types.specs.declared.value_state.Draft.{Draft}
use Rattle.vx_source_types.specs.declared.value_state.Draft.TheVariants.{Value as Valued, Point as Pointed}
use Rattle.vx_source_types.specs.declared.value_state.ItemsSoFar.{ItemsSoFar}
use Rattle.vx_source_types.specs.declared.value_state.ValueFrame.{ValueFrame}
use Rattle.vx_source_types.specs.declared.value_state.ValueFrame.TheVariants.{List as InList, Struct as InStruct}
use Rattle.vx_source_types.specs.declared.value_state.ValueMode.{ValueMode}
use Rattle.vx_source_types.specs.declared.value_state.ValueMode.TheVariants.{Value as Due, FirstItem, FirstField, NextField, FieldValue, Whole, Point}
use Rattle.vx_source_types.specs.declared.value_state.ValueReader.{ValueReader}
use Rattle.vx_source_types.specs.declared.value_state.ValueStep.{ValueStep}
use Rattle.vx_source_types.specs.declared.value_state.ValueStep.TheVariants.{More, Done}
use Rattle.vx_source_types.specs.Reading.{Goes, more, done}
use Rattle.vx_source_types.specs.ValueReading as reading

abbrev pub draft_of : Draft → reading.Drafted
draft_of (Valued v names) = reading.drafted (value_of v) names.items
draft_of (Pointed digits) = reading.pointed (string_bytes digits)

abbrev pub items_read : ItemsSoFar → reading.ItemsRead
items_read d = record { items = map value_of d.items.items; room = d.room }

abbrev pub frame_of : ValueFrame → reading.ValueFrame
frame_of (InList d) = reading.in_items (items_read d)
frame_of (InStruct d) = reading.in_row (items_read d)

-- the frames that are open, the innermost first
abbrev pub frames_of : List ValueFrame → List reading.ValueFrame
frames_of frames = reverse (map frame_of frames)

abbrev pub mode_of : ValueMode → reading.ValueMode
mode_of Due = reading.value_due
mode_of (FirstItem d) = reading.first_item (items_read d)
mode_of (FirstField d) = reading.first_named (items_read d)
mode_of (NextField d) = reading.next_named (items_read d)
mode_of (FieldValue d) = reading.named_value (items_read d)
mode_of (Whole v) = reading.whole_value (value_of v)
mode_of (Point digits) = reading.whole_point (string_bytes digits)

abbrev pub reader_of : ValueReader → reading.ValueState
reader_of r = record { frames = frames_of r.frames.items; mode = mode_of r.mode; names = r.names.items; room = r.room }

abbrev pub step_of : ValueStep → Goes reading.ValueState reading.Drafted
step_of (More r) = more (reader_of r)
step_of (Done d) = done (draft_of d)
