-- What a reader of types stands for.
use Rattle.std.specs.Prelude.{List, map, reverse, false}
use Rattle.std.specs.Arc.{arc_str_bytes}
use Rattle.vx_dtype.specs.Types.{Atomic, LogicalType, ty, atomic}
use Rattle.vx_source_types.specs.declared.type_words.TypeWord.{TypeWord}
use Rattle.vx_source_types.specs.declared.type_words.TypeWord.TheVariants.{Plain, List as WordList, FixedSizeList as WordFixed, Decimal as WordDecimal, Timestamp as WordTimestamp, None as WordNone}
use Rattle.vx_dtype.specs.Views.{type_of}
use Rattle.vx_source_types.specs.declared.type_state.FieldsSoFar.{FieldsSoFar}
use Rattle.vx_source_types.specs.declared.type_state.TypeFrame.{TypeFrame}
use Rattle.vx_source_types.specs.declared.type_state.TypeFrame.TheVariants.{List as InList, FixedSizeList, Struct}
use Rattle.vx_source_types.specs.declared.type_state.TypeMode.{TypeMode}
use Rattle.vx_source_types.specs.declared.type_state.TypeMode.TheVariants.{Begin, ListOpens, FixedSizeListOpens, LengthOpens, Length, LengthCloses, DecimalOpens, Precision, PrecisionEnds, Scale, ScaleCloses, TimestampOpens, Unit, UnitEnds, Zone, ZoneCloses, FirstField, NextField, FieldType, Unmarked, Whole}
use Rattle.vx_source_types.specs.declared.type_state.TypeReader.{TypeReader}
use Rattle.vx_source_types.specs.declared.type_state.TypeStep.{TypeStep}
use Rattle.vx_source_types.specs.declared.type_state.TypeStep.TheVariants.{More, Done}
use Rattle.vx_source_types.specs.Reading.{Goes, more, done}
use Rattle.vx_source_types.specs.TypeReading as reading

abbrev pub fields_read : FieldsSoFar → reading.FieldsRead
fields_read d = record { names = d.names.items; types = map type_of d.types.items; room = d.room }

abbrev pub frame_of : TypeFrame → reading.TypeFrame
frame_of (InList room) = reading.in_list room
frame_of (FixedSizeList room) = reading.in_fixed room
frame_of (Struct d a) = reading.in_struct (fields_read d) a

-- the frames that are open, the innermost first
abbrev pub frames_of : List TypeFrame → List reading.TypeFrame
frames_of frames = reverse (map frame_of frames)

abbrev pub mode_of : TypeMode → reading.TypeMode
mode_of Begin = reading.type_due
mode_of ListOpens = reading.list_opens
mode_of FixedSizeListOpens = reading.fixed_opens
mode_of (LengthOpens t) = reading.length_opens (type_of t)
mode_of (Length t) = reading.length_due (type_of t)
mode_of (LengthCloses t k) = reading.length_closes (type_of t) k
mode_of DecimalOpens = reading.decimal_opens
mode_of Precision = reading.precision_due
mode_of (PrecisionEnds d) = reading.precision_ends d.precision
mode_of (Scale d) = reading.scale_due d.precision
mode_of (ScaleCloses d) = reading.scale_closes d.precision d.scale
mode_of TimestampOpens = reading.timestamp_opens
mode_of Unit = reading.unit_due
mode_of (UnitEnds u) = reading.unit_ends u
mode_of (Zone u) = reading.zone_due u
mode_of (ZoneCloses u z) = reading.zone_closes u (arc_str_bytes z)
mode_of (FirstField d) = reading.first_field (fields_read d)
mode_of (NextField d) = reading.next_field (fields_read d)
mode_of (FieldType d a) = reading.field_type (fields_read d) a
mode_of (Unmarked t) = reading.unmarked (type_of t)
mode_of (Whole t) = reading.whole (type_of t)

abbrev pub reader_of : TypeReader → reading.TypeState
reader_of r = record { frames = frames_of r.frames.items; mode = mode_of r.mode; room = r.room }

abbrev pub step_of : TypeStep → Goes reading.TypeState LogicalType
step_of (More r) = more (reader_of r)
step_of (Done t) = done (type_of t)

-- the type of that kind, not nullable
abbrev pub atomic_type : Atomic → LogicalType
atomic_type p = ty (atomic p) false

-- what a word was found to begin
abbrev pub word_of : TypeWord → reading.TypeWord
word_of (Plain t) = reading.plain_word (type_of t)
word_of WordList = reading.list_word
word_of WordFixed = reading.fixed_word
word_of WordDecimal = reading.decimal_word
word_of WordTimestamp = reading.timestamp_word
word_of WordNone = reading.no_word
