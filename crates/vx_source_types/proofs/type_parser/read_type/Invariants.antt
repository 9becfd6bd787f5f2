use Rattle.std.proofs.Common.{◌≤◌, ◌-◌, length, drop}
use Rattle.vx_source_types.specs.Reading.{Leads}
use Rattle.vx_source_types.specs.TypeReading.{type_step, type_start}
use Rattle.vx_source_types.specs.TypeViews.{reader_of}
use Rattle.vx_source_types.proofs.type_parser.read_type.Given as goal

abbrev pub invariant-loop-reader : goal.invariant-loop-reader
invariant-loop-reader l =
    (l.from ≤ length l.text) × Leads type_step (type_start l.nesting) l.text (reader_of l.reader) (drop l.from l.text)

abbrev pub decreases-loop-reader : goal.decreases-loop-reader
decreases-loop-reader l = length l.text - l.from
