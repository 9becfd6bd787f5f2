-- The parts of the records so far are there.
use Rattle.std.proofs.Common.{◌≡◌, map}
use Rattle.vx_value.specs.Views.{value_of}
use Rattle.vx_records.specs.Chunks.{texts_in}
use Rattle.vx_records.specs.Records.{record_of, texts, rows}
use Rattle.vx_records.proofs.read.parts_of.Given as goal

abbrev pub invariant-loop-record : goal.invariant-loop-record
invariant-loop-record l = (texts_in l.texts.items ≡ texts (map record_of l.yielded)) × (map value_of l.rows.items ≡ rows (map record_of l.yielded))
