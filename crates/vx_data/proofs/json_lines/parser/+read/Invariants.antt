use Rattle.std.proofs.Common.{◌+◌, ◌*◌, ◌≤◌, length}
use Rattle.vx_value.specs.Views.{fields_of, type_of}
use Rattle.vx_data.proofs.Sizes.{fields_size, type_size}
use Rattle.vx_data.proofs.json_lines.parser.+read.Given as goal

abbrev pub decreases-read_value : goal.decreases-read_value
decreases-read_value l = 4 * type_size (type_of l.dtype.now) + 1

abbrev pub decreases-read_array : goal.decreases-read_array
decreases-read_array l = 4 * type_size (type_of l.dtype.now)

abbrev pub decreases-read_items : goal.decreases-read_items
decreases-read_items l = 4 * type_size (type_of l.element.now) + 2

abbrev pub decreases-read_object : goal.decreases-read_object
decreases-read_object l = 4 * type_size (type_of l.dtype.now)

abbrev pub decreases-read_fields : goal.decreases-read_fields
decreases-read_fields l = 4 * fields_size (fields_of l.fields.now) + 2

abbrev pub decreases-read_field : goal.decreases-read_field
decreases-read_field l = 4 * fields_size (fields_of l.fields.now) + 1

abbrev pub invariant-read_items-items : goal.invariant-read_items-items
invariant-read_items-items l = length l.reader ≤ length l.initial.reader

abbrev pub decreases-read_items-items : goal.decreases-read_items-items
decreases-read_items-items l = length l.reader

abbrev pub invariant-read_fields-fields : goal.invariant-read_fields-fields
invariant-read_fields-fields l = length l.reader ≤ length l.initial.reader

abbrev pub decreases-read_fields-fields : goal.decreases-read_fields-fields
decreases-read_fields-fields l = length l.reader
