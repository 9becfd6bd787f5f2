use Rattle.std.proofs.Common.{◌+◌, ◌*◌, ◌≤◌, length}
use Rattle.vx_data.proofs.json_lines.observe.+see.Given as goal

abbrev pub decreases-see_value : goal.decreases-see_value
decreases-see_value l = 3 * l.sight.room + 1

abbrev pub decreases-see_items : goal.decreases-see_items
decreases-see_items l = 3 * l.sight.room

abbrev pub decreases-see_fields : goal.decreases-see_fields
decreases-see_fields l = 3 * l.sight.room

abbrev pub decreases-see_field : goal.decreases-see_field
decreases-see_field l = 3 * l.sight.room + 2

abbrev pub invariant-see_items-items : goal.invariant-see_items-items
invariant-see_items-items l = length l.reader ≤ length l.initial.reader

abbrev pub decreases-see_items-items : goal.decreases-see_items-items
decreases-see_items-items l = length l.reader

abbrev pub invariant-see_fields-fields : goal.invariant-see_fields-fields
invariant-see_fields-fields l = length l.reader ≤ length l.initial.reader

abbrev pub decreases-see_fields-fields : goal.decreases-see_fields-fields
decreases-see_fields-fields l = length l.reader
