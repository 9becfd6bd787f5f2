use Rattle.std.proofs.Common.{◌+◌, ◌*◌}
use Rattle.vx_value.specs.Views.{fields_of, type_of}
use Rattle.vx_data.proofs.Sizes.{fields_size, type_size}
use Rattle.vx_data.proofs.json_lines.distinct.+distinct.Given as goal

abbrev pub decreases-check_names : goal.decreases-check_names
decreases-check_names l = 2 * type_size (type_of l.dtype.now)

abbrev pub decreases-check_fields : goal.decreases-check_fields
decreases-check_fields l = 2 * fields_size (fields_of l.fields.now) + 1
