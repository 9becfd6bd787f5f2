use Rattle.std.proofs.Common.{◌+◌, ◌*◌}
use Rattle.vx_value.specs.Views.{fields_of, type_of}
use Rattle.vx_data.proofs.Sizes.{fields_size, type_size}
use Rattle.vx_data.proofs.csv_files.plan.+plan_of.Given as goal

abbrev pub decreases-plan_of : goal.decreases-plan_of
decreases-plan_of l = 3 * type_size (type_of l.dtype.now)

abbrev pub decreases-plans_of : goal.decreases-plans_of
decreases-plans_of l = 3 * fields_size (fields_of l.fields.now) + 2

abbrev pub decreases-field_plan : goal.decreases-field_plan
decreases-field_plan l = 3 * type_size (type_of l.dtype.now) + 1
