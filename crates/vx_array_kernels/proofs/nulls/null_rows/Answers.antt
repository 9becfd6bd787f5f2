use Rattle.vx_array.specs.Rows.{lanes_rows}
use Rattle.std.proofs.Common.{rules}
use Rattle.vx_array_kernels.proofs.NullRows.{nulls_turned}
use Rattle.vx_array_kernels.proofs.nulls.null_rows.Goals as goal

pub returns-in_ok-turned-in-Some : goal.returns-in_ok-turned-in-Some
returns-in_ok-turned-in-Some c = nulls_turned (lanes_rows c.args.input.now) c.in-Some.values c.in_ok-turned-in-Some.field-0 (search rules) c.in_ok-turned-in-Some.ensures
