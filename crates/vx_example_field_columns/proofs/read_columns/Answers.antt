use Rattle.std.proofs.Common.{arith}
use Rattle.vx_value.specs.Paths.{minimal_paths}
use Rattle.vx_example_field_columns.proofs.Reading.{next_read, told}
use Rattle.vx_example_field_columns.proofs.read_columns.Goals as goal

pub loop-i-preserved : goal.loop-i-preserved
loop-i-preserved c =
    next_read (minimal_paths c.args.paths.now) c.args.names.now c.args.columns.now c.loop-i.read.items c.push.new.self.items c.loop-i.i c.index-names-i.result c.index-columns-i.result c.in_ok-read_column.field-0 _
    (omega (arith, c.requires)) (omega arith) c.index-names-i.is c.index-columns-i.is c.in_ok-push.ensures.items (told _ _ c.in_ok-read_column.ensures) c.loop-i.invariant
