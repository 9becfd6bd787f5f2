use Rattle.std.proofs.Common.{◌≡◌, map, take}
use Rattle.vx_array.specs.Rows.{lanes_each}
use Rattle.vx_array_build.specs.Taken.{rows_at}
use Rattle.vx_array_build.proofs.taken.+take.Given as goal

abbrev pub invariant-each_taken-loop-field : goal.invariant-each_taken-loop-field
invariant-each_taken-loop-field l = lanes_each l.each.items ≡ map (λ rows. rows_at rows l.indices) (lanes_each (take l.field-index l.fields))
