use Rattle.std.proofs.Common.{◌+◌, ◌*◌}
use Rattle.vx_data_rows.proofs.values.+value.Given as goal

abbrev pub decreases-value : goal.decreases-value
decreases-value l = 2 * l.room

abbrev pub decreases-items : goal.decreases-items
decreases-items l = 2 * l.room + 1

abbrev pub decreases-values : goal.decreases-values
decreases-values l = 2 * l.room + 1
