use Rattle.vx_value.proofs.StructRows.{struct_row}
use Rattle.vx_value.proofs.laws.joined_rows_are_the_columns_rows.Goals as goal

pub returns : goal.returns
returns c = struct_row
