use Rattle.vx_value.proofs.StructRows.{cloned_rows}
use Rattle.vx_value.proofs.column_rows.copies.Goals as goal

pub returns : goal.returns
returns c = cloned_rows c.args.values.now _ _ c.clone.ensures.cases
