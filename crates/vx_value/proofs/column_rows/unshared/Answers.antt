use Rattle.vx_value.proofs.StructRows.{owned_rows}
use Rattle.vx_value.proofs.column_rows.unshared.Goals as goal

pub returns : goal.returns
returns c = owned_rows _ _ c.unwrap_or_clone.ensures.ok
