use Rattle.vx_source_writer.proofs.Plain.{tree-plain}
use Rattle.vx_source_writer.proofs.laws.plain_is_sql.Goals as goal

pub returns : goal.returns
returns c = tree-plain
