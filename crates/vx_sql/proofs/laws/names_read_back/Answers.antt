use Rattle.vx_sql.proofs.ReadBack.{names_read}
use Rattle.vx_sql.proofs.laws.names_read_back.Goals as goal

pub returns : goal.returns
returns c = names_read
