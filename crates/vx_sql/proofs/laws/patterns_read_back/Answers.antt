use Rattle.vx_sql.proofs.ReadBack.{patterns_read}
use Rattle.vx_sql.proofs.laws.patterns_read_back.Goals as goal

pub returns : goal.returns
returns c = patterns_read
