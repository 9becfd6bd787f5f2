use Rattle.vx_sql_parser.proofs.ValuesReadBack.{days_read}
use Rattle.vx_sql_parser.proofs.laws.written_days_are_read.Goals as goal

pub returns : goal.returns
returns c = days_read
