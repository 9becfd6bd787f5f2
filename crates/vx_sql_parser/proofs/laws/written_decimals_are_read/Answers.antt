use Rattle.vx_sql_parser.proofs.ValuesReadBack.{decimals_read}
use Rattle.vx_sql_parser.proofs.laws.written_decimals_are_read.Goals as goal

pub returns : goal.returns
returns c = decimals_read
