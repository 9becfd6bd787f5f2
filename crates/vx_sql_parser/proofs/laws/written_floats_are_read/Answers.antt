use Rattle.vx_sql_parser.proofs.FloatsReadBack.{floats_read_back}
use Rattle.vx_sql_parser.proofs.laws.written_floats_are_read.Goals as goal

pub returns : goal.returns
returns c = floats_read_back
