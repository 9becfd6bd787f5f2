use Rattle.vx_sql_parser.proofs.ValuesReadBack.{instants_read_back}
use Rattle.vx_sql_parser.proofs.laws.written_instants_are_read.Goals as goal

pub returns : goal.returns
returns c = instants_read_back
