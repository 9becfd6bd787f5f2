use Rattle.vx_sql_parser.proofs.ReadBack.{names_read}
use Rattle.vx_sql_parser.proofs.laws.written_names_are_read.Goals as goal

pub returns : goal.returns
returns c = names_read
