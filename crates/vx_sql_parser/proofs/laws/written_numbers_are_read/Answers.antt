use Rattle.vx_sql_parser.proofs.ReadBack.{numbers_read}
use Rattle.vx_sql_parser.proofs.laws.written_numbers_are_read.Goals as goal

pub returns : goal.returns
returns c = numbers_read
