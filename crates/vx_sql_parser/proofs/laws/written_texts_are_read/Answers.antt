use Rattle.vx_sql_parser.proofs.ReadBack.{texts_read}
use Rattle.vx_sql_parser.proofs.laws.written_texts_are_read.Goals as goal

pub returns : goal.returns
returns c = texts_read
