use Rattle.vx_sql_parser.proofs.FloatsReadBack.{float_types_read}
use Rattle.vx_sql_parser.proofs.ReadBack.{types_read}
use Rattle.vx_sql_parser.proofs.ValuesReadBack.{instant_types_read}
use Rattle.vx_sql_parser.proofs.laws.written_types_are_read.Goals as goal

pub returns : goal.returns
returns c = record { numbers = types_read; floats = float_types_read; instants = instant_types_read }
