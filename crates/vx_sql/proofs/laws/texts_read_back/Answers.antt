use Rattle.vx_sql.proofs.ReadBack.{characters_read, texts_read}
use Rattle.vx_sql.proofs.laws.texts_read_back.Goals as goal

pub returns : goal.returns
returns c = record { characters = characters_read; whole = texts_read }
