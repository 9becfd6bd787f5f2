use Rattle.vx_source_over.proofs.Texts.{reading_over_is_unique}
use Rattle.vx_source_over.proofs.laws.reading_over_is_unique.Goals as goal

pub returns : goal.returns
returns c = reading_over_is_unique
