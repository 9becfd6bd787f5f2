use Rattle.vx_source_over.proofs.Texts.{typed_texts_stay}
use Rattle.vx_source_over.proofs.laws.typed_texts_stay.Goals as goal

pub returns : goal.returns
returns c = typed_texts_stay
