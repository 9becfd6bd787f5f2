-- The law is the lemma.
use Rattle.vx_records.proofs.Fewer.{fewer_never_fault as lemma}
use Rattle.vx_records.proofs.laws.fewer_never_fault.Goals as goal

pub returns : goal.returns
returns c = lemma
