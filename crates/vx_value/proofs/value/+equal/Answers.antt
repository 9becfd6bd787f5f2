use Rattle.vx_value.proofs.Lists.{equal_data_counts}
use Rattle.vx_value.proofs.value.+equal.Goals as goal

pub equal_all-returns-then-a-b : goal.equal_all-returns-then-a-b
equal_all-returns-then-a-b t c = equal_data_counts _ _ c.if-a-b.true
