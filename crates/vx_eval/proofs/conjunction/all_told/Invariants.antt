use Rattle.std.proofs.Common.{◌≡◌, drop}
use Rattle.vx_fn.specs.Values.{kleene_and}
use Rattle.vx_eval.specs.Columns.{row_at}
use Rattle.vx_eval.specs.Items.{all_of}
use Rattle.vx_eval.proofs.Conjoined.{none_false}
use Rattle.vx_eval.proofs.conjunction.all_told.Given as goal

abbrev pub invariant-loop-k : goal.invariant-loop-k
invariant-loop-k l = kleene_and (none_false l.all_true) (all_of (drop l.k (row_at l.items l.i))) ≡ all_of (row_at l.items l.i)
