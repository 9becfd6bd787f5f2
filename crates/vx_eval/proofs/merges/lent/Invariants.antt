use Rattle.std.proofs.Common.{◌≡◌, ◌++◌, drop}
use Rattle.vx_eval.specs.Columns.{rows_views}
use Rattle.vx_eval.specs.FirstMerged.{columns_in}
use Rattle.vx_eval.proofs.merges.lent.Given as goal

abbrev pub invariant-loop-branch : goal.invariant-loop-branch
invariant-loop-branch l = rows_views l.columns.items ++ columns_in (drop l.branch-index l.branches) ≡ columns_in l.branches
