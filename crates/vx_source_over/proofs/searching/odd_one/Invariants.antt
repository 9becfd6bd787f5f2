use Rattle.std.proofs.Common.{◌≡◌}
use Rattle.vx_source_operands.specs.ListViews.{lent_scalars}
use Rattle.vx_source_over.specs.Settling.{odd_one}
use Rattle.vx_source_over.proofs.Searched.{odd_from}
use Rattle.vx_source_over.proofs.searching.odd_one.Given as goal

abbrev pub invariant-loop-i : goal.invariant-loop-i
invariant-loop-i l = odd_one l.first (lent_scalars l.rest) ≡ odd_from l.first l.rest l.i
