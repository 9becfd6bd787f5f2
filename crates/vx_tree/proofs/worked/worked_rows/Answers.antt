-- Each is computed.
use Rattle.std.proofs.Common.{refl}
use Rattle.std.specs.Fmt.{digits}
use Rattle.std.specs.Str.{chars}
use Rattle.vx_tree.proofs.worked.worked_rows.Goals as goal

pub returns-clause-row_1 : goal.returns-clause-row_1
unfolding digits
returns-clause-row_1 c = ((refl, refl), refl)

pub returns-clause-row_1_fused : goal.returns-clause-row_1_fused
unfolding digits
returns-clause-row_1_fused c = ((refl, refl), refl)

pub returns-clause-row_7 : goal.returns-clause-row_7
unfolding digits
returns-clause-row_7 c = ((refl, refl), refl)

pub returns-clause-row_8 : goal.returns-clause-row_8
unfolding digits
returns-clause-row_8 c = ((refl, refl), refl)

pub returns-clause-row_9 : goal.returns-clause-row_9
unfolding digits
returns-clause-row_9 c = refl

pub returns-clause-row_21 : goal.returns-clause-row_21
unfolding chars
returns-clause-row_21 c = ((refl, refl), (refl, refl), (refl, refl), (refl, refl), (refl, refl))
