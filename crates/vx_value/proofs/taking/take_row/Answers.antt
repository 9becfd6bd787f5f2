use Rattle.std.proofs.Common.{arith, ◌∙◌, ap}
use Rattle.std.proofs.lemmas.List.{take_all}
use Rattle.vx_value.specs.Fields.{data_of}
use Rattle.vx_value.specs.Types.{struct_of}
use Rattle.vx_value.proofs.TakenRows.{row_still, row_long, value_of-Struct}
use Rattle.vx_value.proofs.taking.take_row.Goals as goal

pub take_at-requires-clause-row : goal.take_at-requires-clause-row
take_at-requires-clause-row g c = row_still _ _ _ c.loop-place.invariant.long c.requires

pub returns-clause-value : goal.returns-clause-value
returns-clause-value g c =
    value_of-Struct c.loop-place.items
    ∙ ap (λ ds. struct_of (data_of ds)) (c.loop-place.invariant.taken ∙ take_all c.loop-place.place _ (omega (arith, row_long g.C.TakeRow.rows c.args.columns.now.items c.args.i)))
