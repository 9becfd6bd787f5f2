use Rattle.vx_sql_plan.proofs.plan.columns_of.Goals as goal

pub returns-in-Ok : goal.returns-in-Ok
returns-in-Ok c = rw (← c.column_names.ensures, ← c.in-Ok.ensures.asked) c.column_texts.ensures
