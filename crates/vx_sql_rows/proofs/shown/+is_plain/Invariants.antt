use Rattle.vx_sql_rows.proofs.shown.+is_plain.Given as goal

abbrev pub decreases-is_plain : goal.decreases-is_plain
decreases-is_plain l = l.levels
