use Rattle.std.proofs.Common.{sym, ◌∙◌}
use Rattle.vx_sql.proofs.NodeReasons.{names_told, names_past}
use Rattle.vx_sql.proofs.reasons.names_reason.Goals as goal

pub returns-in-Some : goal.returns-in-Some
returns-in-Some c =
    names_told c.args.dialect c.args.all.now c.args.names.now c.loop-i.i c.index-names-i.result _ _ c.loop-i-test.true c.index-names-i.is (sym c.name_reason.ensures ∙ c.in-Some.is) c.loop-i.invariant

pub loop-i-preserved : goal.loop-i-preserved
loop-i-preserved c =
    names_past c.args.dialect c.args.all.now c.args.names.now c.loop-i.i c.index-names-i.result _ c.loop-i-test.true c.index-names-i.is (sym c.name_reason.ensures ∙ c.in_default.is) c.loop-i.invariant
