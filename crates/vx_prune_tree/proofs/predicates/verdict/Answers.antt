use Rattle.std.proofs.lemmas.Bool.{ne_eqb}
use Rattle.vx_tree.specs.Views.{bound_of}
use Rattle.vx_prune_bounds.specs.Views.{bounds_view}
use Rattle.vx_prune_tree.proofs.Deciding.{verdict_of-holds}
use Rattle.vx_prune_tree.proofs.predicates.verdict.Goals as goal

pub returns-clause-holds : goal.returns-clause-holds
returns-clause-holds c =
    verdict_of-holds c.args.stats.now (bound_of c.args.e.now) c.rows.result (bounds_view c.bounds.result) c.truths.result c.verdict_of.result
    c.requires.typed c.requires.truth c.rows.ensures (ne_eqb c.rows.result 0 c.if-rows-eq0.false) c.bounds.ensures.exact c.truths.ensures c.verdict_of.ensures
