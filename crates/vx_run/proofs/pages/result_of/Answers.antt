use Rattle.vx_tree.specs.Views.{tree_of}
use Rattle.vx_run.proofs.Queried.{quiet_query, unpassed}
use Rattle.vx_run.proofs.pages.result_of.Goals as goal

pub returns-clause-memory : goal.returns-clause-memory
returns-clause-memory c b is = quiet_query (tree_of c.args.source.now) c.args.batch.now c.run_query.result b c.requires is (c.run_query.ensures.meaning b is)

pub returns-clause-evaluation : goal.returns-clause-evaluation
returns-clause-evaluation c b is = unpassed b c.args.batch.now c.run_query.result (c.run_query.ensures.run b is)
