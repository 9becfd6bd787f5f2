-- The verdict is that on what was read off the batch.
use Rattle.std.proofs.Common.{ap, ◌∙◌}
use Rattle.vx_tree.specs.Views.{bound_of}
use Rattle.vx_prune_tree.specs.Verdicts.{verdict_in}
use Rattle.vx_records.proofs.Tallying.{read_facts}
use Rattle.vx_records.proofs.chunked.verdict_on.Goals as goal

pub returns-in-Ok-clause-exact : goal.returns-in-Ok-clause-exact
returns-in-Ok-clause-exact c = c.verdict.ensures.exact ∙ ap (λ facts. verdict_in facts (bound_of c.args.tree.now)) (read_facts _ _ _ c.in-Ok.ensures.read)
