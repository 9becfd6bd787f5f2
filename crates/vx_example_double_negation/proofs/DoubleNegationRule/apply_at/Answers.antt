use Rattle.vx_rewrite_core.proofs.Answering.{answer_gives}
use Rattle.vx_example_double_negation.specs.DoubleNegation.{DoubleNegationAt, double_negation_decided, given}
use Rattle.vx_example_double_negation.proofs.DoubleNegationRule.apply_at.Goals as goal
use Rattle.vx_tree.specs.Views.{bound_of}

pub returns-clause-gives : goal.returns-clause-gives
returns-clause-gives c = answer_gives DoubleNegationAt given double_negation_decided c.given.result (bound_of c.args.node.now) c.requires c.given.ensures
