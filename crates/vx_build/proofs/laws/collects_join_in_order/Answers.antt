use Rattle.vx_build.specs.Collects.{paired_trees, paired_bounds}
use Rattle.vx_build.proofs.Depths.{collects_in_order}
use Rattle.vx_build.proofs.laws.collects_join_in_order.Goals as goal

pub returns : goal.returns
returns c = record { unbound = λ op. collects_in_order (paired_trees op); bound = λ op. collects_in_order (paired_bounds op) }
