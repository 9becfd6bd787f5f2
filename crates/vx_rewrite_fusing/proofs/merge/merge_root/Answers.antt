use Rattle.vx_tree.specs.Views.{bound_of}
use Rattle.vx_rewrite_fusing.proofs.Merges.{fused_alone}
use Rattle.vx_rewrite_fusing.proofs.merge.merge_root.Goals as goal

pub returns-in-Some : goal.returns-in-Some
returns-in-Some c = c.merge_and.ensures (bound_of c.args.b.now) c.in-Some.ensures c.requires

pub returns-in-None : goal.returns-in-None
returns-in-None c = fused_alone (bound_of c.args.b.now) c.requires c.in-None.ensures
