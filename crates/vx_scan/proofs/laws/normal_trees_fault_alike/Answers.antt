use Rattle.vx_scan.proofs.Faulting.{normal_trees-alike}
use Rattle.vx_scan.proofs.laws.normal_trees_fault_alike.Goals as goal

pub returns : goal.returns
returns c = normal_trees-alike
