use Rattle.std.proofs.Common.{◌≡◌, false, rules}
use Rattle.std.specs.Prelude.{nat_eq}
use Rattle.vx_tree.specs.Views.{bound_of}
use Rattle.vx_tree.proofs.Keys.{digests-apart}
use Rattle.vx_tree.proofs.exact.ExactBoundExprPartialEq.eq.Goals as goal

pub returns-else-self-other : goal.returns-else-self-other
returns-else-self-other c =
    let j = c.args.self.now in
    let k = c.args.other.now in
    let apart : nat_eq j.digest k.digest ≡ false = search rules in
    digests-apart j.digest k.digest (bound_of j.expr) (bound_of k.expr) j.kept k.kept apart
