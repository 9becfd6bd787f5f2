use Rattle.std.proofs.Common.{[], ◌++◌, ap, ◌∙◌}
use Rattle.std.specs.Prelude.{Some}
use Rattle.vx_rewrite_fusing.proofs.Telling.{tree_told}
use Rattle.vx_rewrite_fusing.proofs.conjunction.merge_conjuncts.Goals as goal

pub returns : goal.returns
returns c =
    let m = c.in_ok-merge_tree.ensures.merged in
    let parts = m.parts ∙ ap (λ z. z ++ m.places) c.new-places.ensures.list in
    let left = c.in_ok-left.ensures.left [] m.places (Some m.tree) parts m.holds in
    rw c.flatten.ensures (tree_told c.in_ok-left.left m left.1)
