use Rattle.std.proofs.Common.{ap, ◌∙◌, ◌∷◌, []}
use Rattle.std.proofs.lemmas.Result.{IfOk-weaker}
use Rattle.vx_tree.specs.Views.{bounds_of}
use Rattle.vx_rewrite_fusing.proofs.Children.{bounds_of-front}
use Rattle.vx_rewrite_fusing.proofs.finding.copies_and.Goals as goal

pub returns-in-Ok-clause-trees : goal.returns-in-Ok-clause-trees
returns-in-Ok-clause-trees c =
    let last = c.args.last.value ∷ [] in
    let front = bounds_of-front c.in-Ok.copied.items c.args.list.now last c.in-Ok.ensures in
    IfOk-weaker c.pushed.result _ _ (λ v items. ap bounds_of (rw c.into_inner.ensures at items) ∙ front) c.pushed.ensures.items
