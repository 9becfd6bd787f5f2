use Rattle.std.proofs.Common.{◌≡◌, ◌∙◌, refl, ap, subst}
use Rattle.vx_tree.specs.Views.{bound_of}
use Rattle.vx_rewrite_core.specs.Steps.{GivesNothing}
use Rattle.vx_rewrite_core.proofs.Forms.{root_itself}
use Rattle.vx_rewrite_core.proofs.Rebuilding.{same_made, typed_made}
use Rattle.vx_rewrite_core.proofs.whole.rebuilt.Goals as goal

pub root_form-requires : goal.root_form-requires
root_form-requires g c = typed_made _ _ c.requires (rw c.in_ok-clone.ensures.cases at c.in_ok-node.ensures.node)

pub returns-in_ok-new-in-None-clause-form : goal.returns-in_ok-new-in-None-clause-form
returns-in_ok-new-in-None-clause-form g c = λ b is.
    let made = rw c.in_ok-clone.ensures.cases at c.in_ok-node.ensures.node in
    let same : bound_of c.in_ok-node.node ≡ b = same_made made is in
    let none = rw c.in-None.is at c.in_ok-again.ensures.none in
    root_itself b _ (typed_made _ b c.requires is) (subst (GivesNothing (g.R.Rule.gives c.args.rules.now)) same (none.0 refl)) (ap bound_of c.in_ok-new-in-None.ensures.ok ∙ same)
