use Rattle.std.proofs.Common.{◌∙◌, sym}
use Rattle.vx_value.specs.Views.{type_of}
use Rattle.vx_tree.specs.Views.{bound_of}
use Rattle.vx_tree.proofs.Unique.{is_over-Decides}
use Rattle.vx_tree.proofs.bound.BoundExpression.is_root_bound_to.Goals as goal

pub returns : goal.returns
returns c =
    let d = is_over-Decides (bound_of c.args.self.now) (type_of c.args.dtype.now) in
    (λ h. d.0 (sym c.is_over.ensures ∙ h), λ h. c.is_over.ensures ∙ d.1 h)
