use Rattle.std.proofs.Common.{rules, ◌≡◌, ap, ◌∙◌, subst, false}
use Rattle.vx_value.specs.Returns.{ReturnsOrOom}
use Rattle.vx_fn.specs.Functions.{pack}
use Rattle.vx_tree.specs.Binding.{node_over}
use Rattle.vx_tree.specs.Views.{bound_of, bounds_of}
use Rattle.vx_partition.proofs.Naming.{pack_over}
use Rattle.vx_partition.proofs.pack.pack.Goals as goal

pub returns : goal.returns
returns c =
    let same : c.in_ok-clone.field-0 ≡ c.args.names.now = search rules in
    let given = ap (λ names. node_over (pack names false) (bounds_of c.args.pieces.items)) same ∙ pack_over c.args.names.now c.args.pieces.items c.requires in
    subst (ReturnsOrOom bound_of c.try_new.result) given c.try_new.ensures.node
