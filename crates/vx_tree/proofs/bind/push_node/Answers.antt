use Rattle.vx_tree.proofs.Bindings.{well_typed_push}
use Rattle.vx_tree.proofs.bind.push_node.Goals as goal

pub returns-clause-typed : goal.returns-clause-typed
returns-clause-typed c =
    λ below so_far.
    well_typed_push c.args.nodes.now.items c.push.new.self.items c.in_ok-try_new.field-0 c.in_ok-push.ensures.items so_far (c.in_ok-try_new.ensures.well_typed below)
