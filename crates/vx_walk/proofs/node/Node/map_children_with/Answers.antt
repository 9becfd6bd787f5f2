use Rattle.std.proofs.Common.{rules, ◌≡◌, Err}
use Rattle.vx_walk.proofs.Rows.{MappedBy-refused, MappedBy-rebuilt}
use Rattle.vx_walk.proofs.node.Node.map_children_with.Goals as goal

pub returns-in_err-siblings-clause-mapped : goal.returns-in_err-siblings-clause-mapped
returns-in_err-siblings-clause-mapped g c =
    let e : c.from_residual.result ≡ Err c.in_err-siblings.field-0.0 = search rules in
    rw e (MappedBy-refused _ _ _ _ _ _ _ (rw c.children_slice.ensures at c.in_err-siblings.ensures.mapped))

pub returns-clause-mapped : goal.returns-clause-mapped
returns-clause-mapped g c =
    MappedBy-rebuilt _ _ _ _ _ _ _ c.in_ok-siblings.siblings _ (rw c.children_slice.ensures at c.in_ok-siblings.ensures.mapped) c.rebuild.ensures.ok c.rebuild.ensures.err
