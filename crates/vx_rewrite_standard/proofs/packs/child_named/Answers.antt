use Rattle.std.proofs.Common.{sym, ◌∙◌, rules}
use Rattle.vx_rewrite_standard.proofs.Named.{child_found, child_missing, read_tree}
use Rattle.vx_rewrite_standard.proofs.packs.child_named.Goals as goal

pub returns-in_err-find : goal.returns-in_err-find
returns-in_err-find c =
    let e = child_missing c.args.name.now c.args.names.now c.args.children.now (sym c.find.ensures ∙ c.in_err-find.was) in
    rw (c.from_residual.ensures, e) search rules

pub returns : goal.returns
returns c =
    let i = c.in_ok-find.field-0 in
    read_tree c.args.children.now i c.get.result c.get.ensures.lookup.0 c.get.ensures.lookup.1
    ∙ sym (child_found c.args.name.now c.args.names.now c.args.children.now i (sym c.find.ensures ∙ c.in_ok-find.was))
