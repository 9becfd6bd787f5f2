use Rattle.std.proofs.Common.{Ok, ap, sym, ◌∙◌}
use Rattle.vx_tree.specs.Views.{bound_of}
use Rattle.vx_rewrite_rule_laws.specs.Folding.{constant_given}
use Rattle.vx_rewrite_folding.proofs.Evaluated.{the_row, some_ok, row_over, folded, some_row, not_folded}
use Rattle.vx_rewrite_folding.proofs.constants.constant_given.Goals as goal

pub first_row-requires : goal.first_row-requires
first_row-requires c =
    let b = bound_of c.args.node.now in
    let e = sym c.is_constant.ensures ∙ c.if-not-is_constant.false in
    let is = the_row c.in_ok-row.row c.in_ok-row.ensures in
    some_row b c.requires e c.in_ok-row.row is c.in-Ok.column (c.in-Ok.ensures.meaning (row_over b c.requires e c.in_ok-row.row is))

pub returns-in-Ok : goal.returns-in-Ok
returns-in-Ok c =
    let b = bound_of c.args.node.now in
    let e = sym c.is_constant.ensures ∙ c.if-not-is_constant.false in
    let is = the_row c.in_ok-row.row c.in_ok-row.ensures in
    let f = folded b c.requires e c.in_ok-row.row is c.in-Ok.column (c.in-Ok.ensures.meaning (row_over b c.requires e c.in_ok-row.row is)) in
    ap Ok f ∙ some_ok c.in_ok-first_row-in-Ok.ensures

pub returns : goal.returns
returns c =
    let b = bound_of c.args.node.now in
    let e = sym c.is_constant.ensures ∙ c.if-not-is_constant.false in
    let is = the_row c.in_ok-row.row c.in_ok-row.ensures in
    c.unless_memory.ensures (constant_given b) (not_folded b c.requires e c.in_ok-row.row is c.in-Err.fault (c.in-Err.ensures.meaning (row_over b c.requires e c.in_ok-row.row is)))
