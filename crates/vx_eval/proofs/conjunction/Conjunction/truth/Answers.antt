use Rattle.std.proofs.Common.{◌∙◌, sym, ap, subst, arith}
use Rattle.vx_eval.specs.Items.{AllLong, HaveRow, conjoined}
use Rattle.vx_eval.proofs.Conjoined.{alone_told, have_row, have_there, only_one, row_within, together_told}
use Rattle.vx_eval.proofs.conjunction.Conjunction.truth.Goals as goal

pub truth-requires-clause-within : goal.truth-requires-clause-within
truth-requires-clause-within c =
    let count = c.self.inside.count in
    let have : HaveRow c.args.i c.as_slice.result.now = have_row count c.args.i c.as_slice.result.now (subst (AllLong count) (sym c.as_slice.ensures.value) c.self.invariant) (row_within count c.args.i c.self.inside.items.items c.args.self.now c.self.view_is c.requires) in
    have_there c.args.i 0 c.as_slice.result.now c.item-item.result have (omega (arith, c.in-len1.len_at_least)) c.item-item.is

pub all_told-requires-clause-within : goal.all_told-requires-clause-within
all_told-requires-clause-within c =
    let count = c.self.inside.count in
    have_row count c.args.i c.as_slice.result.now (subst (AllLong count) (sym c.as_slice.ensures.value) c.self.invariant) (row_within count c.args.i c.self.inside.items.items c.args.self.now c.self.view_is c.requires)

pub returns-in-len1 : goal.returns-in-len1
returns-in-len1 c =
    let count = c.self.inside.count in
    let one = only_one c.as_slice.result.now c.item-item.result (omega (arith, c.in-len1.len_at_least, c.in-len1.len_below)) c.item-item.is in
    alone_told count c.args.i c.item-item.result c.args.self.now _ (ap (conjoined count) (sym one ∙ c.as_slice.ensures.value) ∙ c.self.view_is) (row_within count c.args.i c.self.inside.items.items c.args.self.now c.self.view_is c.requires) c.truth.ensures

pub returns-in_default : goal.returns-in_default
returns-in_default c =
    let count = c.self.inside.count in
    together_told count c.args.i c.as_slice.result.now c.args.self.now _ (ap (conjoined count) c.as_slice.ensures.value ∙ c.self.view_is) (row_within count c.args.i c.self.inside.items.items c.args.self.now c.self.view_is c.requires) c.all_told.ensures
