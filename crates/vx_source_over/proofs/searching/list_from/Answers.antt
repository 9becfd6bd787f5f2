use Rattle.std.proofs.Common.{◌∙◌, sym, arith}
use Rattle.std.proofs.lemmas.Grind.{common_steps}
use Rattle.vx_source_over.proofs.Searched.{none_listed, all_listed, odd_refused}
use Rattle.vx_source_over.proofs.searching.list_from.Goals as goal

pub returns-in_default : goal.returns-in_default
returns-in_default c = none_listed c.args.scalars.now c.in_default.len_below

pub returns-in-Some : goal.returns-in-Some
returns-in-Some c = all_listed c.args.scalars.now c.in-Some.list (omega arith) (sym c.in-Some.is ∙ c.in_ok-list.ensures)

pub returns : goal.returns
returns c =
    let odd = c.in_ok-clone.ensures.cases ∙ c.odd_one-index.ensures in
    let same = c.in_ok-clone-2.ensures.cases ∙ c.dtype.ensures in
    odd_refused c.args.scalars.now _ c.first-item.result _ _ odd same (sym c.in_default-2.is ∙ c.in_ok-list.ensures) (omega arith) c.first-item.is (grind (arith, common_steps))
