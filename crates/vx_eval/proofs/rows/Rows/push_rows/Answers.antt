use Rattle.std.proofs.Common.{◌≡◌, ◌∙◌, ap, sym, rules, get_or}
use Rattle.vx_value.specs.Types.{null}
use Rattle.vx_value.specs.Views.{value_of}
use Rattle.vx_eval.specs.Columns.{rows_view}
use Rattle.vx_eval.proofs.Masked.{same_in}
use Rattle.vx_eval.proofs.rows.Rows.push_rows.Goals as goal

pub returns-in-Same-clause-rows : goal.returns-in-Same-clause-rows
returns-in-Same-clause-rows c = λ g holds so_far. c.push_repeated.ensures.rows g (same_in c.args.mask.now c.args.from _ _ _ g c.in-Same.is c.requires.values holds) so_far

pub returns-in-Item-clause-rows : goal.returns-in-Item-clause-rows
returns-in-Item-clause-rows c = λ g holds so_far. c.push_with.ensures.rows g
    (λ i v low within on p.
    let copy : value_of v ≡ get_or (rows_view c.args.self.now) i null = search rules in
    copy ∙ holds i low within on)
    so_far

pub returns-in_default-self-clause-rows : goal.returns-in_default-self-clause-rows
returns-in_default-self-clause-rows c = λ g holds so_far. c.push_with-in_default-self.ensures.rows g
    (λ i v low within on p.
    let copy : value_of v ≡ get_or (rows_view c.in_default-self.column) i null = search rules in
    copy ∙ ap (λ r. get_or (rows_view r) i null) (sym c.in_default-self.column-is) ∙ holds i low within on)
    so_far
