use Rattle.std.proofs.Common.{◌∙◌, ap, length, map, subst, sym}
use Rattle.vx_value.specs.Types.{list_of}
use Rattle.vx_value.specs.Views.{data_view}
use Rattle.vx_fn.specs.Values.{contained}
use Rattle.vx_array.specs.Rows.{lanes_rows}
use Rattle.vx_array.proofs.Held.{rows-Numbers, rows-Texts}
use Rattle.vx_array_kernels.specs.Found.{Finds}
use Rattle.vx_array_kernels.proofs.Beside.{numbers_held}
use Rattle.vx_array_kernels.proofs.Liked.{texts_there}
use Rattle.vx_array_kernels.proofs.membership.among.Goals as goal

pub among_numbers-requires : goal.among_numbers-requires
among_numbers-requires c =
    let m = c.in-Numbers in
    numbers_held c.args.lanes.now m.numbers m.validity c.args.count m.is c.requires

pub returns-in-Numbers : goal.returns-in-Numbers
returns-in-Numbers c =
    let m = c.in-Numbers in
    subst (λ rows. Finds (map (contained (list_of (data_view c.args.items.now))) rows) c.among_numbers.result) (sym (ap lanes_rows m.is ∙ rows-Numbers m.numbers m.validity)) c.among_numbers.ensures

pub among_texts-requires-clause-long : goal.among_texts-requires-clause-long
among_texts-requires-clause-long c =
    let m = c.in-Texts in
    ap length (sym (ap lanes_rows m.is ∙ rows-Texts m.spans m.validity)) ∙ c.requires

pub among_texts-requires-clause-there : goal.among_texts-requires-clause-there
among_texts-requires-clause-there c =
    let m = c.in-Texts in
    texts_there m.validity m.spans c.args.count (ap length (sym (ap lanes_rows m.is ∙ rows-Texts m.spans m.validity)) ∙ c.requires)

pub returns-in-Texts : goal.returns-in-Texts
returns-in-Texts c =
    let m = c.in-Texts in
    subst (λ rows. Finds (map (contained (list_of (data_view c.args.items.now))) rows) c.among_texts.result) (sym (ap lanes_rows m.is ∙ rows-Texts m.spans m.validity)) c.among_texts.ensures
