use Rattle.std.proofs.Common.{◌≡◌, ◌∙◌, ap, subst, IfOk, Some}
use Rattle.std.specs.Prelude.{IfSome}
use Rattle.vx_value.specs.Columns.{batch}
use Rattle.vx_value.specs.Views.{type_of}
use Rattle.vx_array.specs.Rows.{lanes_each}
use Rattle.vx_eval.specs.FirstMerged.{columns_in, masks_in}
use Rattle.vx_array_merges.specs.Turns.{truths_in}
use Rattle.vx_array_merges.proofs.InTurn.{masks_long, masks_pair, merged_rows, turns}
use Rattle.vx_array_merges.proofs.merges.merged.Goals as goal

pub chosen-requires-clause-long : goal.chosen-requires-clause-long
chosen-requires-clause-long c =
    let bs = c.args.branches.now in
    (turns c.args.count (type_of c.args.dtype.now) (truths_in (masks_in bs)) (columns_in bs) (Some c.args.otherwise.now.rows) (lanes_each c.as_slice.result.now) (ap lanes_each c.as_slice.ensures.value ∙ c.in_ok-below.ensures)
    (masks_pair bs) (masks_long c.args.count (masks_in bs) c.requires.masks) c.requires.columns c.requires.fit (c.requires.last, c.requires.last_fit)).long

pub chosen-requires-clause-fit : goal.chosen-requires-clause-fit
chosen-requires-clause-fit c =
    let bs = c.args.branches.now in
    (turns c.args.count (type_of c.args.dtype.now) (truths_in (masks_in bs)) (columns_in bs) (Some c.args.otherwise.now.rows) (lanes_each c.as_slice.result.now) (ap lanes_each c.as_slice.ensures.value ∙ c.in_ok-below.ensures)
    (masks_pair bs) (masks_long c.args.count (masks_in bs) c.requires.masks) c.requires.columns c.requires.fit (c.requires.last, c.requires.last_fit)).fit

pub returns : goal.returns
returns c =
    let bs = c.args.branches.now in
    let t = type_of c.args.dtype.now in
    let w = turns c.args.count t (truths_in (masks_in bs)) (columns_in bs) (Some c.args.otherwise.now.rows) (lanes_each c.as_slice.result.now) (ap lanes_each c.as_slice.ensures.value ∙ c.in_ok-below.ensures)
    (masks_pair bs) (masks_long c.args.count (masks_in bs) c.requires.masks) c.requires.columns c.requires.fit (c.requires.last, c.requires.last_fit) in
    subst (λ rows. IfOk c.chosen.result (λ found. IfSome found (λ a. a ≡ batch t rows))) (w.rows ∙ merged_rows c.args.count bs c.args.otherwise.now.rows) c.chosen.ensures
