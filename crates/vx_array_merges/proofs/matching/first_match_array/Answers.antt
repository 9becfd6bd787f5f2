use Rattle.std.proofs.Common.{◌≡◌, ◌∙◌, ap, sym, subst, rules, Ok}
use Rattle.std.specs.Prelude.{option_map}
use Rattle.vx_value.specs.Columns.{batch}
use Rattle.vx_value.specs.Fits.{IsBatch}
use Rattle.vx_value.specs.Views.{type_of}
use Rattle.vx_array.specs.Rows.{lanes_each}
use Rattle.vx_array_kernels.specs.Choices.{case_rows, EachLong}
use Rattle.vx_eval.specs.Choices.{height, rows_in}
use Rattle.vx_array_merges.proofs.InTurn.{count_is, last_given, pairs_in, turns}
use Rattle.vx_array_merges.proofs.matching.first_match_array.Goals as goal

pub chosen-requires-clause-long : goal.chosen-requires-clause-long
chosen-requires-clause-long c =
    let t = type_of c.args.dtype.now in
    let m = height c.args.conditions.now in
    let below = lanes_each c.as_slice.result.now in
    let counted : c.len-count.result ≡ m = count_is _ _ _ c.requires.some c.index-conditions-0.is c.len-count.ensures in
    let w = turns m t (rows_in c.args.conditions.now) (rows_in c.args.values.now) (option_map (λ a. a.now.rows) c.args.otherwise) below (ap lanes_each c.as_slice.ensures.value ∙ c.in_ok-below.ensures)
    (pairs_in c.args.conditions.now c.args.values.now c.requires.pairs) c.requires.tests c.requires.choices c.requires.fit (last_given m t c.args.otherwise (λ a. a.now.rows) c.requires.last) in
    subst (λ n. EachLong n below) (sym counted) w.long

pub chosen-requires-clause-fit : goal.chosen-requires-clause-fit
chosen-requires-clause-fit c =
    let t = type_of c.args.dtype.now in
    let m = height c.args.conditions.now in
    let below = lanes_each c.as_slice.result.now in
    let counted : c.len-count.result ≡ m = count_is _ _ _ c.requires.some c.index-conditions-0.is c.len-count.ensures in
    let w = turns m t (rows_in c.args.conditions.now) (rows_in c.args.values.now) (option_map (λ a. a.now.rows) c.args.otherwise) below (ap lanes_each c.as_slice.ensures.value ∙ c.in_ok-below.ensures)
    (pairs_in c.args.conditions.now c.args.values.now c.requires.pairs) c.requires.tests c.requires.choices c.requires.fit (last_given m t c.args.otherwise (λ a. a.now.rows) c.requires.last) in
    subst (λ n. IsBatch t (case_rows n below)) (sym counted) w.fit

pub returns-in-Some : goal.returns-in-Some
returns-in-Some c =
    let t = type_of c.args.dtype.now in
    let m = height c.args.conditions.now in
    let below = lanes_each c.as_slice.result.now in
    let counted : c.len-count.result ≡ m = count_is _ _ _ c.requires.some c.index-conditions-0.is c.len-count.ensures in
    let w = turns m t (rows_in c.args.conditions.now) (rows_in c.args.values.now) (option_map (λ a. a.now.rows) c.args.otherwise) below (ap lanes_each c.as_slice.ensures.value ∙ c.in_ok-below.ensures)
    (pairs_in c.args.conditions.now c.args.values.now c.requires.pairs) c.requires.tests c.requires.choices c.requires.fit (last_given m t c.args.otherwise (λ a. a.now.rows) c.requires.last) in
    let is : c.in-Some.array ≡ batch t (case_rows c.len-count.result below) = search rules in
    ap Ok (sym (is ∙ ap (λ n. batch t (case_rows n below)) counted ∙ ap (batch t) w.rows))
