use Rattle.std.proofs.Common.{◌≡◌, ◌∙◌, ap, length, map, sym}
use Rattle.std.proofs.Math.ListN.{replicate}
use Rattle.vx_value.specs.Types.{utf8}
use Rattle.vx_value.specs.Views.{value_of}
use Rattle.vx_fn.specs.Values.{begun}
use Rattle.vx_array.specs.Rows.{lanes_rows}
use Rattle.vx_array.proofs.Held.{rows-Same, rows-Texts}
use Rattle.vx_array.proofs.Reading.{value_of-Utf8}
use Rattle.vx_array_kernels.proofs.Liked.{texts_there}
use Rattle.vx_array_kernels.proofs.Told.{both_with}
use Rattle.vx_array_kernels.proofs.beginnings.starts_with.Goals as goal

pub begun_with-requires-clause-there : goal.begun_with-requires-clause-there
begun_with-requires-clause-there c =
    let m = c.in-Texts-Same in
    texts_there m.validity m.spans c.args.pair.count (ap length (sym (ap lanes_rows m.is-0 ∙ rows-Texts m.spans m.validity)) ∙ c.requires.0)

pub begun_beside-requires-clause-there : goal.begun_beside-requires-clause-there
begun_beside-requires-clause-there c =
    let m = c.in-Texts-Texts in
    texts_there m.validity m.spans c.args.pair.count (ap length (sym (ap lanes_rows m.is-0 ∙ rows-Texts m.spans m.validity)) ∙ c.requires.0)

pub begun_beside-requires-clause-prefixes_there : goal.begun_beside-requires-clause-prefixes_there
begun_beside-requires-clause-prefixes_there c =
    let m = c.in-Texts-Texts in
    texts_there m.others_validity m.others c.args.pair.count (ap length (sym (ap lanes_rows m.is-1 ∙ rows-Texts m.others m.others_validity)) ∙ c.requires.1)

pub returns-in_ok-begun_with-in-Utf8 : goal.returns-in_ok-begun_with-in-Utf8
returns-in_ok-begun_with-in-Utf8 c =
    let m = c.in-Texts-Same in
    let p = utf8 c.as_str.result.now in
    let texts : lanes_rows c.args.pair.lhs.now ≡ _ = ap lanes_rows m.is-0 ∙ rows-Texts m.spans m.validity in
    let held : value_of m.value.value ≡ p = ap value_of (sym c.as_ref.ensures ∙ c.in-Utf8.is) ∙ value_of-Utf8 c.in-Utf8.prefix ∙ ap utf8 (sym c.as_str.ensures.value) in
    both_with c.args.pair.count m.field-1-1 begun (lanes_rows c.args.pair.lhs.now) (lanes_rows c.args.pair.rhs.now) (lanes_rows c.in_ok-begun_with-in-Utf8.field-0) p c.requires.0 c.requires.1 (ap lanes_rows m.is-1 ∙ rows-Same m.value m.field-1-1 ∙ ap (replicate m.field-1-1) held)
    (c.in_ok-begun_with-in-Utf8.ensures ∙ ap (map (λ v. begun v p)) (sym texts))
