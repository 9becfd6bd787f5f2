use Rattle.std.proofs.Common.{◌≡◌, ◌∙◌, ap, arith}
use Rattle.std.proofs.Math.ListN.{replicate}
use Rattle.vx_value.specs.Types.{null}
use Rattle.vx_value.specs.Views.{value_of}
use Rattle.vx_array.specs.declared.lanes.Lanes as Kind
use Rattle.vx_array.specs.Rows.{lanes_each, lanes_rows}
use Rattle.vx_array.proofs.Held.{rows-Same}
use Rattle.vx_array.proofs.Reading.{value_of-Null}
use Rattle.vx_array_kernels.specs.Choices.{case_rows}
use Rattle.vx_array_kernels.proofs.Cases.{else_rows, lanes_long, no_else_rows}
use Rattle.vx_array_kernels.proofs.Chosen.{found_all}
use Rattle.vx_array_kernels.proofs.choices.otherwise.Goals as goal

pub returns-in-len1-up : goal.returns-in-len1-up
returns-in-len1-up g c =
    let n = c.args.count in
    let ls = c.args.rest.now in
    let l = c.last-item.result in
    found_all c.of-in-len1-up.result (λ b. g.B.Blend.rows b ≡ lanes_rows l) (λ b. g.B.Blend.rows b ≡ case_rows n (lanes_each ls))
    (λ b is. else_rows n ls l (g.B.Blend.rows b) c.requires.few (omega arith) c.last-item.is (lanes_long n ls 0 l c.requires.long (omega arith) c.last-item.is) is) c.of-in-len1-up.ensures

pub returns-in_ok-new-in-empty : goal.returns-in_ok-new-in-empty
returns-in_ok-new-in-empty g c =
    let n = c.args.count in
    let ls = c.args.rest.now in
    let nulls = c.in_ok-new-in-empty.field-0 in
    let null_there : value_of nulls.value ≡ null = ap value_of c.in_ok-new-in-empty.ensures.ok ∙ value_of-Null in
    found_all c.of.result (λ b. g.B.Blend.rows b ≡ lanes_rows (Kind.Same nulls n)) (λ b. g.B.Blend.rows b ≡ case_rows n (lanes_each ls))
    (λ b is. no_else_rows n ls (g.B.Blend.rows b) (omega arith) (is ∙ rows-Same nulls n ∙ ap (replicate n) null_there)) c.of.ensures
