use Rattle.std.proofs.Common.{◌≡◌, Ok, ap, sym, ◌∙◌, map}
use Rattle.vx_value.specs.Paths.{minimal_paths}
use Rattle.vx_value.specs.Views.{type_of, value_of}
use Rattle.vx_projection.specs.Wanted.{wanted, wanted_of, taken}
use Rattle.vx_projection.proofs.Keeping.{made-fit, made-kept}
use Rattle.vx_projection.proofs.read.read_referenced.Goals as goal

pub from_shared-requires : goal.from_shared-requires
from_shared-requires c =
    let batch = c.args.batch.now in
    let paths = minimal_paths c.args.paths.now in
    let made = c.in_ok-new.field-0.value in
    let type : type_of c.in_ok-dtype.dtype ≡ batch.type = c.in_ok-dtype.ensures.cases ∙ c.dtype-dtype.ensures in
    let want : wanted_of c.in_ok-wanted.wanted ≡ wanted paths batch.type = cc (c.in_ok-wanted.ensures, c.in_ok-along.ensures, c.dtype-dtype.ensures) in
    let took : map value_of made.items ≡ map (taken (wanted_of c.in_ok-wanted.wanted)) batch.rows = ap (λ v. map value_of v.items) c.in_ok-new.ensures.ok ∙ c.in_ok-rows.ensures in
    made-fit paths batch.type (type_of c.in_ok-dtype.dtype) batch.rows (map value_of made.items) (wanted_of c.in_ok-wanted.wanted) type want c.rows-rows.ensures.fit took

pub returns : goal.returns
returns c =
    let batch = c.args.batch.now in
    let paths = minimal_paths c.args.paths.now in
    let made = c.in_ok-new.field-0.value in
    let type : type_of c.in_ok-dtype.dtype ≡ batch.type = c.in_ok-dtype.ensures.cases ∙ c.dtype-dtype.ensures in
    let want : wanted_of c.in_ok-wanted.wanted ≡ wanted paths batch.type = cc (c.in_ok-wanted.ensures, c.in_ok-along.ensures, c.dtype-dtype.ensures) in
    let took : map value_of made.items ≡ map (taken (wanted_of c.in_ok-wanted.wanted)) batch.rows = ap (λ v. map value_of v.items) c.in_ok-new.ensures.ok ∙ c.in_ok-rows.ensures in
    let kept = made-kept paths batch.type (type_of c.in_ok-dtype.dtype) batch.rows (map value_of made.items) (wanted_of c.in_ok-wanted.wanted) type want c.rows-rows.ensures.fit took in
    ap Ok (kept ∙ sym c.from_shared.ensures)
