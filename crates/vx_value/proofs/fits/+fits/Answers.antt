use Rattle.std.proofs.Common.{sym, ap, ◌∙◌, arith}
use Rattle.vx_value.specs.Fields.{field_count}
use Rattle.vx_value.specs.Views.{names_of}
use Rattle.vx_dtype.proofs.Pairs.{and_fails, field_count_view}
use Rattle.vx_value.proofs.Lists.{count_view}
use Rattle.vx_value.proofs.Pairs.{and_goes, fields_fit_count, fields_fit_next, fields_fit_end}
use Rattle.vx_value.proofs.fits.+fits.Goals as goal

pub fields_fit-returns-then-values-nfields : goal.fields_fit-returns-then-values-nfields
fields_fit-returns-then-values-nfields t c =
    fields_fit_count _ _ (λ e. c.if-values-nfields.true (sym (count_view c.args.values.now) ∙ e ∙ sym c.nfields.ensures))

pub fields_fit-returns-then-not-value_fits : goal.fields_fit-returns-then-not-value_fits
fields_fit-returns-then-not-value_fits t c =
    let k = field_count_view (names_of c.args.fields.now) c.types-types.result.now in
    let all = ap field_count c.types-types.ensures.fields in
    and_fails _ c.if-not-value_fits.ensures
    (fields_fit_next c.args.values.now (names_of c.args.fields.now) c.types-types.result.now c.loop-i.i c.index-values-i.result c.index-types-i.result _
    (omega arith) (omega arith) (omega arith) c.index-values-i.is c.index-types-i.is c.loop-i.invariant)

pub fields_fit-loop-i-preserved : goal.fields_fit-loop-i-preserved
fields_fit-loop-i-preserved t c =
    let k = field_count_view (names_of c.args.fields.now) c.types-types.result.now in
    let all = ap field_count c.types-types.ensures.fields in
    and_goes _ c.if-not-value_fits.ensures
    (fields_fit_next c.args.values.now (names_of c.args.fields.now) c.types-types.result.now c.loop-i.i c.index-values-i.result c.index-types-i.result _
    (omega arith) (omega arith) (omega arith) c.index-values-i.is c.index-types-i.is c.loop-i.invariant)

pub fields_fit-returns : goal.fields_fit-returns
fields_fit-returns t c =
    let all = ap field_count c.types-types.ensures.fields in
    sym (c.loop-i.invariant ∙ fields_fit_end c.args.values.now (names_of c.args.fields.now) c.types-types.result.now c.loop-i.i (omega arith) (omega arith))
