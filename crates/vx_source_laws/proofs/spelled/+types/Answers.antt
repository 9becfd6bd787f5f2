use Rattle.std.proofs.Common.{◌+◌, ◌*◌, ◌<◌, ◌≤◌, length, ap, ◌∙◌, subst, arith, rules}
use Rattle.vx_dtype.specs.Fields.{field_count}
use Rattle.vx_dtype.specs.Views.{type_of, fields_view, fields_of}
use Rattle.vx_source_types.specs.TypePrintable.{ArePrintable, type_nesting, fields_nesting}
use Rattle.vx_source_types.proofs.FieldSources.{field_nested}
use Rattle.vx_source_laws.proofs.SpelledNext.{fields_spelled_next, fields_spelled_end}
use Rattle.vx_source_laws.proofs.spelled.+types.Goals as goal

pub fields_are_spelled-loop-i-init : goal.fields_are_spelled-loop-i-init
fields_are_spelled-loop-i-init t c =
    let names = c.as_slice-names.ensures ∙ c.names.ensures.names in
    subst ArePrintable (ap (λ ns. fields_view ns c.types-types.result.now) names ∙ c.types-types.ensures.fields)

pub fields_are_spelled-loop-i-preserved : goal.fields_are_spelled-loop-i-preserved
fields_are_spelled-loop-i-preserved t c = λ rest.
    let count = ap length c.as_slice-names.ensures in
    c.loop-i.invariant (fields_spelled_next c.as_slice-names.result.now c.types-types.result.now c.loop-i.i c.index-names-i.result c.index-types-i.result
    (omega arith) (omega arith) c.index-names-i.is c.index-types-i.is c.name_is_text.ensures c.type_is_spelled.ensures rest)

pub fields_are_spelled-returns : goal.fields_are_spelled-returns
fields_are_spelled-returns t c =
    let names = c.as_slice-names.ensures ∙ c.names.ensures.names in
    let fields = ap (λ ns. fields_view ns c.types-types.result.now) names ∙ c.types-types.ensures.fields in
    let count = ap field_count fields in
    c.loop-i.invariant (fields_spelled_end c.as_slice-names.result.now c.types-types.result.now c.loop-i.i (omega arith))

pub fields_are_spelled-type_is_spelled-requires : goal.fields_are_spelled-type_is_spelled-requires
fields_are_spelled-type_is_spelled-requires t c =
    let count = ap length c.as_slice-names.ensures in
    let names = c.as_slice-names.ensures ∙ c.names.ensures.names in
    let fields = ap (λ ns. fields_view ns c.types-types.result.now) names ∙ c.types-types.ensures.fields in
    let nested : type_nesting (type_of c.index-types-i.result) ≤ fields_nesting (fields_of c.args.fields.now) =
    field_nested c.as_slice-names.result.now c.types-types.result.now c.loop-i.i c.index-types-i.result _ (omega arith) (omega arith) c.index-types-i.is fields in
    let smaller : 2 * type_nesting (type_of c.index-types-i.result) < 2 * fields_nesting (fields_of c.args.fields.now) + 1 = omega arith in
    search rules
