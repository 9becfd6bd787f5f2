use Rattle.std.proofs.Common.{◌≡◌, ◌+◌, ◌-◌, ◌*◌, ◌<◌, ◌≤◌, ap, length, map, sym, subst, ◌∙◌, rules, arith}
use Rattle.vx_dtype.proofs.Pairs.{field_count_view}
use Rattle.vx_value.specs.Fields.{data_of, field_count}
use Rattle.vx_value.specs.Types.{ty, list, fixed, list_of, struct_of}
use Rattle.vx_value.specs.Views.{admits_null, fields_of, names_of, type_of, value_of}
use Rattle.std.specs.Prelude.{Err, Ok}
use Rattle.vx_dtype.specs.declared.dtype.DType.{the_lemmas as the_types}
use Rattle.vx_value.specs.declared.value.Value.{Struct, the_lemmas as the_values}
use Rattle.vx_data_buffers.specs.Results.{Reads, and_so, each_from}
use Rattle.vx_data_buffers.specs.Bytes.{bytes_in}
use Rattle.vx_data_buffers.specs.Layout.{buffer_count, field_buffer_count, fields_at, value_at}
use Rattle.vx_data_buffers.proofs.Fields.{count_next, field_read, field_refused, fields_read}
use Rattle.vx_data_buffers.proofs.Items.{fixed_read, list_read}
use Rattle.vx_data_buffers.proofs.Runs.{pushed, refused, refused_so}
use Rattle.vx_data_buffers.proofs.values.+read.Goals as goal

pub items-loop-i-preserved : goal.items-loop-i-preserved
items-loop-i-preserved t c =
    pushed (value_at (bytes_in c.args.buffers.now) (type_of c.args.t.now) c.args.at) c.args.rows.0 (c.loop-i.i - c.args.rows.0) (c.loop-i.i + 1 - c.args.rows.0) c.loop-i.i
    c.loop-i.items.items c.push.new.self.items c.in_ok-value_at.field-0 (omega arith) (omega arith) c.loop-i.invariant c.in_ok-value_at.ensures c.in_ok-push.ensures.items

pub items-returns-in_err-value_at : goal.items-returns-in_err-value_at
items-returns-in_err-value_at t c =
    let f = value_at (bytes_in c.args.buffers.now) (type_of c.args.t.now) c.args.at in
    let failed : c.from_residual.result ≡ Err c.in_err-value_at.field-0.0 = search rules in
    subst (λ r. Reads value_of r (and_so (each_from f c.args.rows.0 (c.args.rows.1 - c.args.rows.0)) (λ vs. list_of (data_of vs)))) (sym failed)
    (refused_so (λ vs. list_of (data_of vs)) (each_from f c.args.rows.0 (c.args.rows.1 - c.args.rows.0)) _ _
    (refused f c.args.rows.0 (c.loop-i.i - c.args.rows.0) (c.args.rows.1 - c.args.rows.0) c.loop-i.i _ _ _ (omega arith) (omega arith) c.loop-i.invariant c.in_err-value_at.ensures))

pub fields_at-value_at-requires : goal.fields_at-value_at-requires
fields_at-value_at-requires t c =
    let many = field_count_view (names_of c.args.fields.now) c.types-types.result.now in
    let all = ap field_count c.types-types.ensures.fields in
    let next = count_next (names_of c.args.fields.now) c.types-types.result.now c.loop-field.field c.index-types-field.result (omega arith) (omega arith) c.index-types-field.is in
    let smaller : 2 * buffer_count (type_of c.index-types-field.result) < 2 * field_buffer_count (fields_of c.args.fields.now) + 1 = omega (arith, next, c.loop-field.invariant.count, c.loop-field.invariant.onward) in
    let room : c.loop-field.at + buffer_count (type_of c.index-types-field.result) ≤ length c.args.buffers.now = omega (arith, next, c.loop-field.invariant.count, c.requires.buffers) in
    search rules

pub fields_at-returns-in_err-value_at : goal.fields_at-returns-in_err-value_at
fields_at-returns-in_err-value_at t c =
    let many = field_count_view (names_of c.args.fields.now) c.types-types.result.now in
    let all = ap field_count c.types-types.ensures.fields in
    let failed : c.from_residual-in_err-value_at.result ≡ Err c.in_err-value_at.field-0.0 = search rules in
    subst (λ r. Reads value_of r (and_so (fields_at (bytes_in c.args.buffers.now) (fields_of c.args.fields.now) c.args.first c.args.i) (λ vs. struct_of (data_of vs)))) (sym failed)
    (refused_so (λ vs. struct_of (data_of vs)) _ _ _
    (field_refused (bytes_in c.args.buffers.now) (names_of c.args.fields.now) c.types-types.result.now c.args.i c.loop-field.field c.loop-field.at c.index-types-field.result
    (map value_of c.loop-field.values.items) _ _ _ (omega arith) (omega arith) c.index-types-field.is c.loop-field.invariant.values c.in_err-value_at.ensures))

pub fields_at-overflow_add-at : goal.fields_at-overflow_add-at
fields_at-overflow_add-at t c =
    let many = field_count_view (names_of c.args.fields.now) c.types-types.result.now in
    let all = ap field_count c.types-types.ensures.fields in
    let next = count_next (names_of c.args.fields.now) c.types-types.result.now c.loop-field.field c.index-types-field.result (omega arith) (omega arith) c.index-types-field.is in
    let counted : c.in_ok-at.field-0 ≡ buffer_count (type_of c.index-types-field.result) = grind arith in
    let room : c.loop-field.at + c.in_ok-at.field-0 ≤ length c.args.buffers.now = omega (arith, next, counted, c.loop-field.invariant.count, c.requires.buffers) in
    search rules

pub fields_at-loop-field-preserved : goal.fields_at-loop-field-preserved
fields_at-loop-field-preserved t c =
    let many = field_count_view (names_of c.args.fields.now) c.types-types.result.now in
    let all = ap field_count c.types-types.ensures.fields in
    let next = count_next (names_of c.args.fields.now) c.types-types.result.now c.loop-field.field c.index-types-field.result (omega arith) (omega arith) c.index-types-field.is in
    let counted : c.in_ok-at.field-0 ≡ buffer_count (type_of c.index-types-field.result) = grind arith in
    record {
      values = field_read (bytes_in c.args.buffers.now) (names_of c.args.fields.now) c.types-types.result.now c.args.i c.loop-field.field c.loop-field.at (c.loop-field.at + c.in_ok-at.field-0)
          c.index-types-field.result c.in_ok-value_at.field-0 c.loop-field.values.items c.push.new.self.items _ (omega arith) (omega arith) c.index-types-field.is
          c.loop-field.invariant.values c.in_ok-value_at.ensures c.in_ok-push.ensures.items (ap (λ n. c.loop-field.at + n) counted);
      count = omega (arith, next, counted, c.loop-field.invariant.count);
      onward = omega (arith, c.loop-field.invariant.onward);
    }

pub fields_at-returns : goal.fields_at-returns
fields_at-returns t c =
    let all = ap field_count c.types-types.ensures.fields in
    let shown : value_of (Struct c.loop-field.values) ≡ struct_of (data_of (map value_of c.loop-field.values.items)) = search (rules, the_values) in
    ap (λ r. and_so r (λ vs. struct_of (data_of vs)))
    (fields_read (bytes_in c.args.buffers.now) (names_of c.args.fields.now) c.types-types.result.now c.args.i c.loop-field.field c.loop-field.at (map value_of c.loop-field.values.items) _
    (omega arith) c.loop-field.invariant.values)
    ∙ ap (λ v. Ok v) (sym shown)

pub value_at-returns-in_ok-rows-in-List : goal.value_at-returns-in_ok-rows-in-List
value_at-returns-in_ok-rows-in-List t c =
    let kind : type_of c.args.t.now ≡ ty (list (type_of c.as_ref.result.now)) (admits_null c.in-List.field-1) = rw (c.in-List.is, c.as_ref.ensures) (search (rules, the_types)) in
    let valid = sym c.in_ok-is_valid.ensures ∙ ap (λ b. Ok b) c.if-not-branch.false in
    subst (λ r. Reads value_of c.items.result r) (sym (list_read _ _ _ _ _ _ _ _ kind valid (sym c.in_ok-rows-in-List.ensures.value))) c.items.ensures

pub value_at-returns-in_ok-rows-in-FixedSizeList : goal.value_at-returns-in_ok-rows-in-FixedSizeList
value_at-returns-in_ok-rows-in-FixedSizeList t c =
    let kind : type_of c.args.t.now ≡ ty (fixed (type_of c.as_ref-in-FixedSizeList.result.now) c.in-FixedSizeList.size) (admits_null c.in-FixedSizeList.field-2) =
    rw (c.in-FixedSizeList.is, c.as_ref-in-FixedSizeList.ensures) (search (rules, the_types)) in
    let valid = sym c.in_ok-is_valid.ensures ∙ ap (λ b. Ok b) c.if-not-branch.false in
    let span = c.in_ok-rows-in-FixedSizeList.ensures.value in
    subst (λ r. Reads value_of c.items-in-FixedSizeList.result r) (sym (fixed_read _ _ _ _ _ _ _ _ _ kind valid span.0 span.1)) c.items-in-FixedSizeList.ensures
