use Rattle.std.proofs.Common.{◌≡◌, ◌+◌, ◌*◌, ◌<◌, ◌≤◌, ap, length, map, sym, subst, ◌∙◌, rules, arith, get_or}
use Rattle.std.specs.Prelude.{IfSome}
use Rattle.vx_dtype.proofs.Pairs.{field_count_view}
use Rattle.vx_dtype.specs.declared.dtype.DType.{the_lemmas as the_types}
use Rattle.vx_dtype.specs.Fields.{fields_named}
use Rattle.vx_dtype.specs.Types.{is_nullable}
use Rattle.vx_value.specs.Fields.{field_count}
use Rattle.vx_value.specs.StructColumns.{row_at, rows_in, types_in}
use Rattle.vx_value.specs.Types.{ty, atomic, truth, floating, struct, shape_of, bool, null}
use Rattle.vx_value.specs.Views.{admits_null, fields_of, names_of, type_of}
use Rattle.vx_array_build.specs.Built.{column_by, structs_by}
use Rattle.vx_data_buffers.specs.Arrays.{AreBits, HasFloats, HasNumbers, HaveFields, IsColumn, Tells, if_nullable}
use Rattle.vx_data_buffers.specs.Bytes.{bits_type, bytes_in}
use Rattle.vx_data_buffers.specs.Layout.{buffer_count, field_buffer_count, fields_at}
use Rattle.vx_data_buffers.proofs.Columns.{as_shape, floats_read, found_so, numbers_read, row_grown, structs_read, truths_read, types_grown, view_taken}
use Rattle.vx_data_buffers.proofs.Fields.{count_next, field_more}
use Rattle.vx_data_buffers.proofs.array.+array.Goals as goal

pub array_at-returns-in-Bool : goal.array_at-returns-in-Bool
array_at-returns-in-Bool t c =
    let bs = bytes_in c.args.buffers.now in
    let n = c.is_nullable-is_nullable.result in
    let v = c.in-Some.validity in
    let kind : type_of c.args.t.now ≡ ty (atomic truth) (admits_null c.in-Bool.field-0) = rw c.in-Bool.is (search (rules, the_types)) in
    let typed : type_of c.args.t.now ≡ ty (atomic truth) n = kind ∙ ap (ty (atomic truth)) (sym (c.is_nullable-is_nullable.ensures ∙ ap is_nullable kind)) in
    let tells : Tells bs c.args.at c.args.rows n v = subst (λ found. IfSome found (Tells bs c.args.at c.args.rows n)) c.in-Some.is c.in_ok-validity.ensures in
    found_so c.truths_in.result
    (λ a h. subst (λ s. IsColumn bs s c.args.at c.args.rows a) (sym typed)
    (subst (IsColumn bs (ty (atomic truth) n) c.args.at c.args.rows) (sym (h.2 ∙ ap (λ w. column_by (atomic truth) w (map bool h.0)) c.if_nullable-validity.ensures))
    (truths_read bs c.args.at c.args.rows n v h.0 tells (subst (λ b. AreBits b c.args.rows h.0) c.bytes_at.ensures h.1)))) c.truths_in.ensures

pub array_at-returns-in-Float : goal.array_at-returns-in-Float
array_at-returns-in-Float t c =
    let bs = bytes_in c.args.buffers.now in
    let n = c.is_nullable-is_nullable.result in
    let v = c.in-Some.validity in
    let f = c.in-Float.float_type in
    let bytes = c.bytes_at-in-Float in
    let kind : type_of c.args.t.now ≡ ty (atomic (floating f)) (admits_null c.in-Float.field-1) = rw c.in-Float.is (search (rules, the_types)) in
    let typed : type_of c.args.t.now ≡ ty (atomic (floating f)) n = kind ∙ ap (ty (atomic (floating f))) (sym (c.is_nullable-is_nullable.ensures ∙ ap is_nullable kind)) in
    let tells : Tells bs c.args.at c.args.rows n v = subst (λ found. IfSome found (Tells bs c.args.at c.args.rows n)) c.in-Some.is c.in_ok-validity.ensures in
    found_so c.floats_in.result
    (λ a h. subst (λ u. IsColumn bs u c.args.at c.args.rows a) (sym typed)
    (floats_read bs f c.args.at c.args.rows n v a tells
    (subst (λ b. HasFloats b f (bits_type f) c.args.rows (if_nullable n v) a) bytes.ensures
    (subst (λ w. HasFloats bytes.result.now f (bits_type f) c.args.rows w a) c.if_nullable-validity.ensures h)))) c.floats_in.ensures

pub array_at-returns-in_default-t : goal.array_at-returns-in_default-t
array_at-returns-in_default-t t c =
    let bs = bytes_in c.args.buffers.now in
    let n = c.is_nullable-is_nullable.result in
    let v = c.in-Some.validity in
    let s = shape_of (type_of c.args.t.now) in
    let bytes = c.bytes_at-in_default-t in
    let typed : type_of c.args.t.now ≡ ty s n = as_shape (type_of c.args.t.now) ∙ ap (ty s) (sym c.is_nullable-is_nullable.ensures) in
    let tells : Tells bs c.args.at c.args.rows n v = subst (λ found. IfSome found (Tells bs c.args.at c.args.rows n)) c.in-Some.is c.in_ok-validity.ensures in
    found_so c.numbers_in.result
    (λ a h. subst (λ u. IsColumn bs u c.args.at c.args.rows a) (sym typed)
    (numbers_read bs s c.args.at c.args.rows n v a tells
    (subst (λ b. HasNumbers b s c.args.rows (if_nullable n v) a) bytes.ensures
    (subst (λ w. HasNumbers bytes.result.now s c.args.rows w a) c.if_nullable-validity.ensures h)))) c.numbers_in.ensures

pub array_at-returns-in-Some-2 : goal.array_at-returns-in-Some-2
array_at-returns-in-Some-2 t c =
    let bs = bytes_in c.args.buffers.now in
    let n = c.is_nullable-is_nullable.result in
    let v = c.in-Some.validity in
    let fs = fields_of c.in-Struct.fields in
    let names = names_of c.in-Struct.fields in
    let cs = c.in-Some-2.columns.items in
    let kind : type_of c.args.t.now ≡ ty (struct fs) (admits_null c.in-Struct.field-1) = rw c.in-Struct.is (search (rules, the_types)) in
    let typed : type_of c.args.t.now ≡ ty (struct fs) n = kind ∙ ap (ty (struct fs)) (sym (c.is_nullable-is_nullable.ensures ∙ ap is_nullable kind)) in
    let tells : Tells bs c.args.at c.args.rows n v = subst (λ found. IfSome found (Tells bs c.args.at c.args.rows n)) c.in-Some.is c.in_ok-validity.ensures in
    let fields : HaveFields bs fs (c.args.at + 1) c.args.rows cs = subst (λ found. IfSome found (λ columns. HaveFields bs fs (c.args.at + 1) c.args.rows columns.items)) c.in-Some-2.is c.in_ok-columns-in-Struct.ensures.fields in
    let types : fields_named names (types_in cs) ≡ fs = subst (λ found. IfSome found (λ columns. fields_named names (types_in columns.items) ≡ fs)) c.in-Some-2.is c.in_ok-columns-in-Struct.ensures.types in
    found_so c.structs_of.result
    (λ a h. subst (λ s. IsColumn bs s c.args.at c.args.rows a) (sym typed)
    (structs_read bs fs names cs c.args.at c.args.rows n v a tells fields types
    (ap (structs_by names cs c.args.rows) (sym c.if_nullable-validity.ensures) ∙ ap (λ columns. structs_by names columns c.args.rows c.if_nullable-validity.result) (sym c.as_slice.ensures.value) ∙ h))) c.structs_of.ensures

pub columns_at-array_at-requires : goal.columns_at-array_at-requires
columns_at-array_at-requires t c =
    let many = field_count_view (names_of c.args.fields.now) c.types-types.result.now in
    let all = ap field_count c.types-types.ensures.fields in
    let next = count_next (names_of c.args.fields.now) c.types-types.result.now c.loop-field.field c.index-types-field.result (omega arith) (omega arith) c.index-types-field.is in
    let smaller : 3 * buffer_count (type_of c.index-types-field.result) < 3 * field_buffer_count (fields_of c.args.fields.now) + 1 = omega (arith, next, c.loop-field.invariant.count, c.loop-field.invariant.onward) in
    let room : c.loop-field.at + buffer_count (type_of c.index-types-field.result) ≤ length c.args.buffers.now = omega (arith, next, c.loop-field.invariant.count, c.requires) in
    search rules

pub columns_at-overflow_add-at : goal.columns_at-overflow_add-at
columns_at-overflow_add-at t c =
    let many = field_count_view (names_of c.args.fields.now) c.types-types.result.now in
    let all = ap field_count c.types-types.ensures.fields in
    let next = count_next (names_of c.args.fields.now) c.types-types.result.now c.loop-field.field c.index-types-field.result (omega arith) (omega arith) c.index-types-field.is in
    let counted : c.in_ok-at.field-0 ≡ buffer_count (type_of c.index-types-field.result) = grind arith in
    let room : c.loop-field.at + c.in_ok-at.field-0 ≤ length c.args.buffers.now = omega (arith, next, counted, c.loop-field.invariant.count, c.requires) in
    search rules

pub columns_at-loop-field-preserved : goal.columns_at-loop-field-preserved
columns_at-loop-field-preserved t c =
    let bs = bytes_in c.args.buffers.now in
    let names = names_of c.args.fields.now in
    let types = c.types-types.result.now in
    let k = c.loop-field.field in
    let at = c.loop-field.at in
    let dtype = c.index-types-field.result in
    let column = c.in-Some.column in
    let many = field_count_view names types in
    let all = ap field_count c.types-types.ensures.fields in
    let next = count_next names types k dtype (omega arith) (omega arith) c.index-types-field.is in
    let counted : c.in_ok-at.field-0 ≡ buffer_count (type_of dtype) = grind arith in
    let read : IsColumn bs (type_of dtype) at c.args.rows column = subst (λ found. IfSome found (IsColumn bs (type_of dtype) at c.args.rows)) c.in-Some.is c.in_ok-column.ensures in
    let pushed = c.in_ok-push-in-Some.ensures.items in
    record {
      values = λ i h. field_more bs names types i k at (at + c.in_ok-at.field-0) dtype (get_or column.rows i null) (row_at i (rows_in c.loop-field.columns.items)) (row_at i (rows_in c.push.new.self.items))
          (fields_at bs (fields_of c.args.fields.now) c.args.first i) (omega arith) (omega arith) c.index-types-field.is (c.loop-field.invariant.values i h) (read.each i h)
          (ap (λ cs. row_at i (rows_in cs)) pushed ∙ row_grown i c.loop-field.columns.items column) (ap (λ m. at + m) counted);
      types = types_grown types k dtype c.loop-field.columns.items c.push.new.self.items column (omega arith) c.index-types-field.is c.loop-field.invariant.types read.type pushed;
      count = omega (arith, next, counted, c.loop-field.invariant.count);
      onward = omega (arith, c.loop-field.invariant.onward);
    }

pub columns_at-returns-clause-types : goal.columns_at-returns-clause-types
columns_at-returns-clause-types t c =
    let names = names_of c.args.fields.now in
    let types = c.types-types.result.now in
    let whole : length names ≤ c.loop-field.field = omega (arith, c.len.ensures, ap length c.names.ensures.names) in
    ap (fields_named names) c.loop-field.invariant.types ∙ view_taken names types c.loop-field.field whole ∙ c.types-types.ensures.fields
