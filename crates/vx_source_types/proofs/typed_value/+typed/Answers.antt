use Rattle.std.proofs.Common.{◌∙◌, ap, arith, rules, sym}
use Rattle.std.specs.Prelude.{[], option_map}
use Rattle.vx_dtype.specs.Fields.{field_count}
use Rattle.vx_value.specs.Views.{data_view, fields_of, names_of, type_of}
use Rattle.vx_source_types.specs.Untyped.{typed_row}
use Rattle.vx_source_types.proofs.Typing.{made_first, made_more, made_none, made_all, item_typed, item_untyped, no_item, field_typed, field_untyped, no_field_left, before}
use Rattle.vx_dtype.proofs.Pairs.{field_count_view}
use Rattle.vx_source_types.proofs.typed_value.+typed.Goals as goal

pub type_items-loop-i-init : goal.type_items-loop-i-init
type_items-loop-i-init t c = record { left = search rules; made = made_first _ c.args.items.now }

pub type_items-loop-i-preserved : goal.type_items-loop-i-preserved
type_items-loop-i-preserved t c =
    let items = c.loop-i.items in
    let i = c.loop-i.i in
    record {
      left = search rules;
      made = made_more _ _ _ items i c.type_value.new.value (omega arith) (item_typed items (type_of c.args.t.now) i _ c.type_value.new.value (omega arith) c.in_ok-type_value.ensures) c.loop-i.invariant.made;
    }

pub type_items-returns-in_err-type_value : goal.type_items-returns-in_err-type_value
type_items-returns-in_err-type_value t c =
    let items = c.loop-i.items in
    let i = c.loop-i.i in
    rw c.from_residual.ensures (made_none _ _ items i (item_untyped items (type_of c.args.t.now) i _ (omega arith) c.in_err-type_value.ensures) c.loop-i.invariant.made)

pub type_items-returns : goal.type_items-returns
type_items-returns t c = made_all _ _ c.loop-i.items c.loop-i.i (no_item c.loop-i.items (type_of c.args.t.now) c.loop-i.i (omega arith)) c.loop-i.invariant.made

pub type_row-loop-i-init : goal.type_row-loop-i-init
type_row-loop-i-init t c =
    let items = c.args.items.now in
    record { left = search rules; made = made_first (typed_row (data_view items) (fields_of c.args.fields.now)) items ∙ ap (λ fs. option_map (before []) (typed_row (data_view items) fs)) (sym c.types-types.ensures.fields) }

pub type_row-loop-i-preserved : goal.type_row-loop-i-preserved
type_row-loop-i-preserved t c =
    let items = c.loop-i.items in
    let i = c.loop-i.i in
    let names = names_of c.args.fields.now in
    let types = c.types-types.result.now in
    let counted = ap field_count c.types-types.ensures.fields in
    let long = field_count_view names types in
    record {
      left = search rules;
      made = made_more _ _ _ items i c.type_value.new.value (omega arith) (field_typed items names types i [] c.index-types-i.result _ c.type_value.new.value (omega arith) (omega arith) (omega arith) c.index-types-i.is c.in_ok-type_value.ensures) c.loop-i.invariant.made;
    }

pub type_row-returns-in_err-type_value : goal.type_row-returns-in_err-type_value
type_row-returns-in_err-type_value t c =
    let items = c.loop-i.items in
    let i = c.loop-i.i in
    let names = names_of c.args.fields.now in
    let types = c.types-types.result.now in
    let counted = ap field_count c.types-types.ensures.fields in
    let long = field_count_view names types in
    rw c.from_residual.ensures (made_none _ _ items i (field_untyped items names types i [] c.index-types-i.result _ (omega arith) (omega arith) (omega arith) c.index-types-i.is c.in_err-type_value.ensures) c.loop-i.invariant.made)

pub type_row-returns : goal.type_row-returns
type_row-returns t c =
    let items = c.loop-i.items in
    let i = c.loop-i.i in
    let names = names_of c.args.fields.now in
    let types = c.types-types.result.now in
    let counted = ap field_count c.types-types.ensures.fields in
    made_all _ _ items i (no_field_left items names types i (search rules)) c.loop-i.invariant.made
