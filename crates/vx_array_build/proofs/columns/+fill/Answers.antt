use Rattle.std.proofs.Common.{◌≡◌, ◌+◌, ◌*◌, ◌<◌, ap, sym, ◌∙◌, rules, arith, map}
use Rattle.std.specs.List.{range_with_len}
use Rattle.vx_value.specs.Fields.{field_count}
use Rattle.vx_value.specs.Views.{fields_of, names_of, type_of}
use Rattle.vx_value.specs.Items.{item_at}
use Rattle.vx_array.specs.Rows.{lanes_each}
use Rattle.vx_array_build.specs.Filled.{rows_lent}
use Rattle.vx_array_build.proofs.Filling.{lanes_more, lent_long, structs_are}
use Rattle.vx_array_build.proofs.Sizes.{fields_size, smaller_at, type_size}
use Rattle.vx_array_build.proofs.columns.+fill.Goals as goal

pub struct_lanes-lanes_of-requires : goal.struct_lanes-lanes_of-requires
struct_lanes-lanes_of-requires t c =
    let all = ap field_count c.types-types.ensures.fields in
    let sizes = ap fields_size c.types-types.ensures.fields in
    let small = smaller_at (names_of c.args.fields.now) c.types-types.result.now c.loop-j.j c.index-types-j.result (omega arith) c.index-types-j.is in
    let smaller : 2 * type_size (type_of c.index-types-j.result) < 2 * fields_size (fields_of c.args.fields.now) + 1 = omega (arith, small, sizes) in
    (search rules, c.requires)

pub struct_lanes-loop-j-preserved : goal.struct_lanes-loop-j-preserved
struct_lanes-loop-j-preserved t c =
    lanes_more (rows_lent c.args.rows.now) c.loop-j.lanes.items c.push.new.self.items c.loop-j.j c.in_ok-lanes_of.field-0 c.loop-j.invariant c.in_ok-push.ensures.items (c.in_ok-lanes_of.ensures ∙ ap rows_lent c.as_slice.ensures.value ∙ c.in_ok-items.ensures)

pub struct_lanes-returns : goal.struct_lanes-returns
struct_lanes-returns t c =
    let rows = rows_lent c.args.rows.now in
    let count = c.nfields-count.result in
    let all : c.loop-j.j ≡ count = omega arith in
    structs_are c.in_ok-lanes-2.lanes c.first.result c.in_ok-validity.validity rows count c.first.ensures.from (c.first.ensures.len ∙ sym (lent_long c.args.rows.now))
    (ap (λ u. lanes_each u.items) c.in_ok-lanes-2.ensures.ok ∙ c.loop-j.invariant ∙ ap (λ n. map (λ j. map (item_at j) rows) (range_with_len 0 n)) all)
    (λ k lt. c.are_structs.ensures c.if-not-are_structs.false k (omega (arith, lent_long c.args.rows.now))) c.in_ok-validity.ensures
