use Rattle.std.proofs.Common.{◌≡◌, ap, ◌∙◌, arith}
use Rattle.vx_dtype.proofs.Pairs.{field_count_view}
use Rattle.vx_value.specs.Fields.{field_count}
use Rattle.vx_value.specs.Views.{names_of, type_of}
use Rattle.vx_projection.specs.Kept.{rests, others}
use Rattle.vx_projection.specs.Wanted.{lent_paths, wanted}
use Rattle.vx_projection.proofs.Loops.{want_next, want_end}
use Rattle.vx_projection.proofs.Sizes.{fields_size, smaller_at}
use Rattle.vx_projection.proofs.wanted.+along.Goals as goal

pub wanted_of_each-wanted_along-requires : goal.wanted_of_each-wanted_along-requires
wanted_of_each-wanted_along-requires t c =
    let names = names_of c.args.fields.now in
    let types = c.types-types.result.now in
    let count = ap field_count c.types-types.ensures.fields in
    let size = ap fields_size c.types-types.ensures.fields in
    let less = smaller_at names types c.loop-i.i c.index-types-i.result (omega arith) c.index-types-i.is in
    (omega (arith, less, size, c.decreases), tt)

pub wanted_of_each-loop-i-preserved : goal.wanted_of_each-loop-i-preserved
wanted_of_each-loop-i-preserved t c =
    let names = names_of c.args.fields.now in
    let types = c.types-types.result.now in
    let k = field_count_view names types in
    let count = ap field_count c.types-types.ensures.fields in
    let same : c.as_slice-names.result.now ≡ names = c.as_slice-names.ensures ∙ c.names.ensures.names in
    let name = c.index-names-i.result in
    let left = lent_paths c.loop-i.left.items in
    let inside : lent_paths c.in_ok-inside.inside.items ≡ rests name left = cc (c.in_ok-inside.ensures.rests, c.as_slice.ensures.value) in
    let after : lent_paths c.in_ok-inside.others.items ≡ others name left = cc (c.in_ok-inside.ensures.others, c.as_slice.ensures.value) in
    want_next names types c.loop-i.each.items c.push.new.self.items left (lent_paths c.in_ok-inside.others.items) c.loop-i.i name c.index-types-i.result c.in_ok-wanted_along.field-0 _
    (omega arith) (omega arith) (rw same at c.index-names-i.is) c.index-types-i.is c.in_ok-push.ensures.items
    (c.in_ok-wanted_along.ensures ∙ ap (λ ps. wanted ps (type_of c.index-types-i.result)) inside) after c.loop-i.invariant

pub wanted_of_each-returns : goal.wanted_of_each-returns
wanted_of_each-returns t c =
    let names = names_of c.args.fields.now in
    let types = c.types-types.result.now in
    let count = ap field_count c.types-types.ensures.fields in
    want_end names types c.loop-i.each.items (lent_paths c.loop-i.left.items) c.loop-i.i _ (omega arith) c.loop-i.invariant
