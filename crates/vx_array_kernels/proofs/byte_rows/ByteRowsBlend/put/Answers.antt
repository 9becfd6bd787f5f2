use Rattle.std.proofs.Common.{◌≡◌, ◌∙◌, ◌+◌, ◌<◌, ap, sym, subst, length, get_or, [], ◌∷◌, arith, rules}
use Rattle.std.proofs.lemmas.List.{length-append, with_items_is}
use Rattle.vx_array.specs.Rows.{lanes_each, lanes_rows}
use Rattle.vx_array_kernels.specs.ByteRows.{picked_rows}
use Rattle.vx_array_kernels.specs.Choices.{blended}
use Rattle.vx_array_kernels.proofs.Picking.{length-picked_rows, picked_put, within_put}
use Rattle.vx_array_kernels.proofs.byte_rows.ByteRowsBlend.put.Goals as goal

pub write_where-requires-clause-long : goal.write_where-requires-clause-long
write_where-requires-clause-long g c =
    c.requires.mask ∙ ap length (sym c.self.view_is) ∙ length-picked_rows (lanes_each c.self.inside.columns.items) c.self.inside.choices.items ∙ sym (ap length c.as_mut_slice.ensures.value)

pub invariant_of-self-2 : goal.invariant_of-self-2
invariant_of-self-2 g c = λ k.
    let news = c.write_where.new.rows in
    let ls = c.self.inside.columns.items in
    let copy = c.in_ok-clone.field-0 in
    let here = with_items_is c.self.inside.choices news (omega (arith, c.write_where.auto.rows, c.as_mut_slice.ensures.len)) in
    let long : length c.push.new.self.items ≡ length ls + 1 = ap length c.in_ok-push.ensures.items ∙ length-append ls (copy ∷ []) in
    let low : get_or news k 0 < length ls + 1 =
    within_put ls copy c.args.mask.now c.self.inside.choices.items news (c.write_where.auto.rows ∙ ap length c.as_mut_slice.ensures.value) c.self.invariant
    (λ i x lt on is.
    let post = c.write_where.ensures.on i x (omega (arith, ap length c.as_mut_slice.ensures.value)) on is in
    let last : x ≡ length ls = search rules in
    last)
    (λ i x lt off is. c.write_where.ensures.off i x (omega (arith, ap length c.as_mut_slice.ensures.value)) off is ∙ ap (λ l. get_or l i x) c.as_mut_slice.ensures.value) k in
    subst (λ l. get_or l k 0 < length c.push.new.self.items) (sym here) (subst (λ n. get_or news k 0 < n) (sym long) low)

pub returns : goal.returns
returns g c = λ _.
    let news = c.write_where.new.rows in
    let ls = c.self.inside.columns.items in
    let copy = c.in_ok-clone.field-0 in
    let mask = c.args.mask.now in
    let ys = c.args.self.now in
    let same : lanes_rows copy ≡ lanes_rows c.args.lanes.now = search rules in
    let here = with_items_is c.self.inside.choices news (omega (arith, c.write_where.auto.rows, c.as_mut_slice.ensures.len)) in
    ap (λ l. picked_rows (lanes_each c.push.new.self.items) l) here ∙ ap (λ l. picked_rows (lanes_each l) news) c.in_ok-push.ensures.items
    ∙ picked_put ls copy mask c.self.inside.choices.items news ys c.self.view_is (c.write_where.auto.rows ∙ ap length c.as_mut_slice.ensures.value) c.self.invariant
    (λ i x lt on is.
    let post = c.write_where.ensures.on i x (omega (arith, ap length c.as_mut_slice.ensures.value)) on is in
    let last : x ≡ length ls = search rules in
    last)
    (λ i x lt off is. c.write_where.ensures.off i x (omega (arith, ap length c.as_mut_slice.ensures.value)) off is ∙ ap (λ l. get_or l i x) c.as_mut_slice.ensures.value)
    ∙ ap (λ rows. blended mask rows ys) same
