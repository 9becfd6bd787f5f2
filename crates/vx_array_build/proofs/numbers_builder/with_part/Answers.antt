use Rattle.std.proofs.Common.{◌≡◌, ◌+◌, ◌++◌, ◌∙◌, ap, take, length, rules}
use Rattle.vx_array.specs.Shown.{shown_count}
use Rattle.vx_array_build.specs.Rowed.{flags, valid_in}
use Rattle.vx_array_build.proofs.Rowed.{numbers_behind, sum_of}
use Rattle.vx_array_build.proofs.numbers_builder.with_part.Goals as goal

pub returns : goal.returns
returns g c =
    let xs = c.rows.inside.numbers.items in
    let part = c.args.part.now in
    let v = c.args.validity.now in
    let n = c.count-count.result in
    let m = c.len-2.result in
    let valid = c.in-Some.valid in
    let long : m ≡ length xs = search rules in
    let behind : flags (m + n) valid ≡ flags m c.rows.inside.valid ++ valid_in v n = search rules in
    let counted = c.count-count.ensures ∙ ap (shown_count v) c.len.ensures in
    let more = c.in_ok-extend_from_slice.ensures.items ∙ ap (λ l. xs ++ take n l) c.as_slice.ensures in
    let grown = ap (λ k. flags k valid) (sum_of xs part _ v m n long counted more) ∙ behind ∙ ap (λ k. flags k c.rows.inside.valid ++ valid_in v n) long in
    (numbers_behind g.T.Number.number _ _ xs part _ _ v n c.rows.view_is c.rows.invariant counted grown more).1
