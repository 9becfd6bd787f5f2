use Rattle.std.proofs.Common.{◌≡◌, ◌+◌, ◌++◌, ◌∙◌, ap, rules}
use Rattle.vx_array.specs.Shown.{shown_count}
use Rattle.vx_array_build.specs.Rowed.{flags, valid_in}
use Rattle.vx_array_build.proofs.Rowed.{truths_behind}
use Rattle.vx_array_build.proofs.truths_builder.with_part.Goals as goal

pub invariant_of-result : goal.invariant_of-result
invariant_of-result c =
    let xs = c.rows.inside.truths in
    let v = c.args.validity.now in
    let n = c.count-count.result in
    let m = c.len-2.result in
    let more : flags (m + n) c.in-Some.valid ≡ flags m c.rows.inside.valid ++ valid_in v n = search rules in
    let grown : c.in-Some-2.truths ≡ xs ++ c.in_ok-first.field-0 = search rules in
    (truths_behind xs c.args.part.now c.in_ok-first.field-0 c.in-Some-2.truths c.rows.inside.valid c.in-Some.valid _ v m n c.rows.view_is c.rows.invariant c.len-2.ensures
    (c.count-count.ensures ∙ ap (shown_count v) c.len.ensures) more c.in_ok-first.ensures grown).0

pub returns-in-Some-2 : goal.returns-in-Some-2
returns-in-Some-2 c =
    let xs = c.rows.inside.truths in
    let v = c.args.validity.now in
    let n = c.count-count.result in
    let m = c.len-2.result in
    let more : flags (m + n) c.in-Some.valid ≡ flags m c.rows.inside.valid ++ valid_in v n = search rules in
    let grown : c.in-Some-2.truths ≡ xs ++ c.in_ok-first.field-0 = search rules in
    (truths_behind xs c.args.part.now c.in_ok-first.field-0 c.in-Some-2.truths c.rows.inside.valid c.in-Some.valid _ v m n c.rows.view_is c.rows.invariant c.len-2.ensures
    (c.count-count.ensures ∙ ap (shown_count v) c.len.ensures) more c.in_ok-first.ensures grown).1
