use Rattle.std.proofs.Common.{◌≡◌, ap, ◌∙◌, length}
use Rattle.std.specs.Prelude.{min}
use Rattle.vx_array.proofs.Joined.{are_both}
use Rattle.vx_array.proofs.validity.both.Goals as goal

pub returns-clause-long : goal.returns-clause-long
returns-clause-long c =
    let many : c.min-count.result ≡ min (length c.args.bits.now) (length c.args.others.now) = c.min-count.ensures ∙ ap (λ n. min n c.len-2.result) c.len.ensures ∙ ap (min (length c.args.bits.now)) c.len-2.ensures in
    (are_both c.min-count.result c.args.bits.now c.args.others.now c.in_ok-joined.joined c.in_ok-first.field-0 c.and_with.new.self many c.in_ok-joined.ensures c.in_ok-first.ensures c.and_with.ensures).long

pub returns-clause-each : goal.returns-clause-each
returns-clause-each c =
    let many : c.min-count.result ≡ min (length c.args.bits.now) (length c.args.others.now) = c.min-count.ensures ∙ ap (λ n. min n c.len-2.result) c.len.ensures ∙ ap (min (length c.args.bits.now)) c.len-2.ensures in
    (are_both c.min-count.result c.args.bits.now c.args.others.now c.in_ok-joined.joined c.in_ok-first.field-0 c.and_with.new.self many c.in_ok-joined.ensures c.in_ok-first.ensures c.and_with.ensures).each
