use Rattle.std.proofs.Common.{◌≡◌, ap, ◌∙◌, length}
use Rattle.std.specs.Prelude.{min}
use Rattle.vx_array.proofs.Joined.{are_both}
use Rattle.vx_array_scan.proofs.TrueRows.{both_true}
use Rattle.vx_array_scan.proofs.truths.valid_and_true.Goals as goal

pub returns : goal.returns
returns c =
    let truths = c.args.truths.now in
    let valid = c.args.valid.now in
    let many : c.min-count.result ≡ min (length truths) (length valid) = c.min-count.ensures ∙ ap (λ n. min n c.len-2.result) c.len.ensures ∙ ap (min (length truths)) c.len-2.ensures in
    both_true truths valid c.and_with.new.self (are_both c.min-count.result truths valid c.in_ok-rows.rows c.in_ok-first.field-0 c.and_with.new.self many c.in_ok-rows.ensures c.in_ok-first.ensures c.and_with.ensures)
