use Rattle.std.proofs.Common.{◌≡◌, map, rules, true, false}
use Rattle.vx_array.specs.Kinds.{spans_in}
use Rattle.vx_array.specs.Shown.{is_valid}
use Rattle.vx_array.proofs.Masked.{row_null, row_there}
use Rattle.vx_array_kernels.proofs.picked.span_at.Goals as goal

pub returns-then-not-is_valid : goal.returns-then-not-is_valid
returns-then-not-is_valid c = λ f.
    let null_there : is_valid c.args.validity.now c.args.k ≡ false = search rules in
    row_null c.args.validity.now (map f (spans_in c.args.spans.now)) c.args.k null_there

pub returns-then-k-len : goal.returns-then-k-len
returns-then-k-len c = λ f.
    let valid : is_valid c.args.validity.now c.args.k ≡ true = search rules in
    row_there f c.args.validity.now (spans_in c.args.spans.now) c.args.k c.span.result.now c.span.result.now (search rules) valid c.span.ensures
