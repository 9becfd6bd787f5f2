use Rattle.std.proofs.Common.{◌≡◌, ◌∙◌, ◌-◌, ◌^◌, ap, arith, get_or, length, map, pos, rules, []}
use Rattle.std.specs.Prelude.{min}
use Rattle.std.proofs.lemmas.List.{length-map}
use Rattle.vx_array.specs.Kinds.{numbers_in, spans_in}
use Rattle.vx_array.specs.declared.numbers.Numbers.TheVariants.{I64}
use Rattle.vx_array.proofs.Held.{rows-Numbers}
use Rattle.vx_array_kernels.proofs.ByBytes.{all_counted_bytes}
use Rattle.vx_array_kernels.proofs.Chosen.{number_at, some_at}
use Rattle.vx_array_kernels.proofs.lengths.lengths_of.Goals as goal

pub returns : goal.returns
returns c =
    let t = c.args.texts in
    let spans = spans_in t.spans.now in
    let part = c.in_ok-new.field-0 in
    let v = c.in_ok-text_validity.field-0 in
    let long : length part ≡ t.count = ap length c.in_ok-new.ensures ∙ c.in_ok-lengths.ensures.long in
    rows-Numbers (I64 part) v
    ∙ all_counted_bytes t.validity.now v spans (numbers_in (I64 part)) t.count c.requires.long c.requires.there (length-map part (λ n. n) ∙ long) c.in_ok-text_validity.ensures
    (λ k lt. let here = some_at part k (omega (arith, long)) in
    let post = c.in_ok-lengths.ensures.each k here.0 lt (here.1 ∙ ap (λ l. get_or l k here.0) c.in_ok-new.ensures) in
    let counted : here.0 ≡ pos (min (length (get_or spans k [])) (2 ^ 63 - 1)) = search rules in
    number_at (λ n. n) part k here.0 (omega (arith, long)) here.1 ∙ counted)
