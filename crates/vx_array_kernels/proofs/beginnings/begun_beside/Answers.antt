use Rattle.std.proofs.Common.{◌≡◌, ◌∙◌, ap, get_or, length, refl, rules, [], false, nat_eq}
use Rattle.std.specs.List.{starts_with}
use Rattle.vx_array.specs.Kinds.{spans_in}
use Rattle.vx_array.proofs.Held.{rows-Bools}
use Rattle.vx_array_kernels.proofs.ByBytes.{all_begun_beside}
use Rattle.vx_array_kernels.proofs.beginnings.begun_beside.Goals as goal

pub returns : goal.returns
returns c =
    let t = c.args.texts in
    let q = c.args.prefixes in
    let spans = spans_in t.spans.now in
    let others = spans_in q.spans.now in
    let told = c.in_ok-told.told in
    let bits = c.in_ok-new.field-0 in
    let both = c.in_ok-both in
    rows-Bools bits both.both
    ∙ all_begun_beside t.validity.now q.validity.now c.in_ok-validity.validity c.in_ok-text_validity.field-0 both.both spans others bits t.count c.requires.long c.requires.there (c.requires.prefixes_long ∙ c.requires.count) (rw (← c.requires.count) c.requires.prefixes_there)
    (ap length c.in_ok-new.ensures ∙ c.in_ok-told.ensures.long) c.in_ok-validity.ensures c.in_ok-text_validity.ensures both.ensures.each both.ensures.count
    (λ k lt. let post = c.in_ok-told.ensures.each k (get_or told k false) lt refl in
    let begins : get_or told k false ≡ starts_with nat_eq (get_or spans k []) (get_or others k []) = search rules in
    ap (λ l. get_or l k false) c.in_ok-new.ensures ∙ begins)
