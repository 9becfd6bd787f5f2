use Rattle.std.proofs.Common.{◌≡◌, ◌∙◌, ap, get_or, length, refl, rules, [], false, nat_eq}
use Rattle.std.specs.List.{starts_with}
use Rattle.vx_array.specs.Kinds.{spans_in}
use Rattle.vx_array.proofs.Held.{rows-Bools}
use Rattle.vx_array_kernels.proofs.ByBytes.{all_begun}
use Rattle.vx_array_kernels.proofs.beginnings.begun_with.Goals as goal

pub returns : goal.returns
returns c =
    let t = c.args.texts in
    let spans = spans_in t.spans.now in
    let p = c.args.prefix.now in
    let told = c.in_ok-told.told in
    let bits = c.in_ok-new.field-0 in
    let v = c.in_ok-validity.validity in
    rows-Bools bits v
    ∙ all_begun t.validity.now v spans p bits t.count c.requires.long c.requires.there (ap length c.in_ok-new.ensures ∙ c.in_ok-told.ensures.long) c.utf8.prefix c.in_ok-validity.ensures
    (λ k lt. let post = c.in_ok-told.ensures.each k (get_or told k false) lt refl in
    let begins : get_or told k false ≡ starts_with nat_eq (get_or spans k []) p = search rules in
    ap (λ l. get_or l k false) c.in_ok-new.ensures ∙ begins)
