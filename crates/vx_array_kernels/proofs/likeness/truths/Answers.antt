use Rattle.std.proofs.Common.{◌≡◌, ◌∙◌, ap, get_or, length, refl, false, None, rules}
use Rattle.std.specs.Prelude.{is_some, unwrap_or}
use Rattle.vx_array.specs.declared.validity.Validity.TheVariants.{Rows}
use Rattle.vx_array.proofs.Held.{rows-Bools}
use Rattle.vx_array_kernels.proofs.Liked.{told_in_bits}
use Rattle.vx_array_kernels.proofs.likeness.truths.Goals as goal

pub returns : goal.returns
returns c =
    let told = c.args.told.now in
    let valid = c.in_ok-valid-2.valid in
    let bits = c.in_ok-new.field-0 in
    rows-Bools bits (Rows valid) ∙ told_in_bits told valid bits (ap length c.in_ok-valid-2.ensures ∙ c.in_ok-valid.ensures.long) (ap length c.in_ok-new.ensures ∙ c.in_ok-bits.ensures.long)
    (λ k lt.
    let post = c.in_ok-valid.ensures.each k (get_or c.in_ok-valid.valid k false) lt refl in
    let told_there : get_or c.in_ok-valid.valid k false ≡ is_some (get_or told k None) = search rules in
    ap (λ l. get_or l k false) c.in_ok-valid-2.ensures ∙ told_there)
    (λ k lt.
    let post = c.in_ok-bits.ensures.each k (get_or c.in_ok-bits.bits k false) lt refl in
    let true_there : get_or c.in_ok-bits.bits k false ≡ unwrap_or (get_or told k None) false = search rules in
    ap (λ l. get_or l k false) c.in_ok-new.ensures ∙ true_there)
