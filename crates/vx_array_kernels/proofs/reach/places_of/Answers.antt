use Rattle.std.proofs.Common.{◌≡◌, ◌∙◌, ◌==◌, ap, sym, get_or, false, refl, rules}
use Rattle.std.specs.Char.{to_ascii_lowercase}
use Rattle.vx_array_kernels.specs.Reach.{lowered, ArePlaces}
use Rattle.vx_array_kernels.proofs.Along.{ok_both}
use Rattle.std.proofs.lemmas.Str.Ascii.{lowercase_ascii}
use Rattle.vx_array_kernels.proofs.reach.places_of.Goals as goal

pub returns-then-ignore_case : goal.returns-then-ignore_case
returns-then-ignore_case c =
    let bytes = c.args.bytes.now in
    ok_both c.tabulated.result _ _ (λ places. ArePlaces c.args.ignore_case bytes c.args.c places)
    (λ places long each. (
      long,
      λ k lt small.
          let post = each k (get_or places k false) lt refl in
          let told : get_or places k false ≡ (to_ascii_lowercase (get_or bytes k 0) == c.byte_of-byte.result) = search rules in
          told ∙ c.byte_of-byte.ensures (to_ascii_lowercase (get_or bytes k 0)) (lowercase_ascii (get_or bytes k 0) small) ∙ ap (λ b. lowered b (get_or bytes k 0) == c.args.c) (sym c.if-ignore_case.true),
    ))
    c.tabulated.ensures.long c.tabulated.ensures.each
