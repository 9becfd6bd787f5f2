use Rattle.std.proofs.Common.{◌≡◌, ◌+◌, ◌*◌, ◌%◌, ◌^◌, ◌<◌, ◌≤◌, sym, ap, subst, ◌∙◌, arith}
use lib.Ieee.{hid, low, ones, top}
use Rattle.fast_float.specs.Rounding.{IsSignificand}
use Rattle.fast_float.proofs.Patterns.{shape}
use Rattle.vx_floats.specs.Parts.{num_of, with_sign}
use Rattle.vx_floats.specs.Texts.{binary, nearest}
use Rattle.vx_floats.proofs.Remainders.{below_top, rest_size, sized_number}
use Rattle.vx_floats.proofs.remainder.rest_of.Goals as goal

pub with_sign-requires : goal.with_sign-requires
with_sign-requires c =
    let t = c.args.format in
    let q = c.normal-significand.result.0 in
    let k = c.normal-significand.result.1 in
    let hidden = c.hidden_bit-hidden.ensures in
    let small : q < 2 * hid (binary t) = subst (λ h. q < 2 * h) hidden c.normal-significand.ensures.fits in
    let range : k + 2 ≤ ones (binary t) = omega (arith, c.normal-significand.ensures.bound, c.requires.range) in
    subst (λ h. k * h + q < top (binary t)) (sym hidden) (below_top (binary t) q k small range)

pub returns : goal.returns
returns c =
    let t = c.args.format in
    let left = c.args.left in
    let right = c.args.right in
    let q = c.normal-significand.result.0 in
    let k = c.normal-significand.result.1 in
    let hidden = c.hidden_bit-hidden.ensures in
    let small : q < 2 * hid (binary t) = subst (λ h. q < 2 * h) hidden c.normal-significand.ensures.fits in
    let normal : 0 < k → hid (binary t) ≤ q = subst (λ h. 0 < k → h ≤ q) hidden c.normal-significand.ensures.normal in
    let twice = (shape (binary t)).twice in
    let significand : IsSignificand (binary t) q k = record { fits = omega (arith, small, twice); normal = normal } in
    let range : k + 2 ≤ ones (binary t) = omega (arith, c.normal-significand.ensures.bound, c.requires.range) in
    let size : q * 2 ^ k ≡ num_of left % num_of right = c.normal-significand.ensures.size ∙ ap (λ n. n * 2 ^ right.exponent) c.modulo-rest.ensures ∙ rest_size left.significand right.significand left.exponent right.exponent c.requires.divisor.0 c.requires.exponents in
    let lowest : low (binary t) ≡ left.lowest = sym c.requires.lowest in
    c.with_sign.ensures
    ∙ ap (λ h. with_sign t left.negative (k * h + q)) hidden
    ∙ sized_number t left.negative q k significand range
    ∙ (λ i. nearest t left.negative (size i) (2 ^ lowest i))
