-- Bytes are written by the digits that they are read by.
use Rattle.std.proofs.Common.{◌≡◌, ℕ, ◌/◌, ◌%◌, ◌<◌, ◌≤◌, zero, suc, Bool, true, false, ⊎_elim, List, [], ◌∷◌, refl, ◌∙◌, subst, arith}
use Rattle.std.specs.Prelude.{◌==◌, ◌&&◌, slice_index}
use Rattle.std.specs.Fmt.{digit_glyph}
use Rattle.std.specs.List.{flat_map}
use Rattle.std.proofs.lemmas.Bool.{and_parts, eqb-true, cases_lt}
use Rattle.hex.specs.Hex.{IsBytes, encode_with, encode_lower, lower_digits}
use Rattle.vx_value.specs.ValueTexts.{hex_byte}

abbrev same_digits : ℕ → Bool
same_digits zero = true
same_digits (suc n) = (digit_glyph false n == slice_index lower_digits n) && same_digits n

same_at : (n d : ℕ) → same_digits n ≡ true → d < n → (digit_glyph false d == slice_index lower_digits d) ≡ true
same_at zero d e h = absurd (omega arith)
same_at (suc n) d e h =
    let parts = and_parts (digit_glyph false n == slice_index lower_digits n) (same_digits n) e in
    ⊎_elim (λ (a : d < n). same_at n d parts.1 a)
    (λ (b : n ≤ d). let q : n ≡ d = omega arith in subst (λ k. (digit_glyph false k == slice_index lower_digits k) ≡ true) q parts.0) (cases_lt d n)

same_digit : (d : ℕ) → d < 16 → digit_glyph false d ≡ slice_index lower_digits d
same_digit d h = eqb-true _ _ (same_at 16 d refl h)

pub byte_texts : (bs : List ℕ) → IsBytes bs → flat_map hex_byte bs ≡ encode_lower bs
unfolding encode_with
byte_texts [] h = refl
byte_texts (b ∷ bs) h =
    let small : b < 256 = h zero in
    let high = same_digit (b / 16) (omega arith) in
    let low = same_digit (b % 16) (omega arith) in
    let behind = byte_texts bs (λ i. h (suc i)) in
    let here : flat_map hex_byte (b ∷ bs) ≡ digit_glyph false (b / 16) ∷ digit_glyph false (b % 16) ∷ flat_map hex_byte bs = refl in
    here ∙ cc
