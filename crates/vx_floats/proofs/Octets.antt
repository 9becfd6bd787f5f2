-- Bytes by two hexadecimal digits each, one after another.
use Rattle.std.proofs.Common.{◌≡◌, ℕ, ◌+◌, ◌/◌, ◌%◌, ◌<◌, eqb, false, List, [], ◌∷◌, ◌++◌, length, get_or, take, refl, sym, ap, ◌∙◌, arith}
use Rattle.std.specs.Prelude.{slice_index}
use Rattle.std.specs.Fmt.{digit_glyph}
use Rattle.std.proofs.lemmas.List.{take_more}
use lib.Dec.{eqb→eq}
use Rattle.hex.specs.Hex.{encode_lower, encode_with, lower_digits}
use Rattle.fast_float.proofs.DigitsLemmas.{every_below}

glyph : (d : ℕ) → d < 16 → slice_index lower_digits d ≡ digit_glyph false d
glyph d h = eqb→eq _ _ (every_below (λ d. eqb (slice_index lower_digits d) (digit_glyph false d)) 16 tt d h)

pub spelled : (b : ℕ) → b < 256 → encode_lower (b ∷ []) ≡ digit_glyph false (b / 16) ∷ digit_glyph false (b % 16) ∷ []
unfolding encode_with
spelled b h = (λ i. glyph (b / 16) (omega arith) i ∷ glyph (b % 16) (omega arith) i ∷ [])

joined : (xs ys : List ℕ) → encode_lower (xs ++ ys) ≡ encode_lower xs ++ encode_lower ys
unfolding encode_with
joined [] ys = refl
joined (x ∷ xs) ys = ap (λ bs. slice_index lower_digits (x / 16) ∷ slice_index lower_digits (x % 16) ∷ bs) (joined xs ys)

pub none : encode_lower [] ≡ []
unfolding encode_with
none = refl

pub one_more : (xs : List ℕ) (i : ℕ) → i < length xs → encode_lower (take i xs) ++ encode_lower (get_or xs i 0 ∷ []) ≡ encode_lower (take (i + 1) xs)
one_more xs i h = sym (ap encode_lower (take_more xs i 0 h) ∙ joined (take i xs) (get_or xs i 0 ∷ []))
