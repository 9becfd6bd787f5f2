-- Bytes that are spelled at the front are the first token.
use Rattle.std.proofs.Common.{◌≡◌, ℕ, ◌/◌, ◌%◌, ◌<◌, ◌≤◌, zero, suc, Bool, true, false, ⊎_elim, List, [], ◌∷◌, ◌++◌, Result, length, take, drop, refl, ap, ◌∙◌, subst, arith}
use Rattle.std.specs.Prelude.{◌&&◌, slice_index}
use Rattle.std.specs.List.{list_all}
use Rattle.std.proofs.Math.Seq.{take-append_seam, drop-append_seam}
use Rattle.std.proofs.lemmas.Bool.{and_parts, and_from, cases_lt}
use Rattle.hex.specs.Hex.{IsBytes, decode_of, encode_with, encode_lower, lower_digits}
use Rattle.hex.specs.declared.error.FromHexError.{FromHexError}
use Rattle.hex.proofs.HexLemmas.{decode_of-encode_lower}
use Rattle.vx_source_types.specs.Characters.{is_word}
use Rattle.vx_source_types.specs.Tokens.{octets, octets_lexeme, Taken, next, word_len, first}
use Rattle.vx_source_types.proofs.FirstTokens.{prefix_of_all}

-- ---- hexadecimal digits are parts of words

abbrev first_words : ℕ → Bool
first_words zero = true
first_words (suc n) = is_word (slice_index lower_digits n) && first_words n

word_at : (n d : ℕ) → first_words n ≡ true → d < n → is_word (slice_index lower_digits d) ≡ true
word_at zero d e h = absurd (omega arith)
word_at (suc n) d e h =
    let parts = and_parts (is_word (slice_index lower_digits n)) (first_words n) e in
    ⊎_elim (λ (a : d < n). word_at n d parts.1 a)
    (λ (b : n ≤ d). let q : n ≡ d = omega arith in subst (λ k. is_word (slice_index lower_digits k) ≡ true) q parts.0) (cases_lt d n)

digit_in_word : (d : ℕ) → d < 16 → is_word (slice_index lower_digits d) ≡ true
digit_in_word d h = word_at 16 d refl h

bytes_behind : (b : ℕ) (bs : List ℕ) → IsBytes (b ∷ bs) → IsBytes bs
bytes_behind b bs h = λ i. h (suc i)

all_words : (bs : List ℕ) → IsBytes bs → list_all is_word (encode_lower bs) ≡ true
unfolding encode_with
all_words [] h = refl
all_words (b ∷ bs) h =
    let small : b < 256 = h zero in
    let high : b / 16 < 16 = omega arith in
    let low : b % 16 < 16 = omega arith in
    and_from _ _ (digit_in_word (b / 16) high) (and_from _ _ (digit_in_word (b % 16) low) (all_words bs (bytes_behind b bs h)))

-- ---- bytes

pub first_octets : (bs rest : List ℕ) → IsBytes bs → is_word (next rest) ≡ false → first (48 ∷ 120 ∷ (encode_lower bs ++ rest)) ≡ (octets bs, rest)
first_octets bs rest h e =
    let xs = encode_lower bs ++ rest in
    let len : word_len xs ≡ length (encode_lower bs) = prefix_of_all is_word (encode_lower bs) rest (all_words bs h) e in
    ap (λ n. cut n xs) len ∙ ap (λ ys. made ys (drop (length (encode_lower bs)) xs)) (take-append_seam (encode_lower bs) rest)
    ∙ ap (λ ys. made (encode_lower bs) ys) (drop-append_seam (encode_lower bs) rest) ∙ ap (λ r. of_result r) (decode_of-encode_lower bs h)
  where
    of_result : Result (List ℕ) FromHexError → Taken
    of_result r = (octets_lexeme r, rest)

    made : List ℕ → List ℕ → Taken
    made ys zs = (octets_lexeme (decode_of ys), zs)

    cut : ℕ → List ℕ → Taken
    cut n ys = (octets_lexeme (decode_of (take n ys)), drop n ys)
