-- Words are ASCII, and so are texts; a number that begins with a digit has one.
use Rattle.std.proofs.Common.{◌≡◌, ℕ, ◌<◌, true, List, ◌∷◌, take, get_or, get_or-take, length-take, arith}
use Rattle.std.specs.List.{prefix_len}
use Rattle.std.specs.Str.{IsAscii, IsUtf8}
use Rattle.std.proofs.lemmas.Bool.Decides.{nat_tests}
use Rattle.std.proofs.lemmas.List.Sums.{prefix_len_passes}
use Rattle.std.proofs.lemmas.Str.{IsUtf8-from_ascii}
use Rattle.std.proofs.lemmas.Str.Ascii.{IsAscii-from_reads}
use Rattle.vx_source_types.specs.Characters.{is_word, is_digit}
use Rattle.vx_source_types.specs.Tokens.{word_len}

word_small : (b : ℕ) → is_word b ≡ true → b < 128
word_small b e = grind (arith, nat_tests)

word_ascii : (bs : List ℕ) → IsAscii (take (word_len bs) bs)
word_ascii bs =
    let n = word_len bs in
    IsAscii-from_reads (take n bs) n (omega (arith, length-take n bs)) (λ k h. rw (get_or-take n bs k 0 h) (word_small (get_or bs k 0) (prefix_len_passes is_word bs k 0 h)))

pub word_utf8 : (bs : List ℕ) → IsUtf8 (take (word_len bs) bs)
word_utf8 bs = IsUtf8-from_ascii (take (word_len bs) bs) (word_ascii bs)

pub some_digit : (b : ℕ) (bs : List ℕ) → is_digit b ≡ true → 0 < prefix_len is_digit (b ∷ bs)
some_digit b bs e = rw e (omega arith)
