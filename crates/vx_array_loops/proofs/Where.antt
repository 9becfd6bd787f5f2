-- Rows that are written where a mask is true, a word of it after another.
use Rattle.std.proofs.Common.{◌≡◌, ℕ, ◌+◌, ◌-◌, ◌*◌, ◌/◌, ◌%◌, ◌<◌, ◌≤◌, List, length, get_or, sym, ap, subst, ◌∙◌, arith, Bool, false, ⊎_elim}
use Rattle.std.proofs.lemmas.Bool.{cases_lt}
use Rattle.vx_array_loops.specs.WordBits.{bit_of, first_bits}
use Rattle.vx_array_loops.proofs.RowBits.{seen}

-- what holds of the rows at which a mask is b, where it holds of those below a word's, and of those of the word
pub put_at : {A : Type 0} (P : ℕ → A → Type 0) (b : Bool) (mask : List Bool) (words : List ℕ) (j count word : ℕ) (rows new : List A) → count ≤ 64 → 64 * j + count ≤ length mask → first_bits (length mask) words ≡ mask → word ≡ get_or words j 0 →
    ((i : ℕ) (x : A) → i < count → bit_of word i ≡ b → x ≡ get_or new (64 * j + i) x → P (64 * j + i) x) →
    ((i : ℕ) (x : A) → i < 64 * j → x ≡ get_or new i x → x ≡ get_or rows i x) →
    ((k : ℕ) (x : A) → k < 64 * j → get_or mask k false ≡ b → x ≡ get_or rows k x → P k x) →
    (k : ℕ) (x : A) → k < 64 * j + count → get_or mask k false ≡ b → x ≡ get_or new k x → P k x
put_at P b mask words j count word rows new few room view is here kept before k x lt at same = ⊎_elim below above (cases_lt k (64 * j))
  where
    below : k < 64 * j → P k x
    below low = before k x low at (kept k x low same)

    above : 64 * j ≤ k → P k x
    above high =
        let place : 64 * j + (k - 64 * j) ≡ k = omega arith in
        let number : k / 64 ≡ j = omega arith in
        let rest : k % 64 ≡ k - 64 * j = omega arith in
        let bit_is : bit_of word (k - 64 * j) ≡ b =
        ap (λ w. bit_of w (k - 64 * j)) (is ∙ ap (λ q. get_or words q 0) (sym number)) ∙ ap (bit_of (get_or words (k / 64) 0)) (sym rest)
        ∙ seen (length mask) words mask view k (omega arith) ∙ at in
        subst (λ n. P n x) place (here (k - 64 * j) x (omega arith) bit_is (same ∙ ap (λ n. get_or new n x) (sym place)))
