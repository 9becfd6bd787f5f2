-- What is spelled between quotes is read from between them.
use Rattle.std.proofs.Common.{◌≡◌, ℕ, Bool, true, false, List, [], ◌∷◌, ◌++◌, Some, refl, sym, ap, ◌∙◌}
use Rattle.std.specs.Prelude.{◌==◌}
use Rattle.std.proofs.lemmas.Bool.Decides.{nat_tests}
use Rattle.std.proofs.Common.{arith}
use Rattle.vx_dtype.specs.Quotes.{doubled}
use Rattle.vx_source_types.specs.Tokens.{next, unquoted, with_byte}
use Rattle.vx_dtype.proofs.Choice.{yes, no}

same_itself : (q : ℕ) → (q == q) ≡ true
same_itself q = grind (arith, nat_tests)

same_is : (b q : ℕ) → (b == q) ≡ true → b ≡ q
same_is b q e = grind (arith, nat_tests)

-- a quote that no other follows is the last
closes : (q : ℕ) (rest : List ℕ) → (next rest == q) ≡ false → unquoted q true rest ≡ Some ([], rest)
closes q [] e = refl
closes q (b ∷ bs) e = no (b == q) _ _ e

pub unquoted_doubled : (q : ℕ) (a rest : List ℕ) → (next rest == q) ≡ false → unquoted q false (doubled q a ++ q ∷ rest) ≡ Some (a, rest)
unquoted_doubled q [] rest e = yes (q == q) _ _ (same_itself q) ∙ closes q rest e
unquoted_doubled q (b ∷ a) rest e = by_first (b == q) refl (unquoted_doubled q a rest e) where
  by_first : (t : Bool) → (b == q) ≡ t → unquoted q false (doubled q a ++ q ∷ rest) ≡ Some (a, rest) → unquoted q false (doubled q (b ∷ a) ++ q ∷ rest) ≡ Some (b ∷ a, rest)
  by_first true h k =
      let spelled : doubled q (b ∷ a) ≡ q ∷ q ∷ doubled q a = yes (b == q) _ _ h in
      let behind = doubled q a ++ q ∷ rest in
      let first : unquoted q false (q ∷ q ∷ behind) ≡ unquoted q true (q ∷ behind) = yes (q == q) _ _ (same_itself q) in
      let second : unquoted q true (q ∷ behind) ≡ with_byte q (unquoted q false behind) = yes (q == q) _ _ (same_itself q) in
      ap (λ xs. unquoted q false (xs ++ q ∷ rest)) spelled ∙ first ∙ second ∙ ap (with_byte q) k ∙ ap (λ c. Some (c ∷ a, rest)) (sym (same_is b q h))
  by_first false h k =
      let spelled : doubled q (b ∷ a) ≡ b ∷ doubled q a = no (b == q) _ _ h in
      let behind = doubled q a ++ q ∷ rest in
      let first : unquoted q false (b ∷ behind) ≡ with_byte b (unquoted q false behind) = no (b == q) _ _ h in
      ap (λ xs. unquoted q false (xs ++ q ∷ rest)) spelled ∙ first ∙ ap (with_byte b) k
