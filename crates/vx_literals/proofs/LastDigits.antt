-- The last digits of a number, one at a time.
use Rattle.std.proofs.Common.{◌≡◌, ℕ, zero, suc, ◌+◌, ◌-◌, ◌<◌, ◌≤◌, ◌/◌, ◌%◌, ◌^◌, List, [], ◌∷◌, ◌++◌, sym, ap, ◌∙◌, append_assoc, append-nil, arith}
use Rattle.std.specs.Fmt.{decimal}
use Rattle.std.proofs.lemmas.Fmt.{decimal_digit}
use Rattle.vx_literals.specs.Digits.{last_digits}

pub digit_next : (count place number power : ℕ) (done digit all : List ℕ) → place < count → power ≡ 10 ^ (count - 1 - place)
    → digit ≡ decimal (number / power % 10) → done ++ last_digits (count - place) number ≡ all
    → (done ++ digit) ++ last_digits (count - (place + 1)) number ≡ all
digit_next count place number power done digit all h is shown so_far =
    let k = count - 1 - place in
    let here : count - place ≡ suc k = omega arith in
    let next : count - (place + 1) ≡ k = omega arith in
    let small : number / 10 ^ k % 10 < 10 = omega arith in
    let spelled : digit ≡ (48 + number / 10 ^ k % 10) ∷ [] = shown ∙ ap (λ p. decimal (number / p % 10)) is ∙ decimal_digit (number / 10 ^ k % 10) small in
    ap (λ m. (done ++ digit) ++ last_digits m number) next
    ∙ append_assoc done digit (last_digits k number)
    ∙ ap (λ d. done ++ (d ++ last_digits k number)) spelled
    ∙ sym (ap (λ m. done ++ last_digits m number) here)
    ∙ so_far

pub digits_all : (count place number : ℕ) (done all : List ℕ) → count ≤ place → done ++ last_digits (count - place) number ≡ all → done ≡ all
digits_all count place number done all h so_far =
    let none : count - place ≡ 0 = omega arith in
    sym (append-nil done) ∙ sym (ap (λ m. done ++ last_digits m number) none) ∙ so_far
