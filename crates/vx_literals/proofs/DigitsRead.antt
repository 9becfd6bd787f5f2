-- Digits read one at a time.
use Rattle.std.proofs.Common.{◌≡◌, ℕ, suc, ◌+◌, ◌*◌, ◌^◌, ◌<◌, ◌≤◌, List, [], length, Some, None, ap, ◌∙◌, sym, arith}
use Rattle.std.specs.Prelude.{drop, get_or, Option}
use Rattle.std.specs.Option.{option_and_then}
use Rattle.std.proofs.Math.Nat.{pow-le-pow_right, pow-suc, one-le-pow, mul-lt-mul_of_pos_right}
use Rattle.std.proofs.lemmas.Nat.{pow-add}
use Rattle.std.proofs.lemmas.List.{drop_more, drop_all}
use Rattle.vx_literals.specs.Digits.{digit_of, digits_behind}

digit_read : (n : ℕ) (bs : List ℕ) (i : ℕ) (o : Option ℕ) → i < length bs → digit_of (get_or bs i 0) ≡ o → digits_behind n (drop i bs) ≡ option_and_then (λ d. digits_behind (10 * n + d) (drop (i + 1) bs)) o
digit_read n bs i o h digit =
    ap (digits_behind n) (drop_more bs i 0 h) ∙ ap (option_and_then (λ d. digits_behind (10 * n + d) (drop (i + 1) bs))) digit

pub none_read : (n : ℕ) (bs : List ℕ) (i : ℕ) → i < length bs → digit_of (get_or bs i 0) ≡ None → digits_behind n (drop i bs) ≡ None
none_read n bs i h digit = digit_read n bs i None h digit

pub some_read : (n : ℕ) (bs : List ℕ) (i d : ℕ) → i < length bs → digit_of (get_or bs i 0) ≡ Some d → digits_behind n (drop i bs) ≡ digits_behind (10 * n + d) (drop (i + 1) bs)
some_read n bs i d h digit = digit_read n bs i (Some d) h digit

pub all_read : (n : ℕ) (bs : List ℕ) (i : ℕ) → length bs ≤ i → digits_behind n (drop i bs) ≡ Some n
all_read n bs i h = ap (digits_behind n) (drop_all i bs h)

-- one more digit
pub more_digits : (n d k m : ℕ) → n < 10 ^ k → d < 10 → m ≡ suc k → 10 * n + d < 10 ^ m
more_digits n d k m h l e = rw e (let p = pow-suc 10 k in omega arith)

pub few_digits : (n k : ℕ) → n < 10 ^ k → k < 38 → 10 * n + 10 ≤ 10 ^ 38
few_digits n k h l = let p = pow-le-pow_right {n = 10} (omega arith) {i = suc k} {j = 38} (omega arith) in let q = pow-suc 10 k in omega arith

-- a number of few digits, with zeros behind them
pub scaled : (n m k l : ℕ) → n < 10 ^ k → m ≡ 10 ^ l → k + l ≤ 38 → n * m < 10 ^ 38
scaled n m k l h is few =
    let p = pow-le-pow_right {n = 10} (omega arith) {i = k + l} {j = 38} few in
    let q = pow-add 10 k l in
    let r = mul-lt-mul_of_pos_right {m = n} {n = 10 ^ k} {k = 10 ^ l} h (omega (arith, one-le-pow l 10 (omega arith))) in
    rw is (omega (arith, p, q, r))
