-- What is written is read back.
use Rattle.std.proofs.Common.{◌≡◌, ℕ, zero, suc, ◌+◌, ◌-◌, ◌*◌, ◌/◌, ◌%◌, ◌^◌, ◌<◌, ◌≤◌, List, [], ◌∷◌, Bool, true, false, cond, ℤ, pos, negsuc, ◌+ℤ◌, Some, None, refl, sym, ap, ◌∙◌, arith}
use Rattle.std.specs.Prelude.{nat_lt}
use Rattle.std.specs.Option.{option_and_then}
use Rattle.std.proofs.lemmas.Bool.{le-leb, ltb-true}
use Rattle.std.proofs.Math.Nat.{pow-suc, one-le-pow, div-add-mod, mod-lt, mod-eq_of_lt}
use Rattle.std.proofs.lemmas.Nat.{mod-mul-add}
use Rattle.jiff_core.specs.Calendar.{days_in_month, days_from_civil, IsCivilDate}
use Rattle.jiff_core.proofs.SignedLemmas.{signed_arith}
use Rattle.jiff_core.proofs.CalendarLemmas.{days_in_month_bounds}
use Rattle.vx_literals.specs.Digits.{digit_of, digits_behind, last_digits, number_of}
use Rattle.vx_literals.specs.Days.{Civil, civil_at, civil_behind, civil_text, day_number, day_of_parts, day_read}
use Rattle.vx_literals.proofs.Calendar.{IsDay, civil_is}

digit_again : (d : ℕ) → d < 10 → digit_of (48 + d) ≡ Some d
digit_again d h = rw (le-leb 48 (48 + d) (omega arith), le-leb (48 + d) 57 (omega arith)) (ap Some (omega arith))

regrouped : (p a d r : ℕ) → p * (a * 10 + d) + r ≡ a * (p * 10) + (d * p + r)
regrouped p a d r = grind arith

small : (p d r : ℕ) → d < 10 → r < p → d * p + r < p * 10
small p d r h l = grind (arith, h, l)

split : (n p : ℕ) → 0 < p → n % (p * 10) ≡ n / p % 10 * p + n % p
split n p some =
    let tens : n / p ≡ n / p / 10 * 10 + n / p % 10 = omega arith in
    let whole : n ≡ n / p / 10 * (p * 10) + (n / p % 10 * p + n % p) = sym (div-add-mod n p) ∙ ap (λ q. p * q + n % p) tens ∙ regrouped p (n / p / 10) (n / p % 10) (n % p) in
    ap (λ m. m % (p * 10)) whole ∙ mod-mul-add (n / p / 10) (p * 10) (n / p % 10 * p + n % p) (small p (n / p % 10) (n % p) (omega arith) (mod-lt n some))

-- the last digits of a number, behind another one
pub digits_again : (m k n : ℕ) → digits_behind m (last_digits k n) ≡ Some (m * 10 ^ k + n % 10 ^ k)
digits_again m zero n = ap Some (omega arith)
digits_again m (suc k) n =
    let d = n / 10 ^ k % 10 in
    ap (option_and_then (λ d. digits_behind (10 * m + d) (last_digits k n))) (digit_again d (omega arith)) ∙ digits_again (10 * m + d) k n
    ∙ ap Some (more (10 ^ k) (split n (10 ^ k) (omega (arith, one-le-pow k 10 (omega arith)))))
    ∙ sym (ap (λ w. Some (m * w + n % w)) (pow-suc 10 k))
  where
    more : (p : ℕ) → n % (p * 10) ≡ n / p % 10 * p + n % p → (10 * m + n / p % 10) * p + n % p ≡ m * (p * 10) + n % (p * 10)
    more p e = grind (arith, e)

pub number_again : (k n : ℕ) → n < 10 ^ k → number_of (last_digits k n) ≡ Some n
number_again k n h = digits_again 0 k n ∙ ap Some (omega (arith, mod-eq_of_lt h))

-- ---- days

-- a day of the calendar has its number
day_is : (y m d : ℕ) → 1 ≤ y → IsCivilDate (pos y) m d → day_number y m d ≡ Some (days_from_civil (pos y) m d)
day_is y m d first valid = rw (le-leb 1 y first, le-leb 1 m valid.1.0, le-leb m 12 valid.1.1, le-leb 1 d valid.2.0, le-leb d (days_in_month (pos y) m) valid.2.1) refl

date_again : (c : Civil) (n : ℕ) → IsDay c n → day_read (civil_text c) ≡ Some (days_from_civil (pos c.year) c.month c.day)
date_again c n is =
    let year : c.year < 10 ^ 4 = omega (arith, signed_arith, is.valid.0.1) in
    let month : c.month < 10 ^ 2 = omega (arith, is.valid.1.1) in
    let day : c.day < 10 ^ 2 = omega (arith, is.valid.2.1, days_in_month_bounds (pos c.year) c.month) in
    ap (λ y. day_of_parts y (number_of (last_digits 2 c.month)) (number_of (last_digits 2 c.day))) (number_again 4 c.year year)
    ∙ ap (λ m. day_of_parts (Some c.year) m (number_of (last_digits 2 c.day))) (number_again 2 c.month month)
    ∙ ap (day_of_parts (Some c.year) (Some c.month)) (number_again 2 c.day day)
    ∙ day_is c.year c.month c.day is.first is.valid

behind_again : (n : ℕ) (i : ℤ) → n < 3652059 → i +ℤ pos 719162 ≡ pos n → day_read (civil_text (civil_behind n)) ≡ Some i
behind_again n i h e = date_again (civil_behind n) n (civil_is n h) ∙ ap Some (omega (arith, signed_arith, e, (civil_is n h).number))

-- the text of a day of the years 1 to 9999 is read as that day
pub day_again : (i : ℤ) (c : Civil) → civil_at i ≡ Some c → day_read (civil_text c) ≡ Some i
day_again (pos n) c e = go (nat_lt n 2932897) refl e
  where
    go : (b : Bool) → nat_lt n 2932897 ≡ b → cond b (Some (civil_behind (n + 719162))) None ≡ Some c → day_read (civil_text c) ≡ Some (pos n)
    go true h e = let same : civil_behind (n + 719162) ≡ c = cc in ap (λ k. day_read (civil_text k)) (sym same) ∙ behind_again (n + 719162) (pos n) (omega (arith, ltb-true _ _ h)) (omega (arith, signed_arith))
    go false h e = cc
day_again (negsuc n) c e = go (nat_lt n 719162) refl e
  where
    go : (b : Bool) → nat_lt n 719162 ≡ b → cond b (Some (civil_behind (719161 - n))) None ≡ Some c → day_read (civil_text c) ≡ Some (negsuc n)
    go true h e = let same : civil_behind (719161 - n) ≡ c = cc in ap (λ k. day_read (civil_text k)) (sym same) ∙ behind_again (719161 - n) (negsuc n) (omega (arith, ltb-true _ _ h)) (omega (arith, signed_arith, ltb-true _ _ h))
    go false h e = cc
