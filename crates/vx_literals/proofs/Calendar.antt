-- The days of the calendar are those that the library of dates counts.
use Rattle.std.proofs.Common.{◌≡◌, ℕ, zero, suc, ◌+◌, ◌-◌, ◌<◌, ◌≤◌, Bool, true, false, refl, sym, ap, ◌∙◌, cond, arith, ℤ, pos, negsuc, neg_ℤ, ◌+ℤ◌, ◌≤ℤ◌, Some, None, inl, inr}
use borrow.Author.Tests.{lt-ltb, le-leb}
use Rattle.std.specs.Prelude.{nat_lt, unsigned_abs, Option}
use Rattle.std.proofs.lemmas.Bool.{cases_order, ltb-true, ltb-false}
use Rattle.jiff_core.specs.declared.civil.date.Date.{Date}
use Rattle.jiff_core.specs.Calendar.{days_in_month, days_from_civil, IsCivilDate, IsYear}
use Rattle.jiff_core.specs.Date.{epoch_day}
use Rattle.jiff_core.proofs.SignedLemmas.{signed_arith}
use Rattle.jiff_core.proofs.CalendarLemmas.{days_from_civil-day_count, days_in_month_bounds}
use Rattle.jiff_core.proofs.MarchLemmas.{day_count-early}
use Rattle.jiff_core.proofs.DateLemmas.{epoch_day_injective, days_from_civil-day, days_from_civil-next_month, days_from_civil-next_year, days_from_civil-max}
use Rattle.vx_literals.specs.Days.{Civil, civil, tomorrow, civil_behind, civil_at, day_number}
use Rattle.vx_literals.specs.Dates.{civil_of}

-- a day of the years 1 to 9999, so many days behind the first
pub record IsDay (c : Civil) (n : ℕ) : Type 0 where
  pub valid : IsCivilDate (pos c.year) c.month c.day
  pub first : 1 ≤ c.year
  pub number : days_from_civil (pos c.year) c.month c.day +ℤ pos 719162 ≡ pos n

first_day : IsDay (civil 1 1 1) 0
first_day = record {
  valid = ((omega (arith, signed_arith), omega (arith, signed_arith)), (omega arith, omega arith), (omega arith, omega (arith, days_in_month_bounds (pos 1) 1)));
  first = omega arith;
  number = omega (arith, signed_arith, days_from_civil-day_count (pos 1) 1 1, day_count-early (pos 1) 10000 1 1 refl (omega arith) (omega arith) (omega arith));
}

next_day : (c : Civil) (n : ℕ) → suc n < 3652059 → IsDay c n → IsDay (tomorrow c) (suc n)
next_day c n h is = go (nat_lt c.day (days_in_month (pos c.year) c.month)) refl
  where
    later_month : nat_lt c.day (days_in_month (pos c.year) c.month) ≡ false → (b : Bool) → nat_lt c.month 12 ≡ b → IsDay (cond b (civil c.year (c.month + 1) 1) (civil (c.year + 1) 1 1)) (suc n)
    later_month e true f =
        let last : c.day ≡ days_in_month (pos c.year) c.month = omega (arith, ltb-false _ _ e, is.valid.2.1) in
        let more = ltb-true _ _ f in
        record {
          valid = (is.valid.0, (omega arith, omega arith), (omega arith, omega (arith, days_in_month_bounds (pos c.year) (c.month + 1))));
          first = is.first;
          number = omega (arith, signed_arith, is.number, days_from_civil-next_month (pos c.year) c.month c.day is.valid.1.0 last);
        }
    later_month e false f =
        let month : c.month ≡ 12 = omega (arith, ltb-false _ _ f, is.valid.1.1) in
        let last : c.day ≡ 31 = omega (arith, ltb-false _ _ (rw month at e), rw month at is.valid.2.1) in
        let here : days_from_civil (pos c.year) 12 31 +ℤ pos 719162 ≡ pos n = rw (month, last) at is.number in
        let next = days_from_civil-next_year (pos c.year) (pos (c.year + 1)) (omega (arith, signed_arith)) (omega (arith, signed_arith)) in
        let below : c.year < 9999 =
        elim (cases_order c.year 9999) [
          | inr (inl lt) ↦ lt
          | inl same ↦ absurd (omega (arith, signed_arith, h, rw same at here, days_from_civil-max))
          | inr (inr gt) ↦ absurd (omega (arith, signed_arith, is.valid.0.1))
        ] in
        record {
          valid = ((omega (arith, signed_arith), omega (arith, signed_arith)), (omega arith, omega arith), (omega arith, omega (arith, days_in_month_bounds (pos (c.year + 1)) 1)));
          first = omega arith;
          number = omega (arith, signed_arith, here, next);
        }

    go : (b : Bool) → nat_lt c.day (days_in_month (pos c.year) c.month) ≡ b → IsDay (cond b (civil c.year c.month (c.day + 1)) (cond (nat_lt c.month 12) (civil c.year (c.month + 1) 1) (civil (c.year + 1) 1 1))) (suc n)
    go true e =
        let more = ltb-true _ _ e in
        record {
          valid = (is.valid.0, is.valid.1, (omega arith, omega arith));
          first = is.first;
          number = omega (arith, signed_arith, is.number, days_from_civil-day (pos c.year) c.month c.day (c.day + 1) is.valid.2.0 (omega arith));
        }
    go false e = later_month e (nat_lt c.month 12) refl

pub civil_is : (n : ℕ) → n < 3652059 → IsDay (civil_behind n) n
unfolding civil_behind
civil_is zero h = first_day
civil_is (suc n) h = next_day (civil_behind n) n h (civil_is n (omega arith))

pub same_day : (d : Date) (n : ℕ) → n < 3652059 → epoch_day d +ℤ pos 719162 ≡ pos n → civil_of d ≡ civil_behind n
same_day d n h e =
    let is = civil_is n h in
    let c = civil_behind n in
    let other : Date = record { year = pos c.year; month = c.month; day = c.day; year_in = is.valid.0; month_in = is.valid.1; day_in = is.valid.2 } in
    let same = epoch_day_injective d other (omega (arith, signed_arith, e, is.number)) in
    rw (same.0, same.1, same.2) refl

pub at_day : (i : ℤ) (d : Date) → negsuc 719161 ≤ℤ i → i ≤ℤ pos 2932896 → epoch_day d ≡ i → Some (civil_of d) ≡ civil_at i
at_day (pos n) d low high e =
    rw (lt-ltb n 2932897 (omega (arith, signed_arith))) (ap Some (same_day d (n + 719162) (omega (arith, signed_arith)) (omega (arith, signed_arith, e))))
at_day (negsuc n) d low high e =
    rw (lt-ltb n 719162 (omega (arith, signed_arith))) (ap Some (same_day d (719161 - n) (omega (arith, signed_arith)) (omega (arith, signed_arith, e))))

pub numbered : (d : Date) (y m k : ℕ) (i : ℤ) → 1 ≤ y → d.year ≡ pos y → d.month ≡ m → d.day ≡ k → i ≡ epoch_day d → Some i ≡ day_number y m k
numbered d y m k i first year month day is =
    let month_in = rw month at d.month_in in
    let day_in = rw (year, month, day) at d.day_in in
    rw (le-leb 1 y first, le-leb 1 m month_in.0, le-leb m 12 month_in.1, le-leb 1 k day_in.0, le-leb k (days_in_month (pos y) m) day_in.1) (ap Some (is ∙ rw (year, month, day) refl))
