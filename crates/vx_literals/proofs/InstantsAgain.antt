-- The text of an instant is read as that instant.
use Rattle.std.proofs.Common.{◌≡◌, ℕ, zero, suc, ◌+◌, ◌-◌, ◌*◌, ◌/◌, ◌%◌, ◌^◌, ◌<◌, ◌≤◌, List, [], ◌∷◌, ◌++◌, append_assoc, length, Bool, true, false, true≢false, cond, ℤ, pos, ◌+ℤ◌, ◌-ℤ◌, ◌*ℤ◌, Some, None, refl, sym, ap, ◌∙◌, arith}
use Rattle.std.specs.Prelude.{take, drop, get_or, nat_le, ◌==◌, ◌&&◌, unsigned_abs, Option, IsSome, option_map, codes}
use Rattle.std.specs.Int.{int_div_euclid, int_rem_euclid}
use Rattle.std.specs.List.{between, list_all}
use Rattle.std.proofs.lemmas.Bool.{le-leb, and_from}
use Rattle.std.proofs.Math.Seq.{drop-append_seam, take-append_seam}
use Rattle.std.proofs.lemmas.Bool.Decides.{nat_tests}
use Rattle.std.proofs.lemmas.Int.{ints}
use Rattle.jiff_core.proofs.SignedLemmas.{signed_arith, int_rem_euclid-parts}
use Rattle.std.proofs.lemmas.List.{drop_all, take_all}
use borrow.Author.Tests.{lt-ltb}
use Rattle.vx_literals.specs.Decimals.{units_of}
use Rattle.vx_dtype.specs.declared.timestamp_type.TimeUnit.{TimeUnit}
use Rattle.vx_dtype.specs.declared.timestamp_type.TimeUnit.TheVariants.{Seconds, Milliseconds, Microseconds, Nanoseconds}
use Rattle.vx_dtype.specs.Types.{Name}
use Rattle.vx_literals.specs.Digits.{digits_behind, digits_in_front, is_digit, last_digits, number_of}
use Rattle.vx_literals.specs.Days.{Civil, civil_at, civil_text, day_read}
use Rattle.vx_literals.specs.Instants.{instant_of, instant_of_parts, instant_or_number, instant_read, instant_text, is_separator, moment_read, moment_text, offset_read, part_text, part_units, parts_read, second_of, second_of_parts, second_read, time_text, unit_places, units_a_day, units_a_second, zone_mark}
use Rattle.vx_literals.proofs.ReadBack.{day_again, digits_again, number_again}
use Rattle.vx_literals.proofs.DecimalsAgain.{last_long}

-- ---- the second of a day

seconds_parted : (sec : ℕ) → sec < 86400 → 3600 * (sec / 3600) + 60 * (sec / 60 % 60) + sec % 60 ≡ sec
seconds_parted sec h = omega arith

abbrev clock_text : ℕ → List ℕ
clock_text sec = last_digits 2 (sec / 3600) ++ (58 ∷ (last_digits 2 (sec / 60 % 60) ++ (58 ∷ last_digits 2 (sec % 60))))

second_again : (sec : ℕ) → sec < 86400 → second_read (clock_text sec) ≡ Some sec
second_again sec h =
    let hour = number_again 2 (sec / 3600) (omega arith) in
    let minute = number_again 2 (sec / 60 % 60) (omega arith) in
    let second = number_again 2 (sec % 60) (omega arith) in
    ap (λ a. second_of_parts a (number_of (last_digits 2 (sec / 60 % 60))) (number_of (last_digits 2 (sec % 60)))) hour
    ∙ ap (λ a. second_of_parts (Some (sec / 3600)) a (number_of (last_digits 2 (sec % 60)))) minute
    ∙ ap (second_of_parts (Some (sec / 3600)) (Some (sec / 60 % 60))) second
    ∙ rw (lt-ltb (sec / 3600) 24 (omega arith), lt-ltb (sec / 60 % 60) 60 (omega arith), lt-ltb (sec % 60) 60 (omega arith)) (ap Some (seconds_parted sec h))

-- ---- instants

joined : (u : TimeUnit) (day : ℤ) (k : ℕ) (i : ℤ) → i ≡ day *ℤ pos (units_a_day u) +ℤ pos k → instant_of u day (k / units_a_second u) (k % units_a_second u) (pos 0) ≡ i
joined Seconds day k i e = omega (arith, ints)
joined Milliseconds day k i e = omega (arith, ints)
joined Microseconds day k i e = omega (arith, ints)
joined Nanoseconds day k i e = omega (arith, ints)

-- ---- the part of a second

digit_is : (d : ℕ) → d < 10 → is_digit (48 + d) ≡ true
digit_is d h = and_from _ _ (le-leb 48 (48 + d) (omega arith)) (le-leb (48 + d) 57 (omega arith))

last_counted : (k n : ℕ) (rest : List ℕ) → is_digit (get_or rest 0 0) ≡ false → digits_in_front (last_digits k n ++ rest) ≡ k
last_counted zero n [] e = refl
last_counted zero n (b ∷ rest) e = rw e refl
last_counted (suc k) n rest e = rw (digit_is (n / 10 ^ k % 10) (omega arith)) (omega (arith, last_counted k n rest e))

mark_is_none : (z : Option Name) → is_digit (get_or (zone_mark z) 0 0) ≡ false
mark_is_none None = refl
mark_is_none (Some a) = refl

mark_again : (z : Option Name) → offset_read z (zone_mark z) ≡ Some (pos 0)
mark_again None = refl
mark_again (Some a) = refl

part_again : (places n : ℕ) → places ≤ 38 → units_of places [] (last_digits places n) ≡ Some (n % 10 ^ places)
part_again places n h =
    let behind : List ℕ = last_digits places n in
    let long = last_long places n in
    let none : Option ℕ = Some 0 in
    let units : Option ℕ = option_map (λ m. m * 10 ^ (places - length behind)) (digits_behind 0 (take places behind)) in
    let second : list_all (λ b. b == 48) (drop places behind) ≡ true = ap (list_all (λ b. b == 48)) (drop_all places behind (omega (arith, long))) in
    let no_more : places - length behind ≡ 0 = omega (arith, long) in
    let whole_number : (0 * 10 ^ places + n % 10 ^ places) * 10 ^ 0 ≡ n % 10 ^ places = omega arith in
    let made : units ≡ Some (n % 10 ^ places) =
    ap (λ bs. option_map (λ m. m * 10 ^ (places - length behind)) (digits_behind 0 bs)) (take_all places behind (omega (arith, long)))
    ∙ ap (option_map (λ m. m * 10 ^ (places - length behind))) (digits_again 0 places n)
    ∙ ap (λ k. Some ((0 * 10 ^ places + n % 10 ^ places) * 10 ^ k)) no_more
    ∙ ap Some whole_number in
    ap (λ b. cond b units None) (and_from _ _ (le-leb (0 + places) 38 (omega arith)) second) ∙ made

few_places : (u : TimeUnit) → unit_places u ≤ 9
few_places Seconds = omega arith
few_places Milliseconds = omega arith
few_places Microseconds = omega arith
few_places Nanoseconds = omega arith

part_units_again : (u : TimeUnit) (k : ℕ) → 0 < unit_places u → part_units u (last_digits (unit_places u) k) ≡ Some (k % units_a_second u)
part_units_again u k some =
    let long = last_long (unit_places u) k in
    let test : (length (last_digits (unit_places u) k) == 0) ≡ false = grind (arith, nat_tests, long, some) in
    ap (λ t. cond t None (units_of (unit_places u) [] (last_digits (unit_places u) k))) test ∙ part_again (unit_places u) k (omega (arith, few_places u))

none_left : (n : ℕ) → (n == 0) ≡ true → n ≡ 0
none_left n e = grind (arith, nat_tests)

none_again : (n : ℕ) → n ≡ 0 → (n == 0) ≡ true
none_again n e = grind (arith, nat_tests)

some_places : (u : TimeUnit) (k : ℕ) → (k % units_a_second u == 0) ≡ false → 0 < unit_places u
some_places Seconds k e = absurd (true≢false (sym (none_again (k % 10 ^ 0) (omega arith)) ∙ e))
some_places Milliseconds k e = omega arith
some_places Microseconds k e = omega arith
some_places Nanoseconds k e = omega arith

whole_second : (u : TimeUnit) (z : Option Name) (day i : ℤ) (k : ℕ) → i ≡ day *ℤ pos (units_a_day u) +ℤ pos k → k % units_a_second u ≡ 0 → moment_read u z (Some day) (Some (k / units_a_second u)) (zone_mark z) ≡ Some i
whole_second u None day i k e none = ap (λ p. Some (instant_of u day (k / units_a_second u) p (pos 0))) (sym none) ∙ ap Some (joined u day k i e)
whole_second u (Some a) day i k e none = ap (λ p. Some (instant_of u day (k / units_a_second u) p (pos 0))) (sym none) ∙ ap Some (joined u day k i e)

rest_again : (u : TimeUnit) (z : Option Name) (day i : ℤ) (k : ℕ) → i ≡ day *ℤ pos (units_a_day u) +ℤ pos k → (t : Bool) → (k % units_a_second u == 0) ≡ t
    → moment_read u z (Some day) (Some (k / units_a_second u)) (cond t [] (codes "." ++ last_digits (unit_places u) k) ++ zone_mark z) ≡ Some i
rest_again u z day i k e true h = whole_second u z day i k e (none_left _ h)
rest_again u z day i k e false h =
    let p = unit_places u in
    let part : List ℕ = last_digits p k in
    let behind : List ℕ = part ++ zone_mark z in
    let second : Option ℕ = Some (k / units_a_second u) in
    let long = last_long p k in
    let front : take p behind ≡ part = ap (λ m. take m behind) (sym long) ∙ take-append_seam part (zone_mark z) in
    let rest : drop p behind ≡ zone_mark z = ap (λ m. drop m behind) (sym long) ∙ drop-append_seam part (zone_mark z) in
    ap (parts_read u z (Some day) second behind) (last_counted p k (zone_mark z) (mark_is_none z))
    ∙ ap (λ bs. instant_of_parts u (Some day) second (part_units u bs) (offset_read z (drop p behind))) front
    ∙ ap (λ q. instant_of_parts u (Some day) second q (offset_read z (drop p behind))) (part_units_again u k (some_places u k h))
    ∙ ap (λ bs. instant_of_parts u (Some day) second (Some (k % units_a_second u)) (offset_read z bs)) rest
    ∙ ap (instant_of_parts u (Some day) second (Some (k % units_a_second u))) (mark_again z)
    ∙ ap Some (joined u day k i e)

-- ---- the whole text

within_day : (u : TimeUnit) (k : ℕ) → k < units_a_day u → k / units_a_second u < 86400
within_day Seconds k h = omega arith
within_day Milliseconds k h = omega arith
within_day Microseconds k h = omega arith
within_day Nanoseconds k h = omega arith

-- an instant is its day and the units behind the day's beginning
record IsParted (u : TimeUnit) (i : ℤ) : Type 0 where
  whole : i ≡ int_div_euclid i (pos (units_a_day u)) *ℤ pos (units_a_day u) +ℤ pos (unsigned_abs (int_rem_euclid i (pos (units_a_day u))))
  within : unsigned_abs (int_rem_euclid i (pos (units_a_day u))) < units_a_day u

parted : (u : TimeUnit) (i : ℤ) → IsParted u i
parted Seconds i = record { whole = omega (arith, signed_arith, int_rem_euclid-parts i 86400 (omega arith)); within = omega (arith, signed_arith, int_rem_euclid-parts i 86400 (omega arith)) }
parted Milliseconds i = record { whole = omega (arith, signed_arith, int_rem_euclid-parts i 86400000 (omega arith)); within = omega (arith, signed_arith, int_rem_euclid-parts i 86400000 (omega arith)) }
parted Microseconds i = record { whole = omega (arith, signed_arith, int_rem_euclid-parts i 86400000000 (omega arith)); within = omega (arith, signed_arith, int_rem_euclid-parts i 86400000000 (omega arith)) }
parted Nanoseconds i = record { whole = omega (arith, signed_arith, int_rem_euclid-parts i 86400000000000 (omega arith)); within = omega (arith, signed_arith, int_rem_euclid-parts i 86400000000000 (omega arith)) }

moment_again : (u : TimeUnit) (z : Option Name) (day i : ℤ) (k : ℕ) (c : Civil) → civil_at day ≡ Some c → k < units_a_day u → i ≡ day *ℤ pos (units_a_day u) +ℤ pos k → instant_read u z (moment_text u z k c) ≡ Some i
moment_again u z day i k c e h whole =
    let bs : List ℕ = moment_text u z k c in
    let rest : List ℕ = part_text u k ++ zone_mark z in
    let long : nat_le 19 (length bs) ≡ true = le-leb 19 (length bs) (omega arith) in
    ap (λ b. cond (b && true) (moment_read u z (day_read (between 0 10 bs)) (second_read (between 11 19 bs)) (drop 19 bs)) None) long
    ∙ ap (λ d. moment_read u z d (second_read (between 11 19 bs)) rest) (day_again day c e)
    ∙ ap (λ s. moment_read u z (Some day) s rest) (second_again (k / units_a_second u) (within_day u k h))
    ∙ rest_again u z day i k whole (k % units_a_second u == 0) refl

pub instant_again : (u : TimeUnit) (z : Option Name) (i : ℤ) → IsSome (civil_at (int_div_euclid i (pos (units_a_day u)))) → instant_read u z (instant_text u z i) ≡ Some i
instant_again u z i h = go (civil_at (int_div_euclid i (pos (units_a_day u)))) refl h
  where
    go : (o : Option Civil) → civil_at (int_div_euclid i (pos (units_a_day u))) ≡ o → IsSome o → instant_read u z (instant_or_number u z i o) ≡ Some i
    go (Some c) e h = let is = parted u i in moment_again u z (int_div_euclid i (pos (units_a_day u))) i _ c e is.within is.whole
    go None e h = cc
