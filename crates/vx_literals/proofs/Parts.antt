-- Texts taken apart.
use Rattle.std.proofs.Common.{◌≡◌, ℕ, ◌+◌, ◌-◌, ◌*◌, ◌≤◌, List, length, sym, ap, ◌∙◌, arith, Bool, true, Some, None, ℤ, pos, neg_ℤ, ◌+ℤ◌, ◌-ℤ◌, ◌*ℤ◌}
use Rattle.std.specs.Prelude.{Option, take, drop, get_or, nat_le, ◌==◌, ◌&&◌, option_map, unsigned_abs, if◌then◌else◌}
use Rattle.std.specs.Int.{int_div_euclid, int_rem_euclid}
use Rattle.std.specs.List.{between}
use Rattle.std.proofs.lemmas.List.{take_all, length-drop}
use Rattle.vx_dtype.specs.declared.timestamp_type.TimeUnit.{TimeUnit}
use Rattle.vx_dtype.specs.Types.{Name}
use Rattle.vx_literals.specs.Digits.{digits_in_front}
use Rattle.vx_literals.specs.Days.{Civil, civil_at, day_read}
use Rattle.vx_literals.specs.Decimals.{decimal_read, size_read}
use Rattle.vx_literals.specs.Instants.{instant_of_parts, instant_or_number, instant_read, instant_text, is_separator, moment_read, moment_text, offset_read, part_units, parts_read, second_read, units_a_day}

-- what is behind the first bytes
pub behind_is : (k : ℕ) (bs : List ℕ) → take (length bs - k) (drop k bs) ≡ drop k bs
behind_is k bs = take_all (length bs - k) (drop k bs) (omega (arith, length-drop k bs))

pub negative_read : (scale n : ℕ) (bs : List ℕ) (i : ℤ) → (get_or bs 0 0 == 45) ≡ true → Some n ≡ size_read scale (take (length bs - 1) (drop 1 bs)) → i ≡ neg_ℤ (pos n) → Some i ≡ decimal_read scale bs
negative_read scale n bs i e s is =
    sym (ap (λ b. if b then option_map (λ n. neg_ℤ (pos n)) (size_read scale (drop 1 bs)) else option_map pos (size_read scale bs)) e
    ∙ ap (option_map (λ n. neg_ℤ (pos n))) (ap (size_read scale) (sym (behind_is 1 bs)) ∙ sym s)
    ∙ ap Some (sym is))

pub parts_are : (u : TimeUnit) (z : Option Name) (day offset i : ℤ) (second part k : ℕ) (bs : List ℕ) → Some part ≡ part_units u (take k bs) → Some offset ≡ offset_read z (take (length bs - k) (drop k bs)) → k ≡ digits_in_front bs
    → Some i ≡ instant_of_parts u (Some day) (Some second) (Some part) (Some offset) → Some i ≡ parts_read u z (Some day) (Some second) bs (digits_in_front bs)
parts_are u z day offset i second part k bs p o e is =
    is
    ∙ ap (λ q. instant_of_parts u (Some day) (Some second) q (Some offset)) p
    ∙ ap (instant_of_parts u (Some day) (Some second) (part_units u (take k bs))) (o ∙ ap (offset_read z) (behind_is k bs))
    ∙ ap (parts_read u z (Some day) (Some second) bs) e

pub moment_is : (u : TimeUnit) (z : Option Name) (d day : ℤ) (second : ℕ) (bs : List ℕ) → d ≡ day → (get_or bs 0 0 == 46) ≡ true
    → parts_read u z (Some d) (Some second) (take (length bs - 1) (drop 1 bs)) (digits_in_front (take (length bs - 1) (drop 1 bs))) ≡ moment_read u z (Some day) (Some second) bs
moment_is u z d day second bs same e =
    ap (λ k. parts_read u z (Some k) (Some second) (take (length bs - 1) (drop 1 bs)) (digits_in_front (take (length bs - 1) (drop 1 bs)))) same
    ∙ ap (λ cs. parts_read u z (Some day) (Some second) cs (digits_in_front cs)) (behind_is 1 bs)
    ∙ sym (ap (λ b. if b then parts_read u z (Some day) (Some second) (drop 1 bs) (digits_in_front (drop 1 bs)) else instant_of_parts u (Some day) (Some second) (Some 0) (offset_read z bs)) e)

pub instant_is : (u : TimeUnit) (z : Option Name) (k day : ℤ) (second : ℕ) (bs : List ℕ) → k ≡ day → nat_le 19 (length bs) ≡ true → is_separator (get_or bs 10 0) ≡ true → Some day ≡ day_read (between 0 10 bs) → Some second ≡ second_read (between 11 19 bs)
    → moment_read u z (Some k) (Some second) (take (length bs - 19) (drop 19 bs)) ≡ instant_read u z bs
instant_is u z k day second bs same e f d s =
    let whole : Option ℤ = moment_read u z (day_read (between 0 10 bs)) (second_read (between 11 19 bs)) (drop 19 bs) in
    ap (λ n. moment_read u z (Some n) (Some second) (take (length bs - 19) (drop 19 bs))) same
    ∙ ap (moment_read u z (Some day) (Some second)) (behind_is 19 bs)
    ∙ ap (λ t. moment_read u z (Some day) t (drop 19 bs)) s
    ∙ ap (λ t. moment_read u z t (second_read (between 11 19 bs)) (drop 19 bs)) d
    ∙ sym (ap (λ b. if b && is_separator (get_or bs 10 0) then whole else None) e ∙ ap (λ b. if b then whole else None) f)

pub instant_shown : (u : TimeUnit) (z : Option Name) (i : ℤ) (k : ℕ) (c : Civil) → k ≡ unsigned_abs (int_rem_euclid i (pos (units_a_day u))) → Some c ≡ civil_at (int_div_euclid i (pos (units_a_day u))) → moment_text u z k c ≡ instant_text u z i
instant_shown u z i k c k_is there = ap (λ n. moment_text u z n c) k_is ∙ ap (instant_or_number u z i) there
