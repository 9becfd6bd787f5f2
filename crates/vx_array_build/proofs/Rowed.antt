-- Rows in one buffer, of which some are valid, and more behind them.
use Rattle.std.proofs.Common.{◌≡◌, ℕ, ℤ, length-append, ◌+◌, ◌≤◌, List, [], ◌∷◌, ◌++◌, map, length, length-take, take, refl, sym, ap, ◌∙◌, arith, Bool, true, false}
use Rattle.std.specs.Prelude.{if◌then◌else◌}
use Rattle.std.proofs.Math.ListN.{replicate}
use Rattle.std.proofs.lemmas.List.{length-replicate, length-map, map-append, replicate-append-replicate, take-map, take_all}
use Rattle.vx_value.specs.Types.{Datum, null, bool, int}
use Rattle.vx_array.specs.declared.validity.Validity.{Validity}
use Rattle.vx_array.specs.declared.validity.Validity.TheVariants.{All, Nothing, Rows}
use Rattle.vx_array.specs.Shown.{HasRows, masked, shown, shown_count}
use Rattle.vx_array.proofs.Mapped.{map_map}
use Rattle.vx_array.proofs.Masked.{length-masked, part-masked}
use Rattle.vx_array_build.specs.declared.valid_rows.ValidRows.{ValidRows}
use Rattle.vx_array_build.specs.declared.valid_rows.ValidRows.TheVariants as variants
use Rattle.vx_array_build.specs.Rowed.{flags, valid_in}

-- ---- rows that are valid or not

masked-append : (us vs : List Bool) (xs ys : List Datum) → length us ≡ length xs → masked (us ++ vs) (xs ++ ys) ≡ masked us xs ++ masked vs ys
masked-append [] vs [] ys long = refl
masked-append [] vs (x ∷ xs) ys long = absurd (omega (arith, long))
masked-append (u ∷ us) vs [] ys long = absurd (omega (arith, long))
masked-append (u ∷ us) vs (x ∷ xs) ys long = ap (λ l. (if u then x else null) ∷ l) (masked-append us vs xs ys (omega (arith, long)))

pub masked_all : (ds : List Datum) → masked (replicate (length ds) true) ds ≡ ds
masked_all [] = refl
masked_all (d ∷ ds) = ap (λ l. d ∷ l) (masked_all ds)

masked_none : (ds : List Datum) → masked (replicate (length ds) false) ds ≡ map (λ _. null) ds
masked_none [] = refl
masked_none (d ∷ ds) = ap (λ l. null ∷ l) (masked_none ds)

-- what a validity shows of values
masked_valid : (v : Validity) (ds : List Datum) (n : ℕ) → n ≡ shown_count v (length ds) → masked (valid_in v n) (take n ds) ≡ shown v ds
masked_valid All ds n is = ap (λ k. masked (replicate k true) (take k ds)) is ∙ ap (masked (replicate (length ds) true)) (take_all (length ds) ds (omega arith)) ∙ masked_all ds
masked_valid Nothing ds n is = ap (λ k. masked (replicate k false) (take k ds)) is ∙ ap (masked (replicate (length ds) false)) (take_all (length ds) ds (omega arith)) ∙ masked_none ds
masked_valid (Rows bits) ds n is = part-masked 0 n bits (take n bits) ds refl ∙ take_all n (masked bits ds) (omega (arith, length-masked bits ds))

-- so many rows are told of, and are there
pub told_of : (v : Validity) (n m : ℕ) → n ≡ shown_count v m → HasRows v n
told_of All n m is = tt
told_of Nothing n m is = tt
told_of (Rows bits) n m is = omega arith

pub there : (v : Validity) (n m : ℕ) → n ≡ shown_count v m → n ≤ m
there All n m is = omega arith
there Nothing n m is = omega arith
there (Rows bits) n m is = omega arith

length-valid_in : (v : Validity) (n : ℕ) → HasRows v n → length (valid_in v n) ≡ n
length-valid_in All n told = length-replicate n true
length-valid_in Nothing n told = length-replicate n false
length-valid_in (Rows bits) n told = omega (arith, length-take n bits)

-- ---- rows, and more behind them

-- flags of rows that are all valid, and more that are
pub all_behind : (n m : ℕ) (v : ValidRows) (w : Validity) → v ≡ variants.All → w ≡ All → flags (n + m) variants.All ≡ flags n v ++ valid_in w m
all_behind n m v w none all = ap (λ j. replicate j true) (omega arith) ∙ sym (ap (λ o. flags n o ++ valid_in w m) none ∙ ap (λ u. replicate n true ++ valid_in u m) all ∙ replicate-append-replicate n m true)

shown_behind : (us new : List Bool) (ds es all rows : List Datum) (v : Validity) (n : ℕ) → masked us ds ≡ rows → length us ≡ length ds → n ≡ shown_count v (length es) → new ≡ us ++ valid_in v n → all ≡ ds ++ take n es → masked new all ≡ rows ++ shown v es
shown_behind us new ds es all rows v n view long counted grown more =
    ap (λ l. masked l all) grown ∙ ap (masked (us ++ valid_in v n)) more ∙ masked-append us (valid_in v n) ds (take n es) long
    ∙ ap (λ l. l ++ masked (valid_in v n) (take n es)) view ∙ ap (λ l. rows ++ l) (masked_valid v es n counted)

-- values that are made into rows, with those of one more part
pub rows_behind : {A : Type 0} (f : A → Datum) (us new : List Bool) (xs part ys : List A) (rows : List Datum) (v : Validity) (n : ℕ) → masked us (map f xs) ≡ rows → length us ≡ length xs → n ≡ shown_count v (length part) → new ≡ us ++ valid_in v n → ys ≡ xs ++ take n part →
    (length new ≡ length ys) × (masked new (map f ys) ≡ rows ++ shown v (map f part))
rows_behind f us new xs part ys rows v n view long counted grown more = (as_many, shown_behind us new (map f xs) (map f part) (map f ys) rows v n view (long ∙ sym (length-map xs f)) (counted ∙ ap (shown_count v) (sym (length-map part f))) grown (ap (map f) more ∙ map-append f xs (take n part) ∙ ap (λ l. map f xs ++ l) (sym (take-map f n part))))
  where
    as_many : length new ≡ length ys
    as_many = omega (arith, ap length grown, length-append us (valid_in v n), length-valid_in v n (told_of v n (length part) counted), ap length more, length-append xs (take n part), length-take n part, there v n (length part) counted)

-- the same of numbers
pub numbers_behind : {A : Type 0} (number : A → ℤ) (us new : List Bool) (xs part ys : List A) (rows : List Datum) (v : Validity) (n : ℕ) → masked us (map int (map number xs)) ≡ rows → length us ≡ length xs → n ≡ shown_count v (length part) → new ≡ us ++ valid_in v n → ys ≡ xs ++ take n part →
    (length new ≡ length ys) × (masked new (map int (map number ys)) ≡ rows ++ shown v (map int (map number part)))
numbers_behind number us new xs part ys rows v n view long counted grown more =
    let made = rows_behind (λ x. int (number x)) us new xs part ys rows v n (ap (masked us) (sym (map_map int number xs)) ∙ view) long counted grown more in
    (made.0, ap (masked new) (map_map int number ys) ∙ made.1 ∙ ap (λ l. rows ++ shown v l) (sym (map_map int number part)))

-- how many values there are with those of one more part
pub sum_of : {A : Type 0} (xs part ys : List A) (v : Validity) (m n : ℕ) → m ≡ length xs → n ≡ shown_count v (length part) → ys ≡ xs ++ take n part → length ys ≡ m + n
sum_of xs part ys v m n long counted more = omega (arith, long, ap length more, length-append xs (take n part), length-take n part, there v n (length part) counted)

-- truth values with those of one more part
pub truths_behind : (xs part first ys : List Bool) (old valid : ValidRows) (rows : List Datum) (v : Validity) (m n : ℕ) → masked (flags (length xs) old) (map bool xs) ≡ rows → length (flags (length xs) old) ≡ length xs → m ≡ length xs → n ≡ shown_count v (length part) →
    flags (m + n) valid ≡ flags m old ++ valid_in v n → first ≡ take n part → ys ≡ xs ++ first → (length (flags (length ys) valid) ≡ length ys) × (masked (flags (length ys) valid) (map bool ys) ≡ rows ++ shown v (map bool part))
truths_behind xs part first ys old valid rows v m n view long before counted more is grown =
    let all : ys ≡ xs ++ take n part = grown ∙ ap (λ l. xs ++ l) is in
    rows_behind bool (flags (length xs) old) (flags (length ys) valid) xs part ys rows v n view long counted
    (ap (λ k. flags k valid) (sum_of xs part ys v m n before counted all) ∙ more ∙ ap (λ k. flags k old ++ valid_in v n) before) all
