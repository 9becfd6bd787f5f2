-- Rows that are shown, and those that are null.
use Rattle.std.proofs.Common.{◌≡◌, ℕ, ◌<◌, ◌≤◌, List, [], ◌∷◌, map, length, get_or, take, drop, refl, sym, ap, ◌∙◌, arith, zero, suc, Bool, true, false}
use Rattle.std.specs.Prelude.{if◌then◌else◌, ◌&&◌, min, nat_lt, not}
use Rattle.std.proofs.lemmas.List.{length-map, get_or-map, get_or_past}
use Rattle.std.proofs.lemmas.Bool.Decides.{nat_tests}
use Rattle.vx_value.specs.Types.{Datum, null, is_null_datum}
use Rattle.vx_array.specs.declared.validity.Validity.{Validity}
use Rattle.vx_array.specs.declared.validity.Validity.TheVariants.{All, Nothing, Rows}
use Rattle.vx_array.specs.Shown.{masked, shown, is_valid, shown_count, HasRows}
use Rattle.vx_array.proofs.Parts.{part-map}

pub length-masked : (bs : List Bool) (ds : List Datum) → length (masked bs ds) ≡ min (length bs) (length ds)
length-masked [] [] = refl
length-masked [] (d ∷ ds) = omega arith
length-masked (b ∷ bs) [] = omega arith
length-masked (b ∷ bs) (d ∷ ds) = omega (arith, length-masked bs ds)

pub length-shown : (v : Validity) (ds : List Datum) → length (shown v ds) ≡ shown_count v (length ds)
length-shown All ds = refl
length-shown Nothing ds = length-map ds (λ _. null)
length-shown (Rows bits) ds = length-masked bits ds

-- the number of rows of values that are made into rows
pub count_shown : {A : Type 0} (f : A → Datum) (v : Validity) (xs : List A) (n m : ℕ) → n ≡ shown_count v m → m ≡ length xs → n ≡ length (shown v (map f xs))
count_shown f v xs n m counted long = counted ∙ ap (shown_count v) (long ∙ sym (length-map xs f)) ∙ sym (length-shown v (map f xs))

-- the number of rows of lanes that show values
pub len_is : {A : Type 0} (f : A → Datum) (v : Validity) (xs : List A) (ls : List Datum) (n m : ℕ) → n ≡ shown_count v m → m ≡ length xs → ls ≡ shown v (map f xs) → n ≡ length ls
len_is f v xs ls n m counted long is = count_shown f v xs n m counted long ∙ ap length (sym is)

null_if_any : (b : Bool) → (if b then null else null) ≡ null
null_if_any true = refl
null_if_any false = refl

get_or-masked : (bs : List Bool) (ds : List Datum) (k : ℕ) → get_or (masked bs ds) k null ≡ (if get_or bs k false then get_or ds k null else null)
get_or-masked [] ds k = refl
get_or-masked (b ∷ bs) [] k = sym (null_if_any (get_or (b ∷ bs) k false))
get_or-masked (b ∷ bs) (d ∷ ds) zero = refl
get_or-masked (b ∷ bs) (d ∷ ds) (suc k) = get_or-masked bs ds k

all_null : (ds : List Datum) (k : ℕ) → get_or (map (λ _. null) ds) k null ≡ null
all_null [] k = refl
all_null (d ∷ ds) zero = refl
all_null (d ∷ ds) (suc k) = all_null ds k

-- a row that is shown
pub get_or-shown : (v : Validity) (ds : List Datum) (k : ℕ) → get_or (shown v ds) k null ≡ (if is_valid v k then get_or ds k null else null)
get_or-shown All ds k = refl
get_or-shown Nothing ds k = all_null ds k
get_or-shown (Rows bits) ds k = get_or-masked bits ds k

-- a row that is there and valid
pub row_there : {A : Type 0} (f : A → Datum) (v : Validity) (xs : List A) (i : ℕ) (x d : A) → i < length xs → is_valid v i ≡ true → x ≡ get_or xs i d → f x ≡ get_or (shown v (map f xs)) i null
row_there f v xs i x d lt valid is =
    sym (get_or-shown v (map f xs) i ∙ ap (λ b. if b then get_or (map f xs) i null else null) valid ∙ get_or-map f xs i d null lt ∙ ap f (sym is))

-- a row that isn't valid
pub row_null : (v : Validity) (ds : List Datum) (i : ℕ) → is_valid v i ≡ false → null ≡ get_or (shown v ds) i null
row_null v ds i invalid = sym (get_or-shown v ds i ∙ ap (λ b. if b then get_or ds i null else null) invalid)

-- a row that isn't there
pub row_past : (v : Validity) (ds : List Datum) (i : ℕ) → length ds ≤ i → null ≡ get_or (shown v ds) i null
row_past v ds i past = sym (get_or-shown v ds i ∙ ap (λ d. if is_valid v i then d else null) (get_or_past ds i null past) ∙ null_if_any (is_valid v i))

-- what it says that there is a row that isn't null
pub both_so : (v : Validity) (n i : ℕ) → (nat_lt i n && is_valid v i) ≡ true → (i < n) × (is_valid v i ≡ true)
both_so v n i both = let halves = parts (nat_lt i n) (is_valid v i) both in (within_of halves.0, halves.1)
  where
    parts : (a b : Bool) → (a && b) ≡ true → (a ≡ true) × (b ≡ true)
    parts true true h = (refl, refl)
    parts true false h = (refl, h)
    parts false b h = (h, cc)

    within_of : nat_lt i n ≡ true → i < n
    within_of h = grind (arith, nat_tests)

-- what it says that there is none
pub row_missing : (v : Validity) (ds : List Datum) (n i : ℕ) → n ≡ length ds → (nat_lt i n && is_valid v i) ≡ false → null ≡ get_or (shown v ds) i null
row_missing v ds n i long none = go (is_valid v i) refl none
  where
    past : nat_lt i n ≡ false → length ds ≤ i
    past h = grind (arith, nat_tests)

    cut : (a : Bool) → (a && true) ≡ false → a ≡ false
    cut true h = h
    cut false h = h

    go : (b : Bool) → is_valid v i ≡ b → (nat_lt i n && b) ≡ false → null ≡ get_or (shown v ds) i null
    go true e h = row_past v ds i (past (cut (nat_lt i n) h))
    go false e h = row_null v ds i e

drop-masked : (n : ℕ) (bs : List Bool) (ds : List Datum) → masked (drop n bs) (drop n ds) ≡ drop n (masked bs ds)
drop-masked zero bs ds = refl
drop-masked (suc n) [] ds = refl
drop-masked (suc n) (b ∷ bs) [] = right_empty (drop n bs)
  where
    right_empty : (bs : List Bool) → masked bs [] ≡ []
    right_empty [] = refl
    right_empty (b ∷ bs) = refl
drop-masked (suc n) (b ∷ bs) (d ∷ ds) = drop-masked n bs ds

take-masked : (n : ℕ) (bs : List Bool) (ds : List Datum) → masked (take n bs) (take n ds) ≡ take n (masked bs ds)
take-masked zero bs ds = refl
take-masked (suc n) [] ds = refl
take-masked (suc n) (b ∷ bs) [] = refl
take-masked (suc n) (b ∷ bs) (d ∷ ds) = ap (λ l. (if b then d else null) ∷ l) (take-masked n bs ds)

pub part-masked : (from len : ℕ) (bs part : List Bool) (ds : List Datum) → part ≡ take len (drop from bs) → masked part (take len (drop from ds)) ≡ take len (drop from (masked bs ds))
part-masked from len bs part ds is = ap (λ l. masked l (take len (drop from ds))) is ∙ take-masked len (drop from bs) (drop from ds) ∙ ap (take len) (drop-masked from bs ds)

-- what is made of a part of the rows
pub part-shown : {A : Type 0} (f : A → Datum) (v w : Validity) (xs ys : List A) (ls : List Datum) (from len : ℕ) → ls ≡ shown v (map f xs) → ys ≡ take len (drop from xs) → ((ds : List Datum) → shown w (take len (drop from ds)) ≡ take len (drop from (shown v ds))) →
    shown w (map f ys) ≡ take len (drop from ls)
part-shown f v w xs ys ls from len is cut kept = ap (λ l. shown w (map f l)) cut ∙ ap (shown w) (sym (part-map f from len xs)) ∙ kept (map f xs) ∙ ap (λ l. take len (drop from l)) (sym is)

-- rows that are there are there in what is shown, and are said to be valid or not
pub rows_within : {A : Type 0} (f : A → Datum) (v : Validity) (xs : List A) (ls : List Datum) (n : ℕ) → ls ≡ shown v (map f xs) → n ≤ length ls → (n ≤ length xs) × HasRows v n
rows_within f All xs ls n is le = (omega (arith, ap length is, length-map xs f), tt)
rows_within f Nothing xs ls n is le = (omega (arith, ap length is, length-map (map f xs) (λ _. null), length-map xs f), tt)
rows_within f (Rows bits) xs ls n is le = (omega (arith, ap length is, length-masked bits (map f xs), length-map xs f), omega (arith, ap length is, length-masked bits (map f xs)))

-- a row is null just where none that isn't null stands there
pub null_unless : (there : Bool) (d : Datum) → (there ≡ true → is_null_datum d ≡ false) → (there ≡ false → null ≡ d) → not there ≡ is_null_datum d
null_unless true d is isnt = sym (is refl)
null_unless false d is isnt = ap is_null_datum (isnt refl)
