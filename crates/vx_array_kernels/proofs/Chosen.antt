-- Rows that are chosen by masks.
use Rattle.std.proofs.Common.{◌≡◌, ℕ, ◌<◌, ◌≤◌, ℤ, pos, List, [], ◌∷◌, map, length, get_or, take, refl, sym, ap, ◌∙◌, arith, Bool, true, false, Result, Ok, Err, Option, Some, None}
use Rattle.std.specs.Prelude.{if◌then◌else◌, ◌&&◌, ◌||◌, not, IfOk, IfSome}
use Rattle.std.proofs.Math.ListN.{replicate}
use Rattle.std.proofs.lemmas.List.{ext_get_or, length-map, length-take, get_or-map, get_or-take, get_or_default, get_or-replicate, length-replicate, take-map}
use Rattle.std.proofs.lemmas.List.FromFn.{length-map-range_with_len, get_or-map-range_with_len}
use Rattle.std.proofs.lemmas.Simd.{length-zip2, get_or-zip2}
use Rattle.vx_value.specs.Types.{Datum, null, bool, int}
use Rattle.vx_array_loops.specs.Logic.{both, but, either}
use Rattle.vx_array_loops.specs.WordBits.{each_row}
use Rattle.vx_array.specs.declared.validity.Validity.{Validity}
use Rattle.vx_array.specs.declared.validity.Validity.TheVariants.{Rows}
use Rattle.vx_array.specs.Shown.{is_valid, masked, shown, HasRows}
use Rattle.vx_array.proofs.Masked.{get_or-shown, length-masked, rows_within}
use Rattle.vx_array_kernels.specs.Choices.{chosen, blended, number_rows}
use Rattle.vx_array_kernels.specs.Truths.{truth_rows}
use Rattle.vx_array_kernels.proofs.Bits.{length-truth_rows}
use Rattle.vx_array_kernels.proofs.NullRows.{map-replicate}
use Rattle.vx_array_kernels.proofs.Told.{rows_as}

-- the values where they are valid
abbrev pub valid_values : ℕ → List Bool → (ℕ → Datum) → List Datum
valid_values n vs f = each_row n (λ k. if get_or vs k false then f k else null)

pub length-valid_values : (n : ℕ) (vs : List Bool) (f : ℕ → Datum) → length (valid_values n vs f) ≡ n
length-valid_values n vs f = length-map-range_with_len (λ k. if get_or vs k false then f k else null) 0 n

pub at_valid : (n : ℕ) (vs : List Bool) (f : ℕ → Datum) (k : ℕ) → k < n → get_or (valid_values n vs f) k null ≡ (if get_or vs k false then f k else null)
at_valid n vs f k lt = get_or-map-range_with_len (λ k. if get_or vs k false then f k else null) 0 n k k null lt (omega arith)

-- ---- bits

merged : (x y m : Bool) → ((y && not m) || (x && m)) ≡ (if m then x else y)
merged true true true = refl
merged true true false = refl
merged true false true = refl
merged true false false = refl
merged false true true = refl
merged false true false = refl
merged false false true = refl
merged false false false = refl

pub merge_counts : (mask other bits o b : List Bool) → length mask ≡ length bits → length other ≡ length bits → o ≡ both other mask → b ≡ but bits mask → (length o ≡ length bits) × (length b ≡ length bits)
merge_counts mask other bits o b many long these those = (ap length these ∙ length-zip2 (λ x y. x && y) other mask (long ∙ sym many) ∙ long, ap length those ∙ length-zip2 (λ x y. x && not y) bits mask (sym many))

pub chosen_is : (mask other bits o b new : List Bool) → length mask ≡ length bits → length other ≡ length bits → o ≡ both other mask → b ≡ but bits mask → new ≡ either b o → new ≡ chosen mask other bits
chosen_is mask other bits o b new many long these those is =
    ext_get_or false new (chosen mask other bits) (new_long ∙ sym (length-map-range_with_len pick 0 (length bits)))
    (λ k lt. let low : k < length bits = omega (arith, new_long) in
    ap (λ l. get_or l k false) is ∙ get_or-zip2 (λ x y. x || y) b o k false false false (omega (arith, b_long)) (omega (arith, o_long))
    ∙ ap (λ x. x || get_or o k false) (ap (λ l. get_or l k false) those ∙ get_or-zip2 (λ x y. x && not y) bits mask k false false false low (omega (arith, many)))
    ∙ ap (λ x. (get_or bits k false && not (get_or mask k false)) || x) (ap (λ l. get_or l k false) these ∙ get_or-zip2 (λ x y. x && y) other mask k false false false (omega (arith, long)) (omega (arith, many)))
    ∙ merged (get_or other k false) (get_or bits k false) (get_or mask k false) ∙ sym (get_or-map-range_with_len pick 0 (length bits) k k false low (omega arith)))
  where
    pick : ℕ → Bool
    pick k = if get_or mask k false then get_or other k false else get_or bits k false

    o_long : length o ≡ length bits
    o_long = (merge_counts mask other bits o b many long these those).0

    b_long : length b ≡ length bits
    b_long = (merge_counts mask other bits o b many long these those).1

    new_long : length new ≡ length bits
    new_long = ap length is ∙ length-zip2 (λ x y. x || y) b o (b_long ∙ sym o_long) ∙ b_long

-- ---- rows that are written over by others

pub length-chosen : (mask xs ys : List Bool) → length (chosen mask xs ys) ≡ length ys
length-chosen mask xs ys = length-map-range_with_len (λ k. if get_or mask k false then get_or xs k false else get_or ys k false) 0 (length ys)

pub blended_is : (n : ℕ) (mask vs ws us : List Bool) (f g h : ℕ → Datum) (xs ys out : List Datum) → ys ≡ valid_values n vs f → xs ≡ valid_values n ws g → us ≡ chosen mask ws vs → length vs ≡ n →
    ((k : ℕ) → k < n → get_or mask k false ≡ true → h k ≡ g k) → ((k : ℕ) → k < n → get_or mask k false ≡ false → h k ≡ f k) → out ≡ valid_values n us h → out ≡ blended mask xs ys
blended_is n mask vs ws us f g h xs ys out old other made many on off is =
    is ∙ sym (rows_as n (λ k. if get_or us k false then h k else null) (blended mask xs ys) (length-map-range_with_len pick 0 (length ys) ∙ wide)
    (λ k lt. get_or-map-range_with_len pick 0 (length ys) k k null (omega (arith, wide)) (omega arith)
    ∙ go k lt (get_or mask k false) refl ∙ ap (λ b. if b then h k else null) (sym (bit k lt))))
  where
    pick : ℕ → Datum
    pick k = if get_or mask k false then get_or xs k null else get_or ys k null

    wide : length ys ≡ n
    wide = ap length old ∙ length-valid_values n vs f

    bit : (k : ℕ) → k < n → get_or us k false ≡ (if get_or mask k false then get_or ws k false else get_or vs k false)
    bit k lt = ap (λ l. get_or l k false) made ∙ get_or-map-range_with_len (λ k. if get_or mask k false then get_or ws k false else get_or vs k false) 0 (length vs) k k false (omega (arith, many)) (omega arith)

    go : (k : ℕ) → k < n → (m : Bool) → get_or mask k false ≡ m → (if m then get_or xs k null else get_or ys k null) ≡ (if (if m then get_or ws k false else get_or vs k false) then h k else null)
    go k lt true e = ap (λ l. get_or l k null) other ∙ at_valid n ws g k lt ∙ ap (λ d. if get_or ws k false then d else null) (sym (on k lt e))
    go k lt false e = ap (λ l. get_or l k null) old ∙ at_valid n vs f k lt ∙ ap (λ d. if get_or vs k false then d else null) (sym (off k lt e))

-- ---- numbers that are written over

-- the number at a place
pub number_at : {A : Type 0} (number : A → ℤ) (xs : List A) (k : ℕ) (x : A) → k < length xs → x ≡ get_or xs k x → get_or (map number xs) k (pos 0) ≡ number x
number_at number xs k x lt is = get_or-map number xs k x (pos 0) lt ∙ ap number (sym is)

pub some_at : {A : Type 0} (xs : List A) (k : ℕ) → k < length xs → (x : A) × (x ≡ get_or xs k x)
some_at [] k lt = absurd (omega arith)
some_at (x ∷ xs) k lt = (get_or (x ∷ xs) k x, get_or_default (x ∷ xs) k x (get_or (x ∷ xs) k x) lt)

-- what is known of the item at each place is known of its number
pub same_number : {A : Type 0} (number : A → ℤ) (news olds : List A) (k : ℕ) → k < length news → k < length olds → ((x : A) → x ≡ get_or news k x → x ≡ get_or olds k x) → get_or (map number news) k (pos 0) ≡ get_or (map number olds) k (pos 0)
same_number number news olds k new old same = let here = some_at news k new in number_at number news k here.0 new here.1 ∙ sym (number_at number olds k here.0 old (same here.0 here.1))

-- ---- rows of buffers

-- rows that are shown, one by one
pub shown_values : {A : Type 0} (f : A → Datum) (v : Validity) (xs : List A) (vs : List Bool) (n : ℕ) (h : ℕ → Datum) → length (shown v (map f xs)) ≡ n → ((k : ℕ) → k < n → get_or vs k false ≡ is_valid v k) → ((k : ℕ) → k < n → h k ≡ get_or (map f xs) k null) →
    valid_values n vs h ≡ shown v (map f xs)
shown_values f v xs vs n h long each gives =
    sym (rows_as n (λ k. if get_or vs k false then h k else null) (shown v (map f xs)) long
    (λ k lt. get_or-shown v (map f xs) k ∙ ap (λ d. if is_valid v k then d else null) (sym (gives k lt)) ∙ ap (λ b. if b then h k else null) (sym (each k lt))))

pub count_there : {A : Type 0} (f : A → Datum) (v : Validity) (xs : List A) (n : ℕ) → length (shown v (map f xs)) ≡ n → (n ≤ length xs) × HasRows v n
count_there f v xs n long = rows_within f v xs (shown v (map f xs)) n refl (omega arith)

-- one value in all rows
pub repeated_null : (n : ℕ) (vs : List Bool) (h : ℕ → Datum) → vs ≡ replicate n false → valid_values n vs h ≡ replicate n null
repeated_null n vs h none =
    sym (rows_as n (λ k. if get_or vs k false then h k else null) (replicate n null) (length-replicate n null)
    (λ k lt. get_or-replicate n k null null lt ∙ ap (λ b. if b then h k else null) (sym (ap (λ l. get_or l k false) none ∙ get_or-replicate n k false false lt))))

pub repeated_value : (n : ℕ) (vs : List Bool) (h : ℕ → Datum) (d : Datum) → vs ≡ replicate n true → ((k : ℕ) → k < n → h k ≡ d) → valid_values n vs h ≡ replicate n d
repeated_value n vs h d all gives =
    sym (rows_as n (λ k. if get_or vs k false then h k else null) (replicate n d) (length-replicate n d)
    (λ k lt. get_or-replicate n k d null lt ∙ sym (gives k lt) ∙ ap (λ b. if b then h k else null) (sym (ap (λ l. get_or l k false) all ∙ get_or-replicate n k true false lt))))

-- what holds of each value that is there
pub ok_all : {A E : Type 0} (r : Result A E) (P Q : A → Type 0) → ((x : A) → P x → Q x) → IfOk r P → IfOk r Q
ok_all (Ok x) P Q f is = f x is
ok_all (Err e) P Q f is = tt

pub found_all : {A E : Type 0} (r : Result (Option A) E) (P Q : A → Type 0) → ((x : A) → P x → Q x) → IfOk r (λ found. IfSome found P) → IfOk r (λ found. IfSome found Q)
found_all (Ok (Some x)) P Q f is = f x is
found_all (Ok None) P Q f is = tt
found_all (Err e) P Q f is = tt

-- bits that are all true
pub all_true : (n : ℕ) (zs bs : List Bool) → zs ≡ replicate n false → bs ≡ map not zs → bs ≡ replicate n true
all_true n zs bs none turned = turned ∙ ap (map not) none ∙ map-replicate not n false

-- ---- truth values

pub truths_long : (vs bs : List Bool) (xs : List Datum) → truth_rows (length bs) vs bs ≡ xs → length xs ≡ length bs
truths_long vs bs xs view = ap length (sym view) ∙ length-truth_rows (length bs) vs bs

-- one value in all rows
pub null_truths : (n : ℕ) (vs bs : List Bool) → vs ≡ replicate n false → bs ≡ replicate n false → truth_rows (length bs) vs bs ≡ replicate n null
null_truths n vs bs none are = ap (λ m. truth_rows m vs bs) (ap length are ∙ length-replicate n false) ∙ repeated_null n vs (λ k. bool (get_or bs k false)) none

pub same_truths : (n : ℕ) (b : Bool) (vs bs : List Bool) → vs ≡ replicate n true → bs ≡ replicate n b → truth_rows (length bs) vs bs ≡ replicate n (bool b)
same_truths n b vs bs all are =
    ap (λ m. truth_rows m vs bs) (ap length are ∙ length-replicate n b)
    ∙ repeated_value n vs (λ k. bool (get_or bs k false)) (bool b) all (λ k lt. ap bool (ap (λ l. get_or l k false) are ∙ get_or-replicate n k b false lt))

-- truth values that are written over by others
pub truths_put : (mask vs bs ws cs us ts : List Bool) (xs ys : List Datum) → truth_rows (length bs) vs bs ≡ ys → truth_rows (length cs) ws cs ≡ xs → length vs ≡ length bs → length cs ≡ length bs → us ≡ chosen mask ws vs → ts ≡ chosen mask cs bs →
    truth_rows (length ts) us ts ≡ blended mask xs ys
truths_put mask vs bs ws cs us ts xs ys old other many long valid made =
    ap (λ m. truth_rows m us ts) (ap length made ∙ length-chosen mask cs bs)
    ∙ blended_is (length bs) mask vs ws us (λ k. bool (get_or bs k false)) (λ k. bool (get_or cs k false)) (λ k. bool (get_or ts k false)) xs ys (truth_rows (length bs) us ts) (sym old) (sym other ∙ ap (λ m. truth_rows m ws cs) long) valid many
    (λ k lt on. ap bool (bit k lt ∙ ap (λ b. if b then get_or cs k false else get_or bs k false) on)) (λ k lt off. ap bool (bit k lt ∙ ap (λ b. if b then get_or cs k false else get_or bs k false) off)) refl
  where
    bit : (k : ℕ) → k < length bs → get_or ts k false ≡ (if get_or mask k false then get_or cs k false else get_or bs k false)
    bit k lt = ap (λ l. get_or l k false) made ∙ get_or-map-range_with_len (λ k. if get_or mask k false then get_or cs k false else get_or bs k false) 0 (length bs) k k false lt (omega arith)

-- ---- numbers

pub length-number_rows : (vs : List Bool) (ns : List ℤ) → length (number_rows vs ns) ≡ length vs
length-number_rows vs ns = length-valid_values (length vs) vs (λ k. int (get_or ns k (pos 0)))

pub numbers_long : {A : Type 0} (number : A → ℤ) (vs : List Bool) (xs : List A) (rows : List Datum) → number_rows vs (map number xs) ≡ rows → length rows ≡ length vs
numbers_long number vs xs rows view = ap length (sym view) ∙ length-number_rows vs (map number xs)

-- one value in all rows
pub null_numbers : (n : ℕ) (vs : List Bool) (ns : List ℤ) → vs ≡ replicate n false → number_rows vs ns ≡ replicate n null
null_numbers n vs ns none =
    let h = λ (k : ℕ). int (get_or ns k (pos 0)) in
    ap (λ m. valid_values m vs h) (ap length none ∙ length-replicate n false) ∙ repeated_null n vs h none

pub same_numbers : {A : Type 0} (number : A → ℤ) (n : ℕ) (x : A) (z : ℤ) (vs : List Bool) (xs : List A) → vs ≡ replicate n true → length xs ≡ n → ((i : ℕ) (y : A) → i < n → y ≡ get_or xs i y → y ≡ x) → number x ≡ z → number_rows vs (map number xs) ≡ replicate n (int z)
same_numbers number n x z vs xs all long each is =
    let h = λ (k : ℕ). int (get_or (map number xs) k (pos 0)) in
    ap (λ m. valid_values m vs h) (ap length all ∙ length-replicate n true)
    ∙ repeated_value n vs h (int z) all
    (λ k lt. let within : k < length xs = omega (arith, long) in
    let here = some_at xs k within in
    ap int (number_at number xs k here.0 within here.1 ∙ ap number (each k here.0 lt here.1) ∙ is))

-- the first numbers of a buffer, where they are valid
pub numbers_copied : {A : Type 0} (number : A → ℤ) (v : Validity) (xs zs : List A) (vs : List Bool) (n : ℕ) → length (shown v (map int (map number xs))) ≡ n → length vs ≡ n → ((k : ℕ) → k < n → get_or vs k false ≡ is_valid v k) → zs ≡ take n xs →
    (length vs ≡ length zs) × (number_rows vs (map number zs) ≡ shown v (map int (map number xs)))
numbers_copied number v xs zs vs n long many each are = (many ∙ sym (ap length are ∙ length-take n xs ∙ omega (arith, within)), ap (λ m. valid_values m vs h) many ∙ shown_values int v (map number xs) vs n h long each gives)
  where
    h : ℕ → Datum
    h k = int (get_or (map number zs) k (pos 0))

    there : n ≤ length (map number xs)
    there = (count_there int v (map number xs) n long).0

    within : n ≤ length xs
    within = omega (arith, there, length-map xs number)

    gives : (k : ℕ) → k < n → h k ≡ get_or (map int (map number xs)) k null
    gives k lt =
        ap (λ l. int (get_or (map number l) k (pos 0))) are ∙ ap (λ l. int (get_or l k (pos 0))) (sym (take-map number n xs)) ∙ ap int (get_or-take n (map number xs) k (pos 0) lt)
        ∙ sym (get_or-map int (map number xs) k (pos 0) null (omega (arith, there)))

-- numbers in lanes, and the rows that they were seen as
pub masked_numbers : {A : Type 0} (number : A → ℤ) (vs : List Bool) (xs zs : List A) (ns : List ℤ) (rows : List Datum) → ns ≡ map number zs → zs ≡ xs → length vs ≡ length xs → number_rows vs (map number xs) ≡ rows → masked vs (map int ns) ≡ rows
masked_numbers number vs xs zs ns rows made same many view =
    ap (λ l. masked vs (map int l)) (made ∙ ap (map number) same)
    ∙ sym (shown_values int (Rows vs) (map number xs) vs (length vs) (λ k. int (get_or (map number xs) k (pos 0))) (length-masked vs (map int (map number xs)) ∙ omega (arith, many, length-map (map number xs) int, length-map xs number)) (λ k lt. refl)
    (λ k lt. sym (get_or-map int (map number xs) k (pos 0) null (omega (arith, many, length-map xs number))))) ∙ view

-- of as many rows there are as many valid bits and numbers
pub numbers_beside : {A : Type 0} (number : A → ℤ) (vs ws : List Bool) (olds others : List A) (rows fills : List Datum) → number_rows vs (map number olds) ≡ rows → number_rows ws (map number others) ≡ fills → length vs ≡ length olds → length ws ≡ length others → length fills ≡ length rows →
    (length ws ≡ length vs) × (length others ≡ length olds)
numbers_beside number vs ws olds others rows fills old other many there long =
    let same : length ws ≡ length vs = sym (numbers_long number ws others fills other) ∙ long ∙ numbers_long number vs olds rows old in
    (same, sym there ∙ same ∙ many)

-- numbers that are written over by others
pub numbers_put : {A : Type 0} (number : A → ℤ) (mask vs ws us : List Bool) (news olds others : List A) (xs ys : List Datum) → number_rows vs (map number olds) ≡ ys → number_rows ws (map number others) ≡ xs → length vs ≡ length olds → length ws ≡ length vs → length ws ≡ length others → length news ≡ length olds → us ≡ chosen mask ws vs →
    ((i : ℕ) (x : A) → i < length olds → get_or mask i false ≡ true → x ≡ get_or news i x → x ≡ get_or others i x) → ((i : ℕ) (x : A) → i < length olds → get_or mask i false ≡ false → x ≡ get_or news i x → x ≡ get_or olds i x) →
    (length us ≡ length news) × (number_rows us (map number news) ≡ blended mask xs ys)
numbers_put {A = A} number mask vs ws us news olds others xs ys old other many wide there long valid on off = (
  counted ∙ many ∙ sym long,
  ap (λ m. valid_values m us (at news)) counted
      ∙ blended_is (length vs) mask vs ws us (at olds) (at others) (at news) xs ys (valid_values (length vs) us (at news)) (sym old) (sym other ∙ ap (λ m. valid_values m ws (at others)) wide) valid refl
      (λ k lt e. ap int (same_number number news others k (omega (arith, many, long)) (omega (arith, there, wide)) (λ x is. on k x (omega (arith, many)) e is)))
      (λ k lt e. ap int (same_number number news olds k (omega (arith, many, long)) (omega (arith, many)) (λ x is. off k x (omega (arith, many)) e is))) refl,
)
  where
    at : List A → ℕ → Datum
    at l k = int (get_or (map number l) k (pos 0))

    counted : length us ≡ length vs
    counted = ap length valid ∙ length-chosen mask ws vs

-- ---- numbers that are written over by a buffer's, by one number or by none

-- a buffer's numbers, where they are valid
pub part_put : {A : Type 0} (number : A → ℤ) (mask vs ws us : List Bool) (news olds part : List A) (v : Validity) (ys : List Datum) → number_rows vs (map number olds) ≡ ys → length vs ≡ length olds → length (shown v (map int (map number part))) ≡ length ys → length ws ≡ length ys →
    ((k : ℕ) → k < length ys → get_or ws k false ≡ is_valid v k) → length news ≡ length olds → us ≡ chosen mask ws vs →
    ((i : ℕ) (x : A) → i < length olds → get_or mask i false ≡ true → x ≡ get_or news i x → x ≡ get_or part i x) → ((i : ℕ) (x : A) → i < length olds → get_or mask i false ≡ false → x ≡ get_or news i x → x ≡ get_or olds i x) →
    (length us ≡ length news) × (number_rows us (map number news) ≡ blended mask (shown v (map int (map number part))) ys)
part_put number mask vs ws us news olds part v ys view many long wide each same valid on off =
    let n = length ys in
    let counted : n ≡ length vs = numbers_long number vs olds ys view in
    let copied = numbers_copied number v part (take n part) ws n long wide each refl in
    numbers_put number mask vs ws us news olds (take n part) (shown v (map int (map number part))) ys view copied.1 many (wide ∙ counted) copied.0 same valid
    (λ i x lt e is. on i x lt e is ∙ sym (get_or-take n part i x (omega (arith, counted, many)))) off

-- one number
pub number_put : {A : Type 0} (number : A → ℤ) (mask vs ws us : List Bool) (news olds : List A) (x : A) (z : ℤ) (ys : List Datum) → number_rows vs (map number olds) ≡ ys → length vs ≡ length olds → length mask ≡ length ys → ws ≡ replicate (length mask) true → number x ≡ z → length news ≡ length olds → us ≡ chosen mask ws vs →
    ((i : ℕ) (y : A) → i < length olds → get_or mask i false ≡ true → y ≡ get_or news i y → y ≡ x) → ((i : ℕ) (y : A) → i < length olds → get_or mask i false ≡ false → y ≡ get_or news i y → y ≡ get_or olds i y) →
    (length us ≡ length news) × (number_rows us (map number news) ≡ blended mask (replicate (length ys) (int z)) ys)
number_put number mask vs ws us news olds x z ys view many wide all is same valid on off =
    let n = length ys in
    let counted : n ≡ length vs = numbers_long number vs olds ys view in
    let all_there : ws ≡ replicate n true = all ∙ ap (λ m. replicate m true) wide in
    let ws_long : length ws ≡ n = ap length all_there ∙ length-replicate n true in
    let shown_as = same_numbers number n x z ws (replicate n x) all_there (length-replicate n x) (λ i y lt here. here ∙ get_or-replicate n i x y lt) is in
    numbers_put number mask vs ws us news olds (replicate n x) (replicate n (int z)) ys view shown_as many (ws_long ∙ counted) (ws_long ∙ sym (length-replicate n x)) same valid
    (λ i y lt e here. on i y lt e here ∙ sym (get_or-replicate n i x y (omega (arith, counted, many)))) off

-- null
pub nulls_put : {A : Type 0} (number : A → ℤ) (mask vs ws us : List Bool) (olds : List A) (ys : List Datum) → number_rows vs (map number olds) ≡ ys → length vs ≡ length olds → length mask ≡ length ys → ws ≡ replicate (length mask) false → us ≡ chosen mask ws vs →
    (length us ≡ length olds) × (number_rows us (map number olds) ≡ blended mask (replicate (length ys) null) ys)
nulls_put number mask vs ws us olds ys view many wide none valid =
    let n = length ys in
    let counted : n ≡ length vs = numbers_long number vs olds ys view in
    let none_there : ws ≡ replicate n false = none ∙ ap (λ m. replicate m false) wide in
    let ws_long : length ws ≡ n = ap length none_there ∙ length-replicate n false in
    numbers_put number mask vs ws us olds olds olds (replicate n null) ys view (null_numbers n ws (map number olds) none_there) many (ws_long ∙ counted) (ws_long ∙ counted ∙ many) refl valid (λ i y lt e here. here) (λ i y lt e here. here)
