-- What is told of values that are looked up among the elements of one list.
use Rattle.std.proofs.Common.{◌≡◌, ℕ, ◌+◌, ◌<◌, ◌≤◌, ◌==◌, ℤ, pos, List, [], ◌∷◌, ◌++◌, map, length, get_or, take, drop, drop-cons, drop_of_length-le, add-one, suc, length-take, refl, sym, ap, ◌∙◌, arith, Bool, true, false, not, ◌&&◌, ◌||◌, cond, Option, Some, None, Result, Ok, Err}
use Rattle.std.specs.Prelude.{if◌then◌else◌, ◌+ℤ◌, IfOk, IfSome}
use Rattle.std.specs.Borrow.{Bor}
use Rattle.std.specs.HashSet.{HashSet, contains}
use Rattle.std.specs.Ordering.{int_cmp, int_eq}
use Rattle.std.specs.Simd.Lanes.{zip2}
use Rattle.std.specs.Str.{bytes_eq}
use Rattle.std.proofs.lemmas.Bool.Decides.{Decides-eqb, Decides-int_eq, Decides-like, same_from_decides}
use Rattle.std.proofs.lemmas.Int.{ints}
use Rattle.std.proofs.Math.ListN.{replicate}
use Rattle.std.proofs.lemmas.List.{length-map, get_or-map, get_or-take, take-map, ext_get_or}
use Rattle.std.proofs.lemmas.List.Folds.{list_any-append, list_any_more}
use Rattle.std.proofs.lemmas.Simd.{length-zip2, get_or-zip2}
use Rattle.vx_value.specs.declared.value.Value.{Value}
use Rattle.vx_value.specs.Equality.{equal_datum}
use Rattle.vx_value.specs.Types.{Data, Datum, null, bool, int, utf8, list_of, is_null_datum}
use Rattle.vx_value.specs.Views.{data_view, value_of}
use Rattle.vx_fn.specs.Values.{contained, has_element, has_null}
use Rattle.vx_array_loops.specs.Comparisons.{holds}
use Rattle.vx_array_loops.specs.declared.comparison.Comparison.TheVariants.{Equal}
use Rattle.vx_array.specs.declared.validity.Validity.{Validity}
use Rattle.vx_array.specs.declared.validity.Validity.TheVariants.{Rows}
use Rattle.vx_array.specs.Shown.{is_valid, masked, shown, shown_count}
use Rattle.vx_array.proofs.Mapped.{map_map, map_same}
use Rattle.vx_array.proofs.Masked.{get_or-shown, length-masked, length-shown, rows_within}
use Rattle.vx_array_kernels.specs.Buckets.{is_one_of, is_there}
use Rattle.vx_array_kernels.specs.Members.{HasCodes, has_number, same_bytes, TellsMembers}
use Rattle.vx_array_kernels.specs.declared.buckets.Buckets.{Buckets}
use Rattle.vx_array_kernels.specs.Truths.{TellsNulls}
use Rattle.vx_array_kernels.proofs.Beside.{all_counted}
use Rattle.vx_array_kernels.proofs.Chosen.{some_at}

-- ---- elements, one after another

or_false : (b : Bool) → (b || false) ≡ b
or_false true = refl
or_false false = refl

moved : (a b rest : Bool) → ((a || b) || rest) ≡ (a || (b || rest))
moved true b rest = refl
moved false b rest = refl

-- an element that is put into a set
pub put_in : (e found : Bool) → cond e true found ≡ (found || e)
put_in true true = refl
put_in true false = refl
put_in false found = sym (or_false found)

-- one element more is found already
pub element_more : (found more all : Bool) (items : List Value) (i : ℕ) (x : Value) (d : Datum) → i < length items → x ≡ get_or items i x → more ≡ (found || equal_datum (value_of x) d) →
    (found || has_element (data_view (drop i items)) d) ≡ all → (more || has_element (data_view (drop (i + 1) items)) d) ≡ all
element_more found more all items i x d lt at is had =
    let rest = has_element (data_view (drop (i + 1) items)) d in
    let left : drop i items ≡ x ∷ drop (i + 1) items = rw (drop-cons items i x lt, ← at, add-one) in
    let told : has_element (data_view (drop i items)) d ≡ (equal_datum (value_of x) d || rest) = ap (λ l. has_element (data_view l) d) left in
    ap (λ b. b || rest) is ∙ moved found (equal_datum (value_of x) d) rest ∙ ap (λ b. found || b) (sym told) ∙ had

-- an element that is null is none
pub null_more : (found all : Bool) (items : List Value) (i : ℕ) (x : Value) (d : Datum) → i < length items → x ≡ get_or items i x → equal_datum (value_of x) d ≡ false →
    (found || has_element (data_view (drop i items)) d) ≡ all → (found || has_element (data_view (drop (i + 1) items)) d) ≡ all
null_more found all items i x d lt at is had = element_more found found all items i x d lt at (sym (or_false found) ∙ ap (λ b. found || b) (sym is)) had

-- an element that is a number
pub number_more : {A : Type 0} (number : A → ℤ) (xs : List A) (y : A) (n : ℤ) (all : Bool) (items : List Value) (i : ℕ) (x : Value) → i < length items → x ≡ get_or items i x → value_of x ≡ int (number y) →
    (has_number number xs n || has_element (data_view (drop i items)) (int n)) ≡ all → (has_number number (xs ++ y ∷ []) n || has_element (data_view (drop (i + 1) items)) (int n)) ≡ all
number_more number xs y n all items i x lt at is had =
    element_more (has_number number xs n) (has_number number (xs ++ y ∷ []) n) all items i x (int n) lt at
    (list_any-append (λ z. int_eq (number z) n) xs (y ∷ []) ∙ ap (λ b. has_number number xs n || b) (or_false (int_eq (number y) n)) ∙ ap (λ d. has_number number xs n || equal_datum d (int n)) (sym is)) had

-- all have been found
pub all_found : (found all : Bool) (items : List Value) (i : ℕ) (d : Datum) → length items ≤ i → (found || has_element (data_view (drop i items)) d) ≡ all → found ≡ all
all_found found all items i d le had =
    let none : has_element (data_view (drop i items)) d ≡ false = ap (λ l. has_element (data_view l) d) (drop_of_length-le items le) in
    sym (or_false found) ∙ ap (λ b. found || b) (sym none) ∙ had

-- ---- numbers compared with one after another

either_mapped : {A : Type 0} (f g : A → Bool) (xs : List A) → zip2 (λ a b. a || b) (map f xs) (map g xs) ≡ map (λ x. f x || g x) xs
either_mapped f g [] = refl
either_mapped f g (x ∷ xs) = ap (λ l. (f x || g x) ∷ l) (either_mapped f g xs)

turned : (i j : ℤ) → int_eq i j ≡ int_eq j i
turned i j = same_from_decides (int_eq i j) (int_eq j i) (Decides-int_eq i j) (Decides-like (int_eq j i) sym sym (Decides-int_eq j i))

pub each_more : {A : Type 0} (number : A → ℤ) (others numbers : List A) (i : ℕ) (y : A) (told same : List Bool) → i < length others → y ≡ get_or others i y → told ≡ map (λ x. has_number number (take i others) (number x)) numbers →
    same ≡ map (λ x. holds Equal (int_cmp (number x) (number y))) numbers → zip2 (λ a b. a || b) told same ≡ map (λ x. has_number number (take (i + 1) others) (number x)) numbers
each_more {A = A} number others numbers i y told same lt at are is =
    let f = λ (x : A). has_number number (take i others) (number x) in
    let g = λ (x : A). holds Equal (int_cmp (number x) (number y)) in
    ap (λ l. zip2 (λ a b. a || b) l same) are ∙ ap (zip2 (λ a b. a || b) (map f numbers)) is ∙ either_mapped f g numbers
    ∙ map_same (λ x. f x || g x) (λ x. has_number number (take (i + 1) others) (number x)) numbers
    (λ x. ap (λ b. f x || b) (turned (number x) (number y)) ∙ ap (λ z. f x || int_eq (number z) (number x)) at ∙ sym (list_any_more (λ z. int_eq (number z) (number x)) others i y lt))

-- at first none is found
pub none_found : {A : Type 0} (xs : List A) → replicate (length xs) false ≡ map (λ (x : A). false) xs
none_found [] = refl
none_found (x ∷ xs) = ap (λ l. false ∷ l) (none_found xs)

-- the first numbers of a width
pub told_of_width : {A : Type 0} (number : A → ℤ) (others lent part first : List A) (ws : Data) (count : ℕ) (told : List Bool) → ((n : ℤ) → has_number number others n ≡ has_element ws (int n)) → lent ≡ others → first ≡ take count part →
    told ≡ map (λ x. has_number number lent (number x)) first → told ≡ map (λ n. has_element ws (int n)) (take count (map number part))
told_of_width number others lent part first ws count told tells same cut are =
    are ∙ ap (map (λ x. has_number number lent (number x))) cut
    ∙ map_same (λ x. has_number number lent (number x)) (λ x. has_element ws (int (number x))) (take count part) (λ x. ap (λ l. has_number number l (number x)) same ∙ tells (number x))
    ∙ sym (map_map (λ n. has_element ws (int n)) number (take count part)) ∙ ap (map (λ n. has_element ws (int n))) (sym (take-map number count part))

-- ---- numbers by their codes

code_tells : (i j above : ℤ) (m c : ℕ) → pos m ≡ i +ℤ above → pos c ≡ j +ℤ above → (m == c) ≡ int_eq i j
code_tells i j above m c first second =
    same_from_decides (m == c) (int_eq i j) (Decides-eqb m c) (Decides-like (int_eq i j) (λ (e : i ≡ j). grind (arith, ints)) (λ (e : m ≡ c). grind (arith, ints)) (Decides-int_eq i j))

pub codes_tell : {A : Type 0} (number : A → ℤ) (above : ℤ) (xs : List A) (codes : List ℕ) (n : ℤ) (c : ℕ) → length codes ≡ length xs → ((k : ℕ) → k < length xs → pos (get_or codes k 0) ≡ get_or (map (λ x. number x +ℤ above) xs) k (pos 0)) → pos c ≡ n +ℤ above →
    is_one_of codes c ≡ has_number number xs n
codes_tell number above [] [] n c long each is = refl
codes_tell number above [] (m ∷ codes) n c long each is = absurd (omega arith)
codes_tell number above (x ∷ xs) [] n c long each is = absurd (omega arith)
codes_tell number above (x ∷ xs) (m ∷ codes) n c long each is =
    ap (λ b. b || is_one_of codes c) (code_tells (number x) n above m c (each 0 (omega arith)) is)
    ∙ ap (λ b. int_eq (number x) n || b) (codes_tell number above xs codes n c (omega arith) (λ k lt. each (suc k) (omega arith)) is)

-- buckets of the codes
pub buckets_found : {A : Type 0} (number : A → ℤ) (above : ℤ) (xs : List A) (codes : List ℕ) (b : Buckets) → length codes ≡ length xs → ((k : ℕ) → k < length xs → pos (get_or codes k 0) ≡ get_or (map (λ x. number x +ℤ above) xs) k (pos 0)) →
    ((n : ℕ) → is_there b n ≡ is_one_of codes n) → HasCodes number above b xs
buckets_found number above xs codes b long each tells n c is = tells c ∙ codes_tell number above xs codes n c long each is

pub code_found : {A : Type 0} (number : A → ℤ) (above : ℤ) (b : Buckets) (ns xs : List A) (k c : ℕ) (told : Bool) → k < length ns → told ≡ is_there b c → pos c ≡ get_or (map (λ x. number x +ℤ above) ns) k (pos 0) → HasCodes number above b xs →
    told ≡ get_or (map (λ x. has_number number xs (number x)) ns) k false
code_found number above b ns xs k c told lt is code has =
    let here = some_at ns k lt in
    is ∙ has (number here.0) c (code ∙ get_or-map (λ x. number x +ℤ above) ns k here.0 (pos 0) lt ∙ ap (λ x. number x +ℤ above) (sym here.1))
    ∙ ap (λ x. has_number number xs (number x)) here.1 ∙ sym (get_or-map (λ x. has_number number xs (number x)) ns k here.0 false lt)

-- what holds of what is found
pub found_each : {A E : Type 0} (r : Result (Option A) E) (P Q : A → Type 0) → ((x : A) → P x → Q x) → IfOk r (λ found. IfSome found P) → IfOk r (λ found. IfSome found Q)
found_each (Ok (Some x)) P Q h p = h x p
found_each (Ok None) P Q h p = tt
found_each (Err e) P Q h p = tt

-- ---- texts

-- an element that is a text
pub text_more : {S : Type 0} (old new : HashSet (Bor (List ℕ)) S) (key : Bor (List ℕ)) (t : List ℕ) (items : List Value) (i : ℕ) (x : Value) → i < length items → x ≡ get_or items i x → value_of x ≡ utf8 t → key.now ≡ t →
    ((q : Bor (List ℕ)) → contains same_bytes new q ≡ cond (same_bytes key q) true (contains same_bytes old q)) → ((q : Bor (List ℕ)) → (contains same_bytes old q || has_element (data_view (drop i items)) (utf8 q.now)) ≡ has_element (data_view items) (utf8 q.now)) →
    (q : Bor (List ℕ)) → (contains same_bytes new q || has_element (data_view (drop (i + 1) items)) (utf8 q.now)) ≡ has_element (data_view items) (utf8 q.now)
text_more old new key t items i x lt at is same put had q =
    element_more (contains same_bytes old q) (contains same_bytes new q) (has_element (data_view items) (utf8 q.now)) items i x (utf8 q.now) lt at
    (put q ∙ put_in (same_bytes key q) (contains same_bytes old q) ∙ ap (λ b. contains same_bytes old q || b) (ap (λ bs. bytes_eq bs q.now) same ∙ ap (λ d. equal_datum d (utf8 q.now)) (sym is))) (had q)

-- what is made of the first of some rows
pub first_long : {A : Type 0} (h : A → Bool) (xs : List A) (n : ℕ) → n ≤ length xs → length (map h (take n xs)) ≡ n
first_long h xs n le = omega (arith, length-map (take n xs) h, length-take n xs)

pub first_read : {A : Type 0} (h : A → Bool) (d : A) (xs : List A) (n k : ℕ) → k < n → n ≤ length xs → get_or (map h (take n xs)) k false ≡ h (get_or xs k d)
first_read h d xs n k lt le = get_or-map h (take n xs) k d false (omega (arith, length-take n xs)) ∙ ap h (get_or-take n xs k d lt)

-- ---- truth values of rows

-- what is told of rows of which bits say whether they are elements
pub members_told : {A : Type 0} (d : A) (f g : A → Datum) (ws : Data) (v : Validity) (xs : List A) (n : ℕ) (told : List Bool) (rows : List Datum) → ((x : A) → is_null_datum (f x) ≡ false → f x ≡ g x) → rows ≡ shown v (map f xs) → length rows ≡ n →
    told ≡ map (λ x. has_element ws (g x)) (take n xs) → TellsMembers ws told rows
members_told {A = A} d f g ws v xs n told rows alike held long are = (counted, λ k lt some. at k lt (is_valid v k) refl some)
  where
    within : n ≤ length xs
    within = (rows_within f v xs rows n held (omega arith)).0

    h : A → Bool
    h x = has_element ws (g x)

    counted : length told ≡ length rows
    counted = omega (arith, ap length are, length-map (take n xs) h, length-take n xs, within, long)

    shows : (k : ℕ) → k < length rows → get_or rows k null ≡ (if is_valid v k then f (get_or xs k d) else null)
    shows k lt = ap (λ l. get_or l k null) held ∙ get_or-shown v (map f xs) k ∙ ap (λ e. if is_valid v k then e else null) (get_or-map f xs k d null (omega (arith, within, long)))

    tells : (k : ℕ) → k < length rows → get_or told k false ≡ h (get_or xs k d)
    tells k lt =
        ap (λ l. get_or l k false) are ∙ get_or-map h (take n xs) k d false (omega (arith, length-take n xs, within, long)) ∙ ap h (get_or-take n xs k d (omega (arith, long)))

    at : (k : ℕ) → k < length rows → (b : Bool) → is_valid v k ≡ b → is_null_datum (get_or rows k null) ≡ false → get_or told k false ≡ has_element ws (get_or rows k null)
    at k lt true valid some =
        let here : get_or rows k null ≡ f (get_or xs k d) = shows k lt ∙ ap (λ b. if b then f (get_or xs k d) else null) valid in
        tells k lt ∙ ap (has_element ws) (sym (here ∙ alike (get_or xs k d) (ap is_null_datum (sym here) ∙ some)))
    at k lt false valid some =
        let here : get_or rows k null ≡ null = shows k lt ∙ ap (λ b. if b then f (get_or xs k d) else null) valid in
        let wrong : true ≡ false = ap is_null_datum (sym here) ∙ some in
        cc

-- null, or whether the value is one of the elements
sure_of : (ws : Data) (v : Datum) (b t : Bool) → is_null_datum v ≡ not b → has_null ws ≡ false → (is_null_datum v ≡ false → t ≡ has_element ws v) → (if b then bool t else null) ≡ contained (list_of ws) v
sure_of ws v true t some none tells = rw (some, none, ← tells some) (go t)
  where
    go : (t : Bool) → bool t ≡ (if t then bool true else bool false)
    go true = refl
    go false = refl
sure_of ws v false t some none tells = rw some refl

maybe_of : (ws : Data) (v : Datum) (b t : Bool) → is_null_datum v ≡ not b → has_null ws ≡ true → (is_null_datum v ≡ false → t ≡ has_element ws v) → (if b && t then bool t else null) ≡ contained (list_of ws) v
maybe_of ws v true t some one tells = rw (some, one, ← tells some) (go t)
  where
    go : (t : Bool) → (if t then bool t else null) ≡ (if t then bool true else null)
    go true = refl
    go false = refl
maybe_of ws v false t some one tells = rw some refl

-- where no element is null
pub members_shown : (ws : Data) (v : Validity) (rows : List Datum) (told bits : List Bool) (out : List Datum) → TellsNulls v rows → TellsMembers ws told rows → has_null ws ≡ false → bits ≡ told → out ≡ shown v (map bool bits) → out ≡ map (contained (list_of ws)) rows
members_shown ws v rows told bits out nulls tells none same is =
    is ∙ ap (λ l. shown v (map bool l)) same
    ∙ ext_get_or null (shown v (map bool told)) (map (contained (list_of ws)) rows) (long ∙ sym (length-map rows (contained (list_of ws))))
    (λ k lt. let within : k < length rows = omega (arith, long) in
    get_or-shown v (map bool told) k ∙ ap (λ d. if is_valid v k then d else null) (get_or-map bool told k false null (omega (arith, tells.0)))
    ∙ sure_of ws (get_or rows k null) (is_valid v k) (get_or told k false) (nulls.1 k within) none (tells.1 k within) ∙ sym (get_or-map (contained (list_of ws)) rows k null null within))
  where
    long : length (shown v (map bool told)) ≡ length rows
    long = length-shown v (map bool told) ∙ ap (shown_count v) (length-map told bool ∙ tells.0) ∙ all_counted v (length rows) nulls.0

-- where some element is
pub members_masked : (ws : Data) (v : Validity) (rows : List Datum) (told bits there sure : List Bool) (out : List Datum) → TellsNulls v rows → TellsMembers ws told rows → has_null ws ≡ true → bits ≡ told → length there ≡ length told →
    ((k : ℕ) → k < length told → get_or there k false ≡ is_valid v k) → sure ≡ zip2 (λ a b. a && b) there told → out ≡ masked sure (map bool bits) → out ≡ map (contained (list_of ws)) rows
members_masked ws v rows told bits there sure out nulls tells one same many valid are is =
    is ∙ ap (λ l. masked l (map bool bits)) are ∙ ap (λ l. masked both (map bool l)) same
    ∙ ext_get_or null (masked both (map bool told)) (map (contained (list_of ws)) rows) (long ∙ sym (length-map rows (contained (list_of ws))))
    (λ k lt. let within : k < length rows = omega (arith, long) in
    get_or-shown (Rows both) (map bool told) k ∙ ap (λ d. if get_or both k false then d else null) (get_or-map bool told k false null (omega (arith, tells.0)))
    ∙ ap (λ b. if b then bool (get_or told k false) else null) (get_or-zip2 (λ a b. a && b) there told k false false false (omega (arith, many, tells.0)) (omega (arith, tells.0)) ∙ ap (λ b. b && get_or told k false) (valid k (omega (arith, tells.0))))
    ∙ maybe_of ws (get_or rows k null) (is_valid v k) (get_or told k false) (nulls.1 k within) one (tells.1 k within) ∙ sym (get_or-map (contained (list_of ws)) rows k null null within))
  where
    both : List Bool
    both = zip2 (λ a b. a && b) there told

    long : length (masked both (map bool told)) ≡ length rows
    long = length-masked both (map bool told) ∙ omega (arith, length-zip2 (λ a b. a && b) there told many, many, length-map told bool, tells.0)
