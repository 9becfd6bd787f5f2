-- Comparisons joined by And.
use Rattle.std.proofs.Common.{◌≡◌, ℕ, ◌+◌, ◌<◌, ◌≤◌, List, [], ◌∷◌, ◌++◌, map, length, get_or, drop, refl, sym, ap, ◌∙◌, arith, IsTrue, Option, Some, None, Bool, true, false}
use Rattle.std.specs.Prelude.{if◌then◌else◌, ◌||◌}
use Rattle.std.proofs.lemmas.List.{drop_more, drop_all, get_or-map, map-append, length-map, append-nil}
use Rattle.std.proofs.lemmas.List.FromFn.{length-map-range_with_len, get_or-map-range_with_len}
use Rattle.vx_value.specs.Types.{Datum, null, bool, is_null_datum}
use Rattle.vx_fn.specs.Functions.{Operation, compares}
use Rattle.vx_fn.specs.Values.{kleene_and, binary_value, agrees, order}
use Rattle.vx_eval.specs.Columns.{each_row, row_at, truth_datum}
use Rattle.vx_eval.specs.Items.{AllLong, HaveRow, all_of, conjoined, compared_items, is_comparison, item_at}
use Rattle.vx_eval.proofs.Filled.{each_same, all_rows, told_at}
use Rattle.vx_fn.proofs.Kleene.{and_assoc}
use Rattle.vx_eval.proofs.Lengths.{long_at}
use Rattle.vx_eval.proofs.Kleene.{seen, left_seen}

-- ---- And

true_and : (v : Datum) → kleene_and (bool true) v ≡ seen v
true_and (bool true) = refl
true_and (bool false) = refl
true_and _ = refl

true_all : (ds : List Datum) → kleene_and (bool true) (all_of ds) ≡ all_of ds
true_all [] = refl
true_all (v ∷ vs) = sym (and_assoc (bool true) v (all_of vs)) ∙ ap (λ x. kleene_and x (all_of vs)) (true_and v) ∙ sym (left_seen v (all_of vs))

all_both : (xs ys : List Datum) → all_of (xs ++ ys) ≡ kleene_and (all_of xs) (all_of ys)
all_both [] ys = sym (true_all ys)
all_both (x ∷ xs) ys = ap (kleene_and x) (all_both xs ys) ∙ sym (and_assoc x (all_of xs) (all_of ys))

and_true : (t : Option Bool) → kleene_and (truth_datum t) (bool true) ≡ truth_datum t
and_true (Some true) = refl
and_true (Some false) = refl
and_true None = refl

-- ---- columns

pub conjoined_long : (n : ℕ) (cs : List (List Datum)) → length (conjoined n cs) ≡ n
conjoined_long n cs = length-map-range_with_len (λ k. all_of (row_at cs k)) 0 n

-- a row of what is joined is one of the columns
pub row_within : (n i : ℕ) (cs : List (List Datum)) (ds : List Datum) → conjoined n cs ≡ ds → i < length ds → i < n
row_within n i cs ds is lt = omega (arith, conjoined_long n cs, ap length is, lt)

pub conjoined_at : (n i : ℕ) (cs : List (List Datum)) → i < n → get_or (conjoined n cs) i null ≡ all_of (row_at cs i)
conjoined_at n i cs lt = get_or-map-range_with_len (λ k. all_of (row_at cs k)) 0 n i i null lt (omega arith)

pub have_there : (i m : ℕ) (cs : List (List Datum)) (c : List Datum) → HaveRow i cs → m < length cs → c ≡ get_or cs m c → i < length c
have_there i m cs c have lt is = let same : length c ≡ length (get_or cs m c) = ap length is in omega (arith, same, have m c lt)

pub have_row : (n i : ℕ) (cs : List (List Datum)) → AllLong n cs → i < n → HaveRow i cs
have_row n i cs all lt = λ j d h. omega (arith, long_at n cs j d all h, lt)

here_at : (i m : ℕ) (cs : List (List Datum)) (c : List Datum) → m < length cs → c ≡ get_or cs m c → get_or c i null ≡ get_or (row_at cs i) m null
here_at i m cs c lt is = ap (λ d. get_or d i null) is ∙ sym (get_or-map (λ d. get_or d i null) cs m c null lt)

pub all_start : (ds : List Datum) → kleene_and (bool true) (all_of (drop 0 ds)) ≡ all_of ds
all_start ds = true_all ds

-- one more comparison is told
pub all_more : (i m : ℕ) (cs : List (List Datum)) (c : List Datum) (x y t : Datum) → m < length cs → c ≡ get_or cs m c → kleene_and x (all_of (drop m (row_at cs i))) ≡ all_of (row_at cs i) →
    t ≡ get_or c i null → y ≡ kleene_and x t → kleene_and y (all_of (drop (m + 1) (row_at cs i))) ≡ all_of (row_at cs i)
all_more i m cs c x y t lt is so_far here told =
    let row = row_at cs i in
    let rest = all_of (drop (m + 1) row) in
    let within : m < length row = omega (arith, length-map cs (λ d. get_or d i null)) in
    ap (λ z. kleene_and z rest) (told ∙ ap (kleene_and x) (here ∙ here_at i m cs c lt is)) ∙ and_assoc x (get_or row m null) rest ∙ sym (ap (λ l. kleene_and x (all_of l)) (drop_more row m null within)) ∙ so_far

-- what is told so far, as long as nothing is false
abbrev pub none_false : Bool → Datum
none_false all_true = if all_true then bool true else null

pub still_true : (all_true : Bool) → none_false all_true ≡ kleene_and (none_false all_true) (bool true)
still_true true = refl
still_true false = refl

pub then_null : (all_true : Bool) → none_false false ≡ kleene_and (none_false all_true) null
then_null true = refl
then_null false = refl

then_false : (all_true : Bool) → bool false ≡ kleene_and (none_false all_true) (bool false)
then_false true = refl
then_false false = refl

-- one is false
pub all_false : (i m : ℕ) (cs : List (List Datum)) (c : List Datum) (all_true : Bool) → m < length cs → c ≡ get_or cs m c → kleene_and (none_false all_true) (all_of (drop m (row_at cs i))) ≡ all_of (row_at cs i) →
    bool false ≡ get_or c i null → bool false ≡ all_of (row_at cs i)
all_false i m cs c all_true lt is before here = all_more i m cs c (none_false all_true) (bool false) (bool false) lt is before here (then_false all_true)

ended : (all_true : Bool) → kleene_and (none_false all_true) (bool true) ≡ none_false all_true
ended true = refl
ended false = refl

-- all are told
pub all_told : (i m : ℕ) (cs : List (List Datum)) (all_true : Bool) → length cs ≤ m → kleene_and (none_false all_true) (all_of (drop m (row_at cs i))) ≡ all_of (row_at cs i) → none_false all_true ≡ all_of (row_at cs i)
all_told i m cs all_true end before =
    let row = row_at cs i in
    let all : length row ≤ m = omega (arith, length-map cs (λ d. get_or d i null)) in
    sym (ended all_true) ∙ sym (ap (λ l. kleene_and (none_false all_true) (all_of l)) (drop_all m row all)) ∙ before

-- ---- a comparison alone, and two of them

compared_told : (b a : Bool) → kleene_and (if b then null else bool a) (bool true) ≡ (if b then null else bool a)
compared_told true a = refl
compared_told false true = refl
compared_told false false = refl

comparison_told : (op : Operation) (v w : Datum) → IsTrue (is_comparison op) → kleene_and (binary_value op v w) (bool true) ≡ binary_value op v w
comparison_told (compares c) v w is = compared_told (is_null_datum v || is_null_datum w) (agrees c (order v w))
comparison_told _ v w is = cc

pub conjoined_alone : (op : Operation) (place : ℕ) (d : Datum) (vs : List Datum) → IsTrue (is_comparison op) →
    conjoined (length (compared_items op place d vs)) (compared_items op place d vs ∷ []) ≡ compared_items op place d vs
conjoined_alone op place d vs is =
    let ds = compared_items op place d vs in
    each_same (length ds) (λ k. kleene_and (get_or ds k null) (bool true)) (λ k. get_or ds k null)
    (λ k lt. let at = told_at op place d vs k lt in ap (λ x. kleene_and x (bool true)) at ∙ comparison_told op (get_or (map (item_at place) vs) k null) d is ∙ sym at)
    ∙ all_rows ds (length ds) refl

pub conjoined_both : (n m : ℕ) (xs ys all : List (List Datum)) (s o : List Datum) → s ≡ conjoined n xs → o ≡ conjoined m ys → length o ≡ length s → all ≡ xs ++ ys →
    conjoined n all ≡ each_row (length s) (λ k. kleene_and (get_or s k null) (get_or o k null))
conjoined_both n m xs ys all s o is also as_long joined =
    let long : length s ≡ n = ap length is ∙ conjoined_long n xs in
    let other : m ≡ n = sym (conjoined_long m ys) ∙ sym (ap length also) ∙ as_long ∙ long in
    each_same n (λ k. all_of (row_at all k)) (λ k. kleene_and (get_or s k null) (get_or o k null))
    (λ k lt.
    ap (λ l. all_of (row_at l k)) joined ∙ ap all_of (map-append (λ c. get_or c k null) xs ys) ∙ all_both (row_at xs k) (row_at ys k)
    ∙ ap (λ x. kleene_and x (all_of (row_at ys k))) (sym (ap (λ l. get_or l k null) is ∙ conjoined_at n k xs lt))
    ∙ ap (kleene_and (get_or s k null)) (sym (ap (λ l. get_or l k null) also ∙ conjoined_at m k ys (omega (arith, other, lt)))))
    ∙ ap (λ l. each_row l (λ k. kleene_and (get_or s k null) (get_or o k null))) (sym long)

pub both_long : (n m : ℕ) (xs ys all : List (List Datum)) → AllLong n xs → AllLong m ys → m ≡ n → all ≡ xs ++ ys → AllLong n all
both_long n m xs ys all first second same joined = rw joined (go xs first)
  where
    go : (xs : List (List Datum)) → AllLong n xs → AllLong n (xs ++ ys)
    go [] a = rw (← same) second
    go (x ∷ xs) a = (a.0, go xs a.1)

pub joined_all : (k : ℕ) (xs ys now : List (List Datum)) → length ys ≤ k → now ++ drop k ys ≡ xs ++ ys → now ≡ xs ++ ys
joined_all k xs ys now end so_far = sym (append-nil now) ∙ sym (ap (λ l. now ++ l) (drop_all k ys end)) ∙ so_far

pub counts_same : (n m : ℕ) (xs ys : List (List Datum)) (s o : List Datum) → conjoined n xs ≡ s → conjoined m ys ≡ o → length o ≡ length s → m ≡ n
counts_same n m xs ys s o is also same = sym (conjoined_long m ys) ∙ ap length also ∙ same ∙ sym (ap length is) ∙ conjoined_long n xs

-- one comparison told alone
pub alone_told : (n i : ℕ) (d self : List Datum) (t : Option Bool) → conjoined n (d ∷ []) ≡ self → i < n → truth_datum t ≡ get_or d i null → truth_datum t ≡ get_or self i null
alone_told n i d self t is lt told = sym (and_true t) ∙ ap (λ v. kleene_and v (bool true)) told ∙ sym (conjoined_at n i (d ∷ []) lt) ∙ ap (λ ds. get_or ds i null) is

-- all of them told together
pub together_told : (n i : ℕ) (cs : List (List Datum)) (self : List Datum) (v : Datum) → conjoined n cs ≡ self → i < n → v ≡ all_of (row_at cs i) → v ≡ get_or self i null
together_told n i cs self v is lt told = told ∙ sym (conjoined_at n i cs lt) ∙ ap (λ ds. get_or ds i null) is

pub only_one : (cs : List (List Datum)) (c : List Datum) → length cs ≡ 1 → c ≡ get_or cs 0 c → cs ≡ c ∷ []
only_one [] c one is = absurd (omega (arith, one))
only_one (x ∷ []) c one is = ap (λ d. d ∷ []) (sym is)
only_one (x ∷ y ∷ cs) c one is = absurd (omega (arith, one))
