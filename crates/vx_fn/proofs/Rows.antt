-- The typing function and the typing relation are one.
use Rattle.std.proofs.Common.{◌≡◌, ℕ, ◌==◌, List, [], ◌∷◌, length, refl, subst, Bool, true, false, ◌&&◌, ◌||◌}
use Rattle.std.specs.Prelude.{Ok, Err, Option, Some, None, not, ok_or, option_map, if◌then◌else◌}
use Rattle.std.proofs.lemmas.Bool.{and_parts}
use Rattle.std.specs.List.{list_all}
use Rattle.std.specs.Result.{result_map_both}
use Rattle.vx_value.specs.Types.{Name, Atomic, truth, number, floating, decimals, text, LogicalType, ty, atomic, list, fixed, struct, Datum, is_nullable, with_nullability}
use Rattle.vx_value.specs.Joins.{same_base, join, union, union_all}
use Rattle.vx_value.specs.Fields.{field_type, project, first_unknown, fields_named}
use Rattle.vx_value.specs.Returns.{known_or}
use Rattle.vx_floats.specs.declared.arithmetic.Arithmetic.{Arithmetic}
use Rattle.vx_fn.specs.Functions.{Function, case_when, get_item, literal, pack, select, fill_null, zip, binary, logical_not, between, like, is_null, is_not_null, mask, cast, starts_with, byte_length, list_contains, Operation, compares, and_also, or_else, computes, Comparison, selection_names, included, case_children, conditions, branches, is_truth, is_text, is_number_for, is_atomic, Typing, of_none, of_one, of_two, of_three, of_many, needs, fn_type, case_union, case_type, item_type, found, with_else, select_type, binary_type, truth_type, length_type, is_list_of, may_hold_null, contains_type}
use Rattle.vx_fn.specs.declared.options.FieldSelection.{FieldSelection}
use Rattle.vx_dtype.specs.declared.error.VortexError.{VortexError}
use Rattle.vx_dtype.specs.declared.error.VortexError.TheVariants.{ArityMismatch, NotBool, NotText, NotComparable, BaseTypesDiffer}
use Rattle.vx_fn.specs.Rows.{FnType, of_case_else, of_case, of_get_item, of_literal, of_pack, of_select, of_fill_null, of_zip, of_comparison, of_and, of_or, of_arithmetic, of_float_arithmetic, of_decimal_arithmetic, of_not, of_between, of_like, of_is_null, of_is_not_null, of_mask, of_cast, of_starts_with, of_byte_length, of_list_contains}

-- ---- a number of children

one_ok : {t : LogicalType} (row : LogicalType → Typing) (P : List LogicalType → Type 0) → ((a : LogicalType) → row a ≡ Ok t → P (a ∷ [])) → (ts : List LogicalType) → of_one row ts ≡ Ok t → P ts
one_ok row P k [] e = cc
one_ok row P k (a ∷ []) e = k a e
one_ok row P k (a ∷ b ∷ ts) e = cc

two_ok : {t : LogicalType} (row : LogicalType → LogicalType → Typing) (P : List LogicalType → Type 0) → ((a b : LogicalType) → row a b ≡ Ok t → P (a ∷ b ∷ [])) → (ts : List LogicalType) → of_two row ts ≡ Ok t → P ts
two_ok row P k [] e = cc
two_ok row P k (a ∷ []) e = cc
two_ok row P k (a ∷ b ∷ []) e = k a b e
two_ok row P k (a ∷ b ∷ c ∷ ts) e = cc

three_ok : {t : LogicalType} (row : LogicalType → LogicalType → LogicalType → Typing) (P : List LogicalType → Type 0) → ((a b c : LogicalType) → row a b c ≡ Ok t → P (a ∷ b ∷ c ∷ [])) → (ts : List LogicalType) → of_three row ts ≡ Ok t → P ts
three_ok row P k [] e = cc
three_ok row P k (a ∷ []) e = cc
three_ok row P k (a ∷ b ∷ []) e = cc
three_ok row P k (a ∷ b ∷ c ∷ []) e = k a b c e
three_ok row P k (a ∷ b ∷ c ∷ d ∷ ts) e = cc

needs_ok : {t : LogicalType} (b : Bool) (r : VortexError) (x : Typing) → needs b r x ≡ Ok t → (b ≡ true) × (x ≡ Ok t)
needs_ok true r x e = (refl, e)
needs_ok false r x e = cc

abbrev ok_ty : LogicalType → Typing
ok_ty t = Ok t

ok_at : {t u : LogicalType} (f : Function) (ts : List LogicalType) → FnType f ts t → ok_ty t ≡ Ok u → FnType f ts u
ok_at {t} {u} f ts d e = let q : t ≡ u = cc in subst (λ w. FnType f ts w) q d

-- ---- the rows

atomic_ok : (P : LogicalType → Type 0) → ((p : Atomic) (n : Bool) → P (ty (atomic p) n)) → (a : LogicalType) → is_atomic a ≡ true → P a
atomic_ok P k (ty (atomic p) n) e = k p n
atomic_ok P k (ty (list t) n) e = cc
atomic_ok P k (ty (fixed t l) n) e = cc
atomic_ok P k (ty (struct fs) n) e = cc

truth_ok : (P : LogicalType → Type 0) → ((n : Bool) → P (ty (atomic truth) n)) → (a : LogicalType) → is_truth a ≡ true → P a
truth_ok P k (ty (atomic truth) n) e = k n
truth_ok P k _ e = cc

text_ok : (P : LogicalType → Type 0) → ((n : Bool) → P (ty (atomic text) n)) → (a : LogicalType) → is_text a ≡ true → P a
text_ok P k (ty (atomic text) n) e = k n
text_ok P k _ e = cc

row_not : (t : LogicalType) (a : LogicalType) → needs (is_truth a) NotBool (Ok a) ≡ Ok t → FnType logical_not (a ∷ []) t
row_not t (ty (atomic truth) n) e = ok_at logical_not _ of_not e
row_not t _ e = cc

row_case : (k : ℕ) (h : Bool) (ts : List LogicalType) (t : LogicalType) → (length ts == case_children k h) ≡ true → case_type k h ts ≡ Ok t → FnType (case_when k h) ts t
row_case k h ts t n e =
    let a = needs_ok _ _ _ e in
    let b = needs_ok _ _ _ a.1 in
    go h n (branches ts) refl b.1 a.0 b.0
  where
    united : (h : Bool) → (length ts == case_children k h) ≡ true → (b : LogicalType) (bs : List LogicalType) (o : Option LogicalType) → union_all b bs ≡ o → branches ts ≡ b ∷ bs → ok_or (option_map (with_else h) o) BaseTypesDiffer ≡ Ok t → not (k == 0) ≡ true → list_all is_truth (conditions ts) ≡ true → FnType (case_when k h) ts t
    united h n b bs None u q e c d = cc
    united true n b bs (Some w) u q e c d = ok_at (case_when k true) ts (of_case_else n c d q u) e
    united false n b bs (Some w) u q e c d = ok_at (case_when k false) ts (of_case n c d q u) e

    go : (h : Bool) → (length ts == case_children k h) ≡ true → (bs : List LogicalType) → branches ts ≡ bs → case_union h bs ≡ Ok t → not (k == 0) ≡ true → list_all is_truth (conditions ts) ≡ true → FnType (case_when k h) ts t
    go h n [] q e c d = cc
    go h n (b ∷ bs) q e c d = united h n b bs (union_all b bs) refl q e c d

row_item : (a : Name) (t : LogicalType) (u : LogicalType) → item_type a u ≡ Ok t → FnType (get_item a) (u ∷ []) t
row_item a t (ty (struct fs) n) e = go (field_type a fs) refl e
  where
    go : (o : Option LogicalType) → field_type a fs ≡ o → found a n o ≡ Ok t → FnType (get_item a) (ty (struct fs) n ∷ []) t
    go None q e = cc
    go (Some (ty s m)) q e = ok_at (get_item a) _ (of_get_item q) e
row_item a t _ e = cc

row_select : (sel : FieldSelection) (t : LogicalType) (u : LogicalType) → select_type sel u ≡ Ok t → FnType (select sel) (u ∷ []) t
row_select sel t (ty (struct fs) n) e = go (first_unknown (selection_names sel) fs) refl e
  where
    go : (o : Option Name) → first_unknown (selection_names sel) fs ≡ o → result_map_both (λ kept. ty (struct kept) n) (λ refusal. refusal) (known_or o (Ok (project (included sel fs) fs))) ≡ Ok t → FnType (select sel) (ty (struct fs) n ∷ []) t
    go None q e = ok_at (select sel) _ (of_select q) e
    go (Some a) q e = cc
row_select sel t _ e = cc

row_fill : (t a b : LogicalType) → needs (same_base a b) BaseTypesDiffer (Ok (with_nullability (is_nullable b) a)) ≡ Ok t → FnType fill_null (a ∷ b ∷ []) t
row_fill t a b e = let q = needs_ok _ _ _ e in ok_at fill_null _ (of_fill_null {t = a} {u = b} q.0) q.1

row_zip : (t a b m : LogicalType) → needs (is_truth m) NotBool (ok_or (union a b) BaseTypesDiffer) ≡ Ok t → FnType zip (a ∷ b ∷ m ∷ []) t
row_zip t a b m e =
    let q = needs_ok _ _ _ e in
    truth_ok (λ m. FnType zip (a ∷ b ∷ m ∷ []) t) (λ n. go (same_base a b) refl q.1) m q.0
  where
    go : {n : Bool} (s : Bool) → same_base a b ≡ s → ok_or (if s then Some (join a b) else None) BaseTypesDiffer ≡ Ok t → FnType zip (a ∷ b ∷ ty (atomic truth) n ∷ []) t
    go true d e = ok_at zip _ (of_zip {t = a} {u = b} d) e
    go false d e = cc

row_compares : (c : Comparison) (t a b : LogicalType) → binary_type (compares c) a b ≡ Ok t → FnType (binary (compares c)) (a ∷ b ∷ []) t
row_compares c t a b e =
    let q = needs_ok _ _ _ e in
    let r = needs_ok _ _ _ q.1 in
    let h = and_parts _ _ q.0 in
    atomic_ok (λ a. same_base a b ≡ true → ok_ty (truth_type (is_nullable a || is_nullable b)) ≡ Ok t → FnType (binary (compares c)) (a ∷ b ∷ []) t)
    (λ p n. atomic_ok (λ b. same_base (ty (atomic p) n) b ≡ true → ok_ty (truth_type (n || is_nullable b)) ≡ Ok t → FnType (binary (compares c)) (ty (atomic p) n ∷ b ∷ []) t)
    (λ p' m s d. ok_at (binary (compares c)) _ (of_comparison s) d) b h.1) a h.0 r.0 r.1

row_computes : (c : Arithmetic) (t a b : LogicalType) → binary_type (computes c) a b ≡ Ok t → FnType (binary (computes c)) (a ∷ b ∷ []) t
row_computes c t a b e =
    let k = needs_ok _ _ _ e in
    let d = needs_ok _ _ _ k.1 in
    let h = and_parts _ _ k.0 in
    go a b h.0 h.1 d.0 d.1
  where
    go : (a b : LogicalType) → is_number_for c a ≡ true → is_number_for c b ≡ true → same_base a b ≡ true → ok_ty (with_nullability (is_nullable a || is_nullable b) a) ≡ Ok t → FnType (binary (computes c)) (a ∷ b ∷ []) t
    go (ty (atomic (number p)) n) (ty (atomic (number q)) m) h k s r = ok_at (binary (computes c)) _ (of_arithmetic s) r
    go (ty (atomic (floating f)) n) (ty (atomic (floating g)) m) h k s r = ok_at (binary (computes c)) _ (of_float_arithmetic s) r
    go (ty (atomic (decimals p x)) n) (ty (atomic (decimals q y)) m) h k s r = ok_at (binary (computes c)) _ (of_decimal_arithmetic h s) r
    go _ _ h k s r = cc

row_and : (t a b : LogicalType) → binary_type and_also a b ≡ Ok t → FnType (binary and_also) (a ∷ b ∷ []) t
row_and t a b e =
    let q = needs_ok _ _ _ e in
    let h = and_parts _ _ q.0 in
    truth_ok (λ a. ok_ty (truth_type (is_nullable a || is_nullable b)) ≡ Ok t → FnType (binary and_also) (a ∷ b ∷ []) t)
    (λ n. truth_ok (λ b. ok_ty (truth_type (n || is_nullable b)) ≡ Ok t → FnType (binary and_also) (ty (atomic truth) n ∷ b ∷ []) t)
    (λ m d. ok_at (binary and_also) _ of_and d) b h.1) a h.0 q.1

row_or : (t a b : LogicalType) → binary_type or_else a b ≡ Ok t → FnType (binary or_else) (a ∷ b ∷ []) t
row_or t a b e =
    let q = needs_ok _ _ _ e in
    let h = and_parts _ _ q.0 in
    truth_ok (λ a. ok_ty (truth_type (is_nullable a || is_nullable b)) ≡ Ok t → FnType (binary or_else) (a ∷ b ∷ []) t)
    (λ n. truth_ok (λ b. ok_ty (truth_type (n || is_nullable b)) ≡ Ok t → FnType (binary or_else) (ty (atomic truth) n ∷ b ∷ []) t)
    (λ m d. ok_at (binary or_else) _ of_or d) b h.1) a h.0 q.1

row_like : (neg ci : Bool) (t a b : LogicalType) → needs (is_text a && is_text b) NotText (Ok (truth_type (is_nullable a || is_nullable b))) ≡ Ok t → FnType (like neg ci) (a ∷ b ∷ []) t
row_like neg ci t a b e =
    let q = needs_ok _ _ _ e in
    let h = and_parts _ _ q.0 in
    text_ok (λ a. ok_ty (truth_type (is_nullable a || is_nullable b)) ≡ Ok t → FnType (like neg ci) (a ∷ b ∷ []) t)
    (λ n. text_ok (λ b. ok_ty (truth_type (n || is_nullable b)) ≡ Ok t → FnType (like neg ci) (ty (atomic text) n ∷ b ∷ []) t)
    (λ m d. ok_at (like neg ci) _ of_like d) b h.1) a h.0 q.1

row_starts : (t a b : LogicalType) → needs (is_text a && is_text b) NotText (Ok (truth_type (is_nullable a || is_nullable b))) ≡ Ok t → FnType starts_with (a ∷ b ∷ []) t
row_starts t a b e =
    let q = needs_ok _ _ _ e in
    let h = and_parts _ _ q.0 in
    text_ok (λ a. ok_ty (truth_type (is_nullable a || is_nullable b)) ≡ Ok t → FnType starts_with (a ∷ b ∷ []) t)
    (λ n. text_ok (λ b. ok_ty (truth_type (n || is_nullable b)) ≡ Ok t → FnType starts_with (ty (atomic text) n ∷ b ∷ []) t)
    (λ m d. ok_at starts_with _ of_starts_with d) b h.1) a h.0 q.1

row_length : (t : LogicalType) (a : LogicalType) → length_type a ≡ Ok t → FnType byte_length (a ∷ []) t
row_length t (ty (atomic text) n) e = ok_at byte_length _ of_byte_length e
row_length t _ e = cc

row_contains : (t a b : LogicalType) → contains_type a b ≡ Ok t → FnType list_contains (a ∷ b ∷ []) t
row_contains t a b e =
    let q = needs_ok _ _ _ e in
    let r = needs_ok _ _ _ q.1 in
    atomic_ok (λ b. is_list_of a b ≡ true → ok_ty (truth_type (may_hold_null a || is_nullable b)) ≡ Ok t → FnType list_contains (a ∷ b ∷ []) t)
    (λ p m s d. go p m a s d) b q.0 r.0 r.1
  where
    go : (p : Atomic) (m : Bool) (a : LogicalType) → is_list_of a (ty (atomic p) m) ≡ true → ok_ty (truth_type (may_hold_null a || m)) ≡ Ok t → FnType list_contains (a ∷ ty (atomic p) m ∷ []) t
    go p m (ty (list (ty (atomic q) k)) n) s d = ok_at list_contains _ (of_list_contains s) d
    go p m _ s d = cc

row_between : (ls us : Bool) (t a b c : LogicalType) → needs (is_atomic a && is_atomic b && is_atomic c) NotComparable (needs (same_base a b && same_base a c) BaseTypesDiffer (Ok (truth_type (is_nullable a || is_nullable b || is_nullable c)))) ≡ Ok t → FnType (between ls us) (a ∷ b ∷ c ∷ []) t
row_between ls us t (ty (atomic p) n) (ty (atomic q) m) (ty (atomic r) k) e =
    let d = needs_ok _ _ _ e in
    let h = and_parts _ _ d.0 in
    ok_at (between ls us) _ (of_between h.0 h.1) d.1
row_between ls us t _ _ _ e = cc

row_mask : (t a m : LogicalType) → needs (is_truth m && not (is_nullable m)) NotBool (Ok (with_nullability true a)) ≡ Ok t → FnType mask (a ∷ m ∷ []) t
row_mask t a (ty (atomic truth) false) e = ok_at mask _ (of_mask {t = a}) e
row_mask t a _ e = cc

row_cast : (u t a : LogicalType) → needs (same_base a u) BaseTypesDiffer (Ok u) ≡ Ok t → FnType (cast u) (a ∷ []) t
row_cast u t a e = let q = needs_ok _ _ _ e in ok_at (cast u) _ (of_cast {t = a} {u = u} q.0) q.1

many_ok : (n : ℕ) (row : List LogicalType → Typing) (ts : List LogicalType) (t : LogicalType) → of_many n row ts ≡ Ok t → ((length ts == n) ≡ true) × (row ts ≡ Ok t)
many_ok n row ts t e = go (length ts == n) refl e
  where
    go : (b : Bool) → (length ts == n) ≡ b → (if b then row ts else Err (ArityMismatch n (length ts))) ≡ Ok t → ((length ts == n) ≡ true) × (row ts ≡ Ok t)
    go true h e = (h, e)
    go false h e = cc

none_ok : (t v : LogicalType) (x : Datum) (ts : List LogicalType) → of_none (Ok t) ts ≡ Ok v → FnType (literal t x) ts v
none_ok t v x [] e = ok_at (literal t x) _ of_literal e
none_ok t v x (a ∷ ts) e = cc

row_binary : (op : Operation) (t a b : LogicalType) → binary_type op a b ≡ Ok t → FnType (binary op) (a ∷ b ∷ []) t
row_binary (compares c) t a b e = row_compares c t a b e
row_binary and_also t a b e = row_and t a b e
row_binary or_else t a b e = row_or t a b e
row_binary (computes c) t a b e = row_computes c t a b e

pub fn_type-found : (f : Function) (ts : List LogicalType) (t : LogicalType) → fn_type f ts ≡ Ok t → FnType f ts t
fn_type-found (case_when k h) ts t e = let q = many_ok _ (case_type k h) _ _ e in row_case k h ts t q.0 q.1
fn_type-found (get_item a) ts t e = one_ok (item_type a) (λ ts. FnType (get_item a) ts t) (row_item a t) ts e
fn_type-found (literal u v) ts t e = none_ok u t v ts e
fn_type-found (pack names n) ts t e = let q = many_ok _ (λ us. Ok (ty (struct (fields_named names us)) n)) _ _ e in ok_at (pack names n) ts (of_pack q.0) q.1
fn_type-found (select sel) ts t e = one_ok (select_type sel) (λ ts. FnType (select sel) ts t) (row_select sel t) ts e
fn_type-found fill_null ts t e = two_ok _ (λ ts. FnType fill_null ts t) (row_fill t) ts e
fn_type-found zip ts t e = three_ok _ (λ ts. FnType zip ts t) (row_zip t) ts e
fn_type-found (binary op) ts t e = two_ok (binary_type op) (λ ts. FnType (binary op) ts t) (row_binary op t) ts e
fn_type-found logical_not ts t e = one_ok _ (λ ts. FnType logical_not ts t) (row_not t) ts e
fn_type-found (between ls us) ts t e = three_ok _ (λ ts. FnType (between ls us) ts t) (row_between ls us t) ts e
fn_type-found (like neg ci) ts t e = two_ok _ (λ ts. FnType (like neg ci) ts t) (row_like neg ci t) ts e
fn_type-found is_null ts t e = one_ok _ (λ ts. FnType is_null ts t) (λ a q. ok_at is_null _ (of_is_null {t = a}) q) ts e
fn_type-found is_not_null ts t e = one_ok _ (λ ts. FnType is_not_null ts t) (λ a q. ok_at is_not_null _ (of_is_not_null {t = a}) q) ts e
fn_type-found mask ts t e = two_ok _ (λ ts. FnType mask ts t) (row_mask t) ts e
fn_type-found (cast u) ts t e = one_ok _ (λ ts. FnType (cast u) ts t) (row_cast u t) ts e
fn_type-found starts_with ts t e = two_ok _ (λ ts. FnType starts_with ts t) (row_starts t) ts e
fn_type-found byte_length ts t e = one_ok _ (λ ts. FnType byte_length ts t) (row_length t) ts e
fn_type-found list_contains ts t e = two_ok _ (λ ts. FnType list_contains ts t) (row_contains t) ts e

pub fn_type-only : {f : Function} {ts : List LogicalType} {t : LogicalType} → FnType f ts t → fn_type f ts ≡ Ok t
fn_type-only (of_case_else a b c d e) = rw (a, b, c, d, e)
fn_type-only (of_case a b c d e) = rw (a, b, c, d, e)
fn_type-only (of_get_item e) = rw e
fn_type-only of_literal = refl
fn_type-only (of_pack e) = rw e
fn_type-only (of_select e) = rw e
fn_type-only (of_fill_null e) = rw e
fn_type-only (of_zip e) = rw e
fn_type-only (of_comparison e) = rw e
fn_type-only of_and = refl
fn_type-only of_or = refl
fn_type-only (of_arithmetic e) = rw e
fn_type-only (of_float_arithmetic e) = rw e
fn_type-only (of_decimal_arithmetic k e) = rw (k, e)
fn_type-only of_not = refl
fn_type-only (of_between a b) = rw (a, b)
fn_type-only of_like = refl
fn_type-only of_is_null = refl
fn_type-only of_is_not_null = refl
fn_type-only of_mask = refl
fn_type-only (of_cast e) = rw e
fn_type-only of_starts_with = refl
fn_type-only of_byte_length = refl
fn_type-only (of_list_contains e) = rw e
