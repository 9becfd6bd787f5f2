-- What a function gives of values within bounds is within the function's bounds.
use Rattle.std.proofs.Common.{◌≡◌, List, [], ◌∷◌, refl, Bool, true, false, ◌&&◌, Option, Some, None}
use Rattle.std.specs.Prelude.{if◌then◌else◌, not}
use Rattle.std.proofs.lemmas.Bool.{and_from, and_parts}
use Rattle.vx_value.specs.Fields.{field_value}
use Rattle.vx_value.specs.Fits.{Fits, EachFits}
use Rattle.vx_value.specs.Types.{Name, number, decimals, LogicalType, ty, atomic, struct, Fields, Datum, null, bool, list_of, struct_of, Data, is_null_datum}
use Rattle.vx_dtype.specs.Lists.{Forall2, forall2_nil, forall2_cons}
use Rattle.vx_fn.specs.Functions.{Function, list_contains}
use Rattle.vx_fn.specs.Rows.{FnType, of_case_else, of_case, of_get_item, of_literal, of_pack, of_select, of_fill_null, of_zip, of_comparison, of_and, of_or, of_arithmetic, of_float_arithmetic, of_decimal_arithmetic, of_not, of_between, of_like, of_is_null, of_is_not_null, of_mask, of_cast, of_starts_with, of_byte_length, of_list_contains}
use Rattle.vx_fn.specs.Values.{begun, bound_comparison, compared, contained, fn_value, item_value, kleene_and, kleene_not, kleene_or, liked, select_value}
use Rattle.vx_fn.specs.declared.options.FieldSelection.{FieldSelection}
use Rattle.vx_prune_bounds.proofs.Contained.{contains-exactly}
use Rattle.vx_prune_bounds.proofs.Sounds.{truths_in-sound, truth_bounds-sound, not-sound, and-sound, or-sound, comparison-sound, between-sound, fill-sound, choice-sound, mask-sound, case-sound, is_null-sound, is_not_null-sound, shaped_as-sound}
use Rattle.vx_prune_bounds.proofs.Sums.{numeric, computed-sound, computed_floats-sound}
use Rattle.vx_prune_bounds.specs.Bounds.{Bounds, bounds, Contains}
use Rattle.vx_prune_bounds.specs.Comparing.{between_truths, comparison_truths}
use Rattle.vx_prune_bounds.specs.Kernels.{null_truths, shaped_as}
use Rattle.vx_prune_bounds.specs.Truths.{and_truths, not_truths, or_truths, truths_in}
use Rattle.vx_prune_bounds.proofs.Likeness.{like-sound}
use Rattle.vx_prune_bounds.proofs.BegunTexts.{begun-sound}
use Rattle.vx_prune_bounds.proofs.Lengths.{length-sound}
use Rattle.vx_prune_bounds.proofs.Searched.{search-sound}
use Rattle.vx_prune_bounds.specs.Begun.{begun_truths}
use Rattle.vx_prune_bounds.specs.Searching.{search_truths}
use Rattle.vx_prune_bounds.specs.Beginnings.{like_truths}
use Rattle.vx_prune_tree.specs.Bounding.{unknown, item_bounds, fn_bounds, given_bounds}

-- each value is within what leaves room for all
room : (c : Bool) (v : Datum) → c ≡ true → Contains (bounds true c None None) v
room c v e = go (is_null_datum v)
  where
    go : (b : Bool) → (if b then true else c && (true && true)) ≡ true
    go true = refl
    go false = and_from _ _ e refl

pub in-unknown : (v : Datum) → Contains unknown v
in-unknown v = room true v refl

item-sound : (a : Name) (fs : Fields) (n : Bool) (x : Bounds) (v : Datum) → Contains x v → Contains (item_bounds x) (item_value a (ty (struct fs) n ∷ []) v)
item-sound a fs n x (struct_of vs) h = room x.value (field_value a fs vs) (and_parts _ _ h).0
item-sound a fs n x _ h = refl

select-sound : (sel : FieldSelection) (fs : Fields) (n : Bool) (x : Bounds) (v : Datum) → Fits v (ty (struct fs) n) → Contains x v → Contains (shaped_as x) (select_value sel (ty (struct fs) n ∷ []) v)
select-sound sel fs n x null e h = shaped_as-sound x null null refl h
select-sound sel fs n x (struct_of vs) e h = shaped_as-sound x (struct_of vs) (select_value sel (ty (struct fs) n ∷ []) (struct_of vs)) refl h
select-sound sel fs n x _ e h = cc

-- a search of a value among those elements
pub data Searches : Function → Data → List Datum → Type 0 where
  a_search : {ws : Data} {v : Datum} → Searches list_contains ws (list_of ws ∷ v ∷ [])

pub fn_bounds-sound : {f : Function} {ts : List LogicalType} {t : LogicalType} {vs : List Datum} {xs : List Bounds} →
    FnType f ts t → EachFits vs ts → Forall2 Contains xs vs → Contains (fn_bounds f xs) (fn_value f ts vs)
fn_bounds-sound (of_case_else l z c b u) a h = case-sound h a c
fn_bounds-sound (of_case l z c b u) a h = case-sound h a c
fn_bounds-sound (of_get_item {a = a} {fs = fs} {n = n} e) (forall2_cons {x = v} f forall2_nil) (forall2_cons {x = x} h forall2_nil) = item-sound a fs n x v h
fn_bounds-sound (of_literal {v = v}) a h = contains-exactly v
fn_bounds-sound (of_pack e) a h = refl
fn_bounds-sound (of_select {sel = sel} {fs = fs} {n = n} e) (forall2_cons {x = v} f forall2_nil) (forall2_cons {x = x} h forall2_nil) = select-sound sel fs n x v f h
fn_bounds-sound (of_fill_null s) (forall2_cons {x = v} e (forall2_cons {x = w} f forall2_nil)) (forall2_cons {x = x} h (forall2_cons {x = y} g forall2_nil)) = fill-sound x y v w h g
fn_bounds-sound (of_zip {n = n} s) (forall2_cons {x = v} e (forall2_cons {x = w} f (forall2_cons {x = m} d forall2_nil))) (forall2_cons {x = x} h (forall2_cons {x = y} g (forall2_cons {x = z} k forall2_nil))) =
    choice-sound (truths_in z) x y m v w (truths_in-sound z m n d k) (λ t. h) (λ t. g)
fn_bounds-sound (of_comparison {c = c} s) (forall2_cons {x = v} e (forall2_cons {x = w} f forall2_nil)) (forall2_cons {x = x} h (forall2_cons {x = y} g forall2_nil)) =
    truth_bounds-sound (comparison_truths c x y) (compared c v w) (comparison-sound c x y v w h g)
fn_bounds-sound (of_and {n = n} {m = m}) (forall2_cons {x = v} e (forall2_cons {x = w} f forall2_nil)) (forall2_cons {x = x} h (forall2_cons {x = y} g forall2_nil)) =
    truth_bounds-sound (and_truths (truths_in x) (truths_in y)) (kleene_and v w) (and-sound (truths_in x) (truths_in y) v w (truths_in-sound x v n e h) (truths_in-sound y w m f g))
fn_bounds-sound (of_or {n = n} {m = m}) (forall2_cons {x = v} e (forall2_cons {x = w} f forall2_nil)) (forall2_cons {x = x} h (forall2_cons {x = y} g forall2_nil)) =
    truth_bounds-sound (or_truths (truths_in x) (truths_in y)) (kleene_or v w) (or-sound (truths_in x) (truths_in y) v w (truths_in-sound x v n e h) (truths_in-sound y w m f g))
fn_bounds-sound (of_arithmetic {a = c} {p = p} {q = q} {n = n} {m = m} s) (forall2_cons {x = v} e (forall2_cons {x = w} f forall2_nil)) (forall2_cons {x = x} h (forall2_cons {x = y} g forall2_nil)) =
    computed-sound c x y (numeric (ty (atomic (number p)) n) v refl e) (numeric (ty (atomic (number q)) m) w refl f) h g
fn_bounds-sound (of_float_arithmetic {a = c} {f = f} {g = g} {n = n} {m = m} s) (forall2_cons {x = v} e (forall2_cons {x = w} h forall2_nil)) (forall2_cons {x = x} i (forall2_cons {x = y} j forall2_nil)) =
    computed_floats-sound c f g n m x y v w s e h i j
fn_bounds-sound (of_decimal_arithmetic {a = c} {p = p} {s = s} {q = q} {r = r} {n = n} {m = m} additive a) (forall2_cons {x = v} e (forall2_cons {x = w} f forall2_nil)) (forall2_cons {x = x} h (forall2_cons {x = y} g forall2_nil)) =
    computed-sound c x y (numeric (ty (atomic (decimals p s)) n) v refl e) (numeric (ty (atomic (decimals q r)) m) w refl f) h g
fn_bounds-sound (of_not {n = n}) (forall2_cons {x = v} e forall2_nil) (forall2_cons {x = x} h forall2_nil) =
    truth_bounds-sound (not_truths (truths_in x)) (kleene_not v) (not-sound (truths_in x) v (truths_in-sound x v n e h))
fn_bounds-sound (of_between {ls = ls} {us = us} s q) (forall2_cons {x = v} e (forall2_cons {x = l} f (forall2_cons {x = u} d forall2_nil))) (forall2_cons {x = x} h (forall2_cons {x = y} g (forall2_cons {x = z} k forall2_nil))) =
    truth_bounds-sound (between_truths ls us x y z) (kleene_and (compared (bound_comparison ls) l v) (compared (bound_comparison us) v u)) (between-sound ls us x y z v l u h g k)
fn_bounds-sound (of_like {neg = neg} {ci = ci} {n = n} {m = m}) (forall2_cons {x = v} e (forall2_cons {x = w} f forall2_nil)) (forall2_cons {x = x} h (forall2_cons {x = y} g forall2_nil)) =
    truth_bounds-sound (like_truths neg ci x y) (liked neg ci v w) (like-sound neg ci x y v w n m e f h g)
fn_bounds-sound of_is_null (forall2_cons {x = v} e forall2_nil) (forall2_cons {x = x} h forall2_nil) = truth_bounds-sound (null_truths x) (bool (is_null_datum v)) (is_null-sound x v h)
fn_bounds-sound of_is_not_null (forall2_cons {x = v} e forall2_nil) (forall2_cons {x = x} h forall2_nil) = truth_bounds-sound (not_truths (null_truths x)) (bool (not (is_null_datum v))) (is_not_null-sound x v h)
fn_bounds-sound of_mask (forall2_cons {x = v} e (forall2_cons {x = m} f forall2_nil)) (forall2_cons {x = x} h (forall2_cons {x = y} g forall2_nil)) = mask-sound x (truths_in y) v m h (truths_in-sound y m false f g)
fn_bounds-sound (of_cast s) (forall2_cons e forall2_nil) (forall2_cons h forall2_nil) = h
fn_bounds-sound (of_starts_with {n = n} {m = m}) (forall2_cons {x = v} e (forall2_cons {x = w} f forall2_nil)) (forall2_cons {x = x} h (forall2_cons {x = y} g forall2_nil)) =
    truth_bounds-sound (begun_truths x y) (begun v w) (begun-sound x y v w n m e f h g)
fn_bounds-sound (of_byte_length {n = n}) (forall2_cons {x = v} e forall2_nil) (forall2_cons {x = x} h forall2_nil) = length-sound n x v e h
fn_bounds-sound (of_list_contains s) (forall2_cons {x = v} e (forall2_cons {x = w} f forall2_nil)) (forall2_cons {x = x} h (forall2_cons {x = y} g forall2_nil)) = in-unknown (contained v w)

-- so where the elements that are searched are those of the list that is the first value
pub given_bounds-sound : {f : Function} {ts : List LogicalType} {t : LogicalType} {vs : List Datum} {xs : List Bounds} (known : Option Data) →
    FnType f ts t → EachFits vs ts → Forall2 Contains xs vs → ((ws : Data) → known ≡ Some ws → Searches f ws vs) → Contains (given_bounds f known xs) (fn_value f ts vs)
given_bounds-sound None k a h s = fn_bounds-sound k a h
given_bounds-sound {f = f} {ts = ts} {vs = vs} {xs = xs} (Some ws) k a h s = found (s ws refl) h
  where
    found : {g : Function} {us : List Datum} {ys : List Bounds} → Searches g ws us → Forall2 Contains ys us → Contains (given_bounds g (Some ws) ys) (fn_value g ts us)
    found (a_search {v = v}) (forall2_cons g (forall2_cons {x = x} h forall2_nil)) = truth_bounds-sound (search_truths ws x) (contained (list_of ws) v) (search-sound ws x v h)
