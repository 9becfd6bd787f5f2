-- The order of values that can be compared, and the order that comparisons go by.
use Rattle.std.proofs.Common.{◌≡◌, ℕ, List, refl, ap, Bool, true, false, ◌&&◌, ◌||◌, not}
use Rattle.std.specs.Prelude.{ℤ, Option, Some, None, if◌then◌else◌}
use Rattle.std.specs.Cmp.{IsTotalOrder, bool_cmp_total}
use Rattle.std.specs.Cmp.Lexicographic.{slice_cmp}
use Rattle.std.specs.declared.cmp.Ordering.{Ordering}
use Rattle.std.specs.declared.cmp.Ordering.TheVariants.{Less, Equal, Greater}
use Rattle.std.specs.Ordering.{is_le, is_lt, is_gt, ordering_reverse, nat_cmp, int_cmp, bool_cmp}
use Rattle.std.specs.Str.{is_utf8}
use Rattle.std.proofs.lemmas.Bool.{and_parts, and_from}
use Rattle.std.proofs.lemmas.Cmp.{int_cmp_total, nat_list_cmp_total, upto, tied_itself}
use Rattle.std.proofs.lemmas.Map.Lookups.{exact_bytes, exact_signed}
use Rattle.vx_floats.specs.Floats.{float_order, is_canonical}
use Rattle.vx_floats.specs.declared.float.Float.{Float}
use Rattle.vx_value.specs.Types.{Datum, bool, int, float, utf8, bytes, is_null_datum}
use Rattle.vx_fn.specs.Values.{order}
use Rattle.vx_prune_bounds.specs.Order.{at_most, below, comparable, lower, higher}
use Rattle.vx_prune_bounds.proofs.Floats.{float_total, float_exact}

-- ---- total orders

reversed : (o : Ordering) → is_le (ordering_reverse o) ≡ not (is_lt o)
reversed Less = refl
reversed Equal = refl
reversed Greater = refl

le_not_gt : (o : Ordering) → is_le o ≡ true → is_gt o ≡ false
le_not_gt Less e = refl
le_not_gt Equal e = refl
le_not_gt Greater e = cc

not_gt_le : (o : Ordering) → is_gt o ≡ false → is_le o ≡ true
not_gt_le Less e = refl
not_gt_le Equal e = refl
not_gt_le Greater e = cc

le_either : (o : Ordering) → (is_le o || is_le (ordering_reverse o)) ≡ true
le_either Less = refl
le_either Equal = refl
le_either Greater = refl

le_lt : (o : Ordering) → (is_le o && not (is_le (ordering_reverse o))) ≡ true → is_lt o ≡ true
le_lt Less e = refl
le_lt Equal e = cc
le_lt Greater e = cc

le_eq : (o : Ordering) → is_le o ≡ true → is_le (ordering_reverse o) ≡ true → o ≡ Equal
le_eq Less e f = cc
le_eq Equal e f = refl
le_eq Greater e f = cc

module _ {K : Type 0} {R : K → K → Ordering} (t : IsTotalOrder R) where
  le_own : (x : K) → is_le (R x x) ≡ true
  le_own x = rw (tied_itself t x) refl

  le_trans : (x y z : K) → is_le (R x y) ≡ true → is_le (R y z) ≡ true → is_le (R x z) ≡ true
  le_trans x y z e f = not_gt_le _ (upto t x y z (le_not_gt _ e) (le_not_gt _ f))

  le_total : (x y : K) → (is_le (R x y) || is_le (R y x)) ≡ true
  le_total x y = rw (t.antisymm y x) (le_either (R x y))

  lt_from : (x y : K) → (is_le (R x y) && not (is_le (R y x))) ≡ true → is_lt (R x y) ≡ true
  lt_from x y e = le_lt (R x y) (rw (t.antisymm y x) at e)

  eq_from : (x y : K) → is_le (R x y) ≡ true → is_le (R y x) ≡ true → R x y ≡ Equal
  eq_from x y e f = le_eq (R x y) e (rw (t.antisymm y x) at f)

-- ---- two values in their order

-- two values of one kind, of which the first comes before the second or is equal to it
pub data AtMost : Datum → Datum → Type 0 where
  two_truths : {a b : Bool} → is_le (bool_cmp a b) ≡ true → AtMost (bool a) (bool b)
  two_numbers : {i j : ℤ} → is_le (int_cmp i j) ≡ true → AtMost (int i) (int j)
  two_floats : {x y : Float} → is_canonical x ≡ true → is_canonical y ≡ true → is_le (float_order x y) ≡ true → AtMost (float x) (float y)
  two_texts : {s t : List ℕ} → is_utf8 s ≡ true → is_utf8 t ≡ true → is_le (slice_cmp nat_cmp s t) ≡ true → AtMost (utf8 s) (utf8 t)
  two_bytes : {s t : List ℕ} → is_le (slice_cmp nat_cmp s t) ≡ true → AtMost (bytes s) (bytes t)

pub told : (v w : Datum) → at_most v w ≡ true → AtMost v w
told (bool a) (bool b) e = two_truths e
told (int i) (int j) e = two_numbers e
told (float x) (float y) e = let p = and_parts _ _ e in let q = and_parts _ _ p.1 in two_floats p.0 q.0 q.1
told (utf8 s) (utf8 t) e = let p = and_parts _ _ e in let q = and_parts _ _ p.1 in two_texts p.0 q.0 q.1
told (bytes s) (bytes t) e = two_bytes e
told _ _ e = cc

pub shown : {v w : Datum} → AtMost v w → at_most v w ≡ true
shown (two_truths e) = e
shown (two_numbers e) = e
shown (two_floats c d e) = and_from _ _ c (and_from _ _ d e)
shown (two_texts u t e) = and_from _ _ u (and_from _ _ t e)
shown (two_bytes e) = e

own_left : {v w : Datum} → AtMost v w → AtMost v v
own_left (two_truths {a = a} e) = two_truths (le_own bool_cmp_total a)
own_left (two_numbers {i = i} e) = two_numbers (le_own int_cmp_total i)
own_left (two_floats {x = x} c d e) = two_floats c c (le_own float_total x)
own_left (two_texts {s = s} u t e) = two_texts u u (le_own nat_list_cmp_total s)
own_left (two_bytes {s = s} e) = two_bytes (le_own nat_list_cmp_total s)

own_right : {v w : Datum} → AtMost v w → AtMost w w
own_right (two_truths {b = b} e) = two_truths (le_own bool_cmp_total b)
own_right (two_numbers {j = j} e) = two_numbers (le_own int_cmp_total j)
own_right (two_floats {y = y} c d e) = two_floats d d (le_own float_total y)
own_right (two_texts {t = t} u w e) = two_texts w w (le_own nat_list_cmp_total t)
own_right (two_bytes {t = t} e) = two_bytes (le_own nat_list_cmp_total t)

onwards : {u v w : Datum} → AtMost u v → AtMost v w → AtMost u w
onwards (two_truths {a = a} {b = b} e) (two_truths {b = c} f) = two_truths (le_trans bool_cmp_total a b c e f)
onwards (two_numbers {i = i} {j = j} e) (two_numbers {j = k} f) = two_numbers (le_trans int_cmp_total i j k e f)
onwards (two_floats {x = x} {y = y} c d e) (two_floats {y = z} a b f) = two_floats c b (le_trans float_total x y z e f)
onwards (two_texts {s = r} {t = s} p q e) (two_texts {t = t} x y f) = two_texts p y (le_trans nat_list_cmp_total r s t e f)
onwards (two_bytes {s = r} {t = s} e) (two_bytes {t = t} f) = two_bytes (le_trans nat_list_cmp_total r s t e f)

either_above : {u v w : Datum} → AtMost u v → AtMost u w → (at_most v w || at_most w v) ≡ true
either_above (two_truths {b = b} e) (two_truths {b = c} f) = le_total bool_cmp_total b c
either_above (two_numbers {j = j} e) (two_numbers {j = k} f) = le_total int_cmp_total j k
either_above (two_floats {y = y} c d e) (two_floats {y = z} a b f) = rw (d, b) (le_total float_total y z)
either_above (two_texts {t = s} p q e) (two_texts {t = t} x y f) = rw (q, y) (le_total nat_list_cmp_total s t)
either_above (two_bytes {t = s} e) (two_bytes {t = t} f) = le_total nat_list_cmp_total s t

either_below : {u v w : Datum} → AtMost v u → AtMost w u → (at_most v w || at_most w v) ≡ true
either_below (two_truths {a = b} e) (two_truths {a = c} f) = le_total bool_cmp_total b c
either_below (two_numbers {i = j} e) (two_numbers {i = k} f) = le_total int_cmp_total j k
either_below (two_floats {x = x} c d e) (two_floats {x = y} a b f) = rw (c, a) (le_total float_total x y)
either_below (two_texts {s = s} p q e) (two_texts {s = t} x y f) = rw (p, x) (le_total nat_list_cmp_total s t)
either_below (two_bytes {s = s} e) (two_bytes {s = t} f) = le_total nat_list_cmp_total s t

le_in_order : {v w : Datum} → AtMost v w → is_le (order v w) ≡ true
le_in_order (two_truths e) = e
le_in_order (two_numbers e) = e
le_in_order (two_floats c d e) = e
le_in_order (two_texts u t e) = e
le_in_order (two_bytes e) = e

lt_in_order : {v w : Datum} → AtMost v w → not (at_most w v) ≡ true → is_lt (order v w) ≡ true
lt_in_order (two_truths {a = a} {b = b} e) f = lt_from bool_cmp_total a b (and_from _ _ e f)
lt_in_order (two_numbers {i = i} {j = j} e) f = lt_from int_cmp_total i j (and_from _ _ e f)
lt_in_order (two_floats {x = x} {y = y} c d e) f = lt_from float_total x y (and_from _ _ e (rw (d, c) at f))
lt_in_order (two_texts {s = s} {t = t} u w e) f = lt_from nat_list_cmp_total s t (and_from _ _ e (rw (w, u) at f))
lt_in_order (two_bytes {s = s} {t = t} e) f = lt_from nat_list_cmp_total s t (and_from _ _ e f)

bools_alike : (a b : Bool) → bool_cmp a b ≡ Equal → a ≡ b
bools_alike true true e = refl
bools_alike false false e = refl
bools_alike true false e = cc
bools_alike false true e = cc

same : {v w : Datum} → AtMost v w → AtMost w v → v ≡ w
same (two_truths {a = a} {b = b} e) (two_truths f) = ap bool (bools_alike a b (eq_from bool_cmp_total a b e f))
same (two_numbers {i = i} {j = j} e) (two_numbers f) = ap int (exact_signed i j (eq_from int_cmp_total i j e f))
same (two_floats {x = x} {y = y} c d e) (two_floats a b f) = ap float (float_exact x y c d (eq_from float_total x y e f))
same (two_texts {s = s} {t = t} p q e) (two_texts x y f) = ap utf8 (exact_bytes s t (eq_from nat_list_cmp_total s t e f))
same (two_bytes {s = s} {t = t} e) (two_bytes f) = ap bytes (exact_bytes s t (eq_from nat_list_cmp_total s t e f))

-- ---- the tests

-- what is at most another can be compared, and so can the other
pub at_most-left : (v w : Datum) → at_most v w ≡ true → at_most v v ≡ true
at_most-left v w e = shown (own_left (told v w e))

pub at_most-right : (v w : Datum) → at_most v w ≡ true → at_most w w ≡ true
at_most-right v w e = shown (own_right (told v w e))

pub at_most-trans : (u v w : Datum) → at_most u v ≡ true → at_most v w ≡ true → at_most u w ≡ true
at_most-trans u v w e f = shown (onwards (told u v e) (told v w f))

-- two values that are above one value, or below one, can be compared
pub above_one : (u v w : Datum) → at_most u v ≡ true → at_most u w ≡ true → (at_most v w || at_most w v) ≡ true
above_one u v w e f = either_above (told u v e) (told u w f)

pub below_one : (u v w : Datum) → at_most v u ≡ true → at_most w u ≡ true → (at_most v w || at_most w v) ≡ true
below_one u v w e f = either_below (told v u e) (told w u f)

-- values that are at most each other are one value
pub at_most-antisym : (v w : Datum) → at_most v w ≡ true → at_most w v ≡ true → v ≡ w
at_most-antisym v w e f = same (told v w e) (told w v f)

pub below-at_most : (v w : Datum) → below v w ≡ true → at_most v w ≡ true
below-at_most v w e = (and_parts _ _ e).0

-- what lies between the two of `below` is between all that lie outside
pub below-wider : (u v w x : Datum) → at_most u v ≡ true → below v w ≡ true → at_most w x ≡ true → below u x ≡ true
below-wider u v w x e f g =
    let p = and_parts _ _ f in
    and_from _ _ (at_most-trans u v x e (at_most-trans v w x p.0 g)) (go (at_most x u) refl p.1)
  where
    go : (b : Bool) → at_most x u ≡ b → not (at_most w v) ≡ true → not b ≡ true
    go false h q = refl
    go true h q = let r : at_most w v ≡ true = at_most-trans w x v g (at_most-trans x u v h e) in rw r at q

-- ---- the order of comparisons

pub at_most-order : (v w : Datum) → at_most v w ≡ true → is_le (order v w) ≡ true
at_most-order v w e = le_in_order (told v w e)

pub below-order : (v w : Datum) → below v w ≡ true → is_lt (order v w) ≡ true
below-order v w e = let p = and_parts _ _ e in lt_in_order (told v w p.0) p.1

-- each value is in its own place
pub order_itself : (v : Datum) → order v v ≡ Equal
order_itself (bool a) = tied_itself bool_cmp_total a
order_itself (int i) = tied_itself int_cmp_total i
order_itself (float y) = tied_itself float_total y
order_itself (utf8 s) = tied_itself nat_list_cmp_total s
order_itself (bytes s) = tied_itself nat_list_cmp_total s
order_itself _ = refl

pub own_order : (v : Datum) → at_most v v ≡ true → order v v ≡ Equal
own_order v e = order_itself v

pub not_null_end : (v w : Datum) → at_most v w ≡ true → is_null_datum v ≡ false
not_null_end v w e = go (told v w e)
  where
    go : {v w : Datum} → AtMost v w → is_null_datum v ≡ false
    go (two_truths e) = refl
    go (two_numbers e) = refl
    go (two_floats c d e) = refl
    go (two_texts u t e) = refl
    go (two_bytes e) = refl

-- ---- the lower and the higher of two

module _ (P : Option Datum → Type 0) (v w : Datum) where
  pub by_lower : (at_most v w ≡ true → P (Some v)) → (at_most w v ≡ true → P (Some w)) → (at_most v w ≡ false → at_most w v ≡ false → P None) → P (lower v w)
  by_lower f g n = go (at_most v w) refl
    where
      rest : (c : Bool) → at_most w v ≡ c → at_most v w ≡ false → P (if c then Some w else None)
      rest true e h = g e
      rest false e h = n h e

      go : (b : Bool) → at_most v w ≡ b → P (if b then Some v else if at_most w v then Some w else None)
      go true e = f e
      go false e = rest (at_most w v) refl e

  pub by_higher : (at_most v w ≡ true → P (Some w)) → (at_most w v ≡ true → P (Some v)) → (at_most v w ≡ false → at_most w v ≡ false → P None) → P (higher v w)
  by_higher f g n = go (at_most v w) refl
    where
      rest : (c : Bool) → at_most w v ≡ c → at_most v w ≡ false → P (if c then Some v else None)
      rest true e h = g e
      rest false e h = n h e

      go : (b : Bool) → at_most v w ≡ b → P (if b then Some w else if at_most w v then Some v else None)
      go true e = f e
      go false e = rest (at_most w v) refl e

pub comparable-own : (v : Datum) → at_most v v ≡ true → comparable v ≡ Some v
comparable-own v e = rw e refl

pub comparable_text : (s : List ℕ) → is_utf8 s ≡ true → comparable (utf8 s) ≡ Some (utf8 s)
comparable_text s e = comparable-own (utf8 s) (and_from _ _ e (and_from _ _ e (le_own nat_list_cmp_total s)))

pub comparable_bytes : (s : List ℕ) → comparable (bytes s) ≡ Some (bytes s)
comparable_bytes s = comparable-own (bytes s) (le_own nat_list_cmp_total s)
