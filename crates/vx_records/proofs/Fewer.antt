-- A tree that faults nowhere on a batch faults nowhere on rows of it.
use Rattle.std.proofs.Common.{◌≡◌, ◌∙◌, ℕ, ◌+◌, ◌≤◌, ◌∷◌, ◌++◌, List, [], Bool, true, false, Option, None, Ok, map, length, get_or, refl, sym, ap, subst, inl, inr, arith}
use Rattle.std.specs.Prelude.{not, cond, position}
use Rattle.std.specs.Cmp.{bool_cmp_total}
use Rattle.std.specs.List.{list_any, position_or_len, prefix_len}
use Rattle.std.specs.Option.{option_or, option_map}
use Rattle.std.specs.Ordering.{is_eq}
use Rattle.std.specs.declared.cmp.Ordering.{Ordering}
use Rattle.std.specs.declared.cmp.Ordering.TheVariants.{Less, Equal, Greater}
use Rattle.std.proofs.lemmas.Bool.{or_parts, or_from, le-ltb}
use Rattle.std.proofs.lemmas.Cmp.{int_cmp_total, nat_list_cmp_total}
use Rattle.std.proofs.lemmas.List.{map-append}
use Rattle.vx_dtype.specs.Lists.{IsIn}
use Rattle.vx_dtype.specs.Joins.{same_base}
use Rattle.vx_dtype.specs.declared.error.VortexError.{VortexError}
use Rattle.vx_dtype.specs.declared.error.VortexError.TheVariants.{CastNull, BadFill}
use Rattle.vx_dtype.proofs.Lists.{in_left, in_right}
use Rattle.vx_value.specs.Fits.{IsBatch, fits}
use Rattle.vx_value.specs.Types.{truth, number, floating, decimals, date, timestamp, text, octets, LogicalType, ty, atomic, Datum, bool, int, float, utf8, bytes, is_null_datum}
use Rattle.vx_fn.specs.Faults.{node_fault, has_fault, row_fault, misfits, differs, fill_of, is_bad_fill, some_differ, when}
use Rattle.vx_fn.specs.Functions.{Function, Typing, binary, computes, cast, fill_null, fn_type, is_atomic, needs}
use Rattle.vx_fn.specs.Values.{order}
use Rattle.vx_fn.proofs.Fills.{none_differ}
use Rattle.vx_prune_bounds.proofs.Floats.{float_total}
use Rattle.vx_tree.specs.Faults.{first_fault, each_fault}
use Rattle.vx_tree.specs.Meaning.{value, values}
use Rattle.vx_tree.specs.Trees.{BoundTree, scope, node, BoundTrees, no_bound, bound, node_type, node_types, WellTyped, EachWellTyped, Over, EachOver}
use Rattle.vx_tree.proofs.Trees.{IsIn-map, each_passes, map_none, none_of_any, none_passes, or_none, value-fits, when_none}
use Rattle.vx_records.specs.Laws.{FewerNeverFault}
use Rattle.vx_records.specs.Records.{Record, rows}

-- each of the rows is one of the batch
abbrev AreOf : List Datum → List Datum → Type 0
AreOf part whole = (v : Datum) → IsIn v part → IsIn v whole

-- ---- tests that no row passes

to_the_end : {A B : Type 0} (p : B → Bool) (f : A → B) (xs : List A) → ((x : A) → IsIn x xs → p (f x) ≡ false) → length (map f xs) ≤ position_or_len p (map f xs)
to_the_end p f [] none = omega arith
to_the_end p f (x ∷ xs) none = go (p (f x)) (none x (inl refl)) (to_the_end p f xs (λ y i. none y (inr i)))
  where
    go : (b : Bool) → b ≡ false → length (map f xs) ≤ position_or_len p (map f xs) → length (map f (x ∷ xs)) ≤ cond (not b) (1 + prefix_len (λ y. not (p y)) (map f xs)) 0
    go true e rest = cc
    go false e rest = omega arith

nowhere : {A B : Type 0} (p : B → Bool) (f : A → B) (xs : List A) → ((x : A) → IsIn x xs → p (f x) ≡ false) → position p (map f xs) ≡ None
nowhere p f xs none = rw (le-ltb _ _ (to_the_end p f xs none)) refl

none_of_them : {A B : Type 0} (p : B → Bool) (f : A → B) (xs : List A) → ((x : A) → IsIn x xs → p (f x) ≡ false) → list_any p (map f xs) ≡ false
none_of_them p f [] none = refl
none_of_them p f (x ∷ xs) none = or_from _ _ (none x (inl refl)) (none_of_them p f xs (λ y i. none y (inr i)))

-- ---- values that are compared

-- the two are of one kind that is compared
abbrev AreAlike : Datum → Datum → Type 0
AreAlike (bool a) (bool b) = Unit {0}
AreAlike (int i) (int j) = Unit {0}
AreAlike (float x) (float y) = Unit {0}
AreAlike (utf8 s) (utf8 t) = Unit {0}
AreAlike (bytes s) (bytes t) = Unit {0}
AreAlike _ _ = ⊥

ordered_alike : (u v w : Datum) → AreAlike u v → AreAlike u w → order u v ≡ Equal → order u w ≡ order v w
ordered_alike (bool a) (bool b) (bool c) p q e = bool_cmp_total.congr a b c e
ordered_alike (int a) (int b) (int c) p q e = int_cmp_total.congr a b c e
ordered_alike (float a) (float b) (float c) p q e = float_total.congr a b c e
ordered_alike (utf8 a) (utf8 b) (utf8 c) p q e = nat_list_cmp_total.congr a b c e
ordered_alike (bytes a) (bytes b) (bytes c) p q e = nat_list_cmp_total.congr a b c e
ordered_alike (bool a) (bool b) _ p q e = absurd q
ordered_alike (int a) (int b) _ p q e = absurd q
ordered_alike (float a) (float b) _ p q e = absurd q
ordered_alike (utf8 a) (utf8 b) _ p q e = absurd q
ordered_alike (bytes a) (bytes b) _ p q e = absurd q
ordered_alike _ _ _ p q e = absurd p

equal_of : (o : Ordering) → not (is_eq o) ≡ false → o ≡ Equal
equal_of Less e = cc
equal_of Equal e = refl
equal_of Greater e = cc

differ_alike : (u v w : Datum) → AreAlike u v → AreAlike u w → differs u v ≡ false → differs u w ≡ false → differs v w ≡ false
differ_alike u v w p q d e = subst (λ o. not (is_eq o) ≡ false) (ordered_alike u v w p q (equal_of (order u v) d)) e

itself : (v : Datum) → differs v v ≡ false
itself v = (or_parts _ _ (none_differ v (v ∷ v ∷ []))).0

-- values of one atomic type that aren't null
alike : (t : LogicalType) (v w : Datum) → is_atomic t ≡ true → fits v t ≡ true → fits w t ≡ true → is_null_datum v ≡ false → is_null_datum w ≡ false → AreAlike v w
alike (ty (atomic truth) n) (bool a) (bool b) at f g m k = tt
alike (ty (atomic (number p)) n) (int a) (int b) at f g m k = tt
alike (ty (atomic (floating f)) n) (float a) (float b) at g h m k = tt
alike (ty (atomic (decimals p s)) n) (int a) (int b) at f g m k = tt
alike (ty (atomic date) n) (int a) (int b) at f g m k = tt
alike (ty (atomic (timestamp u z)) n) (int a) (int b) at f g m k = tt
alike (ty (atomic text) n) (utf8 a) (utf8 b) at f g m k = tt
alike (ty (atomic octets) n) (bytes a) (bytes b) at f g m k = tt
alike _ _ _ at f g m k = cc

atomic_both : (t u : LogicalType) → is_atomic t ≡ true → same_base t u ≡ true → is_atomic u ≡ true
atomic_both (ty (atomic a) n) (ty (atomic b) m) at same = refl
atomic_both _ _ at same = cc

-- ---- fills

from_first : (f : Datum → Datum) (u : Datum) (us : List Datum) → list_any (differs (f u)) (map f us) ≡ false → (v : Datum) → IsIn v (u ∷ us) → differs (f u) (f v) ≡ false
from_first f u us e v (inl q) = subst (λ z. differs (f u) (f z) ≡ false) (sym q) (itself (f u))
from_first f u us e v (inr i) = none_of_any (differs (f u)) (map f us) (f v) e (IsIn-map f us v i)

one_fill : (f : Datum → Datum) (whole : List Datum) (v w : Datum) → ((v w : Datum) → IsIn v whole → IsIn w whole → AreAlike (f v) (f w)) → some_differ (map f whole) ≡ false → IsIn v whole → IsIn w whole → differs (f v) (f w) ≡ false
one_fill f [] v w same e i j = absurd i
one_fill f (u ∷ us) v w same e i j = differ_alike (f u) (f v) (f w) (same u v (inl refl) i) (same u w (inl refl) j) (from_first f u us e v i) (from_first f u us e w j)

fewer_fills : (f : Datum → Datum) (whole part : List Datum) → ((v w : Datum) → IsIn v whole → IsIn w whole → AreAlike (f v) (f w)) → some_differ (map f whole) ≡ false → AreOf part whole → some_differ (map f part) ≡ false
fewer_fills f whole [] same e of = refl
fewer_fills f whole (v ∷ part) same e of = none_of_them (differs (f v)) f part (λ w i. one_fill f whole v w same e (of v (inl refl)) (of w (inr i)))

filled : (x y : BoundTree) (batch : List Datum) → map fill_of (map (values (bound x (bound y no_bound))) batch) ≡ map (value y) batch
filled x y [] = refl
filled x y (v ∷ batch) = ap (λ l. value y v ∷ l) (filled x y batch)

needed : (b : Bool) (r : VortexError) (t : Typing) (u : LogicalType) → needs b r t ≡ Ok u → b ≡ true
needed true r t u e = refl
needed false r t u e = cc

not_false : (b : Bool) → not b ≡ false → b ≡ true
not_false true e = refl
not_false false e = cc

-- the fills of rows of the batch are one value where all are
fills_of_fewer : (x y : BoundTree) (s : LogicalType) (t : LogicalType) (whole part : List Datum) → fn_type fill_null (node_types (bound x (bound y no_bound))) ≡ Ok t → WellTyped y → Over y s → IsBatch s whole → first_fault y whole ≡ None → AreOf part whole
    → is_bad_fill (node_types (bound x (bound y no_bound))) (map fill_of (map (values (bound x (bound y no_bound))) whole)) ≡ false
    → is_bad_fill (node_types (bound x (bound y no_bound))) (map fill_of (map (values (bound x (bound y no_bound))) part)) ≡ false
fills_of_fewer x y s t whole part typing typed over is quiet of e =
    let ts = node_types (bound x (bound y no_bound)) in
    let good = subst (λ l. is_bad_fill ts l ≡ false) (filled x y whole) e in
    let apart = or_parts _ _ good in
    let known = or_parts _ _ apart.0 in
    let based : same_base (node_type x) (node_type y) ≡ true = needed _ _ _ _ typing in
    let atomic_x : is_atomic (node_type x) ≡ true = not_false _ known.0 in
    let atomic_y = atomic_both (node_type x) (node_type y) atomic_x based in
    let fit = λ (v : Datum) (i : IsIn v whole). value-fits y s whole v typed over quiet i (each_passes _ whole v is i) in
    let there = λ (v : Datum) (i : IsIn v whole). none_of_any is_null_datum (map (value y) whole) (value y v) known.1 (IsIn-map (value y) whole v i) in
    let same = λ (v w : Datum) (i : IsIn v whole) (j : IsIn w whole). alike (node_type y) (value y v) (value y w) atomic_y (fit v i) (fit w j) (there v i) (there w j) in
    let none_null = none_of_them is_null_datum (value y) part (λ v i. there v (of v i)) in
    subst (λ l. is_bad_fill ts l ≡ false) (sym (filled x y part)) (or_from _ _ (or_from _ _ known.0 none_null) (fewer_fills (value y) whole part same apart.1 of))

-- ---- trees

node_of_fewer : (f : Function) (bs : BoundTrees) (s t : LogicalType) (whole part : List Datum) → fn_type f (node_types bs) ≡ Ok t → EachWellTyped bs → EachOver bs s → IsBatch s whole → each_fault bs whole ≡ None → AreOf part whole
    → node_fault f (node_types bs) (map (values bs) whole) ≡ None → node_fault f (node_types bs) (map (values bs) part) ≡ None
node_of_fewer (binary (computes a)) bs s t whole part typing typed over is quiet of e =
    let ts = node_types bs in
    let fault = λ (rows : List (List Datum)) (n : ℕ). row_fault a (get_or rows n []) n in
    ap (option_map (fault (map (values bs) part))) (nowhere (has_fault a ts) (values bs) part (λ v i. none_passes (has_fault a ts) (map (values bs) whole) (values bs v) (map_none (fault (map (values bs) whole)) _ e) (IsIn-map (values bs) whole v (of v i))))
node_of_fewer (cast u) bs s t whole part typing typed over is quiet of e =
    ap (option_map CastNull) (nowhere (misfits u) (values bs) part (λ v i. none_passes (misfits u) (map (values bs) whole) (values bs v) (map_none CastNull _ e) (IsIn-map (values bs) whole v (of v i))))
node_of_fewer fill_null (bound x (bound y no_bound)) s t whole part typing typed over is quiet of e =
    let below = or_none _ _ quiet in
    ap (λ b. when b BadFill) (fills_of_fewer x y s t whole part typing typed.1.0 over.1.0 is (or_none _ _ below.1).0 of (when_none _ BadFill e))
node_of_fewer fill_null no_bound s t whole part typing typed over is quiet of e = cc
node_of_fewer fill_null (bound x no_bound) s t whole part typing typed over is quiet of e = cc
node_of_fewer fill_null (bound x (bound y (bound z bs))) s t whole part typing typed over is quiet of e = cc
node_of_fewer _ bs s t whole part typing typed over is quiet of e = refl

none_or : {A : Type 0} (o p : Option A) → o ≡ None → p ≡ None → option_or o p ≡ None
none_or o p e f = rw (e, f) refl

mutual
  tree_of_fewer : (b : BoundTree) (s : LogicalType) (whole part : List Datum) → WellTyped b → Over b s → IsBatch s whole → AreOf part whole → first_fault b whole ≡ None → first_fault b part ≡ None
  tree_of_fewer (scope t) s whole part typed over is of e = refl
  tree_of_fewer (node t f bs) s whole part typed over is of e =
      let q = or_none _ _ e in
      none_or _ _ (trees_of_fewer bs s whole part typed.2 over is of q.0) (node_of_fewer f bs s t whole part typed.0 typed.2 over is q.0 of q.1)

  trees_of_fewer : (bs : BoundTrees) (s : LogicalType) (whole part : List Datum) → EachWellTyped bs → EachOver bs s → IsBatch s whole → AreOf part whole → each_fault bs whole ≡ None → each_fault bs part ≡ None
  trees_of_fewer no_bound s whole part typed over is of e = refl
  trees_of_fewer (bound b bs) s whole part typed over is of e =
      let q = or_none _ _ e in
      none_or _ _ (tree_of_fewer b s whole part typed.0 over.0 is of q.0) (trees_of_fewer bs s whole part typed.1 over.1 is of q.1)

-- ---- records

pub fewer_never_fault : FewerNeverFault
fewer_never_fault b s rs typed over is quiet n xs ys zs cut few =
    let row = λ (r : Record). r.row in
    let parts : rows (xs ++ (ys ++ zs)) ≡ rows xs ++ (rows ys ++ rows zs) = map-append row xs (ys ++ zs) ∙ ap (λ l. rows xs ++ l) (map-append row ys zs) in
    tree_of_fewer b s (rows rs) (rows ys) typed over is
    (λ v i. subst (IsIn v) (sym (ap rows cut ∙ parts)) (in_right v (rows xs) (rows ys ++ rows zs) (in_left v (rows ys) (rows zs) i))) quiet
