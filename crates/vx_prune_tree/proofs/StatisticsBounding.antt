-- Bounds of what is known, which hold of each row.
use Rattle.std.proofs.Common.{◌≡◌, ℕ, ◌+◌, ◌<◌, ◌==◌, Bool, true, false, ◌&&◌, ◌||◌, List, [], ◌∷◌, length, map, Option, Some, None, refl, sym, ap, ◌∙◌, cond, inl, inr, subst, arith}
use Rattle.std.specs.Prelude.{not, count_by, IfSome}
use Rattle.std.specs.List.{AllByRecursion}
use Rattle.std.specs.Cmp.Lexicographic.{pointwise_decides, bytes_decides}
use borrow.Author.Tests.{eqb-true}
use Rattle.std.proofs.lemmas.List.{length-map}
use Rattle.std.proofs.lemmas.List.Sums.{sum_by-append, count_by-le-length}
use Rattle.std.proofs.lemmas.Bool.{and_parts, and_from}
use Rattle.vx_dtype.specs.Lists.{IsIn}
use Rattle.vx_value.specs.Paths.{Path, equal_path}
use Rattle.vx_value.specs.Types.{LogicalType, Datum, is_null_datum}
use Rattle.vx_prune_bounds.specs.Order.{at_most}
use Rattle.vx_prune_bounds.specs.Bounds.{Contains, is_from, is_up_to, is_interval, IsProper}
use Rattle.vx_prune_bounds.proofs.Ordered.{at_most-left, at_most-right, at_most-trans}
use Rattle.vx_prune_bounds.proofs.Contained.{by_null, in_null, from_inside}
use Rattle.vx_prune_tree.specs.Stats.{FieldFacts, no_facts, Facts, facts, put_facts, at_path, along, is_null_or, EachNullOr, AreTrueOf, Describes, facts_at, is_known_as, known_end, field_bounds}
use Rattle.vx_prune_tree.specs.Laws.{BoundsHold}

-- paths that are equal by the test are the same
pub path-same : (p q : Path) → equal_path p q ≡ true → p ≡ q
path-same p q e = (pointwise_decides bytes_decides p q).0 e

-- nothing is true of all values
pub nothing-true : (values : List Datum) → AreTrueOf no_facts values
nothing-true values = record { nulls = tt; least = tt; greatest = tt }

-- what is known of a path is true
at_entry : (t : LogicalType) (rows : List Datum) (entry : Path × FieldFacts) (fields : List (Path × FieldFacts)) (path : Path) → AreTrueOf entry.1 (along t entry.0 rows) →
    AreTrueOf (facts_at fields path) (along t path rows) → AreTrueOf (facts_at (entry ∷ fields) path) (along t path rows)
at_entry t rows entry fields path here rest = go (equal_path path entry.0) refl
  where
    go : (b : Bool) → equal_path path entry.0 ≡ b → AreTrueOf (facts_at (entry ∷ fields) path) (along t path rows)
    go true e = rw e (subst (λ (p : Path). AreTrueOf entry.1 (along t p rows)) (sym (path-same path entry.0 e)) here)
    go false e = rw e rest

true_at : (t : LogicalType) (rows : List Datum) (fields : List (Path × FieldFacts)) (path : Path) → AllByRecursion (λ (entry : Path × FieldFacts). AreTrueOf entry.1 (along t entry.0 rows)) fields →
    AreTrueOf (facts_at fields path) (along t path rows)
true_at t rows [] path h = nothing-true (along t path rows)
true_at t rows (entry ∷ fields) path h = at_entry t rows entry fields path h.0 (true_at t rows fields path h.1)

pub facts-true : (f : Facts) (t : LogicalType) (rows : List Datum) → Describes f t rows → (path : Path) → AreTrueOf (facts_at f.fields path) (along t path rows)
facts-true f t rows h path = true_at t rows f.fields path h.fields

-- ---- how many are null

count-cons : (v : Datum) (vs : List Datum) → count_by is_null_datum (v ∷ vs) ≡ count_by is_null_datum (v ∷ []) + count_by is_null_datum vs
count-cons v vs = sum_by-append (λ x. cond (is_null_datum x) 1 0) (v ∷ []) vs

-- where a value is null, not none are; and where one isn't, not all are
some_null : (v : Datum) (vs : List Datum) → IsIn v vs → is_null_datum v ≡ true → 0 < count_by is_null_datum vs
some_null v [] i h = elim i [ ]
some_null v (w ∷ vs) (inl e) h =
    let one : count_by is_null_datum (w ∷ []) ≡ 1 = rw (← e, h) refl in
    omega (arith, count-cons w vs)
some_null v (w ∷ vs) (inr i) h =
    let rest = some_null v vs i h in
    omega (arith, count-cons w vs)

some_other : (v : Datum) (vs : List Datum) → IsIn v vs → is_null_datum v ≡ false → count_by is_null_datum vs < length vs
some_other v [] i h = elim i [ ]
some_other v (w ∷ vs) (inl e) h =
    let none : count_by is_null_datum (w ∷ []) ≡ 0 = rw (← e, h) refl in
    omega (arith, count-cons w vs, count_by-le-length is_null_datum vs)
some_other v (w ∷ vs) (inr i) h =
    let rest = some_other v vs i h in
    omega (arith, count-cons w vs, count_by-le-length is_null_datum (w ∷ []))

not_known : (n r : ℕ) (known : Option ℕ) → IfSome known (λ k. n ≡ k) → (n ≡ r → ⊥) → not (is_known_as r known) ≡ true
not_known n r None e h = refl
not_known n r (Some k) e h = go (k == r) refl
  where
    go : (b : Bool) → (k == r) ≡ b → not b ≡ true
    go true q = absurd (h (e ∙ eqb-true k r q))
    go false q = refl

-- ---- ends

passes : (test : Datum → Bool) (v : Datum) (vs : List Datum) → IsIn v vs → is_null_datum v ≡ false → EachNullOr test vs → test v ≡ true
passes test v [] i h each = elim i [ ]
passes test v (w ∷ vs) (inl e) h each = go (and_parts _ _ each).0
  where
    go : is_null_or test w ≡ true → test v ≡ true
    go p = let q = rw (← e, h) at p in q
passes test v (w ∷ vs) (inr i) h each = passes test v vs i h (and_parts _ _ each).1

from_known : (l : Option Datum) (v : Datum) → IfSome l (λ m. at_most m v ≡ true) → is_from (known_end l) v ≡ true
from_known None v h = refl
from_known (Some l) v h = rw (at_most-left l v h) h

up_to_known : (g : Option Datum) (v : Datum) → IfSome g (λ m. at_most v m ≡ true) → is_up_to (known_end g) v ≡ true
up_to_known None v h = refl
up_to_known (Some g) v h = rw (at_most-right v g h) h

-- ends with a value between them are those of an interval
interval_around : (l g : Option Datum) (v : Datum) → is_from l v ≡ true → is_up_to g v ≡ true → is_interval l g ≡ true
interval_around None None v a b = refl
interval_around None (Some g) v a b = at_most-right v g b
interval_around (Some l) None v a b = at_most-left l v a
interval_around (Some l) (Some g) v a b = at_most-trans l v g a b

least_passes : (l : Option Datum) (v : Datum) (vs : List Datum) → IsIn v vs → is_null_datum v ≡ false → IfSome l (λ m. EachNullOr (λ x. at_most m x) vs) → IfSome l (λ m. at_most m v ≡ true)
least_passes None v vs i h each = tt
least_passes (Some m) v vs i h each = passes (λ x. at_most m x) v vs i h each

greatest_passes : (g : Option Datum) (v : Datum) (vs : List Datum) → IsIn v vs → is_null_datum v ≡ false → IfSome g (λ m. EachNullOr (λ x. at_most x m) vs) → IfSome g (λ m. at_most v m ≡ true)
greatest_passes None v vs i h each = tt
greatest_passes (Some m) v vs i h each = passes (λ x. at_most x m) v vs i h each

-- the values are within the bounds
pub bounded : (f : FieldFacts) (values : List Datum) → AreTrueOf f values → (v : Datum) → IsIn v values → Contains (field_bounds (length values) f) v
bounded f values h v i = by_null v (Contains (field_bounds (length values) f) v) missing present
  where
    missing : is_null_datum v ≡ true → Contains (field_bounds (length values) f) v
    missing n =
        let some = some_null v values i n in
        in_null (field_bounds (length values) f) v n (not_known (count_by is_null_datum values) 0 f.nulls h.nulls (λ e. omega arith))

    present : is_null_datum v ≡ false → Contains (field_bounds (length values) f) v
    present n =
        let some = some_other v values i n in
        let from = from_known f.least v (least_passes f.least v values i n h.least) in
        let up_to = up_to_known f.greatest v (greatest_passes f.greatest v values i n h.greatest) in
        from_inside (field_bounds (length values) f) v n (record {
          value = and_from _ _ (not_known (count_by is_null_datum values) (length values) f.nulls h.nulls (λ e. omega arith)) (interval_around (known_end f.least) (known_end f.greatest) v from up_to);
          from = from;
          up_to = up_to;
        })

in-map : (f : Datum → Datum) (v : Datum) (vs : List Datum) → IsIn v vs → IsIn (f v) (map f vs)
in-map f v [] i = elim i [ ]
in-map f v (w ∷ vs) (inl e) = inl (ap f e)
in-map f v (w ∷ vs) (inr i) = inr (in-map f v vs i)

pub bounds_hold : BoundsHold
bounds_hold f t rows h v i path =
    let long : length (along t path rows) ≡ f.rows = length-map rows (at_path t path) ∙ h.count in
    subst (λ (n : ℕ). Contains (field_bounds n (facts_at f.fields path)) (at_path t path v)) long
    (bounded (facts_at f.fields path) (along t path rows) (facts-true f t rows h path) (at_path t path v) (in-map (at_path t path) v rows i))

-- they are proper
pub field_bounds-proper : (n : ℕ) (f : FieldFacts) → IsProper (field_bounds n f)
field_bounds-proper n f = go (not (is_known_as n f.nulls)) (is_interval (known_end f.least) (known_end f.greatest))
  where
    go : (a b : Bool) → (not (a && b) || b) ≡ true
    go true true = refl
    go true false = refl
    go false true = refl
    go false false = refl

-- ---- what is put

put-true : (t : LogicalType) (rows : List Datum) (fields : List (Path × FieldFacts)) (path : Path) (g : FieldFacts) → AllByRecursion (λ (entry : Path × FieldFacts). AreTrueOf entry.1 (along t entry.0 rows)) fields →
    AreTrueOf g (along t path rows) → AllByRecursion (λ (entry : Path × FieldFacts). AreTrueOf entry.1 (along t entry.0 rows)) (put_facts fields path g)
put-true t rows [] path g h new = (new, tt)
put-true t rows (entry ∷ fields) path g h new = go (equal_path path entry.0) refl (put-true t rows fields path g h.1 new)
  where
    go : (b : Bool) → equal_path path entry.0 ≡ b → AllByRecursion (λ (e : Path × FieldFacts). AreTrueOf e.1 (along t e.0 rows)) (put_facts fields path g) →
        AllByRecursion (λ (e : Path × FieldFacts). AreTrueOf e.1 (along t e.0 rows)) (put_facts (entry ∷ fields) path g)
    go true e rest = rw e (subst (λ (p : Path). AreTrueOf g (along t p rows)) (path-same path entry.0 e) new, h.1)
    go false e rest = rw e (h.0, rest)

-- what is true stays true with what is true beside it
pub put-describes : (f : Facts) (path : Path) (g : FieldFacts) (t : LogicalType) (rows : List Datum) → Describes f t rows → AreTrueOf g (along t path rows) → Describes (facts f.rows (put_facts f.fields path g)) t rows
put-describes f path g t rows h new = record { count = h.count; fields = put-true t rows f.fields path g h.fields new }
