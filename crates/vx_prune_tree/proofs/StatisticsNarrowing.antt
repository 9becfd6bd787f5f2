-- The more is known, the narrower are the bounds.
use Rattle.std.proofs.Common.{◌≡◌, ℕ, Bool, true, false, Option, Some, None, refl, sym, inl, inr, subst, List, [], ◌∷◌}
use Rattle.std.specs.Prelude.{not, IfSome, count_by}
use Rattle.std.specs.Option.{IsSomeAnd}
use Rattle.std.proofs.lemmas.Bool.{and_parts, and_from}
use Rattle.vx_value.specs.Types.{Datum, is_null_datum}
use Rattle.vx_prune_bounds.specs.Order.{at_most, comparable}
use Rattle.vx_prune_bounds.specs.Bounds.{IsWithin, starts_within, ends_within, is_interval}
use Rattle.vx_prune_bounds.proofs.Ordered.{at_most-left, at_most-right, at_most-trans, comparable-own}
use Rattle.vx_prune_bounds.proofs.Contained.{from_within}
use Rattle.vx_prune_tree.specs.Stats.{FieldFacts, facts_at, is_known_as, known_end, field_bounds, Facts, along, AreTrueOf, EachNullOr, is_null_or}
use Rattle.vx_prune_tree.specs.Knowing.{IsSameOrAtMost, FieldKnowsMore, KnowsMore}
use Rattle.vx_prune_tree.specs.Laws.{BoundsNarrow, LessIsTrue}
use Rattle.vx_prune_tree.proofs.StatisticsBounding.{facts-true}

-- a number that is known stays known
known_again : (r : ℕ) (m n : Option ℕ) → IfSome m (λ k. n ≡ Some k) → not (is_known_as r n) ≡ true → not (is_known_as r m) ≡ true
known_again r None n h e = refl
known_again r (Some k) n h e = let q = rw h at e in q

-- of two that are the same or in order, the second can be compared if the first can
own_after : (l m : Datum) → at_most l l ≡ true → IsSameOrAtMost l m → (at_most l m ≡ true) × (at_most m m ≡ true)
own_after l m own (inl e) = (subst (λ (x : Datum). at_most l x ≡ true) e own, subst (λ (x : Datum). at_most x x ≡ true) e own)
own_after l m own (inr e) = (e, at_most-right l m e)

own_before : (h g : Datum) → at_most g g ≡ true → IsSameOrAtMost h g → (at_most h g ≡ true) × (at_most h h ≡ true)
own_before h g own (inl e) = (subst (λ (x : Datum). at_most x g ≡ true) (sym e) own, subst (λ (x : Datum). at_most x x ≡ true) (sym e) own)
own_before h g own (inr e) = (e, at_most-left h g e)

-- an end that is known stays known, and lies further in
starts-known : (l m : Option Datum) → IfSome l (λ x. IsSomeAnd m (λ y. IsSameOrAtMost x y)) → starts_within (known_end m) (known_end l) ≡ true
starts-known None None h = refl
starts-known None (Some m) h = refl
starts-known (Some l) None h = elim h [ ]
starts-known (Some l) (Some m) h = go (at_most l l) refl
  where
    go : (b : Bool) → at_most l l ≡ b → starts_within (comparable m) (comparable l) ≡ true
    go true e = let p = own_after l m e h in rw (comparable-own l e, comparable-own m p.1) p.0
    go false e = let none : comparable l ≡ None = rw e refl in rw none refl

ends-known : (g h : Option Datum) → IfSome g (λ x. IsSomeAnd h (λ y. IsSameOrAtMost y x)) → ends_within (known_end h) (known_end g) ≡ true
ends-known None None k = refl
ends-known None (Some h) k = refl
ends-known (Some g) None k = elim k [ ]
ends-known (Some g) (Some h) k = go (at_most g g) refl
  where
    go : (b : Bool) → at_most g g ≡ b → ends_within (comparable h) (comparable g) ≡ true
    go true e = let p = own_before h g e k in rw (comparable-own g e, comparable-own h p.1) p.0
    go false e = let none : comparable g ≡ None = rw e refl in rw none refl

-- an interval with another one inside
interval_around : (l g m h : Option Datum) → starts_within m l ≡ true → ends_within h g ≡ true → is_interval m h ≡ true → is_interval l g ≡ true
interval_around None None m h s e i = refl
interval_around None (Some g) m None s e i = cc
interval_around None (Some g) m (Some h) s e i = at_most-right h g e
interval_around (Some l) None None h s e i = cc
interval_around (Some l) None (Some m) h s e i = at_most-left l m s
interval_around (Some l) (Some g) None h s e i = cc
interval_around (Some l) (Some g) (Some m) None s e i = cc
interval_around (Some l) (Some g) (Some m) (Some h) s e i = at_most-trans l m g s (at_most-trans m h g i e)

pub field_bounds-narrow : (n : ℕ) (a b : FieldFacts) → FieldKnowsMore a b → IsWithin (field_bounds n b) (field_bounds n a)
field_bounds-narrow n a b k =
    let starts = starts-known a.least b.least k.least in
    let ends = ends-known a.greatest b.greatest k.greatest in
    from_within (field_bounds n b) (field_bounds n a) (record {
      null = known_again 0 a.nulls b.nulls k.nulls;
      value = λ v.
          let p = and_parts _ _ v in
          and_from _ _ (known_again n a.nulls b.nulls k.nulls p.0) (interval_around (known_end a.least) (known_end a.greatest) (known_end b.least) (known_end b.greatest) starts ends p.1);
      starts = λ v. starts;
      ends = λ v. ends;
    })

pub bounds_narrow : BoundsNarrow
bounds_narrow a b k path =
    subst (λ (n : ℕ). IsWithin (field_bounds n (facts_at b.fields path)) (field_bounds a.rows (facts_at a.fields path))) (sym k.rows) (field_bounds-narrow a.rows (facts_at a.fields path) (facts_at b.fields path) (k.fields path))

-- ---- what is less is true where what is more is

mono : (test other : Datum → Bool) → ((v : Datum) → test v ≡ true → other v ≡ true) → (v : Datum) → is_null_or test v ≡ true → is_null_or other v ≡ true
mono test other more v e = go (is_null_datum v) refl
  where
    go : (b : Bool) → is_null_datum v ≡ b → is_null_or other v ≡ true
    go true h = rw h refl
    go false h = let q = rw h at e in rw h (more v q)

each-more : (test other : Datum → Bool) → ((v : Datum) → test v ≡ true → other v ≡ true) → (vs : List Datum) → EachNullOr test vs → EachNullOr other vs
each-more test other more [] e = refl
each-more test other more (v ∷ vs) e = let p = and_parts _ _ e in and_from _ _ (mono test other more v p.0) (each-more test other more vs p.1)

below_too : (l m v : Datum) → IsSameOrAtMost l m → at_most m v ≡ true → at_most l v ≡ true
below_too l m v (inl e) h = rw e h
below_too l m v (inr e) h = at_most-trans l m v e h

above_too : (g h v : Datum) → IsSameOrAtMost h g → at_most v h ≡ true → at_most v g ≡ true
above_too g h v (inl e) k = rw (← e) k
above_too g h v (inr e) k = at_most-trans v h g k e

less_nulls : (m n : Option ℕ) (k : ℕ) → IfSome m (λ i. n ≡ Some i) → IfSome n (λ i. k ≡ i) → IfSome m (λ i. k ≡ i)
less_nulls None n k h e = tt
less_nulls (Some i) n k h e = let q = rw h at e in q

less_least : (l m : Option Datum) (vs : List Datum) → IfSome l (λ x. IsSomeAnd m (λ y. IsSameOrAtMost x y)) → IfSome m (λ y. EachNullOr (λ v. at_most y v) vs) → IfSome l (λ x. EachNullOr (λ v. at_most x v) vs)
less_least None m vs h e = tt
less_least (Some l) None vs h e = elim h [ ]
less_least (Some l) (Some m) vs h e = each-more (λ v. at_most m v) (λ v. at_most l v) (λ v. below_too l m v h) vs e

less_greatest : (g k : Option Datum) (vs : List Datum) → IfSome g (λ x. IsSomeAnd k (λ y. IsSameOrAtMost y x)) → IfSome k (λ y. EachNullOr (λ v. at_most v y) vs) → IfSome g (λ x. EachNullOr (λ v. at_most v x) vs)
less_greatest None k vs h e = tt
less_greatest (Some g) None vs h e = elim h [ ]
less_greatest (Some g) (Some k) vs h e = each-more (λ v. at_most v k) (λ v. at_most v g) (λ v. above_too g k v h) vs e

pub less-true : (a b : FieldFacts) (vs : List Datum) → FieldKnowsMore a b → AreTrueOf b vs → AreTrueOf a vs
less-true a b vs k h = record {
  nulls = less_nulls a.nulls b.nulls (count_by is_null_datum vs) k.nulls h.nulls;
  least = less_least a.least b.least vs k.least h.least;
  greatest = less_greatest a.greatest b.greatest vs k.greatest h.greatest;
}

pub less_is_true : LessIsTrue
less_is_true a b k t rows h path = less-true (facts_at a.fields path) (facts_at b.fields path) (along t path rows) (k.fields path) (facts-true b t rows h path)

-- ---- what is known says itself

known_itself : {A : Type 0} (o : Option A) (P : A → A → Type 0) → ((x : A) → P x x) → IfSome o (λ x. IsSomeAnd o (λ y. P x y))
known_itself None P h = tt
known_itself (Some x) P h = h x

same_nulls : (o : Option ℕ) → IfSome o (λ i. o ≡ Some i)
same_nulls None = tt
same_nulls (Some i) = refl

pub knows-itself : (a : Facts) → KnowsMore a a
knows-itself a = record {
  rows = refl;
  fields = λ path. let f = facts_at a.fields path in record {
    nulls = same_nulls f.nulls;
    least = known_itself f.least (λ l m. IsSameOrAtMost l m) (λ x. inl refl);
    greatest = known_itself f.greatest (λ g h. IsSameOrAtMost h g) (λ x. inl refl);
  };
}
