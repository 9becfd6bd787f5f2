-- Which values lie within bounds, and which bounds say more than others.
use Rattle.std.proofs.Common.{◌≡◌, refl, sym, ◌∙◌, Bool, true, false, ◌&&◌, ◌||◌, not}
use Rattle.std.specs.Prelude.{Option, Some, None, if◌then◌else◌}
use Rattle.std.proofs.lemmas.Bool.{and_parts, and_from}
use Rattle.vx_value.specs.Fits.{Fits}
use Rattle.vx_value.specs.Types.{LogicalType, ty, Datum, null, is_null_datum, is_nullable}
use Rattle.vx_prune_bounds.specs.Order.{at_most, comparable}
use Rattle.vx_prune_bounds.specs.Bounds.{Bounds, nothing, any_of, exactly, is_from, is_up_to, contains, Contains, starts_within, ends_within, IsWithin, is_interval, IsProper}
use Rattle.vx_prune_bounds.proofs.Ordered.{at_most-left, at_most-right, at_most-trans, comparable-own}

-- ---- tests

pub implied : (x y : Bool) → (x ≡ true → y ≡ true) → (not x || y) ≡ true
implied true y f = f refl
implied false y f = refl

pub implies : (x y : Bool) → (not x || y) ≡ true → x ≡ true → y ≡ true
implies true y e h = e
implies false y e h = cc

pub at_either : {P : Type 0} (x y : Bool) → (x || y) ≡ true → (x ≡ true → P) → (y ≡ true → P) → P
at_either true y e f g = f refl
at_either false y e f g = g e

-- ---- what contains says

pub contains-null : (b : Bounds) (v : Datum) → is_null_datum v ≡ true → contains b v ≡ b.null
contains-null b v e = rw e refl

pub contains-value : (b : Bounds) (v : Datum) → is_null_datum v ≡ false → contains b v ≡ (b.value && (is_from b.least v && is_up_to b.greatest v))
contains-value b v e = rw e refl

-- null or not
pub by_null : (v : Datum) (P : Type 0) → (is_null_datum v ≡ true → P) → (is_null_datum v ≡ false → P) → P
by_null v P f g = go (is_null_datum v) refl
  where
    go : (b : Bool) → is_null_datum v ≡ b → P
    go true e = f e
    go false e = g e

pub record Inside (b : Bounds) (v : Datum) : Type 0 where
  pub value : b.value ≡ true
  pub from : is_from b.least v ≡ true
  pub up_to : is_up_to b.greatest v ≡ true

pub inside : (b : Bounds) (v : Datum) → is_null_datum v ≡ false → Contains b v → Inside b v
inside b v n e =
    let p = and_parts _ _ (sym (contains-value b v n) ∙ e) in
    let q = and_parts _ _ p.1 in
    record { value = p.0; from = q.0; up_to = q.1 }

pub from_inside : (b : Bounds) (v : Datum) → is_null_datum v ≡ false → Inside b v → Contains b v
from_inside b v n i = contains-value b v n ∙ and_from _ _ i.value (and_from _ _ i.from i.up_to)

pub null_in : (b : Bounds) (v : Datum) → is_null_datum v ≡ true → Contains b v → b.null ≡ true
null_in b v n e = sym (contains-null b v n) ∙ e

pub in_null : (b : Bounds) (v : Datum) → is_null_datum v ≡ true → b.null ≡ true → Contains b v
in_null b v n e = contains-null b v n ∙ e

-- ---- bounds that say more

pub record Within (a b : Bounds) : Type 0 where
  pub null : a.null ≡ true → b.null ≡ true
  pub value : a.value ≡ true → b.value ≡ true
  pub starts : a.value ≡ true → starts_within a.least b.least ≡ true
  pub ends : a.value ≡ true → ends_within a.greatest b.greatest ≡ true

pub within : (a b : Bounds) → IsWithin a b → Within a b
within a b e =
    let p = and_parts _ _ e in
    record {
      null = implies _ _ p.0;
      value = λ h. (and_parts _ _ (implies _ _ p.1 h)).0;
      starts = λ h. (and_parts _ _ (and_parts _ _ (implies _ _ p.1 h)).1).0;
      ends = λ h. (and_parts _ _ (and_parts _ _ (implies _ _ p.1 h)).1).1;
    }

pub from_within : (a b : Bounds) → Within a b → IsWithin a b
from_within a b w = and_from _ _ (implied _ _ w.null) (implied _ _ (λ h. and_from _ _ (w.value h) (and_from _ _ (w.starts h) (w.ends h))))

-- ---- one end and another

starts-from : (l m : Option Datum) (v : Datum) → starts_within l m ≡ true → is_from l v ≡ true → is_from m v ≡ true
starts-from l None v e h = refl
starts-from None (Some m) v e h = cc
starts-from (Some l) (Some m) v e h = at_most-trans m l v e h

ends-up_to : (g h : Option Datum) (v : Datum) → ends_within g h ≡ true → is_up_to g v ≡ true → is_up_to h v ≡ true
ends-up_to g None v e f = refl
ends-up_to None (Some h) v e f = cc
ends-up_to (Some g) (Some h) v e f = at_most-trans v g h f e

starts-trans : (l m n : Option Datum) → starts_within l m ≡ true → starts_within m n ≡ true → starts_within l n ≡ true
starts-trans l m None e f = refl
starts-trans l None (Some n) e f = cc
starts-trans None (Some m) (Some n) e f = cc
starts-trans (Some l) (Some m) (Some n) e f = at_most-trans n m l f e

ends-trans : (g h i : Option Datum) → ends_within g h ≡ true → ends_within h i ≡ true → ends_within g i ≡ true
ends-trans g h None e f = refl
ends-trans g None (Some i) e f = cc
ends-trans None (Some h) (Some i) e f = cc
ends-trans (Some g) (Some h) (Some i) e f = at_most-trans g h i e f

pub starts-own : (l g : Option Datum) → is_interval l g ≡ true → starts_within l l ≡ true
starts-own None g e = refl
starts-own (Some l) None e = e
starts-own (Some l) (Some g) e = at_most-left l g e

pub ends-own : (l g : Option Datum) → is_interval l g ≡ true → ends_within g g ≡ true
ends-own l None e = refl
ends-own None (Some g) e = e
ends-own (Some l) (Some g) e = at_most-right l g e

-- ---- the order of bounds

-- what is within bounds is within those that say less
pub contains-wider : (a b : Bounds) (v : Datum) → IsWithin a b → Contains a v → Contains b v
contains-wider a b v e h =
    let w = within a b e in
    by_null v _ (λ n. in_null b v n (w.null (null_in a v n h))) (λ n.
    let i = inside a v n h in
    from_inside b v n (record {
      value = w.value i.value;
      from = starts-from a.least b.least v (w.starts i.value) i.from;
      up_to = ends-up_to a.greatest b.greatest v (w.ends i.value) i.up_to;
    }))

pub within-refl : (b : Bounds) → IsProper b → IsWithin b b
within-refl b p = from_within b b (record {
  null = λ e. e;
  value = λ e. e;
  starts = λ e. starts-own b.least b.greatest (implies _ _ p e);
  ends = λ e. ends-own b.least b.greatest (implies _ _ p e);
})

pub within-trans : (a b c : Bounds) → IsWithin a b → IsWithin b c → IsWithin a c
within-trans a b c e f =
    let w = within a b e in
    let x = within b c f in
    from_within a c (record {
      null = λ h. x.null (w.null h);
      value = λ h. x.value (w.value h);
      starts = λ h. starts-trans a.least b.least c.least (w.starts h) (x.starts (w.value h));
      ends = λ h. ends-trans a.greatest b.greatest c.greatest (w.ends h) (x.ends (w.value h));
    })

-- ---- nothing, anything of a type, and one value

pub nothing-within : (b : Bounds) → IsWithin nothing b
nothing-within b = refl

pub nothing-proper : IsProper nothing
nothing-proper = refl

pub nothing_contains : (v : Datum) → contains nothing v ≡ false
nothing_contains v = go (is_null_datum v)
  where
    go : (b : Bool) → (if b then false else false) ≡ false
    go true = refl
    go false = refl

pub any_of-proper : (t : LogicalType) → IsProper (any_of t)
any_of-proper t = refl

-- bounds that let in null only where the type does
pub within-any_of : (b : Bounds) (t : LogicalType) → (b.null ≡ true → is_nullable t ≡ true) → IsWithin b (any_of t)
within-any_of b t f = from_within b (any_of t) (record { null = f; value = λ e. refl; starts = λ e. refl; ends = λ e. refl })

nullable_at_null : (v : Datum) (t : LogicalType) → is_null_datum v ≡ true → Fits v t → is_nullable t ≡ true
nullable_at_null null (ty s n) e f = f
nullable_at_null _ t e f = cc

-- a value of a type is within what is known of the type
pub fits-any_of : (v : Datum) (t : LogicalType) → Fits v t → Contains (any_of t) v
fits-any_of v t f = by_null v _ (λ n. in_null (any_of t) v n (nullable_at_null v t n f)) (λ n. from_inside (any_of t) v n (record { value = refl; from = refl; up_to = refl }))

module _ (v : Datum) (P : Option Datum → Type 0) where
  by_comparable : (at_most v v ≡ true → P (Some v)) → P None → P (comparable v)
  by_comparable s n = go (at_most v v) refl
    where
      go : (b : Bool) → at_most v v ≡ b → P (if b then Some v else None)
      go true e = s e
      go false e = n

pub contains-exactly : (v : Datum) → Contains (exactly v) v
contains-exactly v = by_null v _ (λ n. in_null (exactly v) v n n) (λ n. from_inside (exactly v) v n (record {
  value = rw n refl;
  from = by_comparable v (λ l. is_from l v ≡ true) (λ e. e) refl;
  up_to = by_comparable v (λ g. is_up_to g v ≡ true) (λ e. e) refl;
}))

pub exactly-proper : (v : Datum) → IsProper (exactly v)
exactly-proper v = implied _ _ (λ _. by_comparable v (λ l. is_interval l l ≡ true) (λ e. e) refl)

-- a value is within bounds exactly where what is known of it says all that these say
pub exactly-within : (b : Bounds) (v : Datum) → Contains b v → IsWithin (exactly v) b
exactly-within b v h = from_within (exactly v) b (record {
  null = λ n. null_in b v n h;
  value = λ m. (inside b v (not_not m) h).value;
  starts = λ m. starts b.least (inside b v (not_not m) h).from;
  ends = λ m. ends b.greatest (inside b v (not_not m) h).up_to;
})
  where
    not_not : not (is_null_datum v) ≡ true → is_null_datum v ≡ false
    not_not e = go (is_null_datum v) e
      where
        go : (c : Bool) → not c ≡ true → c ≡ false
        go true e = cc
        go false e = refl

    starts : (m : Option Datum) → is_from m v ≡ true → starts_within (comparable v) m ≡ true
    starts None e = refl
    starts (Some m) e = rw (comparable-own v (at_most-right m v e)) e

    ends : (h : Option Datum) → is_up_to h v ≡ true → ends_within (comparable v) h ≡ true
    ends None e = refl
    ends (Some h) e = rw (comparable-own v (at_most-left v h e)) e

pub exactly-in : (b : Bounds) (v : Datum) → IsWithin (exactly v) b → Contains b v
exactly-in b v e = contains-wider (exactly v) b v e (contains-exactly v)
