-- The join of bounds is what says most of what both say, and the meet what says least of what says all that both say.
use Rattle.std.proofs.Common.{◌≡◌, refl, Bool, true, false, ◌&&◌, ◌||◌}
use Rattle.std.specs.Prelude.{Option, Some, None}
use Rattle.std.proofs.lemmas.Bool.{and_parts, and_from, or_left, or_right}
use Rattle.vx_value.specs.Types.{Datum}
use Rattle.vx_prune_bounds.specs.Order.{at_most, lower, higher}
use Rattle.vx_prune_bounds.specs.Bounds.{Bounds, bounds, exactly, Contains, starts_within, ends_within, IsWithin, known_or_both, of_both, joined_end, join, is_interval, are_comparable, proper, meet, IsProper}
use Rattle.vx_prune_bounds.proofs.Ordered.{at_most-left, at_most-right, at_most-trans, above_one, below_one, by_lower, by_higher}
use Rattle.vx_prune_bounds.proofs.Contained.{at_either, implied, implies, within, from_within, within-refl, within-trans, starts-own, ends-own, exactly-within, exactly-in, exactly-proper}

-- two values in neither order can't be compared
apart : {P : Type 0} (v w : Datum) → (at_most v w || at_most w v) ≡ true → at_most v w ≡ false → at_most w v ≡ false → P
apart v w e f g = let h : (false || false) ≡ true = rw (f, g) at e in absurd cc

-- ---- ends of a join

starts-both-left : (k l m : Option Datum) → starts_within k l ≡ true → starts_within k (of_both lower l m) ≡ true
starts-both-left k None None e = refl
starts-both-left k None (Some m) e = refl
starts-both-left k (Some l) None e = refl
starts-both-left None (Some l) (Some m) e = cc
starts-both-left (Some k) (Some l) (Some m) e = by_lower (λ o. starts_within (Some k) o ≡ true) l m (λ _. e) (λ q. at_most-trans m l k q e) (λ _ _. refl)

starts-both-right : (k l m : Option Datum) → starts_within k m ≡ true → starts_within k (of_both lower l m) ≡ true
starts-both-right k None None e = refl
starts-both-right k None (Some m) e = refl
starts-both-right k (Some l) None e = refl
starts-both-right None (Some l) (Some m) e = cc
starts-both-right (Some k) (Some l) (Some m) e = by_lower (λ o. starts_within (Some k) o ≡ true) l m (λ q. at_most-trans l m k q e) (λ _. e) (λ _ _. refl)

ends-both-left : (k g h : Option Datum) → ends_within k g ≡ true → ends_within k (of_both higher g h) ≡ true
ends-both-left k None None e = refl
ends-both-left k None (Some h) e = refl
ends-both-left k (Some g) None e = refl
ends-both-left None (Some g) (Some h) e = cc
ends-both-left (Some k) (Some g) (Some h) e = by_higher (λ o. ends_within (Some k) o ≡ true) g h (λ q. at_most-trans k g h e q) (λ _. e) (λ _ _. refl)

ends-both-right : (k g h : Option Datum) → ends_within k h ≡ true → ends_within k (of_both higher g h) ≡ true
ends-both-right k None None e = refl
ends-both-right k None (Some h) e = refl
ends-both-right k (Some g) None e = refl
ends-both-right None (Some g) (Some h) e = cc
ends-both-right (Some k) (Some g) (Some h) e = by_higher (λ o. ends_within (Some k) o ≡ true) g h (λ _. e) (λ q. at_most-trans k h g e q) (λ _ _. refl)

starts-joined-left : (x y : Bool) (k l m : Option Datum) → x ≡ true → starts_within k l ≡ true → starts_within k (joined_end lower x y l m) ≡ true
starts-joined-left true true k l m t e = starts-both-left k l m e
starts-joined-left true false k l m t e = e
starts-joined-left false y k l m t e = cc

starts-joined-right : (x y : Bool) (k l m : Option Datum) → y ≡ true → starts_within k m ≡ true → starts_within k (joined_end lower x y l m) ≡ true
starts-joined-right true true k l m t e = starts-both-right k l m e
starts-joined-right true false k l m t e = cc
starts-joined-right false y k l m t e = e

ends-joined-left : (x y : Bool) (k g h : Option Datum) → x ≡ true → ends_within k g ≡ true → ends_within k (joined_end higher x y g h) ≡ true
ends-joined-left true true k g h t e = ends-both-left k g h e
ends-joined-left true false k g h t e = e
ends-joined-left false y k g h t e = cc

ends-joined-right : (x y : Bool) (k g h : Option Datum) → y ≡ true → ends_within k h ≡ true → ends_within k (joined_end higher x y g h) ≡ true
ends-joined-right true true k g h t e = ends-both-right k g h e
ends-joined-right true false k g h t e = cc
ends-joined-right false y k g h t e = e

both-starts : (l m k : Option Datum) → starts_within l k ≡ true → starts_within m k ≡ true → starts_within (of_both lower l m) k ≡ true
both-starts l m None e f = refl
both-starts None m (Some k) e f = cc
both-starts (Some l) None (Some k) e f = cc
both-starts (Some l) (Some m) (Some k) e f = by_lower (λ o. starts_within o (Some k) ≡ true) l m (λ _. e) (λ _. f) (λ p q. apart l m (above_one k l m e f) p q)

both-ends : (g h k : Option Datum) → ends_within g k ≡ true → ends_within h k ≡ true → ends_within (of_both higher g h) k ≡ true
both-ends g h None e f = refl
both-ends None h (Some k) e f = cc
both-ends (Some g) None (Some k) e f = cc
both-ends (Some g) (Some h) (Some k) e f = by_higher (λ o. ends_within o (Some k) ≡ true) g h (λ _. f) (λ _. e) (λ p q. apart g h (below_one k g h e f) p q)

joined-starts : (x y : Bool) (l m k : Option Datum) → (x || y) ≡ true → (x ≡ true → starts_within l k ≡ true) → (y ≡ true → starts_within m k ≡ true) → starts_within (joined_end lower x y l m) k ≡ true
joined-starts true true l m k t e f = both-starts l m k (e refl) (f refl)
joined-starts true false l m k t e f = e refl
joined-starts false y l m k t e f = f t

joined-ends : (x y : Bool) (g h k : Option Datum) → (x || y) ≡ true → (x ≡ true → ends_within g k ≡ true) → (y ≡ true → ends_within h k ≡ true) → ends_within (joined_end higher x y g h) k ≡ true
joined-ends true true g h k t e f = both-ends g h k (e refl) (f refl)
joined-ends true false g h k t e f = e refl
joined-ends false y g h k t e f = f t

-- ---- ends of a meet

starts-met : (k l m : Option Datum) → starts_within k l ≡ true → starts_within k m ≡ true → starts_within k (known_or_both higher l m) ≡ true
starts-met k None m e f = f
starts-met k (Some l) None e f = e
starts-met k (Some l) (Some m) e f = by_higher (λ o. starts_within k o ≡ true) l m (λ _. f) (λ _. e) (λ _ _. refl)

ends-met : (k g h : Option Datum) → ends_within k g ≡ true → ends_within k h ≡ true → ends_within k (known_or_both lower g h) ≡ true
ends-met k None h e f = f
ends-met k (Some g) None e f = e
ends-met k (Some g) (Some h) e f = by_lower (λ o. ends_within k o ≡ true) g h (λ _. e) (λ _. f) (λ _ _. refl)

met-starts-left : (l m : Option Datum) → are_comparable l m ≡ true → starts_within (known_or_both higher l m) (known_or_both higher l m) ≡ true → starts_within (known_or_both higher l m) l ≡ true
met-starts-left None m c o = refl
met-starts-left (Some l) None c o = o
met-starts-left (Some l) (Some m) c o = by_higher (λ n. starts_within n (Some l) ≡ true) l m (λ p. p) (λ p. at_most-right m l p) (λ p q. apart l m c p q)

met-starts-right : (l m : Option Datum) → are_comparable l m ≡ true → starts_within (known_or_both higher l m) (known_or_both higher l m) ≡ true → starts_within (known_or_both higher l m) m ≡ true
met-starts-right None m c o = o
met-starts-right (Some l) None c o = refl
met-starts-right (Some l) (Some m) c o = by_higher (λ n. starts_within n (Some m) ≡ true) l m (λ p. at_most-right l m p) (λ p. p) (λ p q. apart l m c p q)

met-ends-left : (g h : Option Datum) → are_comparable g h ≡ true → ends_within (known_or_both lower g h) (known_or_both lower g h) ≡ true → ends_within (known_or_both lower g h) g ≡ true
met-ends-left None h c o = refl
met-ends-left (Some g) None c o = o
met-ends-left (Some g) (Some h) c o = by_lower (λ n. ends_within n (Some g) ≡ true) g h (λ p. at_most-left g h p) (λ p. p) (λ p q. apart g h c p q)

met-ends-right : (g h : Option Datum) → are_comparable g h ≡ true → ends_within (known_or_both lower g h) (known_or_both lower g h) ≡ true → ends_within (known_or_both lower g h) h ≡ true
met-ends-right None h c o = o
met-ends-right (Some g) None c o = refl
met-ends-right (Some g) (Some h) c o = by_lower (λ n. ends_within n (Some h) ≡ true) g h (λ p. p) (λ p. at_most-left h g p) (λ p q. apart g h c p q)

least_comparable : (k l m : Option Datum) → starts_within k l ≡ true → starts_within k m ≡ true → are_comparable l m ≡ true
least_comparable k None None e f = refl
least_comparable k None (Some m) e f = refl
least_comparable k (Some l) None e f = refl
least_comparable None (Some l) (Some m) e f = cc
least_comparable (Some k) (Some l) (Some m) e f = below_one k l m e f

greatest_comparable : (k g h : Option Datum) → ends_within k g ≡ true → ends_within k h ≡ true → are_comparable g h ≡ true
greatest_comparable k None None e f = refl
greatest_comparable k None (Some h) e f = refl
greatest_comparable k (Some g) None e f = refl
greatest_comparable None (Some g) (Some h) e f = cc
greatest_comparable (Some k) (Some g) (Some h) e f = above_one k g h e f

-- what is around an interval is one
interval-wider : (l g m h : Option Datum) → is_interval l g ≡ true → starts_within l m ≡ true → ends_within g h ≡ true → is_interval m h ≡ true
interval-wider l g None None i s e = refl
interval-wider l None None (Some h) i s e = cc
interval-wider l (Some g) None (Some h) i s e = at_most-right g h e
interval-wider None g (Some m) h i s e = cc
interval-wider (Some l) g (Some m) None i s e = at_most-left m l s
interval-wider (Some l) None (Some m) (Some h) i s e = cc
interval-wider (Some l) (Some g) (Some m) (Some h) i s e = at_most-trans m l h s (at_most-trans l g h i e)

-- ---- the join

pub within-join-left : (a b c : Bounds) → IsWithin a b → IsWithin a (join b c)
within-join-left a b c e =
    let w = within a b e in
    from_within a (join b c) (record {
      null = λ h. or_left _ _ (w.null h);
      value = λ h. or_left _ _ (w.value h);
      starts = λ h. starts-joined-left b.value c.value a.least b.least c.least (w.value h) (w.starts h);
      ends = λ h. ends-joined-left b.value c.value a.greatest b.greatest c.greatest (w.value h) (w.ends h);
    })

pub within-join-right : (a b c : Bounds) → IsWithin a c → IsWithin a (join b c)
within-join-right a b c e =
    let w = within a c e in
    from_within a (join b c) (record {
      null = λ h. or_right _ _ (w.null h);
      value = λ h. or_right _ _ (w.value h);
      starts = λ h. starts-joined-right b.value c.value a.least b.least c.least (w.value h) (w.starts h);
      ends = λ h. ends-joined-right b.value c.value a.greatest b.greatest c.greatest (w.value h) (w.ends h);
    })

pub join-around-left : (a b : Bounds) → IsProper a → IsWithin a (join a b)
join-around-left a b p = within-join-left a a b (within-refl a p)

pub join-around-right : (a b : Bounds) → IsProper b → IsWithin b (join a b)
join-around-right a b p = within-join-right b a b (within-refl b p)

pub join-within : (a b c : Bounds) → IsWithin a c → IsWithin b c → IsWithin (join a b) c
join-within a b c e f =
    let w = within a c e in
    let x = within b c f in
    from_within (join a b) c (record {
      null = λ h. at_either a.null b.null h w.null x.null;
      value = λ h. at_either a.value b.value h w.value x.value;
      starts = λ h. joined-starts a.value b.value a.least b.least c.least h w.starts x.starts;
      ends = λ h. joined-ends a.value b.value a.greatest b.greatest c.greatest h w.ends x.ends;
    })

pub join-mono : (a a' b b' : Bounds) → IsWithin a a' → IsWithin b b' → IsWithin (join a b) (join a' b')
join-mono a a' b b' e f = join-within a b (join a' b') (within-join-left a a' b' e) (within-join-right b a' b' f)

pub join-proper : (a b : Bounds) → IsProper a → IsProper b → IsProper (join a b)
join-proper a b p q = implied _ _ (λ h. at_either a.value b.value h
    (λ t. let i = implies _ _ p t in interval-wider a.least a.greatest _ _ i
    (starts-joined-left a.value b.value a.least a.least b.least t (starts-own a.least a.greatest i))
    (ends-joined-left a.value b.value a.greatest a.greatest b.greatest t (ends-own a.least a.greatest i)))
    (λ t. let i = implies _ _ q t in interval-wider b.least b.greatest _ _ i
    (starts-joined-right a.value b.value b.least a.least b.least t (starts-own b.least b.greatest i))
    (ends-joined-right a.value b.value b.greatest a.greatest b.greatest t (ends-own b.least b.greatest i))))

-- ---- the meet

pub proper-proper : (b : Bounds) → IsProper (proper b)
proper-proper b = implied (proper b).value (is_interval b.least b.greatest) (λ h. (and_parts b.value (is_interval b.least b.greatest) h).1)

pub meet-proper : (a b : Bounds) → IsProper (meet a b)
meet-proper a b = proper-proper (bounds (a.null && b.null)
    (a.value && (b.value && (are_comparable a.least b.least && are_comparable a.greatest b.greatest)))
    (known_or_both higher a.least b.least) (known_or_both lower a.greatest b.greatest))

-- where a meet has a value
record Met (a b : Bounds) : Type 0 where
  left : a.value ≡ true
  right : b.value ≡ true
  least : are_comparable a.least b.least ≡ true
  greatest : are_comparable a.greatest b.greatest ≡ true
  starts : starts_within (known_or_both higher a.least b.least) (known_or_both higher a.least b.least) ≡ true
  ends : ends_within (known_or_both lower a.greatest b.greatest) (known_or_both lower a.greatest b.greatest) ≡ true

met : (a b : Bounds) → (meet a b).value ≡ true → Met a b
met a b e =
    let p = and_parts _ _ e in
    let q = and_parts _ _ p.0 in
    let r = and_parts _ _ q.1 in
    let s = and_parts _ _ r.1 in
    let l = known_or_both higher a.least b.least in
    let g = known_or_both lower a.greatest b.greatest in
    record { left = q.0; right = r.0; least = s.0; greatest = s.1; starts = starts-own l g p.1; ends = ends-own l g p.1 }

pub meet-within-left : (a b : Bounds) → IsWithin (meet a b) a
meet-within-left a b = from_within (meet a b) a (record {
  null = λ h. (and_parts _ _ h).0;
  value = λ h. (met a b h).left;
  starts = λ h. met-starts-left a.least b.least (met a b h).least (met a b h).starts;
  ends = λ h. met-ends-left a.greatest b.greatest (met a b h).greatest (met a b h).ends;
})

pub meet-within-right : (a b : Bounds) → IsWithin (meet a b) b
meet-within-right a b = from_within (meet a b) b (record {
  null = λ h. (and_parts _ _ h).1;
  value = λ h. (met a b h).right;
  starts = λ h. met-starts-right a.least b.least (met a b h).least (met a b h).starts;
  ends = λ h. met-ends-right a.greatest b.greatest (met a b h).greatest (met a b h).ends;
})

pub within-meet : (a b c : Bounds) → IsProper a → IsWithin a b → IsWithin a c → IsWithin a (meet b c)
within-meet a b c p e f =
    let w = within a b e in
    let x = within a c f in
    from_within a (meet b c) (record {
      null = λ h. and_from _ _ (w.null h) (x.null h);
      value = λ h. and_from _ _
          (and_from _ _ (w.value h) (and_from _ _ (x.value h) (and_from _ _ (least_comparable a.least b.least c.least (w.starts h) (x.starts h)) (greatest_comparable a.greatest b.greatest c.greatest (w.ends h) (x.ends h)))))
          (interval-wider a.least a.greatest _ _ (implies _ _ p h) (starts-met a.least b.least c.least (w.starts h) (x.starts h)) (ends-met a.greatest b.greatest c.greatest (w.ends h) (x.ends h)));
      starts = λ h. starts-met a.least b.least c.least (w.starts h) (x.starts h);
      ends = λ h. ends-met a.greatest b.greatest c.greatest (w.ends h) (x.ends h);
    })

pub meet-mono : (a a' b b' : Bounds) → IsWithin a a' → IsWithin b b' → IsWithin (meet a b) (meet a' b')
meet-mono a a' b b' e f = within-meet (meet a b) a' b' (meet-proper a b) (within-trans (meet a b) a a' (meet-within-left a b) e) (within-trans (meet a b) b b' (meet-within-right a b) f)

-- ---- values within both, or within one

pub contains-join-left : (a b : Bounds) (v : Datum) → Contains a v → Contains (join a b) v
contains-join-left a b v h = exactly-in (join a b) v (within-join-left (exactly v) a b (exactly-within a v h))

pub contains-join-right : (a b : Bounds) (v : Datum) → Contains b v → Contains (join a b) v
contains-join-right a b v h = exactly-in (join a b) v (within-join-right (exactly v) a b (exactly-within b v h))

pub contains-meet : (a b : Bounds) (v : Datum) → Contains a v → Contains b v → Contains (meet a b) v
contains-meet a b v h k = exactly-in (meet a b) v (within-meet (exactly v) a b (exactly-proper v) (exactly-within a v h) (exactly-within b v k))
