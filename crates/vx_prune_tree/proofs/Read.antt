-- What is read off rows.
use Rattle.std.proofs.Common.{◌≡◌, ℕ, ◌+◌, ◌<◌, ◌≤◌, Bool, true, false, List, [], ◌∷◌, ◌++◌, length, get_or, take, map, Option, Some, None, refl, sym, ap, ◌∙◌, subst, add-zero, arith}
use Rattle.std.specs.Prelude.{count_by}
use Rattle.std.proofs.lemmas.List.{take_more, map-append, append-nil, length-map, length-take, take_all}
use Rattle.std.proofs.lemmas.List.Sums.{fold-append, sum_by-append, count_by-le-length}
use Rattle.std.proofs.lemmas.List.Elements.{filter-append}
use Rattle.vx_value.specs.Types.{Datum, is_null_datum}
use Rattle.vx_value.specs.Views.{value_of}
use Rattle.vx_value.specs.declared.value.Value.{Value}
use Rattle.vx_prune_bounds.specs.Order.{comparable, lower, higher}
use Rattle.vx_prune_tree.specs.declared.ends.Ends.{Ends}
use Rattle.vx_prune_tree.specs.Ends.{AreEnds}
use Rattle.vx_prune_tree.specs.Lent.{at_places, lent_value}
use Rattle.vx_prune_tree.specs.Reading.{not_nulls, next_end, end_of, unless_null}

-- ---- ends of one more value

pub end_of-append : (f : Datum → Datum → Option Datum) (v : Datum) (vs : List Datum) (w : Datum) → end_of f (v ∷ vs ++ w ∷ []) ≡ next_end f (end_of f (v ∷ vs)) w
end_of-append f v vs w = fold-append (next_end f) (comparable v) vs (w ∷ [])

pub first_ends : (e : Ends) (w : Datum) (vs : List Datum) → lent_value e.least ≡ comparable w → lent_value e.greatest ≡ comparable w → vs ≡ [] → AreEnds (Some e) (vs ++ w ∷ [])
first_ends e w [] l g h = (l, g)
first_ends e w (v ∷ vs) l g h = cc

pub next_ends : (e n : Ends) (w : Datum) (vs : List Datum) → lent_value n.least ≡ next_end lower (lent_value e.least) w → lent_value n.greatest ≡ next_end higher (lent_value e.greatest) w →
    AreEnds (Some e) vs → AreEnds (Some n) (vs ++ w ∷ [])
next_ends e n w [] l g h = elim h [ ]
next_ends e n w (v ∷ vs) l g h =
    (l ∙ ap (λ x. next_end lower x w) h.0 ∙ sym (end_of-append lower v vs w), g ∙ ap (λ x. next_end higher x w) h.1 ∙ sym (end_of-append higher v vs w))

-- ---- one more row

-- the values of the rows at the places
abbrev pub values_at : List ℕ → List Value → List Datum
values_at places rows = map (at_places places) (map value_of rows)

pub values_at-more : (places : List ℕ) (rows : List Value) (i : ℕ) (row : Value) → i < length rows → row ≡ get_or rows i row → values_at places (take (i + 1) rows) ≡ values_at places (take i rows) ++ at_places places (value_of row) ∷ []
values_at-more places rows i row h e =
    ap (values_at places) (take_more rows i row h)
    ∙ ap (map (at_places places)) (map-append value_of (take i rows) (get_or rows i row ∷ []))
    ∙ map-append (at_places places) (map value_of (take i rows)) (value_of (get_or rows i row) ∷ [])
    ∙ ap (λ (x : Value). values_at places (take i rows) ++ at_places places (value_of x) ∷ []) (sym e)

null-known : (v : Datum) → None ≡ unless_null v → is_null_datum v ≡ true
null-known v e = go (is_null_datum v) refl
  where
    go : (b : Bool) → is_null_datum v ≡ b → b ≡ true
    go true h = refl
    go false h = let s : unless_null v ≡ Some v = rw h refl in cc

value-known : (v w : Datum) → Some w ≡ unless_null v → (is_null_datum v ≡ false) × (w ≡ v)
value-known v w e = go (is_null_datum v) refl
  where
    go : (b : Bool) → is_null_datum v ≡ b → (b ≡ false) × (w ≡ v)
    go true h = let s : unless_null v ≡ None = rw h refl in cc
    go false h = let s : unless_null v ≡ Some v = rw h refl in (refl, cc)

-- one more null
pub nulls-more : (vs : List Datum) (v : Datum) → is_null_datum v ≡ true → count_by is_null_datum (vs ++ v ∷ []) ≡ count_by is_null_datum vs + 1
nulls-more vs v h = sum_by-append _ vs (v ∷ []) ∙ rw h refl

pub not_nulls-same : (vs : List Datum) (v : Datum) → is_null_datum v ≡ true → not_nulls (vs ++ v ∷ []) ≡ not_nulls vs
not_nulls-same vs v h =
    let none : not_nulls (v ∷ []) ≡ [] = rw h refl in
    filter-append _ vs (v ∷ []) ∙ ap (λ (r : List Datum). not_nulls vs ++ r) none ∙ append-nil (not_nulls vs)

-- one more of the others
pub nulls-same : (vs : List Datum) (v : Datum) → is_null_datum v ≡ false → count_by is_null_datum (vs ++ v ∷ []) ≡ count_by is_null_datum vs
nulls-same vs v h =
    let none : count_by is_null_datum (v ∷ []) ≡ 0 = rw h refl in
    sum_by-append _ vs (v ∷ []) ∙ ap (λ (n : ℕ). count_by is_null_datum vs + n) none ∙ add-zero (count_by is_null_datum vs)

pub not_nulls-more : (vs : List Datum) (v : Datum) → is_null_datum v ≡ false → not_nulls (vs ++ v ∷ []) ≡ not_nulls vs ++ v ∷ []
not_nulls-more vs v h =
    let one : not_nulls (v ∷ []) ≡ v ∷ [] = rw h refl in
    filter-append _ vs (v ∷ []) ∙ ap (λ (r : List Datum). not_nulls vs ++ r) one

-- what is found in values so far
pub record Scanned (n : ℕ) (e : Option Ends) (vs : List Datum) : Type 0 where
  pub nulls : n ≡ count_by is_null_datum vs
  pub ends : AreEnds e (not_nulls vs)

pub scanned-null : (n : ℕ) (e : Option Ends) (vs : List Datum) (v : Datum) → Scanned n e vs → None ≡ unless_null v → Scanned (n + 1) e (vs ++ v ∷ [])
scanned-null n e vs v s h =
    let null = null-known v h in
    record {
      nulls = ap (λ (k : ℕ). k + 1) s.nulls ∙ sym (nulls-more vs v null);
      ends = subst (AreEnds e) (sym (not_nulls-same vs v null)) s.ends;
    }

pub scanned-value : (n : ℕ) (e : Option Ends) (next : Ends) (vs : List Datum) (v w : Datum) → Scanned n e vs → Some w ≡ unless_null v → ((ws : List Datum) → AreEnds e ws → AreEnds (Some next) (ws ++ w ∷ [])) →
    Scanned n (Some next) (vs ++ v ∷ [])
scanned-value n e next vs v w s h more =
    let known = value-known v w h in
    record {
      nulls = s.nulls ∙ sym (nulls-same vs v known.0);
      ends = subst (AreEnds (Some next)) (ap (λ (x : Datum). not_nulls vs ++ x ∷ []) known.1 ∙ sym (not_nulls-more vs v known.0)) (more (not_nulls vs) s.ends);
    }

pub scanned-none : Scanned 0 None []
scanned-none = record { nulls = refl; ends = refl }

-- nulls are no more than rows
pub nulls-le : (places : List ℕ) (rows : List Value) (i : ℕ) (n : ℕ) (e : Option Ends) → Scanned n e (values_at places (take i rows)) → n ≤ i
nulls-le places rows i n e s =
    let few = count_by-le-length is_null_datum (values_at places (take i rows)) in
    let long : length (values_at places (take i rows)) ≡ length (take i rows) = length-map (map value_of (take i rows)) (at_places places) ∙ length-map (take i rows) value_of in
    omega (arith, s.nulls, length-take i rows)

pub scanned-all : (places : List ℕ) (rows : List Value) (i : ℕ) (n : ℕ) (e : Option Ends) → length rows ≤ i → Scanned n e (values_at places (take i rows)) → Scanned n e (map (at_places places) (map value_of rows))
scanned-all places rows i n e h s = subst (λ (rs : List Value). Scanned n e (values_at places rs)) (take_all i rows h) s
