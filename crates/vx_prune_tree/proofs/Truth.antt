-- What is read off rows is true of them.
use Rattle.std.proofs.Common.{◌≡◌, Bool, true, false, List, [], ◌∷◌, map, fold, Option, Some, None, refl, sym, ap, ◌∙◌}
use Rattle.std.specs.Prelude.{IfSome}
use Rattle.std.specs.List.{list_all, AllByRecursion}
use Rattle.std.proofs.lemmas.Bool.{and_parts, and_from}
use Rattle.vx_value.specs.Paths.{Path}
use Rattle.vx_value.specs.Types.{LogicalType, Datum, is_null_datum}
use Rattle.vx_prune_bounds.specs.Order.{at_most, comparable, lower, higher}
use Rattle.vx_prune_bounds.proofs.Ordered.{at_most-left, at_most-right, at_most-trans}
use Rattle.vx_prune_tree.specs.Stats.{FieldFacts, along, EachNullOr, AreTrueOf}
use Rattle.vx_prune_tree.specs.Reading.{not_nulls, next_end, end_of, facts_of, entry_along}
use Rattle.vx_prune_tree.specs.Laws.{ReadIsTrue}

-- r says that a value is an end of another
module _ (r : Datum → Datum → Bool) (f : Datum → Datum → Option Datum)
    (trans : (u v w : Datum) → r u v ≡ true → r v w ≡ true → r u w ≡ true)
    (picks : (v w x : Datum) → f v w ≡ Some x → (r x v ≡ true) × (r x w ≡ true) × (r x x ≡ true))
  where
    -- what is found so far is an end of itself
    abbrev Own : Option Datum → Type 0
    Own found = IfSome found (λ x. r x x ≡ true)

    -- the end of all is an end of what was found and of each value after it
    abbrev EndOf : Datum → Option Datum → List Datum → Type 0
    EndOf x None vs = ⊥
    EndOf x (Some v) vs = (r x v ≡ true) × (list_all (r x) vs ≡ true)

    next-own : (found : Option Datum) (w : Datum) → Own (next_end f found w)
    next-own None w = tt
    next-own (Some v) w = go (f v w) refl
      where
        go : (o : Option Datum) → f v w ≡ o → Own o
        go None e = tt
        go (Some x) e = (picks v w x e).2

    end_before : (found : Option Datum) (w x : Datum) (vs : List Datum) → EndOf x (next_end f found w) vs → EndOf x found (w ∷ vs)
    end_before None w x vs h = h
    end_before (Some v) w x vs h = go (f v w) refl h
      where
        go : (o : Option Datum) → f v w ≡ o → EndOf x o vs → EndOf x (Some v) (w ∷ vs)
        go None e h = elim h [ ]
        go (Some y) e h = let p = picks v w y e in (trans x y v h.0 p.0, and_from _ _ (trans x y w h.0 p.1) h.1)

    fold-end : (found : Option Datum) (vs : List Datum) (x : Datum) → Own found → fold (next_end f) found vs ≡ Some x → EndOf x found vs
    fold-end None [] x own e = cc
    fold-end (Some v) [] x own e = let same : v ≡ x = cc in (rw (← same) own, refl)
    fold-end found (w ∷ vs) x own e = end_before found w x vs (fold-end (next_end f found w) vs x (next-own found w) e)

    first-end : ((v : Datum) → at_most v v ≡ true → r v v ≡ true) → (v : Datum) (vs : List Datum) (x : Datum) → fold (next_end f) (comparable v) vs ≡ Some x → list_all (r x) (v ∷ vs) ≡ true
    first-end own v vs x e = go (at_most v v) refl
      where
        go : (b : Bool) → at_most v v ≡ b → list_all (r x) (v ∷ vs) ≡ true
        go true h =
            let one : comparable v ≡ Some v = rw h refl in
            let p = fold-end (Some v) vs x (own v h) (ap (λ (o : Option Datum). fold (next_end f) o vs) (sym one) ∙ e) in
            and_from _ _ p.0 p.1
        go false h =
            let none : comparable v ≡ None = rw h refl in
            elim (fold-end None vs x tt (ap (λ (o : Option Datum). fold (next_end f) o vs) (sym none) ∙ e)) [ ]

    end_of-each : ((v : Datum) → at_most v v ≡ true → r v v ≡ true) → (vs : List Datum) (x : Datum) → end_of f vs ≡ Some x → list_all (r x) vs ≡ true
    end_of-each own [] x e = refl
    end_of-each own (v ∷ vs) x e = first-end own v vs x e

    one_more : (test : Datum → Bool) (v : Datum) (vs : List Datum) → (list_all test (not_nulls vs) ≡ true → EachNullOr test vs) → list_all test (not_nulls (v ∷ vs)) ≡ true → EachNullOr test (v ∷ vs)
    one_more test v vs rest e = go (is_null_datum v) refl
      where
        go : (b : Bool) → is_null_datum v ≡ b → EachNullOr test (v ∷ vs)
        go true h = let q = rw h at e in rw h (rest q)
        go false h = let q = rw h at e in let p = and_parts _ _ q in rw h (and_from _ _ p.0 (rest p.1))

    each_null_or : (test : Datum → Bool) (vs : List Datum) → list_all test (not_nulls vs) ≡ true → EachNullOr test vs
    each_null_or test [] e = refl
    each_null_or test (v ∷ vs) e = one_more test v vs (each_null_or test vs) e

    pub end-true : ((v : Datum) → at_most v v ≡ true → r v v ≡ true) → (vs : List Datum) → IfSome (end_of f (not_nulls vs)) (λ x. EachNullOr (r x) vs)
    end-true own vs = go (end_of f (not_nulls vs)) refl
      where
        go : (o : Option Datum) → end_of f (not_nulls vs) ≡ o → IfSome o (λ x. EachNullOr (r x) vs)
        go None e = tt
        go (Some x) e = each_null_or (r x) vs (end_of-each own (not_nulls vs) x e)

lower-picks : (v w x : Datum) → lower v w ≡ Some x → (at_most x v ≡ true) × (at_most x w ≡ true) × (at_most x x ≡ true)
lower-picks v w x e = go (at_most v w) (at_most w v) refl refl
  where
    go : (a b : Bool) → at_most v w ≡ a → at_most w v ≡ b → (at_most x v ≡ true) × (at_most x w ≡ true) × (at_most x x ≡ true)
    go true b p q =
        let here : lower v w ≡ Some v = rw p refl in
        let same : v ≡ x = cc in
        let own = at_most-left v w p in
        rw (← same) (own, p, own)
    go false true p q =
        let here : lower v w ≡ Some w = rw (p, q) refl in
        let same : w ≡ x = cc in
        let own = at_most-left w v q in
        rw (← same) (q, own, own)
    go false false p q = let here : lower v w ≡ None = rw (p, q) refl in cc

higher-picks : (v w x : Datum) → higher v w ≡ Some x → (at_most v x ≡ true) × (at_most w x ≡ true) × (at_most x x ≡ true)
higher-picks v w x e = go (at_most v w) (at_most w v) refl refl
  where
    go : (a b : Bool) → at_most v w ≡ a → at_most w v ≡ b → (at_most v x ≡ true) × (at_most w x ≡ true) × (at_most x x ≡ true)
    go true b p q =
        let here : higher v w ≡ Some w = rw p refl in
        let same : w ≡ x = cc in
        let own = at_most-right v w p in
        rw (← same) (p, own, own)
    go false true p q =
        let here : higher v w ≡ Some v = rw (p, q) refl in
        let same : v ≡ x = cc in
        let own = at_most-right w v q in
        rw (← same) (own, q, own)
    go false false p q = let here : higher v w ≡ None = rw (p, q) refl in cc

pub facts_of-true : (vs : List Datum) → AreTrueOf (facts_of vs) vs
facts_of-true vs = record {
  nulls = refl;
  least = end-true at_most lower at_most-trans lower-picks (λ v e. e) vs;
  greatest = end-true (λ x v. at_most v x) higher (λ u v w p q. at_most-trans w v u q p) higher-picks (λ v e. e) vs;
}

entries-true : (t : LogicalType) (paths : List Path) (rows : List Datum) →
    AllByRecursion (λ (entry : Path × FieldFacts). AreTrueOf entry.1 (along t entry.0 rows)) (map (entry_along t rows) paths)
entries-true t [] rows = tt
entries-true t (path ∷ paths) rows = (facts_of-true (along t path rows), entries-true t paths rows)

pub read_is_true : ReadIsTrue
read_is_true t paths rows = record { count = refl; fields = entries-true t paths rows }
