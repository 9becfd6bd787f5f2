-- The columns that are read, one after another.
use Rattle.std.proofs.Common.{◌≡◌, inl, inr, ℕ, ◌+◌, ◌<◌, ◌≤◌, Bool, List, [], ◌∷◌, ◌++◌, length, get_or, drop, Option, Some, None, refl, sym, ap, ◌∙◌, map, filter, append_assoc, append-nil}
use Rattle.std.specs.Option.{option_map, option_or}
use Rattle.std.proofs.lemmas.List.{map-append, drop_more, drop_all}
use Rattle.std.proofs.lemmas.List.Elements.{filter-append}
use Rattle.vx_value.specs.Types.{Name}
use Rattle.vx_tree.proofs.Trees.{or_none}
use Rattle.vx_sql.specs.declared.dialect.Dialect.{Dialect}
use Rattle.vx_sql.specs.Quotes.{name_sql}
use Rattle.vx_sql.specs.Reasons.{name_reason}
use Rattle.vx_sql_plan.specs.declared.refusal.NoStatement.{NoStatement}
use Rattle.vx_sql_plan.specs.declared.refusal.NoStatement.TheVariants.{Column}
use Rattle.vx_sql_plan.specs.Statements.{column_refusal, IsRefusalOf}

-- ---- refusals of some columns and others

refusal_told : (d : Dialect) (all xs ys : List Name) (e : NoStatement) → column_refusal d all xs ≡ Some e → column_refusal d all (xs ++ ys) ≡ Some e
refusal_told d all [] ys e h = cc
refusal_told d all (a ∷ xs) ys e h = by (option_map (Column a) (name_reason d all a)) refl (refusal_told d all xs ys e) where
  by : (o : Option NoStatement) → option_map (Column a) (name_reason d all a) ≡ o → (column_refusal d all xs ≡ Some e → column_refusal d all (xs ++ ys) ≡ Some e) → column_refusal d all ((a ∷ xs) ++ ys) ≡ Some e
  by None k more = ap (λ o. option_or o (column_refusal d all (xs ++ ys))) k ∙ more (sym (ap (λ o. option_or o (column_refusal d all xs)) k) ∙ h)
  by (Some first) k more = ap (λ o. option_or o (column_refusal d all (xs ++ ys))) k ∙ sym (ap (λ o. option_or o (column_refusal d all xs)) k) ∙ h

refusal_past : (d : Dialect) (all xs ys : List Name) → column_refusal d all xs ≡ None → column_refusal d all (xs ++ ys) ≡ column_refusal d all ys
refusal_past d all [] ys h = refl
refusal_past d all (a ∷ xs) ys h =
    let parts = or_none (option_map (Column a) (name_reason d all a)) (column_refusal d all xs) h in
    ap (λ o. option_or o (column_refusal d all (xs ++ ys))) parts.0 ∙ refusal_past d all xs ys parts.1

-- ---- one name more

next_read : (p : Name → Bool) (names : List Name) (i : ℕ) (a : Name) → i < length names → a ≡ get_or names i a → filter p (drop i names) ≡ filter p (a ∷ []) ++ filter p (drop (i + 1) names)
next_read p names i a h is = ap (filter p) (drop_more names i a h ∙ ap (λ x. x ∷ drop (i + 1) names) (sym is)) ∙ filter-append p (a ∷ []) (drop (i + 1) names)

-- what is still to be said of the names from the index on
pub record Turn (d : Dialect) (p : Name → Bool) (names : List Name) (i : ℕ) (texts : List (List ℕ)) : Type 0 where
  pub refusal : column_refusal d names (filter p (drop i names)) ≡ column_refusal d names (filter p names)
  pub written : texts ++ map (name_sql d) (filter p (drop i names)) ≡ map (name_sql d) (filter p names)

pub turn_start : (d : Dialect) (p : Name → Bool) (names : List Name) (texts : List (List ℕ)) → texts ≡ [] → Turn d p names 0 texts
turn_start d p names texts is = record { refusal = refl; written = ap (λ x. x ++ map (name_sql d) (filter p names)) is }

pub turn_next : (d : Dialect) (p : Name → Bool) (names : List Name) (i : ℕ) (a : Name) (old new : List (List ℕ)) → i < length names → a ≡ get_or names i a
    → column_refusal d names (filter p (a ∷ [])) ≡ None → new ≡ old ++ map (name_sql d) (filter p (a ∷ [])) → Turn d p names i old → Turn d p names (i + 1) new
turn_next d p names i a old new h is none more t =
    let here = next_read p names i a h is in
    let this = filter p (a ∷ []) in
    let behind = filter p (drop (i + 1) names) in
    record {
      refusal = sym (refusal_past d names this behind none) ∙ ap (column_refusal d names) (sym here) ∙ t.refusal;
      written =
          ap (λ x. x ++ map (name_sql d) behind) more ∙ append_assoc old (map (name_sql d) this) (map (name_sql d) behind)
          ∙ ap (λ x. old ++ x) (sym (map-append (name_sql d) this behind) ∙ ap (map (name_sql d)) (sym here))
          ∙ t.written;
    }

pub turn_told : (d : Dialect) (p : Name → Bool) (names : List Name) (i : ℕ) (a : Name) (texts : List (List ℕ)) (e : NoStatement) → i < length names → a ≡ get_or names i a
    → IsRefusalOf (column_refusal d names (filter p (a ∷ []))) e → Turn d p names i texts → IsRefusalOf (column_refusal d names (filter p names)) e
turn_told d p names i a texts e h is (inl memory) t = inl memory
turn_told d p names i a texts e h is (inr told) t =
    inr (sym t.refusal ∙ ap (column_refusal d names) (next_read p names i a h is) ∙ refusal_told d names (filter p (a ∷ [])) (filter p (drop (i + 1) names)) e told)

pub turn_end : (d : Dialect) (p : Name → Bool) (names : List Name) (i : ℕ) (texts : List (List ℕ)) → length names ≤ i → Turn d p names i texts
    → (column_refusal d names (filter p names) ≡ None) × (texts ≡ map (name_sql d) (filter p names))
turn_end d p names i texts h t =
    let none = ap (filter p) (drop_all i names h) in (
      sym t.refusal ∙ ap (column_refusal d names) none,
      sym (append-nil texts) ∙ ap (λ x. texts ++ map (name_sql d) x) (sym none) ∙ t.written,
    )
