-- A field found by the place of its name.
use Rattle.std.proofs.Common.{◌≡◌, ℕ, ◌+◌, suc, Bool, true, false, cond, List, length, [], ◌∷◌, ◌||◌, slice_get, position, Option, Some, None, is_some, option_map, refl, sym, ap, ◌∙◌, add-one, if◌then◌else◌, Bor}
use Rattle.std.specs.List.{list_any, position_from}
use Rattle.std.specs.Str.{bytes_eq}
use Rattle.std.specs.Slice.{IsItemAt}
use Rattle.std.proofs.lemmas.Bool.{ltb-true, ltb-false}
use Rattle.std.proofs.lemmas.Option.{slice_get_past, slice_get_read}
use Rattle.std.proofs.lemmas.Iterator.Adapters.{position_from-zero}
use Rattle.vx_dtype.specs.declared.dtype.DType.{DType}
use Rattle.vx_dtype.specs.Types.{Name, LogicalType}
use Rattle.vx_dtype.specs.Fields.{field_type, is_among}
use Rattle.vx_dtype.specs.Views.{type_of, fields_view}

module _ {X : Type 0} (test : X → Bool) where
  position_after : (k : ℕ) (xs : List X) → position_from test (k + 1) xs ≡ option_map suc (position_from test k xs)
  position_after k [] = refl
  position_after k (x ∷ xs) = by (test x) (position_after (k + 1) xs)
    where
      by : (b : Bool) → position_from test (k + 1 + 1) xs ≡ option_map suc (position_from test (k + 1) xs)
          → cond b (Some (k + 1)) (position_from test (k + 1 + 1) xs) ≡ option_map suc (cond b (Some k) (position_from test (k + 1) xs))
      by true rest = rw add-one
      by false rest = rest

  some_from : (k : ℕ) (xs : List X) → is_some (position_from test k xs) ≡ list_any test xs
  some_from k [] = refl
  some_from k (x ∷ xs) = by (test x) (some_from (k + 1) xs)
    where
      by : (b : Bool) → is_some (position_from test (k + 1) xs) ≡ list_any test xs → is_some (cond b (Some k) (position_from test (k + 1) xs)) ≡ b || list_any test xs
      by true rest = refl
      by false rest = rest

-- a name is among the names where it has a place
pub is_among_place : (a : Name) (names : List Name) → is_some (position (bytes_eq a) names) ≡ is_among names a
is_among_place a names = ap is_some (position_from-zero (bytes_eq a) names) ∙ some_from (bytes_eq a) 0 names

-- the type at the place, if there is one
abbrev pub type_at : Option ℕ → List DType → Option LogicalType
type_at None types = None
type_at (Some i) types = option_map type_of (slice_get types i)

type_at_none : (place : Option ℕ) → type_at place [] ≡ None
type_at_none None = refl
type_at_none (Some i) = refl

type_at_after : (place : Option ℕ) (t : DType) (types : List DType) → type_at (option_map suc place) (t ∷ types) ≡ type_at place types
type_at_after None t types = refl
type_at_after (Some i) t types = refl

found_from : (a : Name) (names : List Name) (types : List DType) → field_type a (fields_view names types) ≡ type_at (position_from (bytes_eq a) 0 names) types
found_from a [] types = refl
found_from a (b ∷ names) [] = sym (type_at_none (position_from (bytes_eq a) 0 (b ∷ names)))
found_from a (b ∷ names) (t ∷ types) = by (bytes_eq a b) (found_from a names types)
  where
    by : (same : Bool) → field_type a (fields_view names types) ≡ type_at (position_from (bytes_eq a) 0 names) types
        → (if same then Some (type_of t) else field_type a (fields_view names types)) ≡ type_at (cond same (Some 0) (position_from (bytes_eq a) 1 names)) (t ∷ types)
    by true rest = refl
    by false rest = rest ∙ sym (ap (λ place. type_at place (t ∷ types)) (position_after (bytes_eq a) 0 names) ∙ type_at_after (position_from (bytes_eq a) 0 names) t types)

-- the first field of a name is at the first place of the name
pub field_type_at : (a : Name) (names : List Name) (types : List DType) → type_at (position (bytes_eq a) names) types ≡ field_type a (fields_view names types)
field_type_at a names types = ap (λ place. type_at place types) (position_from-zero (bytes_eq a) names) ∙ sym (found_from a names types)

-- what `get` lends of the types is what stands at the place
lent_at : (i : ℕ) (types : List DType) (found : Option (Bor DType)) → IsItemAt types i found → option_map (λ t. type_of t.now) found ≡ type_at (Some i) types
lent_at i types None h = sym (ap (option_map type_of) (slice_get_past types i (ltb-false i (length types) (sym h.0))))
lent_at i types (Some t) h = sym (ap (option_map type_of) (slice_get_read types (length types) i t.now refl (ltb-true i (length types) (sym h.0)) h.1))

module _ (a : Name) (names : List Name) (types : List DType) where
  pub field_there : (i : ℕ) (found : Option (Bor DType)) → Some i ≡ position (bytes_eq a) names → IsItemAt types i found
      → option_map (λ t. type_of t.now) found ≡ field_type a (fields_view names types)
  field_there i found place lent = lent_at i types found lent ∙ ap (λ p. type_at p types) place ∙ field_type_at a names types

  pub field_nowhere : None ≡ position (bytes_eq a) names → None ≡ field_type a (fields_view names types)
  field_nowhere place = ap (λ p. type_at p types) place ∙ field_type_at a names types
