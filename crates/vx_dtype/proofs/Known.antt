-- Names that fields have.
use Rattle.std.proofs.Common.{◌≡◌, List, [], ◌∷◌, refl, sym, ap, ◌∙◌, Bool, true, false}
use Rattle.std.specs.Prelude.{Option, Some, None, option_map, if◌then◌else◌, is_some, filter, cond, not, ◌||◌}
use Rattle.std.specs.Str.{bytes_eq}
use Rattle.std.proofs.lemmas.Bool.{or_right}
use Rattle.vx_dtype.specs.Types.{Name, LogicalType, Fields, no_field, field}
use Rattle.vx_dtype.specs.Fields.{field_type, field_names, is_among, first_missing, first_unknown}
use Rattle.vx_dtype.proofs.NameTests.{own_name}

-- a name is among those of the fields where there is a type of a field of that name
pub known_by_type : (a : Name) (fs : Fields) → is_among (field_names fs) a ≡ is_some (field_type a fs)
known_by_type a no_field = refl
known_by_type a (field b t fs) = go (bytes_eq a b) (known_by_type a fs)
  where
    go : (c : Bool) → is_among (field_names fs) a ≡ is_some (field_type a fs) → (c || is_among (field_names fs) a) ≡ is_some (if c then Some t else field_type a fs)
    go true h = refl
    go false h = h

-- what was found of a field tells whether the name is among those of the fields
pub known_found : {T : Type 0} (seen : T → LogicalType) (found : Option T) (a : Name) (fs : Fields) → option_map seen found ≡ field_type a fs → is_some found ≡ is_among (field_names fs) a
known_found seen None a fs e = ap is_some e ∙ sym (known_by_type a fs)
known_found seen (Some t) a fs e = ap is_some e ∙ sym (known_by_type a fs)

-- where none is missing the first isn't, and of the others none is
first_there : (a : Name) (names available : List Name) → first_missing available (a ∷ names) ≡ None → (is_among available a ≡ true) × (first_missing available names ≡ None)
first_there a names available e = go (is_among available a) refl e
  where
    go : (c : Bool) → is_among available a ≡ c → cond (not c) (Some a) (first_missing available names) ≡ None → (is_among available a ≡ true) × (first_missing available names ≡ None)
    go true q e = (q, e)
    go false q e = cc

pub known_first : (a : Name) (names : List Name) (fs : Fields) → first_unknown (a ∷ names) fs ≡ None → (is_some (field_type a fs) ≡ true) × (first_unknown names fs ≡ None)
known_first a names fs e = let k = first_there a names (field_names fs) e in (sym (known_by_type a fs) ∙ k.0, k.1)

missing-filter : (p : Name → Bool) (names available : List Name) → first_missing available names ≡ None → first_missing available (filter p names) ≡ None
missing-filter p [] available e = refl
missing-filter p (a ∷ names) available e =
    let k = first_there a names available e in
    go (p a) k.0 (missing-filter p names available k.1)
  where
    go : (c : Bool) → is_among available a ≡ true → first_missing available (filter p names) ≡ None → first_missing available (cond c (a ∷ filter p names) (filter p names)) ≡ None
    go true s r = rw s r
    go false s r = r

pub first_unknown-filter : (p : Name → Bool) (names : List Name) (fs : Fields) → first_unknown names fs ≡ None → first_unknown (filter p names) fs ≡ None
first_unknown-filter p names fs e = missing-filter p names (field_names fs) e

missing-more : (names : List Name) (b : Name) (available : List Name) → first_missing available names ≡ None → first_missing (b ∷ available) names ≡ None
missing-more [] b available e = refl
missing-more (a ∷ names) b available e =
    let k = first_there a names available e in
    let here : is_among (b ∷ available) a ≡ true = or_right _ _ k.0 in
    rw here (missing-more names b available k.1)

missing-own : (names : List Name) → first_missing names names ≡ None
missing-own [] = refl
missing-own (a ∷ names) = rw (own_name a) (missing-more names a names (missing-own names))

pub first_unknown-own : (fs : Fields) → first_unknown (field_names fs) fs ≡ None
first_unknown-own fs = missing-own (field_names fs)
