-- Fields of a projection: the first of each of its names.
use Rattle.std.proofs.Common.{◌≡◌, List, [], ◌∷◌, refl, sym, ap, ◌∙◌, Bool, true, false, ◌||◌, Option, Some, None}
use Rattle.std.specs.Prelude.{is_some}
use Rattle.std.specs.List.{list_any}
use Rattle.std.specs.Str.{bytes_eq}
use Rattle.vx_dtype.proofs.Known.{known_first}
use Rattle.vx_dtype.proofs.NameTests.{same_name}
use Rattle.vx_value.specs.Fields.{field_type, field_value, first_unknown, is_among, project, project_values, put_field}
use Rattle.vx_value.specs.Types.{Name, LogicalType, Fields, Data, datum}

-- a projection has the type of the first field of each of its names
pub project-type : (b : Name) (names : List Name) (fs : Fields) → first_unknown names fs ≡ None → is_among names b ≡ true → field_type b (project names fs) ≡ field_type b fs
project-type b [] fs k m = cc
project-type b (a ∷ names) fs k m =
    let x = known_first a names fs k in
    go (field_type a fs) refl x.0 (bytes_eq b a) refl m (project-type b names fs x.1)
  where
    go : (o : Option LogicalType) → field_type a fs ≡ o → is_some o ≡ true → (c : Bool) → bytes_eq b a ≡ c → (c || list_any (bytes_eq b) names) ≡ true → (is_among names b ≡ true → field_type b (project names fs) ≡ field_type b fs) → field_type b (put_field a o (project names fs)) ≡ field_type b fs
    go None q h c d m r = cc
    go (Some t) q h true d m r = let y : b ≡ a = same_name b a d in rw d (sym q ∙ ap (λ z. field_type z fs) (sym y))
    go (Some t) q h false d m r = rw d (r m)

-- and its value
pub project-value : (b : Name) (names : List Name) (fs : Fields) (vs : Data) → first_unknown names fs ≡ None → is_among names b ≡ true → field_value b (project names fs) (project_values names fs vs) ≡ field_value b fs vs
project-value b [] fs vs k m = cc
project-value b (a ∷ names) fs vs k m =
    let x = known_first a names fs k in
    go (field_type a fs) refl x.0 (bytes_eq b a) refl m (project-value b names fs vs x.1)
  where
    go : (o : Option LogicalType) → field_type a fs ≡ o → is_some o ≡ true → (c : Bool) → bytes_eq b a ≡ c → (c || list_any (bytes_eq b) names) ≡ true → (is_among names b ≡ true → field_value b (project names fs) (project_values names fs vs) ≡ field_value b fs vs) → field_value b (put_field a o (project names fs)) (datum (field_value a fs vs) (project_values names fs vs)) ≡ field_value b fs vs
    go None q h c d m r = cc
    go (Some t) q h true d m r = let y : b ≡ a = same_name b a d in rw d (ap (λ z. field_value z fs vs) (sym y))
    go (Some t) q h false d m r = rw d (r m)

-- and no other field
pub project-missing : (b : Name) (names : List Name) (fs : Fields) → is_among names b ≡ false → field_type b (project names fs) ≡ None
project-missing b [] fs m = refl
project-missing b (a ∷ names) fs m = go (field_type a fs) (bytes_eq b a) refl m (project-missing b names fs)
  where
    go : (o : Option LogicalType) (c : Bool) → bytes_eq b a ≡ c → (c || list_any (bytes_eq b) names) ≡ false → (is_among names b ≡ false → field_type b (project names fs) ≡ None) → field_type b (put_field a o (project names fs)) ≡ None
    go o true d m r = cc
    go None false d m r = r m
    go (Some t) false d m r = rw d (r m)
