-- Names and types side by side, one field at a time.
use Rattle.std.proofs.Common.{◌≡◌, ◌≢◌, ℕ, ◌+◌, ◌<◌, ◌≤◌, min, List, [], ◌∷◌, length, get_or, drop, take, drop-cons, drop_of_length-le, add-one, ◌⊎◌, inl, inr, ⊎_elim, refl, sym, ap, ◌∙◌, arith, true, false, Bool}
use Rattle.std.specs.Prelude.{◌&&◌, not}
use Rattle.std.proofs.lemmas.Bool.{cases_lt}
use Rattle.std.specs.Str.{bytes_eq}
use Rattle.vx_dtype.specs.declared.dtype.DType.{DType}
use Rattle.vx_dtype.specs.Types.{Name, Fields, no_field, field}
use Rattle.vx_dtype.specs.Joins.{same_base, same_base_fields}
use Rattle.vx_dtype.specs.Fields.{fields_named, field_count, field_names}
use Rattle.vx_dtype.specs.Equality.{equal_type, equal_fields}
use Rattle.vx_dtype.specs.Views.{type_of, fields_view}
use Rattle.vx_dtype.specs.Hashes.{fields_fed}
use Rattle.std.specs.Hash as fed
use Rattle.std.proofs.Math.Bool.{and-false}

pub fields_step : (names : List Name) (types : List DType) (i : ℕ) (a : Name) (t : DType) → i < length names → i < length types
    → t ≡ get_or types i t
    → fields_view (drop i names) (drop i types) ≡ field (get_or names i a) (type_of t) (fields_view (drop (i + 1) names) (drop (i + 1) types))
fields_step names types i a t h k q = rw (add-one, drop-cons names i a h, drop-cons types i t k, ← q)

pub fields_next : (names : List Name) (types : List DType) (i : ℕ) (a : Name) (t : DType) → i < length names → i < length types
    → a ≡ get_or names i a → t ≡ get_or types i t
    → fields_view (drop i names) (drop i types) ≡ field a (type_of t) (fields_view (drop (i + 1) names) (drop (i + 1) types))
fields_next names types i a t h k p q = fields_step names types i a t h k q ∙ rw (← p)

no_types_no_field : (names : List Name) → fields_named names [] ≡ no_field
no_types_no_field [] = refl
no_types_no_field (a ∷ names) = refl

pub field_count_view : (names : List Name) (types : List DType) → field_count (fields_view names types) ≡ min (length names) (length types)
field_count_view [] types = omega arith
field_count_view (a ∷ names) [] = omega arith
field_count_view (a ∷ names) (t ∷ types) = let e = field_count_view names types in omega arith

pub min_cases : (m n i : ℕ) → min m n ≤ i → (m ≤ i) ⊎ (n ≤ i)
min_cases m n i h = ⊎_elim (λ (a : m < n). inl (omega arith)) (λ (b : n ≤ m). inr (omega arith)) (cases_lt m n)

pub fields_end : (names : List Name) (types : List DType) (i : ℕ) → field_count (fields_view names types) ≤ i → fields_view (drop i names) (drop i types) ≡ no_field
fields_end names types i h =
    let e = field_count_view names types in
    ⊎_elim (λ (a : length names ≤ i). rw (drop_of_length-le names a)) (λ (b : length types ≤ i). rw (drop_of_length-le types b) (no_types_no_field _))
    (min_cases (length names) (length types) i (omega arith))

pub equal_fields_count : (fs gs : Fields) → field_count fs ≢ field_count gs → false ≡ equal_fields fs gs
equal_fields_count no_field no_field h = absurd (h refl)
equal_fields_count no_field (field b u gs) h = refl
equal_fields_count (field a t fs) no_field h = refl
equal_fields_count (field a t fs) (field b u gs) h = rw (← equal_fields_count fs gs (λ e. h (ap (λ n. n + 1) e)), and-false, and-false)

pub same_base_fields_count : (fs gs : Fields) → field_count fs ≢ field_count gs → false ≡ same_base_fields fs gs
same_base_fields_count no_field no_field h = absurd (h refl)
same_base_fields_count no_field (field b u gs) h = refl
same_base_fields_count (field a t fs) no_field h = refl
same_base_fields_count (field a t fs) (field b u gs) h = rw (← same_base_fields_count fs gs (λ e. h (ap (λ n. n + 1) e)), and-false)

-- ---- one field further

pub and_fails : {b d : Bool} (c : Bool) → false ≡ b → d ≡ (b && c) → false ≡ d
and_fails c p q = ap (λ x. x && c) p ∙ sym q

pub equal_fields_next : (names others : List Name) (types kinds : List DType) (i : ℕ) (a b : Name) (t u : DType) (all : Bool)
    → i < length names → i < length types → i < length others → i < length kinds
    → a ≡ get_or names i a → t ≡ get_or types i t → b ≡ get_or others i b → u ≡ get_or kinds i u
    → all ≡ equal_fields (fields_view (drop i names) (drop i types)) (fields_view (drop i others) (drop i kinds))
    → all
    ≡ (bytes_eq a b
    && (equal_type (type_of t) (type_of u) && equal_fields (fields_view (drop (i + 1) names) (drop (i + 1) types)) (fields_view (drop (i + 1) others) (drop (i + 1) kinds))))
equal_fields_next names others types kinds i a b t u all h k l m p q r s e =
    e ∙ rw (fields_next names types i a t h k p q, fields_next others kinds i b u l m r s)

pub equal_fields_end : (names others : List Name) (types kinds : List DType) (i : ℕ) → field_count (fields_view names types) ≤ i → field_count (fields_view others kinds) ≤ i
    → equal_fields (fields_view (drop i names) (drop i types)) (fields_view (drop i others) (drop i kinds)) ≡ true
equal_fields_end names others types kinds i h k = rw (fields_end names types i h, fields_end others kinds i k)

pub fields_fed_end : (names : List Name) (types : List DType) (i : ℕ) → field_count (fields_view names types) ≤ i → fields_fed (fields_view (drop i names) (drop i types)) ≡ fed.u8 0
fields_fed_end names types i h = rw (fields_end names types i h)

pub unequal : {r : Bool} (b : Bool) → r ≡ not b → r ≡ true → false ≡ b
unequal true p q = cc
unequal false p q = refl

pub equal : {r : Bool} (b : Bool) → r ≡ not b → r ≡ false → b ≡ true
equal true p q = refl
equal false p q = cc

pub and3_fails : {b d : Bool} (c e : Bool) → false ≡ b → d ≡ (b && c && e) → false ≡ d
and3_fails c e p q = ap (λ x. x && c && e) p ∙ sym q

pub same_base_fields_next : (names others : List Name) (types kinds : List DType) (i : ℕ) (a b : Name) (t u : DType) (all : Bool)
    → i < length names → i < length types → i < length others → i < length kinds
    → a ≡ get_or names i a → t ≡ get_or types i t → b ≡ get_or others i b → u ≡ get_or kinds i u
    → all ≡ same_base_fields (fields_view (drop i names) (drop i types)) (fields_view (drop i others) (drop i kinds))
    → all
    ≡ (bytes_eq a b && same_base (type_of t) (type_of u)
    && same_base_fields (fields_view (drop (i + 1) names) (drop (i + 1) types)) (fields_view (drop (i + 1) others) (drop (i + 1) kinds)))
same_base_fields_next names others types kinds i a b t u all h k l m p q r s e =
    e ∙ rw (fields_next names types i a t h k p q, fields_next others kinds i b u l m r s)

pub same_base_fields_end : (names others : List Name) (types kinds : List DType) (i : ℕ) → field_count (fields_view names types) ≤ i → field_count (fields_view others kinds) ≤ i
    → same_base_fields (fields_view (drop i names) (drop i types)) (fields_view (drop i others) (drop i kinds)) ≡ true
same_base_fields_end names others types kinds i h k = rw (fields_end names types i h, fields_end others kinds i k)

pub field_names_view : (names : List Name) (types : List DType) → field_names (fields_view names types) ≡ take (field_count (fields_view names types)) names
field_names_view [] types = refl
field_names_view (a ∷ names) [] = refl
field_names_view (a ∷ names) (t ∷ types) = ap (λ ns. a ∷ ns) (field_names_view names types) ∙ rw add-one
