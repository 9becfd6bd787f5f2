-- Types in a notation: the fields of a struct, one at a time, and the text of a type as one of the notations.
use Rattle.std.proofs.Common.{◌≡◌, ℕ, ◌+◌, ◌<◌, ◌≤◌, List, [], ◌++◌, length, get_or, drop, codes, refl, sym, ap, ◌∙◌}
use Rattle.std.specs.Prelude.{◌==◌, if◌then◌else◌}
use Rattle.std.specs.Fmt.{decimal}
use Rattle.vx_dtype.specs.declared.dtype.DType.{DType}
use Rattle.vx_dtype.specs.Types.{Name, LogicalType, ty, Shape, atomic, list, fixed, struct, Fields, no_field, field, shape_of, is_nullable}
use Rattle.vx_dtype.specs.Fields.{field_count}
use Rattle.vx_dtype.specs.Notations.{type_in, shape_in, fields_in}
use Rattle.vx_dtype.specs.Texts.{with_commas, mark, type_text, shape_text, field_texts}
use Rattle.vx_dtype.specs.Views.{type_of, fields_view}
use Rattle.vx_dtype.proofs.Commas.{behind, written_next, written_all}
use Rattle.vx_dtype.proofs.Pairs.{fields_next, fields_end}

-- the text of a type is that of its shape, and the mark behind it
pub marked_shape : (named : Name → List ℕ) (t : LogicalType) → shape_in named (shape_of t) ++ mark (is_nullable t) ≡ type_in named t
marked_shape named (ty s n) = refl

-- ---- the fields of a struct

-- the texts of the fields from the i-th on
abbrev pub fields_from : (Name → List ℕ) → ℕ → List Name → List DType → List (List ℕ)
fields_from named i names types = fields_in named (fields_view (drop i names) (drop i types))

pub fields_in_next : (named : Name → List ℕ) (names : List Name) (types : List DType) (i : ℕ) (a : Name) (t : DType) (done separator all : List ℕ) → i < length names → i < length types
    → a ≡ get_or names i a → t ≡ get_or types i t → separator ≡ (if i == 0 then [] else codes ", ")
    → done ++ behind i (fields_from named i names types) ≡ all
    → ((done ++ separator) ++ (named a ++ (codes "=" ++ type_in named (type_of t)))) ++ behind (i + 1) (fields_from named (i + 1) names types) ≡ all
fields_in_next named names types i a t done separator all h k p q s e =
    let here = ap (λ fs. done ++ behind i (fields_in named fs)) (fields_next names types i a t h k p q) in
    written_next i done separator _ all _ s (sym here ∙ e)

pub fields_in_all : (named : Name → List ℕ) (names : List Name) (types : List DType) (i : ℕ) (done all : List ℕ) → field_count (fields_view names types) ≤ i
    → done ++ behind i (fields_from named i names types) ≡ all → done ≡ all
fields_in_all named names types i done all h e =
    written_all i done all (ap (λ fs. done ++ behind i (fields_in named fs)) (sym (fields_end names types i h)) ∙ e)

-- ---- names as they stand

mutual
  pub type_as_text : (t : LogicalType) → type_in (λ a. a) t ≡ type_text t
  type_as_text (ty s n) = ap (λ c. c ++ mark n) (shape_as_text s)

  shape_as_text : (s : Shape) → shape_in (λ a. a) s ≡ shape_text s
  shape_as_text (atomic p) = refl
  shape_as_text (list t) = ap (λ c. codes "list(" ++ (c ++ codes ")")) (type_as_text t)
  shape_as_text (fixed t k) = ap (λ c. codes "fixed_size_list(" ++ (c ++ (codes ")[" ++ (decimal k ++ codes "]")))) (type_as_text t)
  shape_as_text (struct fs) = ap (λ cs. codes "{" ++ (with_commas cs ++ codes "}")) (fields_as_texts fs)

  fields_as_texts : (fs : Fields) → fields_in (λ a. a) fs ≡ field_texts fs
  fields_as_texts no_field = refl
  fields_as_texts (field a t fs) = rw (type_as_text t, fields_as_texts fs) refl
