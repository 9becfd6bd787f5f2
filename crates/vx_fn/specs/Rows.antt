-- The typing of a node as a relation: for each function the children's types it takes, and the type that it then has.
use Rattle.std.specs.Prelude.{◌≡◌, ℕ, ◌==◌, Bool, true, false, ◌&&◌, ◌||◌, IsTrue, List, [], ◌∷◌, length, Some, None, not}
use Rattle.std.specs.List.{list_all}
use Rattle.vx_value.specs.Types.{Name, same_ptype, same_float_type, Atomic, truth, number, floating, decimals, text, same_atomic, LogicalType, ty, Shape, atomic, list, struct, Fields, Datum, is_nullable, with_nullability}
use Rattle.vx_value.specs.Joins.{same_base, join, union_all}
use Rattle.vx_value.specs.Fields.{field_type, project, first_unknown, fields_named}
use Rattle.vx_floats.specs.declared.arithmetic.Arithmetic.{Arithmetic}
use Rattle.vx_dtype.specs.declared.dtype.PType.{PType}
use Rattle.vx_dtype.specs.declared.dtype.PType.TheVariants.{I64}
use Rattle.vx_dtype.specs.declared.float_type.FloatType.{FloatType}
use Rattle.vx_fn.specs.Functions.{Function, case_when, get_item, literal, pack, select, fill_null, zip, binary, logical_not, between, like, is_null, is_not_null, mask, cast, starts_with, byte_length, list_contains, compares, and_also, or_else, computes, is_additive, Comparison, selection_names, included, case_children, conditions, branches, is_truth}
use Rattle.vx_fn.specs.declared.options.FieldSelection.{FieldSelection}

-- a function over types of children, and the type that it then has
pub data FnType : Function → List LogicalType → LogicalType → Type 0 where
  of_case_else : {k : ℕ} {ts us : List LogicalType} {u w : LogicalType} → IsTrue (length ts == case_children k true) → IsTrue (not (k == 0)) → IsTrue (list_all is_truth (conditions ts)) → branches ts ≡ u ∷ us → union_all u us ≡ Some w → FnType (case_when k true) ts w
  of_case : {k : ℕ} {ts us : List LogicalType} {u w : LogicalType} → IsTrue (length ts == case_children k false) → IsTrue (not (k == 0)) → IsTrue (list_all is_truth (conditions ts)) → branches ts ≡ u ∷ us → union_all u us ≡ Some w → FnType (case_when k false) ts (with_nullability true w)
  of_get_item : {a : Name} {fs : Fields} {s : Shape} {n m : Bool} → field_type a fs ≡ Some (ty s m) → FnType (get_item a) (ty (struct fs) n ∷ []) (ty s (m || n))
  of_literal : {t : LogicalType} {v : Datum} → FnType (literal t v) [] t
  of_pack : {names : List Name} {n : Bool} {ts : List LogicalType} → IsTrue (length ts == length names) → FnType (pack names n) ts (ty (struct (fields_named names ts)) n)
  of_select : {sel : FieldSelection} {fs : Fields} {n : Bool} → first_unknown (selection_names sel) fs ≡ None → FnType (select sel) (ty (struct fs) n ∷ []) (ty (struct (project (included sel fs) fs)) n)
  of_fill_null : {t u : LogicalType} → IsTrue (same_base t u) → FnType fill_null (t ∷ u ∷ []) (with_nullability (is_nullable u) t)
  of_zip : {t u : LogicalType} {n : Bool} → IsTrue (same_base t u) → FnType zip (t ∷ u ∷ ty (atomic truth) n ∷ []) (join t u)
  of_comparison : {c : Comparison} {p q : Atomic} {n m : Bool} → IsTrue (same_atomic p q) → FnType (binary (compares c)) (ty (atomic p) n ∷ ty (atomic q) m ∷ []) (ty (atomic truth) (n || m))
  of_and : {n m : Bool} → FnType (binary and_also) (ty (atomic truth) n ∷ ty (atomic truth) m ∷ []) (ty (atomic truth) (n || m))
  of_or : {n m : Bool} → FnType (binary or_else) (ty (atomic truth) n ∷ ty (atomic truth) m ∷ []) (ty (atomic truth) (n || m))
  of_arithmetic : {a : Arithmetic} {p q : PType} {n m : Bool} → IsTrue (same_ptype p q) → FnType (binary (computes a)) (ty (atomic (number p)) n ∷ ty (atomic (number q)) m ∷ []) (ty (atomic (number p)) (n || m))
  of_float_arithmetic : {a : Arithmetic} {f g : FloatType} {n m : Bool} → IsTrue (same_float_type f g) → FnType (binary (computes a)) (ty (atomic (floating f)) n ∷ ty (atomic (floating g)) m ∷ []) (ty (atomic (floating f)) (n || m))
  of_decimal_arithmetic : {a : Arithmetic} {p s q r : ℕ} {n m : Bool} → IsTrue (is_additive a) → IsTrue ((p == q) && (s == r)) → FnType (binary (computes a)) (ty (atomic (decimals p s)) n ∷ ty (atomic (decimals q r)) m ∷ []) (ty (atomic (decimals p s)) (n || m))
  of_not : {n : Bool} → FnType logical_not (ty (atomic truth) n ∷ []) (ty (atomic truth) n)
  of_between : {ls us : Bool} {p q r : Atomic} {n m k : Bool} → IsTrue (same_atomic p q) → IsTrue (same_atomic p r) → FnType (between ls us) (ty (atomic p) n ∷ ty (atomic q) m ∷ ty (atomic r) k ∷ []) (ty (atomic truth) (n || m || k))
  of_like : {neg ci n m : Bool} → FnType (like neg ci) (ty (atomic text) n ∷ ty (atomic text) m ∷ []) (ty (atomic truth) (n || m))
  of_is_null : {t : LogicalType} → FnType is_null (t ∷ []) (ty (atomic truth) false)
  of_is_not_null : {t : LogicalType} → FnType is_not_null (t ∷ []) (ty (atomic truth) false)
  of_mask : {t : LogicalType} → FnType mask (t ∷ ty (atomic truth) false ∷ []) (with_nullability true t)
  of_cast : {t u : LogicalType} → IsTrue (same_base t u) → FnType (cast u) (t ∷ []) u
  of_starts_with : {n m : Bool} → FnType starts_with (ty (atomic text) n ∷ ty (atomic text) m ∷ []) (ty (atomic truth) (n || m))
  of_byte_length : {n : Bool} → FnType byte_length (ty (atomic text) n ∷ []) (ty (atomic (number I64)) n)
  of_list_contains : {p q : Atomic} {k n m : Bool} → IsTrue (same_atomic p q) → FnType list_contains (ty (list (ty (atomic p) k)) n ∷ ty (atomic q) m ∷ []) (ty (atomic truth) (n || k || m))
