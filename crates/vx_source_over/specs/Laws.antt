-- What settling keeps.
use Rattle.std.specs.Prelude.{◌≡◌, ℕ, suc, Bool, true, false, List, Option, Some, None, Ok, IsOk}
use Rattle.vx_value.specs.Columns.{Constant}
use Rattle.vx_value.specs.Fits.{Fits}
use Rattle.vx_value.specs.Types.{Atomic, LogicalType, ty, atomic, Datum}
use Rattle.vx_fn.specs.Functions.{Function, literal}
use Rattle.vx_tree.specs.Trees.{Tree, root, call, Trees, no_tree, tree, typed}
use Rattle.vx_source_types.specs.Untyped.{has_texts, point_read, typed_value}
use Rattle.vx_source_types.specs.ValueReading.{Drafted, drafted, pointed}
use Rattle.vx_source_over.specs.Peers.{open_scalar, is_in, child_at}
use Rattle.vx_source_over.specs.Reading.{ReadsAlone, ReadsOver}
use Rattle.vx_source_over.specs.Settling.{node_with, read_over, written}

-- the value that a type behind it makes of what was written
abbrev pub value_before : Drafted → LogicalType → Option Datum
value_before (drafted v names) t = typed_value v t
value_before (pointed s) t = point_read s t

-- that is the value of the scalar as one of the type: what the type behind it makes of what was written
abbrev pub IsValueAs : Constant → LogicalType → Datum → Type 0
IsValueAs c t w = (value_before (written c) t ≡ Some w) × Fits w t

-- the second tree is the first but for literals to which the other reading gives another type: each has its value as one of
-- its type; and where an `in` over literals stands, these stand in one list
mutual
  pub data IsRetyped : Tree → Option Tree → Tree → Type 0 where
    same_root : {d : Option Tree} → IsRetyped root d root
    other_type : {f : Function} {es : Trees} {d : Option Tree} {t : LogicalType} {c : Constant} {w : Datum} → open_scalar f d ≡ Some c → IsValueAs c t w → IsRetyped (call f es) d (call (literal t w) es)
    same_node : {f : Function} {es ts : Trees} {d : Option Tree} → open_scalar f d ≡ None → is_in f d ≡ false → AreRetyped 0 es d ts → IsRetyped (call f es) d (call f ts)
    in_one_list : {f : Function} {es ts : Trees} {d : Option Tree} {t : Tree} → is_in f d ≡ true → AreRetyped 0 es d ts → node_with f d ts ≡ Ok t → IsRetyped (call f es) d t

  -- so of the children from that index on
  pub data AreRetyped : ℕ → Trees → Option Tree → Trees → Type 0 where
    no_more : {i : ℕ} {d : Option Tree} → AreRetyped i no_tree d no_tree
    one_more : {i : ℕ} {e t : Tree} {es ts : Trees} {d : Option Tree} → IsRetyped e (child_at d i) t → AreRetyped (suc i) es d ts → AreRetyped i (tree e es) d (tree t ts)

-- nothing changes but the types of literals that were written without one, and with them what their values are as those of
-- the types, and that the literals of an `in` stand in one list
abbrev pub TypesAloneChange : Type 0
TypesAloneChange = (s : LogicalType) (e d t : Tree) → read_over s e d ≡ Ok t → IsRetyped e (Some d) t

-- of a type of truth values, whole numbers, texts or bytes the value is the one that was written
abbrev pub OtherValuesStay : Type 0
OtherValuesStay = (c : Constant) (w : Datum) (a : Atomic) (n : Bool) → has_texts (ty (atomic a) n) ≡ false → IsValueAs c (ty (atomic a) n) w → w ≡ c.value

-- a text that has a type as it is read alone is read so
abbrev pub TypedTextsStay : Type 0
TypedTextsStay = (limit : ℕ) (text : List ℕ) (s : LogicalType) (e t : Tree) → ReadsAlone limit text e → IsOk (typed e s) → ReadsOver limit text s t → t ≡ e

-- a text is read over a scope as one tree
abbrev pub ReadingOverIsUnique : Type 0
ReadingOverIsUnique = (limit : ℕ) (text : List ℕ) (s : LogicalType) (t u : Tree) → ReadsOver limit text s t → ReadsOver limit text s u → t ≡ u
