-- What is said of names, fields, values and trees one after another, one at a time.
use Rattle.std.proofs.Common.{◌≡◌, ℕ, ◌+◌, ◌<◌, ◌≤◌, List, ◌∷◌, length, get_or, drop, drop-cons, drop_of_length-le, add-one, sym, subst}
use Rattle.std.specs.Str.{IsUtf8}
use Rattle.vx_dtype.specs.declared.dtype.DType.{DType}
use Rattle.vx_dtype.specs.Fields.{field_count}
use Rattle.vx_dtype.specs.Types.{Name}
use Rattle.vx_dtype.specs.Views.{type_of, fields_view}
use Rattle.vx_dtype.proofs.Pairs.{fields_next, fields_end}
use Rattle.vx_value.specs.declared.value.Value.{Value}
use Rattle.vx_value.specs.Views.{value_of, data_view}
use Rattle.vx_tree.specs.declared.expression.Expression.{Expression}
use Rattle.vx_tree.specs.Trees.{tree}
use Rattle.vx_tree.specs.Views.{tree_of, trees_of}
use Rattle.vx_source_types.specs.TypePrintable.{IsPrintable, ArePrintable}
use Rattle.vx_source_types.specs.ScalarPrintable.{IsSpelledValue, AreSpelledValues}
use Rattle.vx_source_types.proofs.ItemSources.{data_next}
use Rattle.vx_source_laws.specs.SpelledTrees.{AreTexts, IsSpelledTree, AreSpelledTrees}

-- ---- fields

pub fields_spelled_next : (names : List Name) (types : List DType) (i : ℕ) (a : Name) (t : DType) → i < length names → i < length types
    → a ≡ get_or names i a → t ≡ get_or types i t → IsUtf8 a → IsPrintable (type_of t)
    → ArePrintable (fields_view (drop (i + 1) names) (drop (i + 1) types)) → ArePrintable (fields_view (drop i names) (drop i types))
fields_spelled_next names types i a t h k p q text spelled rest = subst ArePrintable (sym (fields_next names types i a t h k p q)) (text, spelled, rest)

pub fields_spelled_end : (names : List Name) (types : List DType) (i : ℕ) → field_count (fields_view names types) ≤ i → ArePrintable (fields_view (drop i names) (drop i types))
fields_spelled_end names types i h = subst ArePrintable (sym (fields_end names types i h)) tt

-- ---- names

names_next : (names : List Name) (i : ℕ) (a : Name) → i < length names → a ≡ get_or names i a → drop i names ≡ a ∷ drop (i + 1) names
names_next names i a h p = rw (add-one, drop-cons names i a h, ← p)

pub texts_next : (names : List Name) (i : ℕ) (a : Name) → i < length names → a ≡ get_or names i a → IsUtf8 a → AreTexts (drop (i + 1) names) → AreTexts (drop i names)
texts_next names i a h p text rest = subst AreTexts (sym (names_next names i a h p)) (text, rest)

pub texts_end : (names : List Name) (i : ℕ) → length names ≤ i → AreTexts (drop i names)
texts_end names i h = rw (drop_of_length-le names h) tt

-- ---- values

pub values_spelled_next : (values : List Value) (i : ℕ) (v : Value) → i < length values → v ≡ get_or values i v → IsSpelledValue (value_of v)
    → AreSpelledValues (data_view (drop (i + 1) values)) → AreSpelledValues (data_view (drop i values))
values_spelled_next values i v h p spelled rest = subst AreSpelledValues (sym (data_next values i v h p)) (spelled, rest)

pub values_spelled_end : (values : List Value) (i : ℕ) → length values ≤ i → AreSpelledValues (data_view (drop i values))
values_spelled_end values i h = rw (drop_of_length-le values h) tt

-- ---- trees

trees_next : (es : List Expression) (i : ℕ) (e : Expression) → i < length es → e ≡ get_or es i e → trees_of (drop i es) ≡ tree (tree_of e) (trees_of (drop (i + 1) es))
trees_next es i e h p = rw (add-one, drop-cons es i e h, ← p)

pub trees_spelled_next : (es : List Expression) (i : ℕ) (e : Expression) → i < length es → e ≡ get_or es i e → IsSpelledTree (tree_of e)
    → AreSpelledTrees (trees_of (drop (i + 1) es)) → AreSpelledTrees (trees_of (drop i es))
trees_spelled_next es i e h p spelled rest = subst AreSpelledTrees (sym (trees_next es i e h p)) (spelled, rest)

pub trees_spelled_end : (es : List Expression) (i : ℕ) → length es ≤ i → AreSpelledTrees (trees_of (drop i es))
trees_spelled_end es i h = rw (drop_of_length-le es h) tt
