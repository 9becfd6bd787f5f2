-- Trees of which source text and SQL text are the same.
use Rattle.std.specs.Prelude.{◌≡◌, ◌==◌, true, false, not, List, [], ◌∷◌}
use Rattle.std.specs.List.{list_all}
use Rattle.vx_value.specs.Types.{Name, truth, number, text, octets, LogicalType, ty, Shape, atomic, list, fixed, struct, Fields, no_field, field, Datum, bool, int, utf8, bytes}
use Rattle.vx_fn.specs.Functions.{Function, get_item, literal, pack, select, cast, arity_of, selection_names}
use Rattle.vx_tree.specs.Nodes.{count_of}
use Rattle.vx_tree.specs.Texts.{sql}
use Rattle.vx_tree.specs.Trees.{Tree, root, call, Trees, no_tree, tree}
use Rattle.vx_source_types.specs.Names.{is_plain}
use Rattle.vx_source_writer.specs.SourceTexts.{source, is_shown}

-- the names are words
abbrev pub ArePlainNames : List Name → Type 0
ArePlainNames [] = Unit {0}
ArePlainNames (a ∷ names) = (is_plain a ≡ true) × ArePlainNames names

-- the names in the type are words
abbrev mutual
  pub HasPlainNames : LogicalType → Type 0
  HasPlainNames (ty s n) = HasPlainShape s

  pub HasPlainShape : Shape → Type 0
  HasPlainShape (atomic p) = Unit {0}
  HasPlainShape (list t) = HasPlainNames t
  HasPlainShape (fixed t k) = HasPlainNames t
  HasPlainShape (struct fs) = HavePlainNames fs

  pub HavePlainNames : Fields → Type 0
  HavePlainNames no_field = Unit {0}
  HavePlainNames (field a t fs) = (is_plain a ≡ true) × HasPlainNames t × HavePlainNames fs

-- the literal is of a type without parts that isn't nullable, and if it is a text, no double quote stands in it
abbrev pub IsPlainLiteral : LogicalType → Datum → Type 0
IsPlainLiteral (ty (atomic truth) false) (bool b) = Unit {0}
IsPlainLiteral (ty (atomic (number p)) false) (int i) = Unit {0}
IsPlainLiteral (ty (atomic text) false) (utf8 s) = list_all (λ b. not (b == 34)) s ≡ true
IsPlainLiteral (ty (atomic octets) false) (bytes bs) = Unit {0}
IsPlainLiteral _ _ = ⊥

-- the names and the types of the function are of words, and its literal is plain
abbrev pub IsPlainFunction : Function → Type 0
IsPlainFunction (get_item a) = is_plain a ≡ true
IsPlainFunction (literal t v) = IsPlainLiteral t v
IsPlainFunction (pack names n) = ArePlainNames names
IsPlainFunction (select selection) = ArePlainNames (selection_names selection)
IsPlainFunction (cast t) = HasPlainNames t
IsPlainFunction _ = Unit {0}

-- each node has its number of children, shows its function, and has such a function
abbrev mutual
  pub IsPlain : Tree → Type 0
  IsPlain root = Unit {0}
  IsPlain (call f es) = (is_shown f ≡ true) × (count_of es ≡ arity_of f) × IsPlainFunction f × ArePlain es

  pub ArePlain : Trees → Type 0
  ArePlain no_tree = Unit {0}
  ArePlain (tree e es) = IsPlain e × ArePlain es

-- the source text of such a tree is its SQL text
abbrev pub PlainIsSql : Type 0
PlainIsSql = (e : Tree) → IsPlain e → source e ≡ sql e
