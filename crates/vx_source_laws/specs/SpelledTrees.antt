-- Which trees a text can say.
use Rattle.std.specs.Prelude.{◌<◌, ◌^◌, List, [], ◌∷◌}
use Rattle.std.specs.Str.{IsUtf8}
use Rattle.vx_value.specs.Fits.{Fits}
use Rattle.vx_value.specs.Types.{Name}
use Rattle.vx_fn.specs.Functions.{Function, case_when, get_item, literal, pack, select, cast, selection_names}
use Rattle.vx_tree.specs.Trees.{Tree, root, call, Trees, no_tree, tree}
use Rattle.vx_source_types.specs.TypePrintable.{IsPrintable}
use Rattle.vx_source_types.specs.ScalarPrintable.{IsSpelledValue}

-- each name is UTF-8
abbrev pub AreTexts : List Name → Type 0
AreTexts [] = Unit {0}
AreTexts (a ∷ names) = IsUtf8 a × AreTexts names

-- what each function of the program has: names that are UTF-8, a literal of its type, and less than 2 ^ 32 pairs
abbrev pub IsSpelledFunction : Function → Type 0
IsSpelledFunction (case_when pairs has_else) = pairs < 2 ^ 32
IsSpelledFunction (get_item a) = IsUtf8 a
IsSpelledFunction (literal t v) = Fits v t × IsSpelledValue v × IsPrintable t
IsSpelledFunction (pack names n) = AreTexts names
IsSpelledFunction (select selection) = AreTexts (selection_names selection)
IsSpelledFunction (cast t) = IsPrintable t
IsSpelledFunction f = Unit {0}

-- what each expression of the program has: such functions
abbrev mutual
  pub IsSpelledTree : Tree → Type 0
  IsSpelledTree root = Unit {0}
  IsSpelledTree (call f es) = IsSpelledFunction f × AreSpelledTrees es

  pub AreSpelledTrees : Trees → Type 0
  AreSpelledTrees no_tree = Unit {0}
  AreSpelledTrees (tree e es) = IsSpelledTree e × AreSpelledTrees es
