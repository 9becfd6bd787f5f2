-- Expressions as source text: their SQL text, with names, types and scalars as source text, and with the options of nodes
-- that it doesn't show.
use Rattle.std.specs.Prelude.{ℕ, zero, Bool, true, false, List, [], ◌∷◌, ◌++◌, ◌==◌, ◌&&◌, map, codes, get_or, length, if◌then◌else◌}
use Rattle.vx_fn.specs.declared.options.FieldSelection.{FieldSelection}
use Rattle.vx_fn.specs.declared.options.FieldSelection.TheVariants.{Include, Exclude}
use Rattle.vx_fn.specs.Functions.{Function, case_when, get_item, literal, pack, select, cast, arity_of, id_of}
use Rattle.vx_fn.specs.Texts.{with_commas, pack_sql, own_sql}
use Rattle.vx_tree.specs.Notations.{Words}
use Rattle.vx_tree.specs.Trees.{Tree, root, call, Trees, no_tree, tree}
use Rattle.vx_tree.specs.Views.{trees_from}
use Rattle.vx_source_types.specs.Names.{name_source, names_source}
use Rattle.vx_source_types.specs.TypeTexts.{type_source}
use Rattle.vx_source_types.specs.ScalarTexts.{scalar_source}
use Rattle.vx_source_writer.specs.Options.{options_source}

-- a text with the names of a selection between braces, behind a tilde where they are left out
abbrev pub select_source : FieldSelection → List ℕ → List ℕ
select_source (Include names) c = c ++ (codes "{" ++ (names_source names ++ codes "}"))
select_source (Exclude names) c = c ++ (codes "{~ " ++ (names_source names ++ codes "}"))

-- the text of a node that shows its function and its number of children
abbrev pub own_source : Function → List (List ℕ) → List ℕ
own_source (get_item a) cs = get_or cs 0 [] ++ (codes "." ++ name_source a)
own_source (literal t v) cs = scalar_source v t
own_source (pack names n) cs = pack_sql (map name_source names) n cs
own_source (select selection) cs = select_source selection (get_or cs 0 [])
own_source (cast t) cs = codes "cast(" ++ (get_or cs 0 [] ++ (codes " as " ++ (type_source t ++ codes ")")))
own_source f cs = own_sql f cs

-- the function's name, its options between square brackets, and its children between parentheses
abbrev pub full_source : Function → List (List ℕ) → List ℕ
full_source f cs = id_of f ++ (codes "[" ++ (options_source f ++ (codes "](" ++ (with_commas cs ++ codes ")"))))

-- whether the function's text shows what it is: that of a CASE without a pair doesn't
abbrev pub is_shown : Function → Bool
is_shown (case_when zero has_else) = false
is_shown _ = true

-- the text of a node: one with another number of children than it takes, or not shown, is written in full
abbrev pub node_source : Function → List (List ℕ) → List ℕ
node_source f cs = if is_shown f && arity_of f == length cs then own_source f cs else full_source f cs

-- the source text of a tree, and those of a list of trees
abbrev mutual
  pub source : Tree → List ℕ
  source root = codes "$"
  source (call f es) = node_source f (sources es)

  pub sources : Trees → List (List ℕ)
  sources no_tree = []
  sources (tree e es) = source e ∷ sources es

-- the source texts of what is seen as a list of trees
abbrev pub sources_of : {A : Type 0} → (A → Tree) → List A → List (List ℕ)
sources_of view xs = sources (trees_from (map view xs))

-- the words of source text as a notation
abbrev pub source_words : Words
source_words = record { named = name_source; valued = scalar_source; typed_as = type_source; shows = is_shown; opened = λ f. codes "[" ++ (options_source f ++ codes "](") }
