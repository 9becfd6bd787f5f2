-- Trees in a notation: what notations have in common, over the words of each.
use Rattle.std.specs.Prelude.{ℕ, Bool, true, List, [], ◌∷◌, ◌++◌, ◌==◌, ◌&&◌, map, codes, get_or, length, if◌then◌else◌}
use Rattle.vx_value.specs.Texts.{type_text}
use Rattle.vx_value.specs.Types.{Name, LogicalType, Datum}
use Rattle.vx_value.specs.ValueTexts.{value_text}
use Rattle.vx_fn.specs.declared.options.FieldSelection.{FieldSelection}
use Rattle.vx_fn.specs.declared.options.FieldSelection.TheVariants.{Include, Exclude}
use Rattle.vx_fn.specs.Functions.{Function, get_item, literal, pack, select, cast, arity_of, id_of}
use Rattle.vx_fn.specs.Texts.{with_commas, pack_sql, own_sql}
use Rattle.vx_tree.specs.Trees.{Tree, root, call, Trees, no_tree, tree}
use Rattle.vx_tree.specs.Views.{trees_from}

-- the words of a notation: of a name, a value of a type, and a type; whether a function has a form of its own over as many
-- children as it takes, and what stands between its name and its children at any other node
pub record Words : Type 0 where
  pub named : Name → List ℕ
  pub valued : Datum → LogicalType → List ℕ
  pub typed_as : LogicalType → List ℕ
  pub shows : Function → Bool
  pub opened : Function → List ℕ

abbrev pub name_in : Words → Name → List ℕ
name_in w = w.named

abbrev pub names_in : Words → List Name → List (List ℕ)
names_in w names = map w.named names

abbrev pub literal_in : Words → Datum → LogicalType → List ℕ
literal_in w = w.valued

abbrev pub type_in : Words → LogicalType → List ℕ
type_in w = w.typed_as

abbrev pub is_shown_in : Words → Function → Bool
is_shown_in w = w.shows

abbrev pub opening_in : Words → Function → List ℕ
opening_in w = w.opened

-- a text with the names of a selection between braces, behind a tilde where they are left out
abbrev pub select_in : Words → FieldSelection → List ℕ → List ℕ
select_in w (Include names) c = c ++ (codes "{" ++ (with_commas (names_in w names) ++ codes "}"))
select_in w (Exclude names) c = c ++ (codes "{~ " ++ (with_commas (names_in w names) ++ codes "}"))

-- the text of a node in its own form
abbrev pub own_in : Words → Function → List (List ℕ) → List ℕ
own_in w (get_item a) cs = get_or cs 0 [] ++ (codes "." ++ name_in w a)
own_in w (literal t v) cs = literal_in w v t
own_in w (pack names n) cs = pack_sql (names_in w names) n cs
own_in w (select selection) cs = select_in w selection (get_or cs 0 [])
own_in w (cast t) cs = codes "cast(" ++ (get_or cs 0 [] ++ (codes " as " ++ (type_in w t ++ codes ")")))
own_in w f cs = own_sql f cs

-- the text of any other node, by its function's name
abbrev pub full_in : Words → Function → List (List ℕ) → List ℕ
full_in w f cs = id_of f ++ (opening_in w f ++ (with_commas cs ++ codes ")"))

abbrev pub node_in : Words → Function → List (List ℕ) → List ℕ
node_in w f cs = if is_shown_in w f && arity_of f == length cs then own_in w f cs else full_in w f cs

-- the text of a tree, and those of a list of trees
abbrev mutual
  pub text_in : Words → Tree → List ℕ
  text_in w root = codes "$"
  text_in w (call f es) = node_in w f (texts_in w es)

  pub texts_in : Words → Trees → List (List ℕ)
  texts_in w no_tree = []
  texts_in w (tree e es) = text_in w e ∷ texts_in w es

-- the texts of what is seen as a list of trees
abbrev pub texts_of : {A : Type 0} → Words → (A → Tree) → List A → List (List ℕ)
texts_of w view xs = texts_in w (trees_from (map view xs))

-- those of SQL: names, literals and types as they are shown, and a call for any node with a wrong number of children
abbrev pub sql_words : Words
sql_words = record { named = λ a. a; valued = value_text; typed_as = type_text; shows = λ f. true; opened = λ f. codes "(" }
