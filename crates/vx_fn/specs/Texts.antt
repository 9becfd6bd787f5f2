-- The texts of functions: with their options, as a node of a tree text, and as SQL over their children's texts.
use Rattle.std.specs.Prelude.{ℕ, Bool, true, false, List, [], ◌∷◌, ◌++◌, ◌==◌, codes, get_or, length, if◌then◌else◌}
use Rattle.std.specs.Fmt.{decimal}
use Rattle.vx_floats.specs.declared.arithmetic.Arithmetic.TheVariants.{Sum, Difference, Product, Quotient, Remainder}
use Rattle.vx_value.specs.Types.{Name}
use Rattle.vx_value.specs.Texts.{mark, type_text}
pub use Rattle.vx_value.specs.Texts.{with_commas}
use Rattle.vx_value.specs.ValueTexts.{value_text}
use Rattle.vx_fn.specs.declared.options.FieldSelection.{FieldSelection}
use Rattle.vx_fn.specs.declared.options.FieldSelection.TheVariants.{Include, Exclude}
use Rattle.vx_fn.specs.Functions.{equal, not_equal, greater, greater_or_equal, less, less_or_equal, Operation, compares, and_also, or_else, computes, Function, case_when, get_item, literal, pack, select, zip, binary, between, like, cast, arity_of, id_of}

-- ---- options

-- the sign of an operator
abbrev pub operation_text : Operation → List ℕ
operation_text (compares equal) = codes "="
operation_text (compares not_equal) = codes "!="
operation_text (compares greater) = codes ">"
operation_text (compares greater_or_equal) = codes ">="
operation_text (compares less) = codes "<"
operation_text (compares less_or_equal) = codes "<="
operation_text and_also = codes "and"
operation_text or_else = codes "or"
operation_text (computes Sum) = codes "+"
operation_text (computes Difference) = codes "-"
operation_text (computes Product) = codes "*"
operation_text (computes Quotient) = codes "/"
operation_text (computes Remainder) = codes "%"

-- the sign of a bound: `<` where it is strict
abbrev pub bound_text : Bool → List ℕ
bound_text true = codes "<"
bound_text false = codes "<="

-- the word of a LIKE, negated or not, and with case ignored or not
abbrev pub like_text : Bool → Bool → List ℕ
like_text false false = codes "like"
like_text true false = codes "not like"
like_text false true = codes "ilike"
like_text true true = codes "not ilike"

-- the word of a truth value
abbrev pub truth_text : Bool → List ℕ
truth_text true = codes "true"
truth_text false = codes "false"

-- the word of a nullability
abbrev pub nullability_text : Bool → List ℕ
nullability_text true = codes "Nullable"
nullability_text false = codes "NonNullable"

-- the names between braces, after a tilde where they are left out
abbrev pub selection_text : FieldSelection → List ℕ
selection_text (Include names) = codes "{" ++ (with_commas names ++ codes "}")
selection_text (Exclude names) = codes "~{" ++ (with_commas names ++ codes "}")

-- the names and the nullability
abbrev pub pack_text : List Name → Bool → List ℕ
pack_text names n = codes "names: [" ++ (with_commas names ++ (codes "], nullability: " ++ nullability_text n))

-- the signs of both bounds
abbrev pub between_text : Bool → Bool → List ℕ
between_text lower_strict upper_strict = codes "lower_strict: " ++ (bound_text lower_strict ++ (codes ", upper_strict: " ++ bound_text upper_strict))

-- the number of pairs, and whether there is an ELSE
abbrev pub case_text : ℕ → Bool → List ℕ
case_text pairs has_else = codes "case_when(pairs=" ++ (decimal pairs ++ (codes ", else=" ++ (truth_text has_else ++ codes ")")))

-- what a function says of itself beside its name
abbrev pub options_text : Function → List ℕ
options_text (case_when pairs has_else) = case_text pairs has_else
options_text (get_item a) = a
options_text (literal t v) = value_text v t
options_text (pack names n) = pack_text names n
options_text (select selection) = selection_text selection
options_text (binary op) = operation_text op
options_text (between lower_strict upper_strict) = between_text lower_strict upper_strict
options_text (like negated case_insensitive) = like_text negated case_insensitive
options_text (cast t) = type_text t
options_text _ = []

-- the function's name, and its options between parentheses
abbrev pub function_text : Function → List ℕ
function_text f = id_of f ++ (codes "(" ++ (options_text f ++ codes ")"))

-- ---- SQL, over the texts of the children

-- the function's name, and its children between parentheses
abbrev pub call_sql : Function → List (List ℕ) → List ℕ
call_sql f cs = id_of f ++ (codes "(" ++ (with_commas cs ++ codes ")"))

-- two texts with a sign between them, between parentheses
abbrev pub operator_sql : List ℕ → List ℕ → List ℕ → List ℕ
operator_sql sign a b = codes "(" ++ (a ++ (codes " " ++ (sign ++ (codes " " ++ (b ++ codes ")")))))

-- a text between its bounds, between parentheses
abbrev pub between_sql : Bool → Bool → List ℕ → List ℕ → List ℕ → List ℕ
between_sql lower_strict upper_strict array lower upper =
    codes "(" ++ (lower ++ (codes " " ++ (bound_text lower_strict ++ (codes " " ++ (array ++ (codes " " ++ (bound_text upper_strict ++ (codes " " ++ (upper ++ codes ")")))))))))

-- a text with the names of a selection between braces, behind a tilde where they are left out
abbrev pub select_sql : FieldSelection → List ℕ → List ℕ
select_sql (Include names) c = c ++ (codes "{" ++ (with_commas names ++ codes "}"))
select_sql (Exclude names) c = c ++ (codes "{~ " ++ (with_commas names ++ codes "}"))

-- each name before its text
abbrev pub named_texts : List Name → List (List ℕ) → List (List ℕ)
named_texts (a ∷ names) (c ∷ cs) = (a ++ (codes ": " ++ c)) ∷ named_texts names cs
named_texts _ _ = []

-- the named texts between parentheses, with a question mark where the struct is nullable
abbrev pub pack_sql : List Name → Bool → List (List ℕ) → List ℕ
pack_sql names n cs = codes "pack(" ++ (with_commas (named_texts names cs) ++ (codes ")" ++ mark n))

-- conditions and values in turn, and what is left over as the ELSE
abbrev pub pairs_sql : List (List ℕ) → List ℕ
pairs_sql [] = []
pairs_sql (e ∷ []) = codes " ELSE " ++ e
pairs_sql (c ∷ v ∷ rest) = codes " WHEN " ++ (c ++ (codes " THEN " ++ (v ++ pairs_sql rest)))

-- the text of a node that has its number of children
abbrev pub own_sql : Function → List (List ℕ) → List ℕ
own_sql (case_when pairs has_else) cs = codes "CASE" ++ (pairs_sql cs ++ codes " END")
own_sql (get_item a) cs = get_or cs 0 [] ++ (codes "." ++ a)
own_sql (literal t v) cs = value_text v t
own_sql (pack names n) cs = pack_sql names n cs
own_sql (select selection) cs = select_sql selection (get_or cs 0 [])
own_sql zip cs = codes "zip(" ++ (with_commas cs ++ codes ")")
own_sql (binary op) cs = operator_sql (operation_text op) (get_or cs 0 []) (get_or cs 1 [])
own_sql (between lower_strict upper_strict) cs = between_sql lower_strict upper_strict (get_or cs 0 []) (get_or cs 1 []) (get_or cs 2 [])
own_sql (like negated case_insensitive) cs = operator_sql (like_text negated case_insensitive) (get_or cs 0 []) (get_or cs 1 [])
own_sql (cast t) cs = codes "cast(" ++ (get_or cs 0 [] ++ (codes " as " ++ (type_text t ++ codes ")")))
own_sql f cs = call_sql f cs

-- the text of a node: a wrong number of children is printed as a plain call
abbrev pub node_sql : Function → List (List ℕ) → List ℕ
node_sql f cs = if arity_of f == length cs then own_sql f cs else call_sql f cs
