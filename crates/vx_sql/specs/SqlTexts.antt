-- The SQL text of a bound tree over the columns of its scope.
use Rattle.std.specs.Prelude.{ℕ, Bool, true, false, ◌&&◌, ◌||◌, ◌==◌, List, [], ◌∷◌, ◌++◌, codes, get_or, if◌then◌else◌, Option, Some, None}
use Rattle.vx_value.specs.Columns.{Constant}
use Rattle.vx_value.specs.Types.{Name, number, LogicalType, ty, atomic, Datum, utf8, list_of, Data}
use Rattle.vx_floats.specs.declared.arithmetic.Arithmetic.{Arithmetic}
use Rattle.vx_fn.specs.Functions.{equal, not_equal, greater, greater_or_equal, less, less_or_equal, Comparison, Operation, compares, and_also, or_else, computes, Function, case_when, get_item, literal, pack, select, fill_null, zip, binary, logical_not, between, like, is_null, is_not_null, mask, cast, starts_with, byte_length, list_contains, arity_of, is_text}
use Rattle.vx_fn.specs.Texts.{with_commas, pairs_sql, operator_sql, bound_text}
use Rattle.vx_fn.specs.Values.{has_null}
use Rattle.vx_tree.specs.Nodes.{bound_at, bound_count_of}
use Rattle.vx_tree.specs.Trees.{BoundTree, scope, node, BoundTrees, no_bound, bound}
use Rattle.vx_tree.specs.declared.bound.BoundExpression.{BoundExpression}
use Rattle.vx_tree.specs.Views.{bounds_of}
use Rattle.vx_sql.specs.declared.dialect.Dialect.{Dialect}
use Rattle.vx_sql.specs.declared.dialect.Dialect.TheVariants.{Postgres, Sqlite, DuckDb, Spark, ClickHouse}
use Rattle.vx_sql.specs.declared.text.Children.{Children}
use Rattle.vx_sql.specs.Children.{is_row, has_text_first, has_string_first, has_struct_first, literal_in, admits_null_at}
use Rattle.vx_sql.specs.Dialects.{collation}
use Rattle.vx_sql.specs.Quotes.{name_sql, text_sql}
use Rattle.vx_sql.specs.Patterns.{has_globs, pattern_sql, beginning_sql}
use Rattle.vx_sql.specs.Literals.{literal_sql, null_sql, truth_sql, items_sql}
use Rattle.vx_sql.specs.Lists.{item_type, has_items, literal_first}
use Rattle.vx_sql.specs.Calculations.{arithmetic_sql}

-- ---- operators

-- an operand, with the engine's word for comparing bytes where it is a text
abbrev pub compared_sql : Dialect → Bool → List ℕ → List ℕ
compared_sql d is_text a = if is_text then a ++ collation d else a

-- arithmetic on whole numbers; on other values there is none
abbrev pub computed_sql : Dialect → LogicalType → Arithmetic → List ℕ → List ℕ → List ℕ
computed_sql d (ty (atomic (number p)) n) c a b = arithmetic_sql d c p a b
computed_sql d _ c a b = []

-- whether the engine's AND and OR take no null for what it is: in ClickHouse, to version 19, an AND of false and null is null, and
-- an OR takes null for false
abbrev pub loses_nulls : Dialect → Bool
loses_nulls Postgres = false
loses_nulls Sqlite = false
loses_nulls DuckDb = false
loses_nulls Spark = false
loses_nulls ClickHouse = true

-- the least or the greatest of two truth values of which null is the middle one
abbrev pub least_sql : List ℕ → List ℕ → List ℕ → List ℕ
least_sql function a b = codes "(nullIf(" ++ (function ++ (codes "(COALESCE(" ++ (a ++ (codes ", 0.5), COALESCE(" ++ (b ++ codes ", 0.5)), 0.5) > 0)")))))

-- two truth values, by the engine's word or by a function where that would lose a null
abbrev pub logic_sql : Bool → List ℕ → List ℕ → List ℕ → List ℕ → List ℕ
logic_sql loses sign function a b = if loses then least_sql function a b else operator_sql sign a b

-- a truth value turned round. ClickHouse hands NOT on to its shards without the brackets around it, so there the value is compared with 0
abbrev pub not_sql : Dialect → List ℕ → List ℕ
not_sql Postgres c = codes "(NOT " ++ (c ++ codes ")")
not_sql Sqlite c = codes "(NOT " ++ (c ++ codes ")")
not_sql DuckDb c = codes "(NOT " ++ (c ++ codes ")")
not_sql Spark c = codes "(NOT " ++ (c ++ codes ")")
not_sql ClickHouse c = codes "(" ++ (c ++ codes " = 0)")

-- whether the engine's `<=` overlooks NULs at the end of its left side, and `>=` those of its right side, as ClickHouse's do in version
-- 18: there a text with one is at most the same without it, though it is also above it
abbrev pub overlooks_ends : Dialect → Bool
overlooks_ends Postgres = false
overlooks_ends Sqlite = false
overlooks_ends DuckDb = false
overlooks_ends Spark = false
overlooks_ends ClickHouse = true

-- a comparison that lets equal values in, by its sign, or by the opposite one turned round where that would overlook an end
abbrev pub or_equal_sql : Dialect → Bool → List ℕ → List ℕ → List ℕ → List ℕ → List ℕ
or_equal_sql d overlooks sign opposite a b = if overlooks then not_sql d (operator_sql opposite a b) else operator_sql sign a b

-- a comparison of two texts
abbrev pub comparison_sql : Dialect → Bool → Comparison → List ℕ → List ℕ → List ℕ
comparison_sql d overlooks equal a b = operator_sql (codes "=") a b
comparison_sql d overlooks not_equal a b = operator_sql (codes "<>") a b
comparison_sql d overlooks greater a b = operator_sql (codes ">") a b
comparison_sql d overlooks greater_or_equal a b = or_equal_sql d overlooks (codes ">=") (codes "<") a b
comparison_sql d overlooks less a b = operator_sql (codes "<") a b
comparison_sql d overlooks less_or_equal a b = or_equal_sql d overlooks (codes "<=") (codes ">") a b

-- an operator between two texts, where the first may be a text, a null may be lost, an end overlooked, and the result has a type
abbrev pub binary_sql : Dialect → LogicalType → Bool → Bool → Bool → Operation → List ℕ → List ℕ → List ℕ
binary_sql d t is_text loses overlooks (compares c) a b = comparison_sql d overlooks c (compared_sql d is_text a) b
binary_sql d t is_text loses overlooks and_also a b = logic_sql loses (codes "AND") (codes "least") a b
binary_sql d t is_text loses overlooks or_else a b = logic_sql loses (codes "OR") (codes "greatest") a b
binary_sql d t is_text loses overlooks (computes c) a b = computed_sql d t c a b

-- one text below another, or not above it
abbrev pub below_sql : Dialect → Bool → Bool → List ℕ → List ℕ → List ℕ
below_sql d overlooks true a b = a ++ (codes " " ++ (bound_text true ++ (codes " " ++ b)))
below_sql d overlooks false a b = if overlooks then not_sql d (operator_sql (codes ">") a b) else a ++ (codes " " ++ (bound_text false ++ (codes " " ++ b)))

-- what says that a text before it is from one bound to another, and two texts that both have to hold
abbrev pub range_sql : List ℕ → List ℕ → List ℕ
range_sql l u = codes " BETWEEN " ++ (l ++ (codes " AND " ++ u))

abbrev pub both_sql : List ℕ → List ℕ → List ℕ
both_sql a b = codes "(" ++ (a ++ (codes " AND " ++ (b ++ codes ")")))

-- two comparisons that both have to hold, of which a null may be lost
abbrev pub both_below : Dialect → Bool → Bool → Bool → Bool → Bool → List ℕ → List ℕ → List ℕ → List ℕ
both_below d is_text true overlooks ls us v l u = least_sql (codes "least") (below_sql d overlooks ls (compared_sql d is_text l) v) (below_sql d overlooks us (compared_sql d is_text v) u)
both_below d is_text false overlooks ls us v l u = both_sql (below_sql d overlooks ls (compared_sql d is_text l) v) (below_sql d overlooks us (compared_sql d is_text v) u)

-- a text between two bounds: by one word where both are let in, no null is lost and no end overlooked, else by two comparisons
abbrev pub between_sql : Dialect → Bool → Bool → Bool → Bool → Bool → List ℕ → List ℕ → List ℕ → List ℕ
between_sql d is_text false false false false v l u = codes "(" ++ (compared_sql d is_text v ++ (range_sql l u ++ codes ")"))
between_sql d is_text loses overlooks ls us v l u = both_below d is_text loses overlooks ls us v l u

-- ---- tests

-- whether a struct of nulls is told from a null struct by other words than `IS NULL`
abbrev pub tests_rows : Dialect → Bool
tests_rows Postgres = true
tests_rows Sqlite = false
tests_rows DuckDb = false
tests_rows Spark = false
tests_rows ClickHouse = false

abbrev pub null_sign : Bool → Bool → List ℕ
null_sign true true = codes " IS NOT DISTINCT FROM NULL)"
null_sign true false = codes " IS DISTINCT FROM NULL)"
null_sign false true = codes " IS NULL)"
null_sign false false = codes " IS NOT NULL)"

-- whether a value, a struct or another one, is null, or isn't
abbrev pub null_test : Dialect → Bool → Bool → List ℕ → List ℕ
null_test d is_struct for_null c = codes "(" ++ (c ++ null_sign (tests_rows d && is_struct) for_null)

-- what stands before a text whose case is ignored, and behind it
abbrev pub before_folded : Dialect → List ℕ
before_folded Postgres = codes "lower("
before_folded Sqlite = []
before_folded DuckDb = codes "translate("
before_folded Spark = codes "translate("
before_folded ClickHouse = codes "lower("

abbrev pub behind_folded : Dialect → List ℕ
behind_folded Postgres = codes ")"
behind_folded Sqlite = []
behind_folded DuckDb = codes ", 'ABCDEFGHIJKLMNOPQRSTUVWXYZ', 'abcdefghijklmnopqrstuvwxyz')"
behind_folded Spark = codes ", 'ABCDEFGHIJKLMNOPQRSTUVWXYZ', 'abcdefghijklmnopqrstuvwxyz')"
behind_folded ClickHouse = codes ")"

-- what stands before a text that is matched, and behind it: a GLOB compares bytes by itself, and ignores the case by its pattern
abbrev pub before_matched : Dialect → Bool → List ℕ
before_matched d ignore_case = codes "(" ++ (if ignore_case then before_folded d else [])

abbrev pub behind_matched : Dialect → Bool → List ℕ
behind_matched d ignore_case = (if has_globs d then [] else collation d) ++ (if ignore_case then behind_folded d else [])

-- the word of a match
abbrev pub like_sign : Dialect → Bool → List ℕ
like_sign d negated = (if negated then codes " NOT" else []) ++ (if has_globs d then codes " GLOB " else codes " LIKE ")

-- what stands behind the pattern
abbrev pub like_end : Dialect → List ℕ
like_end Postgres = codes " ESCAPE '!')"
like_end Sqlite = codes ")"
like_end DuckDb = codes " ESCAPE '!')"
like_end Spark = codes " ESCAPE '!')"
like_end ClickHouse = codes ")"

-- the pattern of a literal, which may be null
abbrev pub value_pattern : Dialect → Bool → LogicalType → Datum → List ℕ
value_pattern d ignore_case t (utf8 p) = pattern_sql d ignore_case p
value_pattern d ignore_case t _ = null_sql d t

abbrev pub literal_pattern : Dialect → Bool → Option Constant → List ℕ
literal_pattern d ignore_case None = []
literal_pattern d ignore_case (Some c) = value_pattern d ignore_case c.type c.value

-- the pattern that is the second child
abbrev pub pattern_of : Dialect → Bool → Option BoundTree → List ℕ
pattern_of d ignore_case None = []
pattern_of d ignore_case (Some b) = literal_pattern d ignore_case (literal_in b)

abbrev pub second_pattern : Dialect → Bool → BoundTrees → List ℕ
second_pattern d ignore_case bs = pattern_of d ignore_case (bound_at bs 1)

abbrev pub match_sql : Dialect → Bool → Bool → List ℕ → List ℕ → List ℕ
match_sql d negated ignore_case c pattern =
    before_matched d ignore_case ++ (c ++ (behind_matched d ignore_case ++ (like_sign d negated ++ (pattern ++ like_end d))))

-- the pattern of what begins with a literal, which may be null
abbrev pub value_beginning : Dialect → LogicalType → Datum → List ℕ
value_beginning d t (utf8 p) = beginning_sql d p
value_beginning d t _ = null_sql d t

abbrev pub literal_beginning : Dialect → Option Constant → List ℕ
literal_beginning d None = []
literal_beginning d (Some c) = value_beginning d c.type c.value

-- the pattern of what begins with the second child
abbrev pub beginning_of : Dialect → Option BoundTree → List ℕ
beginning_of d None = []
beginning_of d (Some b) = literal_beginning d (literal_in b)

abbrev pub second_beginning : Dialect → BoundTrees → List ℕ
second_beginning d bs = beginning_of d (bound_at bs 1)

-- ---- lengths

-- what stands before a text whose bytes are counted, and behind it
abbrev pub before_length : Dialect → List ℕ
before_length Postgres = codes "CAST(octet_length("
before_length Sqlite = codes "length(CAST("
before_length DuckDb = codes "strlen("
before_length Spark = codes "CAST(octet_length("
before_length ClickHouse = codes "toInt64(length("

abbrev pub behind_length : Dialect → List ℕ
behind_length Postgres = codes ") AS bigint)"
behind_length Sqlite = codes " AS BLOB))"
behind_length DuckDb = codes ")"
behind_length Spark = codes ") AS BIGINT)"
behind_length ClickHouse = codes "))"

abbrev pub length_sql : Dialect → List ℕ → List ℕ
length_sql d c = before_length d ++ (c ++ behind_length d)

-- ---- lists

-- a text among values of that type
abbrev pub in_sql : Dialect → LogicalType → Data → List ℕ → List ℕ
in_sql d t vs x = codes "(" ++ (compared_sql d (is_text t) x ++ (codes " IN (" ++ (with_commas (items_sql d vs t) ++ codes "))")))

-- whether the engine's IN is never null: ClickHouse's is 0 of a null, and of what is none of the others where one is null
abbrev pub forgets_nulls : Dialect → Bool
forgets_nulls Postgres = false
forgets_nulls Sqlite = false
forgets_nulls DuckDb = false
forgets_nulls Spark = false
forgets_nulls ClickHouse = true

-- there: a text among values of which one is null, which is true or null
abbrev pub in_nulls_sql : Dialect → LogicalType → Data → List ℕ → List ℕ
in_nulls_sql d t vs x = codes "nullIf(" ++ (in_sql d t vs x ++ codes ", 0)")

-- there: a text that may be null among values, by a function, so that it is written once: it equals itself where it isn't null
abbrev pub null_in_sql : Dialect → LogicalType → Data → List ℕ → List ℕ
null_in_sql d t vs x = codes "arrayMap(a -> (a IN (" ++ (with_commas (items_sql d vs t) ++ (codes ")) = (a = a), [" ++ (x ++ codes "])[1]")))

-- a text among some values, of which one may be null, as it may be, and that may be forgotten
abbrev pub in_some_sql : Dialect → LogicalType → Data → Bool → Bool → List ℕ → List ℕ
in_some_sql d t vs true forgets x = in_nulls_sql d t vs x
in_some_sql d t vs false true x = null_in_sql d t vs x
in_some_sql d t vs false false x = in_sql d t vs x

-- a text among no values, for which there is no IN: false where it isn't null
abbrev pub in_none_sql : Dialect → List ℕ → List ℕ
in_none_sql d x = codes "CASE WHEN (" ++ (x ++ (codes " IS NOT NULL) THEN " ++ (truth_sql d false ++ codes " END")))

-- a text, which may be null, among any values
abbrev pub among_sql : Dialect → LogicalType → Data → Bool → List ℕ → List ℕ
among_sql d t vs admits_null x =
    if has_items vs then in_some_sql d t vs (forgets_nulls d && has_null vs) (forgets_nulls d && admits_null) x else in_none_sql d x

-- a text, which may be null, in a list of that type; null of the type before it if the list is
abbrev pub in_list_sql : Dialect → LogicalType → LogicalType → Datum → Bool → List ℕ → List ℕ
in_list_sql d t u (list_of vs) admits_null x = among_sql d (item_type u) vs admits_null x
in_list_sql d t u _ admits_null x = null_sql d t

-- a text, which may be null, in the literal list that is the first child
abbrev pub membership_sql : Dialect → LogicalType → Option Constant → Bool → List ℕ → List ℕ
membership_sql d t None admits_null x = []
membership_sql d t (Some c) admits_null x = in_list_sql d t c.type c.value admits_null x

-- ---- choices

-- the value where the condition is true, and what follows
abbrev pub choice_sql : List ℕ → List ℕ → List ℕ → List ℕ
choice_sql condition value rest = codes "CASE WHEN " ++ (condition ++ (codes " THEN " ++ (value ++ rest)))

-- ---- structs

-- a column of the row, or a field of a struct
abbrev pub item_sql : Dialect → Name → Bool → List ℕ → List ℕ
item_sql d a is_column c = if is_column then name_sql d a else codes "(" ++ (c ++ (codes ")." ++ name_sql d a))

-- a field that is made: its name, and behind it its value
abbrev pub before_field : Dialect → Name → List ℕ
before_field Postgres a = text_sql Postgres a ++ codes ", "
before_field Sqlite a = text_sql Sqlite a ++ codes ", "
before_field DuckDb a = name_sql DuckDb a ++ codes " := "
before_field Spark a = text_sql Spark a ++ codes ", "
before_field ClickHouse a = text_sql ClickHouse a ++ codes ", "

abbrev pub fields_sql : Dialect → List Name → List (List ℕ) → List (List ℕ)
fields_sql d (a ∷ names) (c ∷ cs) = (before_field d a ++ c) ∷ fields_sql d names cs
fields_sql d _ _ = []

-- the function that makes a struct
abbrev pub pack_word : Dialect → List ℕ
pack_word Postgres = codes "named_struct("
pack_word Sqlite = codes "named_struct("
pack_word DuckDb = codes "struct_pack("
pack_word Spark = codes "named_struct("
pack_word ClickHouse = codes "named_struct("

-- ---- trees

-- whether the engine would lose a null of one of the operands, or of a comparison with one of the bounds and not of that with the other
abbrev pub loses_operands : Dialect → BoundTrees → Bool
loses_operands d bs = loses_nulls d && (admits_null_at bs 0 || admits_null_at bs 1)

abbrev pub loses_bounds : Dialect → BoundTrees → Bool
loses_bounds d bs = loses_nulls d && (admits_null_at bs 1 || admits_null_at bs 2)

-- whether its comparisons overlook the end of such an operand
abbrev pub overlooks_operands : Dialect → BoundTrees → Bool
overlooks_operands d bs = overlooks_ends d && has_string_first bs

-- the text of a node of that type over as many children as it takes, whose texts are there
abbrev pub own_sql : Dialect → LogicalType → Function → BoundTrees → List (List ℕ) → List ℕ
own_sql d t (case_when pairs has_else) bs cs = codes "CASE" ++ (pairs_sql cs ++ codes " END")
own_sql d t (get_item a) bs cs = item_sql d a (is_row bs) (get_or cs 0 [])
own_sql d t (literal u v) bs cs = literal_sql d v u
own_sql d t (pack names n) bs cs = pack_word d ++ (with_commas (fields_sql d names cs) ++ codes ")")
own_sql d t (select selection) bs cs = []
own_sql d t fill_null bs cs = codes "COALESCE(" ++ (get_or cs 0 [] ++ (codes ", " ++ (get_or cs 1 [] ++ codes ")")))
own_sql d t zip bs cs = choice_sql (get_or cs 2 []) (get_or cs 0 []) (codes " ELSE " ++ (get_or cs 1 [] ++ codes " END"))
own_sql d t (binary op) bs cs = binary_sql d t (has_text_first bs) (loses_operands d bs) (overlooks_operands d bs) op (get_or cs 0 []) (get_or cs 1 [])
own_sql d t logical_not bs cs = not_sql d (get_or cs 0 [])
own_sql d t (between ls us) bs cs = between_sql d (has_text_first bs) (loses_bounds d bs) (overlooks_operands d bs) ls us (get_or cs 0 []) (get_or cs 1 []) (get_or cs 2 [])
own_sql d t (like negated ci) bs cs = match_sql d negated ci (get_or cs 0 []) (second_pattern d ci bs)
own_sql d t is_null bs cs = null_test d (has_struct_first bs) true (get_or cs 0 [])
own_sql d t is_not_null bs cs = null_test d (has_struct_first bs) false (get_or cs 0 [])
own_sql d t mask bs cs = choice_sql (get_or cs 1 []) (get_or cs 0 []) (codes " END")
own_sql d t (cast u) bs cs = get_or cs 0 []
own_sql d t starts_with bs cs = match_sql d false false (get_or cs 0 []) (second_beginning d bs)
own_sql d t byte_length bs cs = length_sql d (get_or cs 0 [])
own_sql d t list_contains bs cs = membership_sql d t (literal_first bs) (admits_null_at bs 1) (get_or cs 1 [])

-- the text of a node; over another number of children it has none
abbrev pub node_sql : Dialect → LogicalType → Function → BoundTrees → List (List ℕ) → List ℕ
node_sql d t f bs cs = if bound_count_of bs == arity_of f then own_sql d t f bs cs else []

-- the text of a tree, and those of trees; the row as a whole has none
abbrev mutual
  pub sql : Dialect → BoundTree → List ℕ
  sql d (scope t) = []
  sql d (node t f bs) = node_sql d t f bs (sqls d bs)

  pub sqls : Dialect → BoundTrees → List (List ℕ)
  sqls d no_bound = []
  sqls d (bound b bs) = sql d b ∷ sqls d bs

-- the texts of bound expressions
abbrev pub sqls_of : Dialect → List BoundExpression → List (List ℕ)
sqls_of d bs = sqls d (bounds_of bs)

-- ---- what the code has

-- the children that a node's text is made of, and their texts
abbrev pub trees_in : Children → BoundTrees
trees_in c = bounds_of c.nodes.now

abbrev pub sqls_in : Children → List (List ℕ)
sqls_in c = sqls_of c.dialect c.nodes.now
