-- The statement that an engine runs.
use Rattle.std.specs.Prelude.{◌≡◌, ◌⊎◌, ℕ, Bool, true, List, [], ◌∷◌, ◌++◌, Option, Some, None, codes, map, filter, if◌then◌else◌}
use Rattle.std.specs.List.{join_by, list_any}
use Rattle.std.specs.Option.{option_map, option_or}
use Rattle.std.specs.Str.{bytes_eq}
use Rattle.vx_value.specs.Paths.{Path, minimal_paths}
use Rattle.vx_value.specs.Types.{Name, LogicalType}
use Rattle.vx_fn.specs.Texts.{with_commas}
use Rattle.vx_tree.specs.Trees.{BoundTree}
use Rattle.vx_rewrite_paths.specs.Asked.{referenced}
use Rattle.vx_sql.specs.declared.dialect.Dialect.{Dialect}
use Rattle.vx_sql.specs.Children.{is_struct, names_in}
use Rattle.vx_sql.specs.Quotes.{name_sql}
use Rattle.vx_sql.specs.Reasons.{spelling_reason, name_reason}
use Rattle.vx_sql.specs.SqlTexts.{sql}
use Rattle.vx_sql_plan.specs.declared.refusal.NoStatement.{NoStatement}
use Rattle.vx_sql_plan.specs.declared.refusal.NoStatement.TheVariants.{OutOfMemory, NoColumns, Table, Column}
use Rattle.vx_sql_plan.specs.Pushdown.{pushed}

-- ---- columns

-- whether the path leads into the column, or to the row as a whole
abbrev pub leads_into : Name → Path → Bool
leads_into a [] = true
leads_into a (b ∷ path) = bytes_eq b a

-- the columns of rows of that type into which a path leads, in the type's order
abbrev pub columns_on : List Path → LogicalType → List Name
columns_on paths s = filter (λ a. list_any (leads_into a) paths) (names_in s)

-- the columns that the tree reads of its rows
abbrev pub columns_read : LogicalType → BoundTree → List Name
columns_read s b = columns_on (minimal_paths (referenced b)) s

-- ---- texts

-- the columns with commas between them; where there is none a constant, since a SELECT has to give something
abbrev pub columns_text : List (List ℕ) → List ℕ
columns_text [] = codes "1"
columns_text (c ∷ cs) = with_commas (c ∷ cs)

-- the conditions that all have to be true, if there are any
abbrev pub where_text : List (List ℕ) → List ℕ
where_text [] = []
where_text (c ∷ cs) = codes " WHERE " ++ join_by (λ t. t) (codes " AND ") (c ∷ cs)

abbrev pub select_text : List (List ℕ) → List ℕ → List (List ℕ) → List ℕ
select_text columns table conditions = codes "SELECT " ++ (columns_text columns ++ (codes " FROM " ++ (table ++ where_text conditions)))

-- the columns that the tree reads, from the table, of the rows in which its pushed conjuncts are true
abbrev pub statement : Dialect → LogicalType → BoundTree → Name → List ℕ
statement d s b table = select_text (map (name_sql d) (columns_read s b)) (name_sql d table) (map (sql d) (pushed d b))

-- ---- what stands in the way of it

-- the first of the columns whose name can't be written as that of one column of the row alone
abbrev pub column_refusal : Dialect → List Name → List Name → Option NoStatement
column_refusal d names [] = None
column_refusal d names (a ∷ columns) = option_or (option_map (Column a) (name_reason d names a)) (column_refusal d names columns)

-- rows that are no structs have no columns; then the table's name, and then the columns'
abbrev pub statement_refusal : Dialect → LogicalType → BoundTree → Name → Option NoStatement
statement_refusal d s b table =
    if is_struct s then option_or (option_map Table (spelling_reason d table)) (column_refusal d (names_in s) (columns_read s b)) else Some NoColumns

-- memory ran out, or that very refusal is said
abbrev pub IsRefusalOf : Option NoStatement → NoStatement → Type 0
IsRefusalOf said e = (e ≡ OutOfMemory) ⊎ (said ≡ Some e)
