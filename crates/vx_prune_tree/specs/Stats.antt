-- What is known of a chunk of rows.
use Rattle.std.specs.Prelude.{◌≡◌, ℕ, Bool, false, ◌||◌, ◌==◌, not, List, [], ◌∷◌, Option, Some, None, IfSome, IsTrue, map, length, count_by, unwrap_or, if◌then◌else◌}
use Rattle.std.specs.List.{list_all, AllByRecursion}
use Rattle.std.specs.Map.{lookup}
use Rattle.vx_value.specs.Fields.{field_type, field_value}
use Rattle.vx_value.specs.Paths.{Path, equal_path}
use Rattle.vx_value.specs.Types.{LogicalType, ty, struct, Datum, null, struct_of, is_null_datum}
use Rattle.vx_prune_bounds.specs.Order.{at_most, comparable}
use Rattle.vx_prune_bounds.specs.Bounds.{Bounds, bounds, proper}

-- what is known of the values along a path: how many are null, and a value that each of the others is at least, or at most
pub record FieldFacts : Type 0 where
  pub nulls : Option ℕ
  pub least : Option Datum
  pub greatest : Option Datum

-- these together
abbrev pub field_facts : Option ℕ → Option Datum → Option Datum → FieldFacts
field_facts n l g = record { nulls = n; least = l; greatest = g }

-- that nothing is known
abbrev pub no_facts : FieldFacts
no_facts = field_facts None None None

-- what is known of a chunk: how many rows it has, and of some paths what is known of the values along them
pub record Facts : Type 0 where
  pub rows : ℕ
  pub fields : List (Path × FieldFacts)

-- these together
abbrev pub facts : ℕ → List (Path × FieldFacts) → Facts
facts n fields = record { rows = n; fields = fields }

-- ---- values along paths

-- what is found in a field of that type, and null where there is no field
abbrev pub in_known : Option LogicalType → (LogicalType → Datum) → Datum
in_known None found = null
in_known (Some t) found = found t

-- the value of a row along the path: null where a struct on the way is null, and where the path leads nowhere
abbrev pub at_path : LogicalType → Path → Datum → Datum
at_path t [] v = v
at_path (ty (struct fs) n) (a ∷ path) (struct_of vs) = in_known (field_type a fs) (λ t. at_path t path (field_value a fs vs))
at_path _ _ _ = null

-- the values of the rows along the path
abbrev pub along : LogicalType → Path → List Datum → List Datum
along t path rows = map (at_path t path) rows

-- ---- when what is known is true

-- whether the value is null, or passes
abbrev pub is_null_or : (Datum → Bool) → Datum → Bool
is_null_or test v = is_null_datum v || test v

-- each of the values is null, or passes
abbrev pub EachNullOr : (Datum → Bool) → List Datum → Type 0
EachNullOr test values = IsTrue (list_all (is_null_or test) values)

-- what is known is true of these values
pub record AreTrueOf (f : FieldFacts) (values : List Datum) : Type 0 where
  pub nulls : IfSome f.nulls (λ n. count_by is_null_datum values ≡ n)
  pub least : IfSome f.least (λ l. EachNullOr (λ v. at_most l v) values)
  pub greatest : IfSome f.greatest (λ g. EachNullOr (λ v. at_most v g) values)

-- what is known of the chunk is true of these rows of the type: their number, and of each path what is known of the values along it
pub record Describes (f : Facts) (t : LogicalType) (rows : List Datum) : Type 0 where
  pub count : length rows ≡ f.rows
  pub fields : AllByRecursion (λ (entry : Path × FieldFacts). AreTrueOf entry.1 (along t entry.0 rows)) f.fields

-- ---- what is known of a path

-- the first entry of the path
abbrev pub entry_at : List (Path × FieldFacts) → Path → Option FieldFacts
entry_at fields path = lookup (equal_path path) fields

-- what is known of the values along the path: its first entry, else nothing
abbrev pub facts_at : List (Path × FieldFacts) → Path → FieldFacts
facts_at fields path = unwrap_or (entry_at fields path) no_facts

-- the entries with this one in the place of the first of its path, or behind the others
abbrev pub put_facts : List (Path × FieldFacts) → Path → FieldFacts → List (Path × FieldFacts)
put_facts [] path f = (path, f) ∷ []
put_facts (entry ∷ fields) path f = if equal_path path entry.0 then (entry.0, f) ∷ fields else entry ∷ put_facts fields path f

-- ---- bounds

-- whether that number is known
abbrev pub is_known_as : ℕ → Option ℕ → Bool
is_known_as n None = false
is_known_as n (Some k) = k == n

-- the end of an interval, where a value is known that can be compared
abbrev pub known_end : Option Datum → Option Datum
known_end None = None
known_end (Some v) = comparable v

-- bounds of the values of which that is known, in a chunk of so many rows: one may be null unless it is known that none is, and another
-- value unless it is known that all are null, or the least isn't at most the greatest
abbrev pub field_bounds : ℕ → FieldFacts → Bounds
field_bounds rows f = proper (bounds (not (is_known_as 0 f.nulls)) (not (is_known_as rows f.nulls)) (known_end f.least) (known_end f.greatest))
