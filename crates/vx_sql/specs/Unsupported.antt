-- Where in a tree the first node is that has no SQL text.
use Rattle.std.specs.Prelude.{◌≡◌, ℕ, ◌+◌, ◌==◌, Bool, false, List, [], ◌∷◌, ◌++◌, Option, Some, None, option_and_then, Result, Ok, Err, if◌then◌else◌}
use Rattle.std.specs.Option.{option_map, option_or}
use Rattle.vx_fn.specs.Functions.{Function, get_item, list_contains}
use Rattle.vx_tree.specs.Trees.{BoundTree, scope, node, BoundTrees, no_bound, bound}
use Rattle.vx_sql.specs.declared.dialect.Dialect.{Dialect}
use Rattle.vx_sql.specs.declared.unsupported.Reason.{Reason}
use Rattle.vx_sql.specs.declared.unsupported.Reason.TheVariants.{Row}
use Rattle.vx_sql.specs.declared.unsupported.Unsupported.{Unsupported}
use Rattle.vx_sql.specs.declared.unsupported.Unsupported.TheVariants.{OutOfMemory, Node}
use Rattle.vx_sql.specs.Reasons.{own_reason}
use Rattle.vx_sql.specs.Children.{is_row}
use Rattle.vx_sql.specs.SqlTexts.{sql}

-- the child indices from a tree's first node down to another, and why that has no text
abbrev pub Refused : Type 0
Refused = List ℕ × Reason

-- the same seen from the node above
abbrev pub below : ℕ → Refused → Refused
below i (path, reason) = (i ∷ path, reason)

-- whether the node is a column: then the row below it isn't asked for a text
abbrev pub is_column : Function → BoundTrees → Bool
is_column (get_item a) bs = is_row bs
is_column _ bs = false

-- the first child that is asked for a text: a list that values are looked up in has none, as the node's own has its elements
abbrev pub first_asked : Function → ℕ
first_asked list_contains = 1
first_asked _ = 0

-- the first node without a text: the tree's own, then the children's from left to right
abbrev mutual
  pub first_unsupported : Dialect → BoundTree → Option Refused
  first_unsupported d (scope t) = Some ([], Row)
  first_unsupported d (node t f bs) =
      option_or (option_map (λ reason. ([], reason)) (own_reason d t f bs)) (if is_column f bs then None else first_unsupported_past d (first_asked f) bs)

  -- the children from the first that is asked on
  pub first_unsupported_past : Dialect → ℕ → BoundTrees → Option Refused
  first_unsupported_past d first no_bound = None
  first_unsupported_past d first (bound b bs) =
      option_or (if first == 0 then option_map (below 0) (first_unsupported d b) else None) (first_unsupported_from d 1 bs)

  pub first_unsupported_from : Dialect → ℕ → BoundTrees → Option Refused
  first_unsupported_from d i no_bound = None
  first_unsupported_from d i (bound b bs) = option_or (option_map (below i) (first_unsupported d b)) (first_unsupported_from d (i + 1) bs)

-- the text, where no node is in the way
abbrev pub text_or : List ℕ → Option Refused → Result (List ℕ) Refused
text_or text None = Ok text
text_or text (Some refused) = Err refused

-- the SQL text of a tree, or the first node that has none
abbrev pub sql_text : Dialect → BoundTree → Result (List ℕ) Refused
sql_text d b = text_or (sql d b) (first_unsupported d b)

-- ---- what calls answer

-- the node that an answer tells of
abbrev pub node_of : Unsupported → Option Refused
node_of OutOfMemory = None
node_of (Node path reason) = Some (path.items, reason)

abbrev pub refused_of : Option Unsupported → Option Refused
refused_of o = option_and_then node_of o

-- it is want of memory, or the refusal that is said
abbrev pub IsRefusal : Result (List ℕ) Refused → Unsupported → Type 0
IsRefusal said OutOfMemory = Unit {0}
IsRefusal said (Node path reason) = said ≡ Err (path.items, reason)

-- a reason is told of the node that is said, and the path goes on to it; none is where nothing is said
abbrev pub LeadsToUnsupported : List ℕ → Option Refused → List ℕ → Option Reason → Type 0
LeadsToUnsupported old said new None = (said ≡ None) × (new ≡ old)
LeadsToUnsupported old said new (Some reason) = (path : List ℕ) × (new ≡ old ++ path) × (said ≡ Some (path, reason))
