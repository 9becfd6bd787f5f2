-- Which literals were written without a type, and which children of a node have to agree in type.
use Rattle.std.specs.Prelude.{ℕ, suc, ◌*◌, ◌%◌, ◌==◌, Bool, true, false, ◌&&◌, ◌||◌, not, Option, Some, None, option_and_then, if◌then◌else◌, nat_lt}
use Rattle.std.specs.Option.{is_some}
use Rattle.vx_value.specs.Columns.{Constant, constant}
use Rattle.vx_value.specs.Equality.{equal_type}
use Rattle.vx_fn.specs.Functions.{equal, Function, case_when, get_item, literal, pack, select, fill_null, zip, Operation, compares, and_also, or_else, computes, binary, logical_not, between, like, is_null, is_not_null, mask, cast, starts_with, byte_length, list_contains}
use Rattle.vx_tree.specs.Nodes.{children_of, function_at, tree_at}
use Rattle.vx_tree.specs.Trees.{Tree, root, call, Trees, no_tree, tree}

-- ---- the children of a node that have to agree in type

-- whether a child of a CASE is a value, and no condition
abbrev pub is_branch : ℕ → ℕ → Bool
is_branch pairs i = (i % 2 == 1) || (i == 2 * pairs)

-- whether the child of that index is a peer: it has to agree in type with the other peers, or, looked for in a list, with its
-- elements
abbrev pub is_peer : Function → ℕ → Bool
is_peer (case_when pairs has_else) i = is_branch pairs i
is_peer (get_item a) i = false
is_peer (literal t v) i = false
is_peer (pack names n) i = false
is_peer (select selection) i = false
is_peer fill_null i = true
is_peer zip i = nat_lt i 2
is_peer (binary op) i = true
is_peer logical_not i = false
is_peer (between lower_strict upper_strict) i = true
is_peer (like negated case_insensitive) i = false
is_peer is_null i = false
is_peer is_not_null i = false
is_peer mask i = false
is_peer (cast t) i = false
is_peer starts_with i = false
is_peer byte_length i = false
is_peer list_contains i = true

-- whether the operation's value has the type of its operands
abbrev pub is_arithmetic : Operation → Bool
is_arithmetic (compares c) = false
is_arithmetic and_also = false
is_arithmetic or_else = false
is_arithmetic (computes a) = true

-- whether a node of the function has the type of its peers
abbrev pub has_type_of_peers : Function → Bool
has_type_of_peers (case_when pairs has_else) = true
has_type_of_peers (get_item a) = false
has_type_of_peers (literal t v) = false
has_type_of_peers (pack names n) = false
has_type_of_peers (select selection) = false
has_type_of_peers fill_null = true
has_type_of_peers zip = true
has_type_of_peers (binary op) = is_arithmetic op
has_type_of_peers logical_not = false
has_type_of_peers (between lower_strict upper_strict) = false
has_type_of_peers (like negated case_insensitive) = false
has_type_of_peers is_null = false
has_type_of_peers is_not_null = false
has_type_of_peers mask = false
has_type_of_peers (cast t) = false
has_type_of_peers starts_with = false
has_type_of_peers byte_length = false
has_type_of_peers list_contains = false

-- ---- what was written without a type

-- the scalar of a literal
abbrev pub literal_of : Function → Option Constant
literal_of (literal t v) = Some (constant t v)
literal_of _ = None

-- a scalar to which the other reading gives another type
abbrev pub left_open : Option Constant → Option Constant → Option Constant
left_open (Some c) (Some b) = if equal_type c.type b.type then None else Some c
left_open (Some c) None = None
left_open None other = None

-- the scalar of a literal that was written without a type, so that the other reading, d, gives it another one
abbrev pub open_scalar : Function → Option Tree → Option Constant
open_scalar f d = left_open (literal_of f) (option_and_then literal_of (option_and_then function_at d))

-- whether the node stands for `in` over literals: an equality where the other reading has a search in a list
abbrev pub is_in : Function → Option Tree → Bool
is_in (binary (compares equal)) (Some (call list_contains es)) = true
is_in f d = false

-- what the other reading has at the child of that index
abbrev pub child_at : Option Tree → ℕ → Option Tree
child_at d i = option_and_then (λ n. tree_at (children_of n) i) d

-- whether a tree has no type of its own: a literal that was written without one, or a node that has the type of its peers,
-- none of which has a type of its own
abbrev mutual
  pub is_open : Tree → Option Tree → Bool
  is_open root d = false
  is_open (call f es) d = is_some (open_scalar f d) || (has_type_of_peers f && are_open f 0 es d)

  -- so of each peer among the children from that index on
  pub are_open : Function → ℕ → Trees → Option Tree → Bool
  are_open f i no_tree d = true
  are_open f i (tree e es) d = (not (is_peer f i) || is_open e (child_at d i)) && are_open f (suc i) es d
