-- Literals that take their type from what they stand beside. Of two readings of a text the first is e; d is the other
-- one, which tells the literals that were written without a type.
use Rattle.std.specs.Prelude.{ℕ, suc, drop, Bool, true, false, List, [], ◌∷◌, Option, Some, None, Result, Ok, Err, option_and_then, if◌then◌else◌}
use Rattle.std.specs.Option.{option_or}
use Rattle.std.specs.Result.{result_ok}
use Rattle.vx_value.specs.Columns.{Constant}
use Rattle.vx_value.specs.Joins.{same_base}
use Rattle.vx_value.specs.Types.{text, LogicalType, ty, atomic, list, Datum, utf8, is_null_datum, with_nullability}
use Rattle.vx_fn.specs.Functions.{Function, literal, list_contains}
use Rattle.vx_tree.specs.Trees.{Tree, root, call, Trees, no_tree, tree, typed}
use Rattle.vx_source_types.specs.Literals.{plain_literal, typed_literal}
use Rattle.vx_source_types.specs.ValueReading.{Drafted, drafted, pointed}
use Rattle.vx_source_types.specs.declared.expectation.Expected.{Expected}
use Rattle.vx_source_grammar.specs.Listing.{listed, scalars_in}
use Rattle.vx_source_over.specs.Peers.{is_peer, open_scalar, is_in, child_at, is_open}

-- why a literal has no type: it is none of the type that it should have, or it needs a type of its own
pub data Refusal : Type 0 where
  misfit : Constant → LogicalType → Refusal
  unexpected : Expected → Refusal

-- what f gives of what was settled, or the refusal
abbrev pub when_settled : {A B : Type 0} → (A → Result B Refusal) → Result A Refusal → Result B Refusal
when_settled f (Ok a) = f a
when_settled f (Err r) = Err r

-- ---- a literal

-- what was written of a scalar that is left open: of a text that may be null a number with a point, of any other its value
abbrev pub written_as : LogicalType → Datum → Drafted
written_as (ty (atomic text) true) (utf8 s) = pointed s
written_as t v = drafted v []

abbrev pub written : Constant → Drafted
written c = written_as c.type c.value

-- whether that is a number with a point
abbrev pub is_pointed : Drafted → Bool
is_pointed (drafted v names) = false
is_pointed (pointed s) = true

-- the literal that was read, or that what was written is none of the type
abbrev pub read_as : LogicalType → Constant → Option Constant → Result Function Refusal
read_as t b (Some c) = Ok (literal c.type c.value)
read_as t b None = Err (misfit b t)

-- what was written as one of the type, if it is one: what the type behind it makes of it
abbrev pub fitted : LogicalType → Constant → Result Function Refusal
fitted t c = read_as t c (typed_literal (written c) t)

-- the literal that a value is read as alone
abbrev pub as_alone : Result Constant Expected → Result Function Refusal
as_alone (Ok c) = Ok (literal c.type c.value)
as_alone (Err x) = Err (unexpected x)

-- the literal of a scalar that was written without a type: of the type that is wished, nullable where the value is null; and
-- where none is wished as it is read alone
abbrev pub literal_as : Option LogicalType → Constant → Result Function Refusal
literal_as (Some t) c = fitted (with_nullability (is_null_datum c.value) t) c
literal_as None c = as_alone (plain_literal (written c))

-- ---- the type that peers wish

-- the type of a tree over a scope of type s, if it has one
abbrev pub type_over : LogicalType → Tree → Option LogicalType
type_over s t = result_ok (typed t s)

-- the first type of those trees that are there
abbrev pub first_type : LogicalType → List (Option Tree) → Option LogicalType
first_type s [] = None
first_type s (None ∷ own) = first_type s own
first_type s (Some t ∷ own) = option_or (type_over s t) (first_type s own)

-- the type that a peer of that type wishes of the others: its own; a list in which something is looked for that of its elements
abbrev pub wish_for : Function → LogicalType → Option LogicalType
wish_for list_contains (ty (list e) n) = Some e
wish_for list_contains t = None
wish_for f t = Some t

-- what the first peer with a type wishes
abbrev pub first_wish : LogicalType → Function → List (Option Tree) → Option LogicalType
first_wish s f own = option_and_then (wish_for f) (first_type s own)

-- ---- `in` over literals

-- the first of the scalars whose type differs from that one's in more than nullability, else that one
abbrev pub odd_one : Constant → List Constant → Constant
odd_one c [] = c
odd_one c (b ∷ cs) = if same_base c.type b.type then odd_one c cs else b

-- the list, or that not all scalars are of the first one's type
abbrev pub list_or_misfit : Constant → List Constant → Option Constant → Result (Option Constant) Refusal
list_or_misfit c cs (Some l) = Ok (Some l)
list_or_misfit c cs None = Err (misfit (odd_one c cs) c.type)

-- the list of the scalars, if there are
abbrev pub list_from : Option (List Constant) → Result (Option Constant) Refusal
list_from (Some (c ∷ cs)) = list_or_misfit c cs (listed (c ∷ cs))
list_from _ = Ok None

-- the list of the literals around the operand, which stands behind the first of them
abbrev pub list_around : Trees → Result (Option Constant) Refusal
list_around (tree l (tree e ls)) = list_from (scalars_in (tree l ls))
list_around ts = Ok None

-- whether the operand is an element of the list
abbrev pub contained : Function → Trees → Option Constant → Tree
contained f (tree l (tree e ls)) (Some c) = call list_contains (tree (call (literal c.type c.value) no_tree) (tree e no_tree))
contained f ts _ = call f ts

-- the node of the function over what is settled below it: for `in` over literals a search in their list
abbrev pub node_with : Function → Option Tree → Trees → Result Tree Refusal
node_with f d ts = if is_in f d then when_settled (λ l. Ok (contained f ts l)) (list_around ts) else Ok (call f ts)

-- ---- a tree

-- nothing where it waits, and else what was settled
abbrev pub unless : Bool → Result Tree Refusal → Result (Option Tree) Refusal
unless true said = Ok None
unless false said = when_settled (λ t. Ok (Some t)) said

-- what is settled already, and else what is said
abbrev pub first_or : List (Option Tree) → Result Tree Refusal → Result Tree Refusal
first_or [] said = said
first_or (None ∷ own) said = said
first_or (Some t ∷ own) said = Ok t

-- the node over what is settled below it, or the literal that it is
abbrev pub node_of : Function → Trees → Option Tree → Option LogicalType → Option Constant → Result Trees Refusal → Result Tree Refusal
node_of f es d w (Some c) below = when_settled (λ g. Ok (call g es)) (literal_as w c)
node_of f es d w None below = when_settled (node_with f d) below

abbrev mutual
  -- a tree that has a type of its own. First its peers with a type of their own are settled; what the first of them with a
  -- type wishes is wished of the other peers
  pub settled : LogicalType → Tree → Option Tree → Result Tree Refusal
  settled s root d = Ok root
  settled s (call f es) d = when_settled (λ own. when_settled (node_with f d) (rest s (first_wish s f own) f 0 es d own)) (owned s f 0 es d)

  -- of the children from that index on the peers with a type of their own, from left to right, and nothing of the others
  pub owned : LogicalType → Function → ℕ → Trees → Option Tree → Result (List (Option Tree)) Refusal
  owned s f i no_tree d = Ok []
  owned s f i (tree e es) d =
      when_settled (λ t. when_settled (λ ts. Ok (t ∷ ts)) (owned s f (suc i) es d)) (if is_peer f i then unless (is_open e (child_at d i)) (settled s e (child_at d i)) else Ok None)

  -- then the others, from left to right: peers with that wish, and children that are no peers without one
  pub rest : LogicalType → Option LogicalType → Function → ℕ → Trees → Option Tree → List (Option Tree) → Result Trees Refusal
  rest s w f i no_tree d own = Ok no_tree
  rest s w f i (tree e es) d own =
      when_settled (λ t. when_settled (λ ts. Ok (tree t ts)) (rest s w f (suc i) es d (drop 1 own)))
      (first_or own (if is_peer f i then wished s w e (child_at d i) else (if is_open e (child_at d i) then wished s None e (child_at d i) else settled s e (child_at d i))))

  -- a tree without a type of its own: its literals take the type that is wished, if one is
  pub wished : LogicalType → Option LogicalType → Tree → Option Tree → Result Tree Refusal
  wished s w root d = Ok root
  wished s w (call f es) d = node_of f es d w (open_scalar f d) (rest s w f 0 es d [])

-- the tree of two readings of a text over a scope of type s
abbrev pub read_over : LogicalType → Tree → Tree → Result Tree Refusal
read_over s e d = if is_open e (Some d) then wished s None e (Some d) else settled s e (Some d)
