-- Operators that have their last operand.
use Rattle.std.specs.Prelude.{ℕ, zero, suc, Bool, true, false, List, [], ◌∷◌, ◌++◌, length, Option, Some, None, option_and_then, Result, Ok, Err, nat_le}
use Rattle.std.specs.Option.{is_some}
use Rattle.vx_value.specs.Columns.{Constant}
use Rattle.vx_floats.specs.declared.arithmetic.Arithmetic.{Arithmetic}
use Rattle.vx_floats.specs.declared.arithmetic.Arithmetic.TheVariants.{Sum, Difference, Product, Quotient, Remainder}
use Rattle.vx_fn.specs.Functions.{Function, equal, Operation, compares, or_else, computes, literal, logical_not, binary, like, between, list_contains}
use Rattle.vx_tree.specs.Trees.{Tree}
use Rattle.vx_tree.specs.Views.{trees_from}
use Rattle.vx_source_types.specs.declared.expectation.Expected.{Expected}
use Rattle.vx_source_types.specs.declared.expectation.Expected.TheVariants.{Operand}
use Rattle.vx_source_grammar.specs.Listing.{listed, scalars_in}
use Rattle.vx_source_grammar.specs.Nodes.{node_read}
use Rattle.vx_source_grammar.specs.States.{Frame, in_chain, in_not, in_minus, in_binary, in_like, in_upper, Reading, alone, open_as, when_read}

-- how tightly arithmetic binds: products, quotients and remainders more tightly than sums and differences
abbrev pub arithmetic_level : Arithmetic → ℕ
arithmetic_level Sum = 5
arithmetic_level Difference = 5
arithmetic_level Product = 6
arithmetic_level Quotient = 6
arithmetic_level Remainder = 6

-- how tightly what waits for its last operand binds, the loosest first: or, and, not, comparisons, arithmetic, a minus before an
-- operand; 0 of a bracket, and of what waits for more
abbrev pub level_of : Frame → ℕ
level_of (in_chain or_else es) = 1
level_of (in_chain op es) = 2
level_of in_not = 3
level_of (in_minus z) = 7
level_of (in_binary (computes a) e) = arithmetic_level a
level_of (in_binary op e) = 4
level_of (in_like negated case_insensitive e) = 4
level_of (in_upper lower_strict upper_strict array lower) = 4
level_of f = 0

-- the node over some trees
abbrev pub over : Function → List Tree → ℕ → Result Tree Expected
over f es r = node_read f (trees_from es) r

-- one round: neighbours joined in pairs from left to right, and an odd last one carried on
abbrev pub paired : Operation → ℕ → List Tree → Result (List Tree) Expected
paired op r [] = Ok []
paired op r (e ∷ []) = Ok (e ∷ [])
paired op r (d ∷ e ∷ es) = when_read (λ z. when_read (λ zs. Ok (z ∷ zs)) (paired op r es)) (over (binary op) (d ∷ e ∷ []) r)

-- that many rounds
abbrev pub rounds : ℕ → Operation → ℕ → List Tree → Result (List Tree) Expected
rounds zero op r es = Ok es
rounds (suc n) op r es = when_read (rounds n op r) (paired op r es)

-- what is left of the items, of which there is one at least: as many rounds as items are enough
abbrev pub only_left : List Tree → Result Tree Expected
only_left [] = Err Operand
only_left (e ∷ es) = Ok e

abbrev pub chained : Operation → ℕ → List Tree → Result Tree Expected
chained op r es = when_read only_left (rounds (length es) op r es)

-- the comparisons of an operand with each of some items
abbrev pub equal_to : Tree → ℕ → List Tree → Result (List Tree) Expected
equal_to e r [] = Ok []
equal_to e r (d ∷ ds) = when_read (λ z. when_read (λ zs. Ok (z ∷ zs)) (equal_to e r ds)) (over (binary (compares equal)) (e ∷ d ∷ []) r)

-- the operand is one of the items: a chain of these comparisons
abbrev pub equal_to_one : Tree → ℕ → List Tree → Result Tree Expected
equal_to_one e r ds = when_read (chained or_else r) (equal_to e r ds)

-- the operand is an element of the list
abbrev pub contained : Tree → ℕ → Constant → Result Tree Expected
contained e r c = when_read (λ l. over list_contains (l ∷ e ∷ []) r) (over (literal c.type c.value) [] r)

-- the operand is an element of the list, if there is one, and else one of the items
abbrev pub contained_or : Tree → ℕ → List Tree → Option Constant → Result Tree Expected
contained_or e r ds (Some c) = contained e r c
contained_or e r ds None = equal_to_one e r ds

-- what stands there for a list where literals are left open: a function over them and the operand, which stands behind the first;
-- the readings differ in the function
abbrev pub open_search : Bool → Function
open_search false = binary (compares equal)
open_search true = list_contains

abbrev pub behind_first : Tree → List Tree → List Tree
behind_first e [] = e ∷ []
behind_first e (d ∷ ds) = d ∷ e ∷ ds

-- the operand is one of the items
abbrev pub among : Reading → Tree → ℕ → List Tree → Result Tree Expected
among alone e r ds = contained_or e r ds (option_and_then listed (scalars_in (trees_from ds)))
among (open_as other) e r ds = elim (is_some (scalars_in (trees_from ds))) [ true ↦ over (open_search other) (behind_first e ds) r | false ↦ equal_to_one e r ds ]

-- what waits for the operand, with it
abbrev pub joined : ℕ → Frame → Tree → Result Tree Expected
joined r (in_chain op es) e = chained op r (es ++ e ∷ [])
joined r in_not e = over logical_not (e ∷ []) r
joined r (in_minus z) e = over (binary (computes Difference)) (z ∷ e ∷ []) r
joined r (in_binary op lhs) e = over (binary op) (lhs ∷ e ∷ []) r
joined r (in_like negated case_insensitive lhs) e = over (like negated case_insensitive) (lhs ∷ e ∷ []) r
joined r (in_upper lower_strict upper_strict array lower) e = over (between lower_strict upper_strict) (array ∷ lower ∷ e ∷ []) r
joined r f e = Ok e

-- the operand, joined to all that waits for it and binds at least as tightly, and what is left open
abbrev pub reduced : ℕ → ℕ → List Frame → Tree → Result (List Frame × Tree) Expected
reduced level r [] e = Ok ([], e)
reduced level r (f ∷ fs) e = elim (nat_le level (level_of f)) [ true ↦ when_read (reduced level r fs) (joined r f e) | false ↦ Ok (f ∷ fs, e) ]
