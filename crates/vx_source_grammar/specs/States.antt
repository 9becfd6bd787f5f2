-- How far an expression is read: what is open around it lies on a stack, and the last token says what is due next.
use Rattle.std.specs.Prelude.{ℕ, Bool, List, [], Result, Ok, Err}
use Rattle.vx_value.specs.Types.{Name}
use Rattle.vx_fn.specs.Functions.{Function, Operation}
use Rattle.vx_tree.specs.Trees.{Tree}
use Rattle.vx_source_types.specs.declared.expectation.Expected.{Expected}
use Rattle.vx_source_types.specs.Tokens.{Lexeme}
use Rattle.vx_source_types.specs.Reading.{Goes, more}
use Rattle.vx_source_types.specs.TypeReading.{TypeState}
use Rattle.vx_source_types.specs.ValueReading.{Drafted, ValueState}

-- how a text is read: as its literals stand alone, or where those that were written without a type are left open, as one of two
-- readings
pub data Reading : Type 0 where
  alone : Reading
  open_as : (other : Bool) → Reading

-- what a call is of: a function over as many children as it takes, one over any number, or a CASE of one condition
pub data Callee : Type 0 where
  own_of : Function → Callee
  any_of : Function → Callee
  if_of : Callee

-- what a CASE waits for behind its operand
pub data CasePart : Type 0 where
  condition_part : CasePart
  value_part : CasePart
  else_part : CasePart

-- what is open around an operand: an operator that waits for it, with what stands before, or a bracket, with what stands in
-- it so far and the nesting that is allowed outside it
pub data Frame : Type 0 where
  in_chain : Operation → List Tree → Frame
  in_not : Frame
  in_minus : Tree → Frame
  in_binary : Operation → Tree → Frame
  in_like : (negated case_insensitive : Bool) → Tree → Frame
  in_lower : Tree → Frame
  in_upper : (lower_strict upper_strict : Bool) → (array lower : Tree) → Frame
  in_paren : (room : ℕ) → Frame
  in_members : Reading → Tree → List Tree → (room : ℕ) → Frame
  in_call : Callee → List Tree → (room : ℕ) → Frame
  in_pack : List Name → List Tree → (room : ℕ) → Frame
  in_cast : (room : ℕ) → Frame
  in_case : CasePart → List Tree → (room : ℕ) → Frame

-- what a type is read for: a value, a cast of what stands before `::`, or a cast between parentheses
pub data TypeFor : Type 0 where
  for_literal : Drafted → TypeFor
  for_cast : Tree → TypeFor
  for_cast_call : Tree → (room : ℕ) → TypeFor

-- what is due next: an operand; a call's first child or its end; what follows an operand, or a whole comparison; what follows
-- a word, `vortex.`, and a name behind that; more options of a function, with so many brackets open in them and the nesting
-- that is allowed there; the children of a function; the name of a field; a selection, its names, and what is between them; the names and the values of a struct,
-- and what follows it; what follows `not`, `is`, `is not` and `in` behind an operand; the first `when`; a number behind a `+`;
-- what stands behind a `-`; more of a value; more of a type
pub data Mode : Type 0 where
  operand_due : Mode
  first_child : Mode
  tight : Tree → Mode
  loose : Tree → Mode
  at_word : Name → Mode
  at_vortex : Name → Mode
  at_id : Name → Name → Mode
  in_options : Name → List Lexeme → (opened room : ℕ) → Mode
  children_due : Function → Mode
  at_dot : Tree → Mode
  at_selection : Tree → Mode
  at_exclusion : Tree → Mode
  selected_name : Tree → (excludes : Bool) → List Name → Mode
  selected_next : Tree → (excludes : Bool) → List Name → Mode
  first_packed : Mode
  packed_due : Mode
  packed_value : Mode
  pack_end : List Name → List Tree → Mode
  at_not : Tree → Mode
  at_is : Tree → Mode
  at_is_not : Tree → Mode
  at_in : Tree → Mode
  case_due : Mode
  at_plus : Mode
  at_minus : Mode
  in_value : ValueState → Mode
  in_type : TypeFor → TypeState → Mode

-- an expression that is being read, and the nesting that is still allowed
pub record ExpressionState : Type 0 where
  pub frames : List Frame
  pub mode : Mode
  pub room : ℕ

abbrev pub ExpressionAnswer : Type 0
ExpressionAnswer = Result (Goes ExpressionState Tree) Expected

-- the state goes on
abbrev pub goes : List Frame → Mode → ℕ → ExpressionAnswer
goes fs m r = Ok (more (record { frames = fs; mode = m; room = r }))

-- nothing of an expression is read, and so much nesting is allowed
abbrev pub expression_start : ℕ → ExpressionState
expression_start room = record { frames = []; mode = operand_due; room = room }

-- what comes of what was read, or the refusal
abbrev pub when_read : {A B : Type 0} → (A → Result B Expected) → Result A Expected → Result B Expected
when_read f (Ok a) = f a
when_read f (Err e) = Err e

-- an operand stands there
abbrev pub stands : List Frame → ℕ → Tree → ExpressionAnswer
stands fs r e = goes fs (tight e) r

-- a whole comparison stands there, behind which no other may follow
abbrev pub stands_loosely : List Frame → ℕ → Tree → ExpressionAnswer
stands_loosely fs r e = goes fs (loose e) r
