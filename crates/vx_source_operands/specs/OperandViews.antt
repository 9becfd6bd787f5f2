-- What operands and readers of expressions stand for.
use Rattle.std.specs.Prelude.{List, map, reverse, Vec}
use Rattle.std.specs.declared.alloc.Global.{Global}
use Rattle.vx_fn.specs.Views.{function_of, operation_of, is_strict}
use Rattle.vx_tree.specs.Trees.{Tree}
use Rattle.vx_tree.specs.Views.{tree_of}
use Rattle.vx_source_types.specs.declared.first.Found.{Found}
use Rattle.vx_source_types.specs.Tokens.{Lexeme}
use Rattle.vx_source_types.specs.Views.{lexeme_of}
use Rattle.vx_source_types.specs.Reading.{Goes, more, done}
use Rattle.vx_source_types.specs.TypeViews as types
use Rattle.vx_source_types.specs.ValueViews as values
use Rattle.vx_source_grammar.specs.States as reading
use Rattle.vx_source_operands.specs.PlainViews.{reading_of}
use Rattle.vx_source_operands.specs.declared.operand.Operand.{Operand}
use Rattle.vx_source_operands.specs.declared.frame.Callee.{Callee}
use Rattle.vx_source_operands.specs.declared.frame.Callee.TheVariants.{Own, Any, If}
use Rattle.vx_source_operands.specs.declared.frame.CasePart.{CasePart}
use Rattle.vx_source_operands.specs.declared.frame.CasePart.TheVariants.{Condition, Value as ItsValue, Else}
use Rattle.vx_source_operands.specs.declared.frame.OpenRange.{OpenRange}
use Rattle.vx_source_operands.specs.declared.frame.Frame.{Frame}
use Rattle.vx_source_operands.specs.declared.frame.Frame.TheVariants.{Chain, Not, Minus, Binary, Like, Lower, Upper, Paren, Members, Call, Pack, Cast, Case}
use Rattle.vx_source_operands.specs.declared.state.TypeFor.{TypeFor}
use Rattle.vx_source_operands.specs.declared.state.TypeFor.TheVariants.{Literal as ForLiteral, Cast as ForCast, CastCall as ForCastCall}
use Rattle.vx_source_operands.specs.declared.state.OptionsSoFar.{OptionsSoFar}
use Rattle.vx_source_operands.specs.declared.state.Mode.{Mode}
use Rattle.vx_source_operands.specs.declared.state.Mode.TheVariants as modes
use Rattle.vx_source_operands.specs.declared.state.ExpressionReader.{ExpressionReader}
use Rattle.vx_source_operands.specs.declared.state.ExpressionStep.{ExpressionStep}
use Rattle.vx_source_operands.specs.declared.state.ExpressionStep.TheVariants.{More, Done}

-- the tree of an operand, and those of several
abbrev pub operand_of : Operand → Tree
operand_of o = tree_of o.tree.value

abbrev pub operands_of : List Operand → List Tree
operands_of os = map operand_of os

-- the tokens of what was found
abbrev pub lexeme_in : Found → Lexeme
lexeme_in x = lexeme_of x.token

abbrev pub lexemes_of : List Found → List Lexeme
lexemes_of xs = map lexeme_in xs

abbrev pub callee_of : Callee → reading.Callee
callee_of (Own f) = reading.own_of (function_of f)
callee_of (Any f) = reading.any_of (function_of f)
callee_of If = reading.if_of

abbrev pub part_of : CasePart → reading.CasePart
part_of Condition = reading.condition_part
part_of ItsValue = reading.value_part
part_of Else = reading.else_part

abbrev pub range_of : OpenRange → reading.Frame
range_of r = reading.in_upper (is_strict r.lower_strict) (is_strict r.upper_strict) (operand_of r.array) (operand_of r.lower)

abbrev pub frame_of : Frame → reading.Frame
frame_of (Chain op os) = reading.in_chain (operation_of op) (operands_of os.items)
frame_of (Not start) = reading.in_not
frame_of (Minus o) = reading.in_minus (operand_of o)
frame_of (Binary op o) = reading.in_binary (operation_of op) (operand_of o)
frame_of (Like options o) = reading.in_like options.negated options.case_insensitive (operand_of o)
frame_of (Lower o) = reading.in_lower (operand_of o)
frame_of (Upper r) = range_of r.value
frame_of (Paren b) = reading.in_paren b.room
frame_of (Members plain o os b) = reading.in_members (reading_of plain) (operand_of o.value) (operands_of os.items) b.room
frame_of (Call callee os b) = reading.in_call (callee_of callee.value) (operands_of os.items) b.room
frame_of (Pack names os b) = reading.in_pack names.items (operands_of os.items) b.room
frame_of (Cast b) = reading.in_cast b.room
frame_of (Case part os b) = reading.in_case (part_of part) (operands_of os.items) b.room

-- the frames that are open, the innermost first
abbrev pub frames_of : List Frame → List reading.Frame
frames_of frames = reverse (map frame_of frames)

abbrev pub type_for : TypeFor → reading.TypeFor
type_for (ForLiteral d start) = reading.for_literal (values.draft_of d)
type_for (ForCast o) = reading.for_cast (operand_of o)
type_for (ForCastCall o b) = reading.for_cast_call (operand_of o) b.room

abbrev pub options_of : OptionsSoFar → reading.Mode
options_of o = reading.in_options o.name (lexemes_of o.tokens.items) o.opened o.room

abbrev pub mode_of : Mode → reading.Mode
mode_of modes.Operand = reading.operand_due
mode_of modes.FirstChild = reading.first_child
mode_of (modes.Tight o) = reading.tight (operand_of o)
mode_of (modes.Loose o) = reading.loose (operand_of o)
mode_of (modes.Word a start end) = reading.at_word a
mode_of (modes.Vortex a start end) = reading.at_vortex a
mode_of (modes.Id a b start end) = reading.at_id a b
mode_of (modes.Options o) = options_of o
mode_of (modes.Children f start) = reading.children_due (function_of f.value)
mode_of (modes.Dot o) = reading.at_dot (operand_of o)
mode_of (modes.Selection o) = reading.at_selection (operand_of o)
mode_of (modes.Exclusion o) = reading.at_exclusion (operand_of o)
mode_of (modes.SelectionName s) = reading.selected_name (operand_of s.operand) s.excludes s.names.items
mode_of (modes.SelectionNext s) = reading.selected_next (operand_of s.operand) s.excludes s.names.items
mode_of (modes.FirstPacked start) = reading.first_packed
mode_of modes.Packed = reading.packed_due
mode_of modes.PackedValue = reading.packed_value
mode_of (modes.PackEnd names os start end) = reading.pack_end names.items (operands_of os.items)
mode_of (modes.NotLike o) = reading.at_not (operand_of o)
mode_of (modes.Is o) = reading.at_is (operand_of o)
mode_of (modes.IsNot o) = reading.at_is_not (operand_of o)
mode_of (modes.In o) = reading.at_in (operand_of o)
mode_of modes.Case = reading.case_due
mode_of (modes.Plus start) = reading.at_plus
mode_of (modes.Minus start) = reading.at_minus
mode_of (modes.Value r start end) = reading.in_value (values.reader_of r.value)
mode_of (modes.Type wanted r end) = reading.in_type (type_for wanted.value) (types.reader_of r.value)

abbrev pub reader_of : ExpressionReader → reading.ExpressionState
reader_of s = record { frames = frames_of s.frames.items; mode = mode_of s.mode; room = s.room }

-- what a token made of an expression that is being read
abbrev pub step_of : ExpressionStep → Goes reading.ExpressionState Tree
step_of (More s) = more (reader_of s)
step_of (Done o) = done (operand_of o)

-- the operands of a list, and what is open with the operand
abbrev pub operands_in : Vec Operand Global → List Tree
operands_in os = operands_of os.items

abbrev pub reduced_of : Vec Frame Global × Operand → List reading.Frame × Tree
reduced_of p = (frames_of p.0.items, operand_of p.1)
