-- No expression goes on behind the end of its text.
use Rattle.std.proofs.Common.{◌≡◌, ℕ, false, List, [], ◌∷◌, Result, Ok, Err, refl, ap}
use Rattle.vx_dtype.specs.Types.{LogicalType}
use Rattle.vx_value.specs.Columns.{Constant}
use Rattle.vx_fn.specs.Functions.{Function, get_item, literal, pack, cast}
use Rattle.vx_tree.specs.Trees.{Tree, root}
use Rattle.vx_source_types.specs.declared.expectation.Expected.{Expected}
use Rattle.vx_source_types.specs.Tokens.{end}
use Rattle.vx_source_types.specs.Reading.{Goes, more, done}
use Rattle.vx_source_types.specs.TypeReading.{TypeState, type_step}
use Rattle.vx_source_types.proofs.TypeEnds.{end_stops as type_stops}
use Rattle.vx_source_types.specs.Literals.{typed_literal}
use Rattle.vx_source_types.specs.ScalarReading.{in_value as in_scalar_value, value_after}
use Rattle.vx_source_types.specs.ValueReading.{Drafted, ValueState, value_step}
use Rattle.vx_source_types.proofs.ScalarEnds.{end_stops as scalar_stops}
use Rattle.vx_source_grammar.specs.Beginning.{PlainReading, plain_by, fitting, field_read, literal_before, zero_read, node_before, type_goes, value_goes}
use Rattle.vx_source_grammar.specs.Closing.{bracket_goes, closes}
use Rattle.vx_source_grammar.specs.ExpressionReading.{next_by, step_by}
use Rattle.vx_source_grammar.specs.Joining.{over, reduced}
use Rattle.vx_source_grammar.specs.States.{condition_part, value_part, else_part, Reading, Frame, in_chain, in_not, in_minus, in_binary, in_like, in_lower, in_upper, in_paren, in_members, in_call, in_pack, in_cast, in_case, TypeFor, for_literal, for_cast, for_cast_call, Mode, operand_due, first_child, tight, loose, at_word, at_vortex, at_id, in_options, children_due, at_dot, at_selection, at_exclusion, selected_name, selected_next, first_packed, packed_due, packed_value, pack_end, at_not, at_is, at_is_not, at_in, case_due, at_plus, at_minus, in_value, in_type, ExpressionState, ExpressionAnswer, when_read}

-- the answer isn't that more follows
abbrev Ends : ExpressionAnswer → Type 0
Ends a = (u : ExpressionState) → ¬ (a ≡ Ok (more u))

read_ends : {A : Type 0} (f : A → ExpressionAnswer) (a : Result A Expected) → ((x : A) → Ends (f x)) → Ends (when_read f a)
read_ends f (Ok x) h = h x
read_ends f (Err e) h = λ u q. (cc)

-- ---- behind an operand

bracket_ends : (r : ℕ) (fs : List Frame) (e : Tree) → Ends (bracket_goes r end fs e)
bracket_ends r [] e = λ u q. (cc)
bracket_ends r (in_paren outside ∷ fs) e = λ u q. (cc)
bracket_ends r (in_members reading lhs es outside ∷ fs) e = λ u q. (cc)
bracket_ends r (in_call callee es outside ∷ fs) e = λ u q. (cc)
bracket_ends r (in_pack names es outside ∷ fs) e = λ u q. (cc)
bracket_ends r (in_cast outside ∷ fs) e = λ u q. (cc)
bracket_ends r (in_case condition_part es outside ∷ fs) e = λ u q. (cc)
bracket_ends r (in_case value_part es outside ∷ fs) e = λ u q. (cc)
bracket_ends r (in_case else_part es outside ∷ fs) e = λ u q. (cc)
bracket_ends r (in_chain op es ∷ fs) e = λ u q. (cc)
bracket_ends r (in_not ∷ fs) e = λ u q. (cc)
bracket_ends r (in_minus z ∷ fs) e = λ u q. (cc)
bracket_ends r (in_binary op lhs ∷ fs) e = λ u q. (cc)
bracket_ends r (in_like negated case_insensitive lhs ∷ fs) e = λ u q. (cc)
bracket_ends r (in_lower array ∷ fs) e = λ u q. (cc)
bracket_ends r (in_upper lower_strict upper_strict array lower ∷ fs) e = λ u q. (cc)

closed_ends : (fs : List Frame) (r : ℕ) (e : Tree) → Ends (closes fs r e end)
closed_ends fs r e = read_ends (λ p. bracket_goes r end p.0 p.1) (reduced 1 r fs e) (λ p. bracket_ends r p.0 p.1)

node_ends : (fs : List Frame) (r : ℕ) (f : Function) (es : List Tree) → Ends (node_before fs r f es end)
node_ends fs r f es = read_ends _ (over f es r) (λ e. closed_ends fs r e)

-- ---- values and types

literal_ends : (fs : List Frame) (r : ℕ) (a : Result Constant Expected) → Ends (literal_before fs r end a)
literal_ends fs r (Ok c) = node_ends fs r (literal c.type c.value) []
literal_ends fs r (Err e) = λ u q. (cc)

value_stops : (s t : ValueState) → ¬ (value_step s end ≡ Ok (more t))
value_stops s t = λ e. scalar_stops 0 (in_scalar_value s) (in_scalar_value t) (ap (value_after 0 end) e)

value_ended : (plain : PlainReading) (fs : List Frame) (r : ℕ) (a : Result (Goes ValueState Drafted) Expected) → ((t : ValueState) → ¬ (a ≡ Ok (more t))) → Ends (value_goes plain fs r end a)
value_ended plain fs r (Ok (more s)) h = absurd (h s refl)
value_ended plain fs r (Ok (done d)) h = literal_ends fs r (plain d)
value_ended plain fs r (Err e) h = λ u q. (cc)

type_ended : (fs : List Frame) (r : ℕ) (wanted : TypeFor) (a : Result (Goes TypeState LogicalType) Expected) → ((t : TypeState) → ¬ (a ≡ Ok (more t))) → Ends (type_goes fs r wanted end a)
type_ended fs r wanted (Ok (more s)) h = absurd (h s refl)
type_ended fs r (for_literal d) (Ok (done t)) h = literal_ends fs r (fitting (typed_literal d t))
type_ended fs r (for_cast e) (Ok (done t)) h = node_ends fs r (cast t) (e ∷ [])
type_ended fs r (for_cast_call e outside) (Ok (done t)) h = λ u q. (cc)
type_ended fs r wanted (Err e) h = λ u q. (cc)

-- ---- whatever is due

next_ends : (reading : Reading) (fs : List Frame) (m : Mode) (r : ℕ) → Ends (next_by reading fs m r end)
next_ends reading fs operand_due r = λ u q. (cc)
next_ends reading fs first_child r = λ u q. (cc)
next_ends reading fs (tight e) r = closed_ends fs r e
next_ends reading fs (loose e) r = closed_ends fs r e
next_ends reading fs (at_word a) r = node_ends fs r (get_item a) (root ∷ [])
next_ends reading fs (at_vortex a) r = read_ends _ (field_read a r) (λ e u q. (cc))
next_ends reading fs (at_id a b) r = read_ends _ (field_read a r) (λ e. node_ends fs r (get_item b) (e ∷ []))
next_ends reading fs (in_options b xs opened less) r = λ u q. (cc)
next_ends reading fs (children_due f) r = λ u q. (cc)
next_ends reading fs (at_dot e) r = λ u q. (cc)
next_ends reading fs (at_selection e) r = λ u q. (cc)
next_ends reading fs (at_exclusion e) r = λ u q. (cc)
next_ends reading fs (selected_name e excludes names) r = λ u q. (cc)
next_ends reading fs (selected_next e excludes names) r = λ u q. (cc)
next_ends reading fs first_packed r = λ u q. (cc)
next_ends reading fs packed_due r = λ u q. (cc)
next_ends reading fs packed_value r = λ u q. (cc)
next_ends reading fs (pack_end names es) r = node_ends fs r (pack names false) es
next_ends reading fs (at_not e) r = λ u q. (cc)
next_ends reading fs (at_is e) r = λ u q. (cc)
next_ends reading fs (at_is_not e) r = λ u q. (cc)
next_ends reading fs (at_in e) r = λ u q. (cc)
next_ends reading fs case_due r = λ u q. (cc)
next_ends reading fs at_plus r = λ u q. (cc)
next_ends reading fs at_minus r = read_ends _ (zero_read (plain_by reading) r) (λ z u q. (cc))
next_ends reading fs (in_value s) r = value_ended (plain_by reading) fs r (value_step s end) (value_stops s)
next_ends reading fs (in_type wanted s) r = type_ended fs r wanted (type_step s end) (type_stops s)

pub end_stops : (reading : Reading) (s u : ExpressionState) → ¬ (step_by reading s end ≡ Ok (more u))
end_stops reading s u = next_ends reading s.frames s.mode s.room u
