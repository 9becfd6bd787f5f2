-- How an expression is read, token by token.
use Rattle.std.specs.Prelude.{ℕ, true, List}
use Rattle.vx_tree.specs.Trees.{Tree}
use Rattle.vx_source_types.specs.Tokens.{Lexeme}
use Rattle.vx_source_types.specs.Names.{name_at}
use Rattle.vx_source_types.specs.Reading.{Step}
use Rattle.vx_source_types.specs.TypeReading.{type_step}
use Rattle.vx_source_types.specs.ValueReading.{value_step}
use Rattle.vx_source_grammar.specs.Beginning.{plain_by, begins, plus_at, minus_at, value_goes, type_goes, word_at, vortex_at, id_at, options_at, children_at, first_child_at, packed_at, first_packed_at, packed_value_at, pack_end_at, case_at}
use Rattle.vx_source_grammar.specs.Closing.{keyword_at}
use Rattle.vx_source_grammar.specs.Following.{follows, follows_loosely, not_goes, members_at, is_goes, is_not_goes, field_goes, excluded_at, selection_at, named_goes, selection_goes}
use Rattle.vx_source_grammar.specs.States.{Reading, alone, Frame, Mode, operand_due, first_child, tight, loose, at_word, at_vortex, at_id, in_options, children_due, at_dot, at_selection, at_exclusion, selected_name, selected_next, first_packed, packed_due, packed_value, pack_end, at_not, at_is, at_is_not, at_in, case_due, at_plus, at_minus, in_value, in_type, ExpressionState, ExpressionAnswer}

-- what a token makes of an expression that is being read so
abbrev pub next_by : Reading → List Frame → Mode → ℕ → Lexeme → ExpressionAnswer
next_by reading fs operand_due r x = begins fs r x
next_by reading fs first_child r x = first_child_at fs r x
next_by reading fs (tight e) r x = follows fs r e x
next_by reading fs (loose e) r x = follows_loosely fs r e x
next_by reading fs (at_word a) r x = word_at fs r a x
next_by reading fs (at_vortex a) r x = vortex_at fs r a x
next_by reading fs (at_id a b) r x = id_at fs r a b x
next_by reading fs (in_options b xs opened less) r x = options_at fs r b xs opened less x
next_by reading fs (children_due f) r x = children_at fs r f x
next_by reading fs (at_dot e) r x = field_goes fs r e x (name_at x)
next_by reading fs (at_selection e) r x = selection_at fs r e x
next_by reading fs (at_exclusion e) r x = excluded_at fs r e true x
next_by reading fs (selected_name e excludes names) r x = named_goes fs r e excludes names x (name_at x)
next_by reading fs (selected_next e excludes names) r x = selection_goes fs r e excludes names x
next_by reading fs first_packed r x = first_packed_at fs r x
next_by reading fs packed_due r x = packed_at fs r x (name_at x)
next_by reading fs packed_value r x = packed_value_at fs r x
next_by reading fs (pack_end names es) r x = pack_end_at fs r names es x
next_by reading fs (at_not e) r x = not_goes fs r e x (keyword_at x)
next_by reading fs (at_is e) r x = is_goes fs r e x (keyword_at x)
next_by reading fs (at_is_not e) r x = is_not_goes fs r e x (keyword_at x)
next_by reading fs (at_in e) r x = members_at reading fs r e x
next_by reading fs case_due r x = case_at fs r x (keyword_at x)
next_by reading fs at_plus r x = plus_at fs r x
next_by reading fs at_minus r x = minus_at (plain_by reading) fs r x
next_by reading fs (in_value s) r x = value_goes (plain_by reading) fs r x (value_step s x)
next_by reading fs (in_type wanted s) r x = type_goes fs r wanted x (type_step s x)

abbrev pub step_by : Reading → Step ExpressionState Tree
step_by reading s x = next_by reading s.frames s.mode s.room x

-- where literals stand alone
abbrev pub expression_next : List Frame → Mode → ℕ → Lexeme → ExpressionAnswer
expression_next = next_by alone

abbrev pub expression_step : Step ExpressionState Tree
expression_step = step_by alone
