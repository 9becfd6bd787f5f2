-- What begins an operand: the scope root, a field, a value, a function, a CASE, or a bracket.
use Rattle.std.specs.Prelude.{ℕ, pos, zero, suc, ◌+◌, ◌==◌, if◌then◌else◌, Bool, true, false, List, [], ◌∷◌, ◌++◌, Option, Some, None, Result, Ok, Err, codes}
use Rattle.std.specs.Str.{bytes_eq}
use Rattle.vx_value.specs.Columns.{Constant}
use Rattle.vx_value.specs.Types.{Name, LogicalType, int}
use Rattle.vx_fn.specs.Functions.{Function, literal, get_item, pack, cast, fill_null, zip, is_null, is_not_null, mask, starts_with, byte_length, list_contains}
use Rattle.vx_tree.specs.Trees.{Tree, root}
use Rattle.vx_source_types.specs.declared.expectation.Expected.{Expected}
use Rattle.vx_source_types.specs.declared.expectation.Expected.TheVariants.{Number, Operand, OperandOrParens, Name as AName, FieldValue, FittingType, Function as AFunction, Options, OpenParen as AParen, CloseParen as TheParen, CloseBracket as TheBracket, When as WhenWord}
use Rattle.vx_source_types.specs.declared.token.Sign.TheVariants.{OpenParen, CloseParen, OpenBracket, CloseBracket, OpenBrace, Colon, DoubleColon, Dot, Question, Plus, Minus, Dollar}
use Rattle.vx_source_types.specs.Tokens.{Lexeme, word, quoted, number as numeral, point, text, octets, sign, end, invalid, next}
use Rattle.vx_source_types.specs.Names.{name_at, same_word}
use Rattle.vx_source_types.specs.Reading.{Goes, more, done, refused}
use Rattle.vx_source_types.specs.TypeReading.{TypeState, type_start, within}
use Rattle.vx_source_types.specs.Literals.{open_literal, plain_literal, typed_literal}
use Rattle.vx_source_types.specs.ScalarReading.{suffixed}
use Rattle.vx_source_types.specs.ValueReading.{Drafted, drafted, ValueState}
use Rattle.vx_source_grammar.specs.declared.words.Keyword.{Keyword}
use Rattle.vx_source_grammar.specs.declared.words.Keyword.TheVariants.{Not, Null, True, False, Case, When}
use Rattle.vx_source_grammar.specs.Keywords.{beside, keyword_of}
use Rattle.vx_source_grammar.specs.OptionReading.{plain_functions, takes_options, names_function, function_read}
use Rattle.vx_source_grammar.specs.Closing.{called, node_stands}
use Rattle.vx_source_grammar.specs.Following.{follows, field_goes}
use Rattle.vx_source_grammar.specs.Joining.{over}
use Rattle.vx_source_grammar.specs.Numbers.{number_begins, value_begins}
use Rattle.vx_source_grammar.specs.States.{Reading, alone, open_as, Callee, own_of, any_of, if_of, condition_part, Frame, in_not, in_minus, in_binary, in_like, in_lower, in_upper, in_paren, in_call, in_pack, in_cast, in_case, TypeFor, for_literal, for_cast, for_cast_call, operand_due, first_child, at_word, at_vortex, at_id, in_options, children_due, first_packed, packed_value, pack_end, case_due, at_plus, at_minus, in_value, in_type, ExpressionAnswer, goes, when_read, stands}

-- a node stands there, before the token
abbrev pub node_before : List Frame → ℕ → Function → List Tree → Lexeme → ExpressionAnswer
node_before fs r f es x = when_read (λ e. follows fs r e x) (over f es r)

-- ---- values and types

abbrev pub literal_before : List Frame → ℕ → Lexeme → Result Constant Expected → ExpressionAnswer
literal_before fs r x (Ok c) = node_before fs r (literal c.type c.value) [] x
literal_before fs r x (Err e) = Err e

-- how a value is read that no type follows
abbrev pub PlainReading : Type 0
PlainReading = Drafted → Result Constant Expected

abbrev pub plain_by : Reading → PlainReading
plain_by alone = plain_literal
plain_by (open_as other) = open_literal other

abbrev pub value_ends : PlainReading → List Frame → ℕ → Drafted → Lexeme → ExpressionAnswer
value_ends plain fs r d (sign DoubleColon) = goes fs (in_type (for_literal d) (type_start r)) r
value_ends plain fs r d x = literal_before fs r x (plain d)

abbrev pub value_goes : PlainReading → List Frame → ℕ → Lexeme → Result (Goes ValueState Drafted) Expected → ExpressionAnswer
value_goes plain fs r x (Ok (more s)) = goes fs (in_value s) r
value_goes plain fs r x (Ok (done d)) = value_ends plain fs r d x
value_goes plain fs r x (Err e) = Err e

abbrev pub fitting : Option Constant → Result Constant Expected
fitting (Some c) = Ok c
fitting None = Err FittingType

abbrev pub cast_ends : List Frame → Tree → ℕ → LogicalType → Lexeme → ExpressionAnswer
cast_ends fs e outside t (sign CloseParen) = node_stands fs outside (cast t) (e ∷ [])
cast_ends fs e outside t x = refused x TheParen

abbrev pub type_ends : List Frame → ℕ → TypeFor → LogicalType → Lexeme → ExpressionAnswer
type_ends fs r (for_literal d) t x = literal_before fs r x (fitting (typed_literal d t))
type_ends fs r (for_cast e) t x = node_before fs r (cast t) (e ∷ []) x
type_ends fs r (for_cast_call e outside) t x = cast_ends fs e outside t x

abbrev pub type_goes : List Frame → ℕ → TypeFor → Lexeme → Result (Goes TypeState LogicalType) Expected → ExpressionAnswer
type_goes fs r wanted x (Ok (more s)) = goes fs (in_type wanted s) r
type_goes fs r wanted x (Ok (done t)) = type_ends fs r wanted t x
type_goes fs r wanted x (Err e) = Err e

-- ---- operands

-- `not`, which is no operand of a comparison or of arithmetic
abbrev pub not_begins : List Frame → ℕ → ExpressionAnswer
not_begins (in_minus z ∷ fs) r = Err OperandOrParens
not_begins (in_binary op e ∷ fs) r = Err OperandOrParens
not_begins (in_like negated case_insensitive e ∷ fs) r = Err OperandOrParens
not_begins (in_lower e ∷ fs) r = Err OperandOrParens
not_begins (in_upper lower_strict upper_strict array lower ∷ fs) r = Err OperandOrParens
not_begins fs r = goes (in_not ∷ fs) operand_due r

abbrev pub word_begins : List Frame → ℕ → Name → Option Keyword → ExpressionAnswer
word_begins fs r a None = goes fs (at_word a) r
word_begins fs r a (Some Null) = value_begins fs r (word a)
word_begins fs r a (Some True) = value_begins fs r (word a)
word_begins fs r a (Some False) = value_begins fs r (word a)
word_begins fs r a (Some Not) = not_begins fs r
word_begins fs r a (Some Case) = within r (λ less. goes (in_case condition_part [] r ∷ fs) case_due less)
word_begins fs r a (Some k) = Err Operand

-- what begins with a token, where an operand is due
abbrev pub begins : List Frame → ℕ → Lexeme → ExpressionAnswer
begins fs r (word a) = word_begins fs r a (keyword_of a)
begins fs r (quoted a) = node_stands fs r (get_item a) (root ∷ [])
begins fs r (sign Dollar) = stands fs r root
begins fs r (sign OpenParen) = within r (λ less. goes (in_paren r ∷ fs) operand_due less)
begins fs r (sign Plus) = goes fs at_plus r
begins fs r (sign Minus) = goes fs at_minus r
begins fs r (sign OpenBracket) = value_begins fs r (sign OpenBracket)
begins fs r (sign OpenBrace) = value_begins fs r (sign OpenBrace)
begins fs r (numeral negative magnitude suffix) = number_begins fs r (numeral negative magnitude suffix) (suffixed (numeral negative magnitude suffix))
begins fs r (point s) = value_begins fs r (point s)
begins fs r (text s) = value_begins fs r (text s)
begins fs r (octets bs) = value_begins fs r (octets bs)
begins fs r x = refused x Operand

-- a number behind a `+` with which an operand begins, which is not below zero
abbrev pub plus_at : List Frame → ℕ → Lexeme → ExpressionAnswer
plus_at fs r (numeral false magnitude suffix) = number_begins fs r (numeral false magnitude suffix) (suffixed (numeral false magnitude suffix))
plus_at fs r (point s) = if next s == 45 then Err Number else value_begins fs r (point s)
plus_at fs r x = refused x Number

-- zero, as a number without a type is read
abbrev pub zero_read : PlainReading → ℕ → Result Tree Expected
zero_read plain r = when_read (λ c. over (literal c.type c.value) [] r) (plain (drafted (int (pos 0)) []))

-- an operand behind a `-`, which is taken from zero
abbrev pub minus_at : PlainReading → List Frame → ℕ → Lexeme → ExpressionAnswer
minus_at plain fs r x = when_read (λ z. begins (in_minus z ∷ fs) r x) (zero_read plain r)

-- ---- functions by name

-- what is called by a name of its own
abbrev pub callees : List (List ℕ × Callee)
callees = (codes "zip", own_of zip) ∷ (codes "coalesce", own_of fill_null) ∷ (codes "fill_null", own_of fill_null) ∷ (codes "mask", own_of mask) ∷ (codes "is_null", own_of is_null) ∷ (codes "is_not_null", own_of is_not_null) ∷ (codes "starts_with", own_of starts_with) ∷ (codes "byte_length", own_of byte_length) ∷ (codes "list_contains", own_of list_contains) ∷ (codes "if", if_of) ∷ []

-- inside the bracket behind a name
abbrev pub call_begins : List Frame → ℕ → Option Callee → ℕ → ExpressionAnswer
call_begins fs r (Some callee) less = goes (in_call callee [] r ∷ fs) first_child less
call_begins fs r None less = Err AFunction

-- the bracket behind a word: the word is the name of a function
abbrev pub word_called : List Frame → ℕ → Name → ℕ → ExpressionAnswer
word_called fs r a less =
    elim (same_word a (codes "pack")) [
      | true ↦ goes (in_pack [] [] r ∷ fs) first_packed less
      | false ↦
          elim (same_word a (codes "cast")) [ true ↦ goes (in_cast r ∷ fs) operand_due less | false ↦ call_begins fs r (beside callees a) less ]
    ]

-- the field of the scope root
abbrev pub field_read : Name → ℕ → Result Tree Expected
field_read a r = over (get_item a) (root ∷ []) r

-- what follows a word: a bracket makes it the name of a function, and a dot behind `vortex` may begin such a name; else it
-- is a field
abbrev pub word_dotted : List Frame → ℕ → Name → ExpressionAnswer
word_dotted fs r a = elim (bytes_eq a (codes "vortex")) [ true ↦ goes fs (at_vortex a) r | false ↦ node_before fs r (get_item a) (root ∷ []) (sign Dot) ]

abbrev pub word_at : List Frame → ℕ → Name → Lexeme → ExpressionAnswer
word_at fs r a (sign OpenParen) = within r (word_called fs r a)
word_at fs r a (sign Dot) = word_dotted fs r a
word_at fs r a x = node_before fs r (get_item a) (root ∷ []) x

-- a name behind `vortex.`, or a field of the field of that name
abbrev pub vortex_at : List Frame → ℕ → Name → Lexeme → ExpressionAnswer
vortex_at fs r a (word b) = goes fs (at_id a b) r
vortex_at fs r a x = when_read (λ e. field_goes fs r e x (name_at x)) (field_read a r)

-- inside the bracket before the children of a function
abbrev pub children_begin : List Frame → ℕ → Callee → ExpressionAnswer
children_begin fs r callee = within r (λ less. goes (in_call callee [] r ∷ fs) first_child less)

-- what is missing where the children of such a name begin that no function without options has
abbrev pub missing : Name → Expected
missing b = elim (takes_options b) [ true ↦ Options | false ↦ AFunction ]

abbrev pub id_called : List Frame → ℕ → Name → Option Function → ExpressionAnswer
id_called fs r b (Some f) = children_begin fs r (own_of f)
id_called fs r b None = Err (missing b)

-- inside the bracket before the options of a function, if there is one
abbrev pub options_begin : List Frame → ℕ → Name → Bool → ExpressionAnswer
options_begin fs r b true = within r (λ less. goes fs (in_options b [] 0 less) r)
options_begin fs r b false = Err AFunction

-- what follows `vortex.` and a name
abbrev pub id_at : List Frame → ℕ → Name → Name → Lexeme → ExpressionAnswer
id_at fs r a b (sign OpenParen) = id_called fs r b (beside plain_functions b)
id_at fs r a b (sign OpenBracket) = options_begin fs r b (names_function b)
id_at fs r a b x = when_read (λ e. node_before fs r (get_item b) (e ∷ []) x) (field_read a r)

-- more options, or the bracket behind them; brackets in them count
abbrev pub options_end : List Frame → ℕ → Name → List Lexeme → ℕ → ℕ → ExpressionAnswer
options_end fs r b xs zero less = when_read (λ f. goes fs (children_due f) r) (function_read b xs less)
options_end fs r b xs (suc opened) less = goes fs (in_options b (xs ++ sign CloseBracket ∷ []) opened less) r

abbrev pub options_at : List Frame → ℕ → Name → List Lexeme → ℕ → ℕ → Lexeme → ExpressionAnswer
options_at fs r b xs opened less (sign OpenBracket) = goes fs (in_options b (xs ++ sign OpenBracket ∷ []) (opened + 1) less) r
options_at fs r b xs opened less (sign CloseBracket) = options_end fs r b xs opened less
options_at fs r b xs opened less end = Err TheBracket
options_at fs r b xs opened less (invalid e) = Err e
options_at fs r b xs opened less x = goes fs (in_options b (xs ++ x ∷ []) opened less) r

abbrev pub children_at : List Frame → ℕ → Function → Lexeme → ExpressionAnswer
children_at fs r f (sign OpenParen) = children_begin fs r (any_of f)
children_at fs r f x = refused x AParen

-- the first child of a call, or its end
abbrev pub first_ends : List Frame → ExpressionAnswer
first_ends (in_call callee es outside ∷ fs) = called fs outside callee es
first_ends fs = Err Operand

abbrev pub first_child_at : List Frame → ℕ → Lexeme → ExpressionAnswer
first_child_at fs r (sign CloseParen) = first_ends fs
first_child_at fs r x = begins fs r x

-- the name of a child of a struct
abbrev pub packed_named : List Frame → ℕ → Name → ExpressionAnswer
packed_named (in_pack names es outside ∷ fs) r a = goes (in_pack (names ++ a ∷ []) es outside ∷ fs) packed_value r
packed_named fs r a = Err Operand

abbrev pub packed_at : List Frame → ℕ → Lexeme → Option Name → ExpressionAnswer
packed_at fs r x (Some a) = packed_named fs r a
packed_at fs r x None = refused x AName

abbrev pub first_packed_ends : List Frame → ExpressionAnswer
first_packed_ends (in_pack names es outside ∷ fs) = goes fs (pack_end names es) outside
first_packed_ends fs = Err Operand

abbrev pub first_packed_at : List Frame → ℕ → Lexeme → ExpressionAnswer
first_packed_at fs r (sign CloseParen) = first_packed_ends fs
first_packed_at fs r x = packed_at fs r x (name_at x)

abbrev pub packed_value_at : List Frame → ℕ → Lexeme → ExpressionAnswer
packed_value_at fs r (sign Colon) = goes fs operand_due r
packed_value_at fs r x = refused x FieldValue

-- a question mark behind a struct makes it nullable
abbrev pub pack_end_at : List Frame → ℕ → List Name → List Tree → Lexeme → ExpressionAnswer
pack_end_at fs r names es (sign Question) = node_stands fs r (pack names true) es
pack_end_at fs r names es x = node_before fs r (pack names false) es x

abbrev pub case_at : List Frame → ℕ → Lexeme → Option Keyword → ExpressionAnswer
case_at fs r x (Some When) = goes fs operand_due r
case_at fs r x k = refused x WhenWord
