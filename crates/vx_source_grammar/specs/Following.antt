-- What follows an operand: a postfix, an operator, or what closes a bracket.
use Rattle.std.specs.Prelude.{ℕ, ◌==◌, if◌then◌else◌, drop, Bool, true, false, List, [], ◌∷◌, ◌++◌, Option, Some, None, Result, Ok, Err}
use Rattle.vx_value.specs.Types.{Name, truth, ty, atomic, bool}
use Rattle.vx_fn.specs.declared.options.FieldSelection.{FieldSelection}
use Rattle.vx_fn.specs.declared.options.FieldSelection.TheVariants.{Include, Exclude}
use Rattle.vx_floats.specs.declared.arithmetic.Arithmetic.{Arithmetic}
use Rattle.vx_floats.specs.declared.arithmetic.Arithmetic.TheVariants.{Sum, Difference, Product, Quotient, Remainder}
use Rattle.vx_fn.specs.Functions.{Comparison, equal, not_equal, greater, greater_or_equal, less, less_or_equal, Operation, compares, and_also, or_else, computes, Function, get_item, literal, select, fill_null, is_null, is_not_null}
use Rattle.vx_tree.specs.Trees.{Tree}
use Rattle.vx_source_types.specs.declared.expectation.Expected.{Expected}
use Rattle.vx_source_types.specs.declared.expectation.Expected.TheVariants.{Name as AName, OpenParen as AParen, Parens, Like as LikeWord, Null as NullWord, CommaOrCloseBrace}
use Rattle.vx_source_types.specs.declared.token.Sign.{Sign}
use Rattle.vx_source_types.specs.declared.token.Sign.TheVariants.{OpenParen, OpenBrace, CloseBrace, Comma, DoubleColon, Dot, Tilde, Equal, DoubleEqual, NotEqual, Less, LessEqual, Greater, GreaterEqual, Plus, Minus, Star, Slash, Percent}
use Rattle.vx_source_types.specs.Tokens.{Lexeme, word, number as numeral, point, sign, next}
use Rattle.vx_source_types.specs.Names.{name_at}
use Rattle.vx_source_types.specs.Reading.{refused}
use Rattle.vx_source_types.specs.TypeReading.{type_start, within}
use Rattle.vx_source_types.specs.ScalarReading.{suffixed}
use Rattle.vx_source_grammar.specs.declared.words.Keyword.{Keyword}
use Rattle.vx_source_grammar.specs.declared.words.Keyword.TheVariants.{And, Or, Not, Like, Ilike, Between, In, Is, Null, True, False}
use Rattle.vx_source_grammar.specs.Keywords.{keyword_of}
use Rattle.vx_source_grammar.specs.Closing.{closes, node_stands}
use Rattle.vx_source_grammar.specs.Joining.{arithmetic_level, over, reduced}
use Rattle.vx_source_grammar.specs.Numbers.{number_begins}
use Rattle.vx_source_grammar.specs.States.{Reading, Frame, in_chain, in_not, in_binary, in_like, in_lower, in_upper, in_members, for_cast, operand_due, at_dot, at_selection, at_exclusion, selected_name, selected_next, at_not, at_is, at_is_not, at_in, in_type, ExpressionAnswer, goes, when_read, stands_loosely}

-- the comparison of a sign
abbrev pub comparison_of : Sign → Option Comparison
comparison_of Equal = Some equal
comparison_of DoubleEqual = Some equal
comparison_of NotEqual = Some not_equal
comparison_of Less = Some less
comparison_of LessEqual = Some less_or_equal
comparison_of Greater = Some greater
comparison_of GreaterEqual = Some greater_or_equal
comparison_of s = None

-- whether the bound of that comparison is strict, of `<` and `<=`
abbrev pub bound_of : Operation → Option Bool
bound_of (compares less) = Some true
bound_of (compares less_or_equal) = Some false
bound_of op = None

-- the operand with what binds more tightly than a comparison, and what is open around it
abbrev pub summed : List Frame → ℕ → Tree → (List Frame → Tree → ExpressionAnswer) → ExpressionAnswer
summed fs r e f = when_read (λ p. f p.0 p.1) (reduced 5 r fs e)

-- two comparisons one after another: a range, of `<` and `<=`
abbrev pub range_goes : List Frame → ℕ → Tree → Tree → Option Bool → Option Bool → ExpressionAnswer
range_goes fs r lower array (Some lower_strict) (Some upper_strict) = goes (in_upper lower_strict upper_strict array lower ∷ fs) operand_due r
range_goes fs r lower array first second = Err Parens

-- a comparison behind an operand: comparisons don't chain
abbrev pub comparison_goes : ℕ → Comparison → List Frame → Tree → ExpressionAnswer
comparison_goes r c (in_binary op lower ∷ fs) e = range_goes fs r lower e (bound_of op) (bound_of (compares c))
comparison_goes r c (in_like negated case_insensitive lhs ∷ fs) e = Err Parens
comparison_goes r c (in_upper lower_strict upper_strict array lower ∷ fs) e = Err Parens
comparison_goes r c (in_lower array ∷ fs) e = Err Parens
comparison_goes r c fs e = goes (in_binary (compares c) e ∷ fs) operand_due r

-- what is written with words in the place of a comparison's sign: comparisons don't chain
abbrev pub uncompared : List Frame → Tree → Result (List Frame × Tree) Expected
uncompared (in_binary op lhs ∷ fs) e = Err Parens
uncompared (in_like negated case_insensitive lhs ∷ fs) e = Err Parens
uncompared (in_upper lower_strict upper_strict array lower ∷ fs) e = Err Parens
uncompared (in_lower array ∷ fs) e = Err Parens
uncompared fs e = Ok (fs, e)

-- the operand that such a word compares, and what is open around it
abbrev pub comparable : List Frame → ℕ → Tree → Result (List Frame × Tree) Expected
comparable fs r e = when_read (λ p. uncompared p.0 p.1) (reduced 5 r fs e)

abbrev pub worded : List Frame → ℕ → Tree → (List Frame → Tree → ExpressionAnswer) → ExpressionAnswer
worded fs r e f = when_read (λ p. f p.0 p.1) (comparable fs r e)

-- `like` or `ilike`, negated or not
abbrev pub like_goes : ℕ → (negated case_insensitive : Bool) → List Frame → Tree → ExpressionAnswer
like_goes r negated case_insensitive fs e = goes (in_like negated case_insensitive e ∷ fs) operand_due r

-- `between`
abbrev pub between_goes : ℕ → List Frame → Tree → ExpressionAnswer
between_goes r fs e = goes (in_lower e ∷ fs) operand_due r

-- another item of a chain, or the first of one
abbrev pub same_chain : Operation → Operation → Bool
same_chain and_also and_also = true
same_chain or_else or_else = true
same_chain op other = false

abbrev pub item_goes : ℕ → Operation → List Frame → Tree → ExpressionAnswer
item_goes r op (in_chain other es ∷ fs) e = elim (same_chain op other) [ true ↦ goes (in_chain op (es ++ e ∷ []) ∷ fs) operand_due r | false ↦ goes (in_chain op (e ∷ []) ∷ in_chain other es ∷ fs) operand_due r ]
item_goes r op fs e = goes (in_chain op (e ∷ []) ∷ fs) operand_due r

-- `or` or `and` between two items
abbrev pub or_goes : List Frame → ℕ → Tree → ExpressionAnswer
or_goes fs r e = when_read (λ p. item_goes r or_else p.0 p.1) (reduced 2 r fs e)

abbrev pub and_goes : List Frame → ℕ → Tree → ExpressionAnswer
and_goes fs r e = when_read (λ p. item_goes r and_also p.0 p.1) (reduced 3 r fs e)

-- `and` behind an operand: between the bounds of a `between`, or between two items
abbrev pub bounds_or_items : ℕ → List Frame → Tree → ExpressionAnswer
bounds_or_items r (in_lower array ∷ fs) e = goes (in_upper false false array e ∷ fs) operand_due r
bounds_or_items r fs e = and_goes fs r e

-- a keyword behind an operand
abbrev pub word_goes : List Frame → ℕ → Tree → Lexeme → Option Keyword → ExpressionAnswer
word_goes fs r e x (Some And) = summed fs r e (bounds_or_items r)
word_goes fs r e x (Some Or) = or_goes fs r e
word_goes fs r e x (Some Like) = worded fs r e (like_goes r false false)
word_goes fs r e x (Some Ilike) = worded fs r e (like_goes r false true)
word_goes fs r e x (Some Not) = worded fs r e (λ gs d. goes gs (at_not d) r)
word_goes fs r e x (Some Between) = worded fs r e (between_goes r)
word_goes fs r e x (Some In) = worded fs r e (λ gs d. goes gs (at_in d) r)
word_goes fs r e x (Some Is) = worded fs r e (λ gs d. goes gs (at_is d) r)
word_goes fs r e x k = closes fs r e x

-- a comparison's sign, or another, behind an operand
abbrev pub sign_goes : List Frame → ℕ → Tree → Lexeme → Option Comparison → ExpressionAnswer
sign_goes fs r e x (Some c) = summed fs r e (comparison_goes r c)
sign_goes fs r e x None = closes fs r e x

-- arithmetic behind an operand
abbrev pub arithmetic_goes : List Frame → ℕ → Tree → Arithmetic → ExpressionAnswer
arithmetic_goes fs r e a = when_read (λ p. goes (in_binary (computes a) p.1 ∷ p.0) operand_due r) (reduced (arithmetic_level a) r fs e)

-- a number behind an operand that it is taken from, without its sign
abbrev pub less_goes : List Frame → ℕ → Tree → Lexeme → ExpressionAnswer
less_goes fs r e x = when_read (λ p. number_begins (in_binary (computes Difference) p.1 ∷ p.0) r x (suffixed x)) (reduced (arithmetic_level Difference) r fs e)

-- what follows an operand
abbrev pub follows : List Frame → ℕ → Tree → Lexeme → ExpressionAnswer
follows fs r e (sign Dot) = goes fs (at_dot e) r
follows fs r e (sign OpenBrace) = goes fs (at_selection e) r
follows fs r e (sign DoubleColon) = goes fs (in_type (for_cast e) (type_start r)) r
follows fs r e (sign Plus) = arithmetic_goes fs r e Sum
follows fs r e (sign Minus) = arithmetic_goes fs r e Difference
follows fs r e (sign Star) = arithmetic_goes fs r e Product
follows fs r e (sign Slash) = arithmetic_goes fs r e Quotient
follows fs r e (sign Percent) = arithmetic_goes fs r e Remainder
follows fs r e (sign s) = sign_goes fs r e (sign s) (comparison_of s)
follows fs r e (numeral true magnitude suffix) = less_goes fs r e (numeral false magnitude suffix)
follows fs r e (point s) = if next s == 45 then less_goes fs r e (point (drop 1 s)) else closes fs r e (point s)
follows fs r e (word w) = word_goes fs r e (word w) (keyword_of w)
follows fs r e x = closes fs r e x

-- what follows a whole comparison
abbrev pub loose_word_goes : List Frame → ℕ → Tree → Lexeme → Option Keyword → ExpressionAnswer
loose_word_goes fs r e x (Some And) = and_goes fs r e
loose_word_goes fs r e x (Some Or) = or_goes fs r e
loose_word_goes fs r e x (Some Like) = Err Parens
loose_word_goes fs r e x (Some Ilike) = Err Parens
loose_word_goes fs r e x (Some Not) = Err Parens
loose_word_goes fs r e x (Some Between) = Err Parens
loose_word_goes fs r e x (Some In) = Err Parens
loose_word_goes fs r e x (Some Is) = Err Parens
loose_word_goes fs r e x k = closes fs r e x

abbrev pub loose_sign_goes : List Frame → ℕ → Tree → Lexeme → Option Comparison → ExpressionAnswer
loose_sign_goes fs r e x (Some c) = Err Parens
loose_sign_goes fs r e x None = closes fs r e x

abbrev pub follows_loosely : List Frame → ℕ → Tree → Lexeme → ExpressionAnswer
follows_loosely fs r e (sign Dot) = Err Parens
follows_loosely fs r e (sign OpenBrace) = Err Parens
follows_loosely fs r e (sign DoubleColon) = Err Parens
follows_loosely fs r e (sign Plus) = Err Parens
follows_loosely fs r e (sign Minus) = Err Parens
follows_loosely fs r e (sign Star) = Err Parens
follows_loosely fs r e (sign Slash) = Err Parens
follows_loosely fs r e (sign Percent) = Err Parens
follows_loosely fs r e (sign s) = loose_sign_goes fs r e (sign s) (comparison_of s)
follows_loosely fs r e (word w) = loose_word_goes fs r e (word w) (keyword_of w)
follows_loosely fs r e x = closes fs r e x

-- what follows `not` behind an operand: `between` and `in` are what they are without it, negated
abbrev pub not_goes : List Frame → ℕ → Tree → Lexeme → Option Keyword → ExpressionAnswer
not_goes fs r e x (Some Like) = like_goes r true false fs e
not_goes fs r e x (Some Ilike) = like_goes r true true fs e
not_goes fs r e x (Some Between) = between_goes r (in_not ∷ fs) e
not_goes fs r e x (Some In) = goes (in_not ∷ fs) (at_in e) r
not_goes fs r e x k = refused x LikeWord

-- the bracket around the items of `in`
abbrev pub members_at : Reading → List Frame → ℕ → Tree → Lexeme → ExpressionAnswer
members_at reading fs r e (sign OpenParen) = within r (λ less. goes (in_members reading e [] r ∷ fs) operand_due less)
members_at reading fs r e x = refused x AParen

-- a test of the operand, by a function of it
abbrev pub null_goes : List Frame → ℕ → Tree → Function → ExpressionAnswer
null_goes fs r e f = when_read (stands_loosely fs r) (over f (e ∷ []) r)

-- the operand with a truth value in the place of null
abbrev pub filled : Bool → Tree → ℕ → Result Tree Expected
filled b e r = when_read (λ t. over fill_null (e ∷ t ∷ []) r) (over (literal (ty (atomic truth) false) (bool b)) [] r)

abbrev pub truth_goes : List Frame → ℕ → Tree → Bool → ExpressionAnswer
truth_goes fs r e b = when_read (stands_loosely fs r) (filled b e r)

-- what follows `is` and `is not` behind an operand; null is neither true nor false
abbrev pub is_goes : List Frame → ℕ → Tree → Lexeme → Option Keyword → ExpressionAnswer
is_goes fs r e x (Some Not) = goes fs (at_is_not e) r
is_goes fs r e x (Some Null) = null_goes fs r e is_null
is_goes fs r e x (Some True) = truth_goes fs r e false
is_goes fs r e x (Some False) = truth_goes (in_not ∷ fs) r e true
is_goes fs r e x k = refused x NullWord

abbrev pub is_not_goes : List Frame → ℕ → Tree → Lexeme → Option Keyword → ExpressionAnswer
is_not_goes fs r e x (Some Null) = null_goes fs r e is_not_null
is_not_goes fs r e x (Some True) = truth_goes (in_not ∷ fs) r e false
is_not_goes fs r e x (Some False) = truth_goes fs r e true
is_not_goes fs r e x k = refused x NullWord

-- ---- postfixes

-- the field of the operand, if it is a name
abbrev pub field_goes : List Frame → ℕ → Tree → Lexeme → Option Name → ExpressionAnswer
field_goes fs r e x (Some a) = node_stands fs r (get_item a) (e ∷ [])
field_goes fs r e x None = refused x AName

-- a selection of names
abbrev pub selection_of : Bool → List Name → FieldSelection
selection_of true names = Exclude names
selection_of false names = Include names

abbrev pub selected : List Frame → ℕ → Tree → Bool → List Name → ExpressionAnswer
selected fs r e excludes names = node_stands fs r (select (selection_of excludes names)) (e ∷ [])

abbrev pub named_goes : List Frame → ℕ → Tree → Bool → List Name → Lexeme → Option Name → ExpressionAnswer
named_goes fs r e excludes names x (Some a) = goes fs (selected_next e excludes (names ++ a ∷ [])) r
named_goes fs r e excludes names x None = refused x AName

abbrev pub excluded_at : List Frame → ℕ → Tree → Bool → Lexeme → ExpressionAnswer
excluded_at fs r e excludes (sign CloseBrace) = selected fs r e excludes []
excluded_at fs r e excludes x = named_goes fs r e excludes [] x (name_at x)

abbrev pub selection_at : List Frame → ℕ → Tree → Lexeme → ExpressionAnswer
selection_at fs r e (sign Tilde) = goes fs (at_exclusion e) r
selection_at fs r e x = excluded_at fs r e false x

abbrev pub selection_goes : List Frame → ℕ → Tree → Bool → List Name → Lexeme → ExpressionAnswer
selection_goes fs r e excludes names (sign Comma) = goes fs (selected_name e excludes names) r
selection_goes fs r e excludes names (sign CloseBrace) = selected fs r e excludes names
selection_goes fs r e excludes names x = refused x CommaOrCloseBrace
