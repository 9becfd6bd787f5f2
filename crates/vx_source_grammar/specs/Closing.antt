-- What closes a bracket, or goes on in it.
use Rattle.std.specs.Prelude.{ℕ, ◌/◌, ◌%◌, ◌^◌, ◌==◌, Bool, true, false, List, [], ◌∷◌, ◌++◌, length, Option, Some, None, Ok, Err, nat_lt}
use Rattle.vx_value.specs.Types.{Name}
use Rattle.vx_fn.specs.Functions.{Function, case_when, arity_of}
use Rattle.vx_tree.specs.Trees.{Tree}
use Rattle.vx_source_types.specs.declared.expectation.Expected.TheVariants.{Operator, OperatorOrCloseParen, CommaOrCloseParen, And as AndWord, As as AsWord, Then as ThenWord, WhenElseEnd, EndWord, FewerPairs, Arity}
use Rattle.vx_source_types.specs.declared.token.Sign.TheVariants.{CloseParen, Comma}
use Rattle.vx_source_types.specs.Tokens.{Lexeme, word, sign, end}
use Rattle.vx_source_types.specs.Reading.{done, refused}
use Rattle.vx_source_types.specs.TypeReading.{type_start}
use Rattle.vx_source_grammar.specs.declared.words.Keyword.{Keyword}
use Rattle.vx_source_grammar.specs.declared.words.Keyword.TheVariants.{As, When, Then, Else, End}
use Rattle.vx_source_grammar.specs.Keywords.{keyword_of}
use Rattle.vx_source_grammar.specs.Joining.{over, among, reduced}
use Rattle.vx_source_grammar.specs.States.{Callee, own_of, any_of, if_of, CasePart, condition_part, value_part, else_part, Reading, Frame, in_lower, in_paren, in_members, in_call, in_pack, in_cast, in_case, for_cast_call, operand_due, packed_due, pack_end, in_type, ExpressionAnswer, goes, when_read, stands, stands_loosely}

-- the keyword that a token is
abbrev pub keyword_at : Lexeme → Option Keyword
keyword_at (word w) = keyword_of w
keyword_at x = None

-- the node stands there, outside the bracket
abbrev pub node_stands : List Frame → ℕ → Function → List Tree → ExpressionAnswer
node_stands fs outside f es = when_read (stands fs outside) (over f es outside)

-- the call of the children
abbrev pub called : List Frame → ℕ → Callee → List Tree → ExpressionAnswer
called fs outside (any_of f) es = node_stands fs outside f es
called fs outside (own_of f) es = elim (arity_of f == length es) [ true ↦ node_stands fs outside f es | false ↦ Err Arity ]
called fs outside if_of es = elim (length es == 3) [ true ↦ node_stands fs outside (case_when 1 true) es | false ↦ Err Arity ]

-- what follows an item of `in`
abbrev pub member_ends : List Frame → ℕ → Reading → Tree → List Tree → ℕ → Lexeme → ExpressionAnswer
member_ends fs r reading e es outside (sign Comma) = goes (in_members reading e es outside ∷ fs) operand_due r
member_ends fs r reading e es outside (sign CloseParen) = when_read (stands_loosely fs outside) (among reading e outside es)
member_ends fs r reading e es outside x = refused x CommaOrCloseParen

-- whether a call takes another child behind so many
abbrev pub takes_more : Callee → ℕ → Bool
takes_more (any_of f) n = true
takes_more (own_of f) n = nat_lt n (arity_of f)
takes_more if_of n = nat_lt n 3

-- what follows a child of a call: a comma where the call takes another one, and the bracket
abbrev pub child_ends : List Frame → ℕ → Callee → List Tree → ℕ → Lexeme → ExpressionAnswer
child_ends fs r callee es outside (sign Comma) = elim (takes_more callee (length es)) [ true ↦ goes (in_call callee es outside ∷ fs) operand_due r | false ↦ Err Arity ]
child_ends fs r callee es outside (sign CloseParen) = called fs outside callee es
child_ends fs r callee es outside x = refused x CommaOrCloseParen

-- what follows a child of a struct
abbrev pub packed_ends : List Frame → ℕ → List Name → List Tree → ℕ → Lexeme → ExpressionAnswer
packed_ends fs r names es outside (sign Comma) = goes (in_pack names es outside ∷ fs) packed_due r
packed_ends fs r names es outside (sign CloseParen) = goes fs (pack_end names es) outside
packed_ends fs r names es outside x = refused x CommaOrCloseParen

-- what follows what stands between parentheses
abbrev pub paren_ends : List Frame → Tree → ℕ → Lexeme → ExpressionAnswer
paren_ends fs e outside (sign CloseParen) = stands fs outside e
paren_ends fs e outside x = refused x OperatorOrCloseParen

-- what follows what is cast
abbrev pub cast_goes : List Frame → ℕ → Tree → ℕ → Lexeme → Option Keyword → ExpressionAnswer
cast_goes fs r e outside x (Some As) = goes fs (in_type (for_cast_call e outside) (type_start r)) r
cast_goes fs r e outside x k = refused x AsWord

-- the CASE of conditions and values in turn, and what is left over as the ELSE value
abbrev pub case_ends : List Frame → List Tree → ℕ → ExpressionAnswer
case_ends fs es outside =
    let pairs = length es / 2 in
    elim (nat_lt pairs (2 ^ 32)) [ true ↦ node_stands fs outside (case_when pairs (length es % 2 == 1)) es | false ↦ Err FewerPairs ]

-- what follows a part of a CASE
abbrev pub case_goes : List Frame → ℕ → CasePart → List Tree → ℕ → Lexeme → Option Keyword → ExpressionAnswer
case_goes fs r condition_part es outside x (Some Then) = goes (in_case value_part es outside ∷ fs) operand_due r
case_goes fs r condition_part es outside x k = refused x ThenWord
case_goes fs r value_part es outside x (Some When) = goes (in_case condition_part es outside ∷ fs) operand_due r
case_goes fs r value_part es outside x (Some Else) = goes (in_case else_part es outside ∷ fs) operand_due r
case_goes fs r value_part es outside x (Some End) = case_ends fs es outside
case_goes fs r value_part es outside x k = refused x WhenElseEnd
case_goes fs r else_part es outside x (Some End) = case_ends fs es outside
case_goes fs r else_part es outside x k = refused x EndWord

-- the whole expression, where the text ends
abbrev pub whole_ends : Tree → Lexeme → ExpressionAnswer
whole_ends e end = Ok (done e)
whole_ends e x = refused x Operator

-- what a token makes of the bracket that is open outside
abbrev pub bracket_goes : ℕ → Lexeme → List Frame → Tree → ExpressionAnswer
bracket_goes r x [] e = whole_ends e x
bracket_goes r x (in_paren outside ∷ fs) e = paren_ends fs e outside x
bracket_goes r x (in_members reading lhs es outside ∷ fs) e = member_ends fs r reading lhs (es ++ e ∷ []) outside x
bracket_goes r x (in_call callee es outside ∷ fs) e = child_ends fs r callee (es ++ e ∷ []) outside x
bracket_goes r x (in_pack names es outside ∷ fs) e = packed_ends fs r names (es ++ e ∷ []) outside x
bracket_goes r x (in_cast outside ∷ fs) e = cast_goes fs r e outside x (keyword_at x)
bracket_goes r x (in_case part es outside ∷ fs) e = case_goes fs r part (es ++ e ∷ []) outside x (keyword_at x)
bracket_goes r x (in_lower array ∷ fs) e = refused x AndWord
bracket_goes r x (f ∷ fs) e = refused x Operator

-- all operators have their last operand
abbrev pub closes : List Frame → ℕ → Tree → Lexeme → ExpressionAnswer
closes fs r e x = when_read (λ p. bracket_goes r x p.0 p.1) (reduced 1 r fs e)
