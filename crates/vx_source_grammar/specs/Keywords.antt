-- Words that are no names where an operand or an operator is due.
use Rattle.std.specs.Prelude.{ℕ, true, false, List, [], ◌∷◌, Option, Some, None, codes}
use Rattle.vx_source_grammar.specs.declared.words.Keyword.{Keyword}
use Rattle.vx_source_grammar.specs.declared.words.Keyword.TheVariants.{And, Or, Not, Like, Ilike, Between, In, Is, Null, True, False, As, Case, When, Then, Else, End}
use Rattle.vx_source_types.specs.Names.{same_word}

-- what stands beside the first word that is the given one, but for the case of its letters
abbrev pub beside : {A : Type 0} → List (List ℕ × A) → List ℕ → Option A
beside [] w = None
beside ((v, a) ∷ rest) w = elim (same_word w v) [ true ↦ Some a | false ↦ beside rest w ]

-- the words of operators, of values, and of a CASE and a cast
abbrev pub operator_words : List (List ℕ × Keyword)
operator_words = (codes "and", And) ∷ (codes "or", Or) ∷ (codes "not", Not) ∷ (codes "like", Like) ∷ (codes "ilike", Ilike) ∷ (codes "between", Between) ∷ (codes "in", In) ∷ (codes "is", Is) ∷ []

abbrev pub value_words : List (List ℕ × Keyword)
value_words = (codes "null", Null) ∷ (codes "true", True) ∷ (codes "false", False) ∷ []

abbrev pub case_words : List (List ℕ × Keyword)
case_words = (codes "case", Case) ∷ (codes "when", When) ∷ (codes "then", Then) ∷ (codes "else", Else) ∷ (codes "end", End) ∷ (codes "as", As) ∷ []

-- the first of two, if there is one, else the second
abbrev pub either : {A : Type 0} → Option A → Option A → Option A
either None other = other
either (Some a) other = Some a

-- the keyword that the word is
abbrev pub keyword_of : List ℕ → Option Keyword
keyword_of w = either (beside operator_words w) (either (beside value_words w) (beside case_words w))
