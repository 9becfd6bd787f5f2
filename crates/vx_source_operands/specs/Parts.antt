-- Parts of options, and what is read one token after another.
use Rattle.std.specs.Prelude.{◌≡◌, ◌≤◌, ℕ, Bool, true, false, List, [], ◌∷◌, Option, Some, None, Result, Ok, Err, codes}
use Rattle.vx_value.specs.Types.{Name}
use Rattle.vx_fn.specs.Functions.{Function}
use Rattle.vx_source_types.specs.declared.error.ParseError.{ParseError}
use Rattle.vx_source_types.specs.declared.error.ParseError.TheVariants.{OutOfMemory, Unexpected}
use Rattle.vx_source_types.specs.declared.expectation.Expected.{Expected}
use Rattle.vx_source_types.specs.declared.expectation.Expected.TheVariants.{CloseBracket as TheBracket}
use Rattle.vx_source_types.specs.declared.token.Sign.TheVariants.{OpenParen, CloseParen, Comma, Colon, Equal}
use Rattle.vx_source_types.specs.Tokens.{Lexeme, word, quoted, sign}
use Rattle.vx_source_types.specs.Reading.{Goes, more, done, Step, refused}
use Rattle.vx_source_grammar.specs.OptionReading.{is_keyword, read_all, operator_read, like_read, between_read, case_read}

-- the two tokens behind that word, and what is left behind them
abbrev pub behind_word : List ℕ → List Lexeme → Option (Lexeme × Lexeme × List Lexeme)
behind_word w (a ∷ s ∷ x ∷ xs) = elim (is_keyword w a) [ true ↦ Some (s, x, xs) | false ↦ None ]
behind_word w xs = None

-- the token behind that word and a colon, and what is left behind it
abbrev pub labelled : List ℕ → List Lexeme → Option (Lexeme × List Lexeme)
labelled w (a ∷ sign Colon ∷ x ∷ xs) = elim (is_keyword w a) [ true ↦ Some (x, xs) | false ↦ None ]
labelled w xs = None

-- the same, where nothing is left
abbrev pub labelled_last : List ℕ → List Lexeme → Option Lexeme
labelled_last w (a ∷ sign Colon ∷ x ∷ []) = elim (is_keyword w a) [ true ↦ Some x | false ↦ None ]
labelled_last w xs = None

-- what is left behind a comma
abbrev pub behind_comma : List Lexeme → Option (List Lexeme)
behind_comma (sign Comma ∷ xs) = Some xs
behind_comma xs = None

-- what is left behind the word `case_when` and an opening parenthesis
abbrev pub case_inside : List Lexeme → Option (List Lexeme)
case_inside (a ∷ sign OpenParen ∷ xs) = elim (is_keyword (codes "case_when") a) [ true ↦ Some xs | false ↦ None ]
case_inside xs = None

-- the token behind that word and an equals sign, and what is left behind it
abbrev pub assigned : List ℕ → List Lexeme → Option (Lexeme × List Lexeme)
assigned w (a ∷ sign Equal ∷ x ∷ xs) = elim (is_keyword w a) [ true ↦ Some (x, xs) | false ↦ None ]
assigned w xs = None

-- whether the closing parenthesis is all that is left
abbrev pub is_closing : List Lexeme → Bool
is_closing (sign CloseParen ∷ []) = true
is_closing xs = false

-- the token behind the word `else` and an equals sign, where the closing parenthesis is all that is left
abbrev pub case_else : List Lexeme → Option Lexeme
case_else (a ∷ sign Equal ∷ x ∷ sign CloseParen ∷ []) = elim (is_keyword (codes "else") a) [ true ↦ Some x | false ↦ None ]
case_else xs = None

-- the name that stands first, and what is left behind it
abbrev pub first_name : List Lexeme → Option (Name × List Lexeme)
first_name (word a ∷ xs) = Some (a, xs)
first_name (quoted a ∷ xs) = Some (a, xs)
first_name xs = None

-- the name that stands behind a comma, and what is left behind it
abbrev pub next_name : List Lexeme → Option (Name × List Lexeme)
next_name (sign Comma ∷ xs) = first_name xs
next_name xs = None

-- the functions whose options are signs, keywords and numbers
abbrev pub sign_readers : List (List ℕ × (List Lexeme → Option Function))
sign_readers = (codes "binary", operator_read) ∷ (codes "like", like_read) ∷ (codes "between", between_read) ∷ (codes "case_when", case_read) ∷ []

-- what a reader says, if there is one
abbrev pub read_by : List Lexeme → Option (List Lexeme → Option Function) → Option Function
read_by xs (Some read) = read xs
read_by xs None = None

-- what a token makes of what is read so far, where it must not have ended before the token
abbrev pub goes_on : {S A : Type 0} → Lexeme → Result (Goes S A) Expected → Result S Expected
goes_on x (Ok (more s)) = Ok s
goes_on x (Ok (done a)) = refused x TheBracket
goes_on x (Err e) = Err e

-- what is read where no token is left
abbrev pub all_read : {S A : Type 0} → Step S A → S → Result A Expected
all_read step s = read_all step s []

-- the other refusal is the same, no later than there
abbrev pub IsNoLater : ℕ → ParseError → ParseError → Type 0
IsNoLater at OutOfMemory moved = moved ≡ OutOfMemory
IsNoLater at (Unexpected place e) moved = (before : ℕ) × (before ≤ at) × (moved ≡ Unexpected before e)
