-- What the options of a function say, between the square brackets behind its name.
use Rattle.std.specs.Prelude.{ℕ, Bool, true, false, ◌&&◌, ◌||◌, List, [], ◌∷◌, Option, Some, None, Result, Ok, Err, codes, option_map, option_and_then}
use Rattle.std.specs.Option.{is_some}
use Rattle.vx_value.specs.Types.{Name}
use Rattle.vx_fn.specs.declared.options.FieldSelection.{FieldSelection}
use Rattle.vx_fn.specs.declared.options.FieldSelection.TheVariants.{Include, Exclude}
use Rattle.vx_floats.specs.declared.arithmetic.Arithmetic.TheVariants.{Sum, Difference, Product, Quotient, Remainder}
use Rattle.vx_fn.specs.Functions.{equal, not_equal, greater, greater_or_equal, less, less_or_equal, Operation, compares, and_also, or_else, computes, Function, case_when, get_item, literal, pack, select, fill_null, zip, binary, logical_not, between, like, is_null, is_not_null, mask, cast, starts_with, byte_length, list_contains}
use Rattle.vx_source_types.specs.declared.expectation.Expected.{Expected}
use Rattle.vx_source_types.specs.declared.expectation.Expected.TheVariants.{CloseBracket as TheBracket, Options}
use Rattle.vx_source_types.specs.declared.token.Sign.TheVariants.{OpenParen, CloseParen, OpenBracket, CloseBracket, OpenBrace, CloseBrace, Comma, Colon, Tilde, Equal, DoubleEqual, NotEqual, Less, LessEqual, Greater, GreaterEqual, Plus, Minus, Star, Slash, Percent}
use Rattle.vx_source_types.specs.Tokens.{Lexeme, word, quoted, sign}
use Rattle.vx_source_types.specs.Names.{name_at, same_word}
use Rattle.vx_source_types.specs.Reading.{more, done, Step, refused}
use Rattle.vx_source_types.specs.TypeReading.{type_start, type_step, length_at}
use Rattle.vx_source_types.specs.ScalarReading.{scalar_due, scalar_step}
use Rattle.vx_source_grammar.specs.Keywords.{beside}

-- the functions without options
abbrev pub plain_functions : List (List ℕ × Function)
plain_functions = (codes "not", logical_not) ∷ (codes "is_null", is_null) ∷ (codes "is_not_null", is_not_null) ∷ (codes "fill_null", fill_null) ∷ (codes "mask", mask) ∷ (codes "zip", zip) ∷ (codes "starts_with", starts_with) ∷ (codes "byte_length", byte_length) ∷ (codes "list_contains", list_contains) ∷ []

-- what some tokens say as a whole, of which the bracket comes behind the last
abbrev pub read_all : {S A : Type 0} → Step S A → S → List Lexeme → Result A Expected
read_all step s [] = elim (step s (sign CloseBracket)) [ Ok g ↦ elim g [ more t ↦ Err TheBracket | done a ↦ Ok a ] | Err e ↦ Err e ]
read_all step s (x ∷ xs) = elim (step s x) [ Ok g ↦ elim g [ more t ↦ read_all step t xs | done a ↦ refused x TheBracket ] | Err e ↦ Err e ]

-- whether a token is that word, in either case
abbrev pub is_keyword : List ℕ → Lexeme → Bool
is_keyword w (word a) = same_word a w
is_keyword w x = false

-- an operator
abbrev pub operation_at : Lexeme → Option Operation
operation_at (sign Equal) = Some (compares equal)
operation_at (sign DoubleEqual) = Some (compares equal)
operation_at (sign NotEqual) = Some (compares not_equal)
operation_at (sign Greater) = Some (compares greater)
operation_at (sign GreaterEqual) = Some (compares greater_or_equal)
operation_at (sign Less) = Some (compares less)
operation_at (sign LessEqual) = Some (compares less_or_equal)
operation_at (sign Plus) = Some (computes Sum)
operation_at (sign Minus) = Some (computes Difference)
operation_at (sign Star) = Some (computes Product)
operation_at (sign Slash) = Some (computes Quotient)
operation_at (sign Percent) = Some (computes Remainder)
operation_at (word w) = beside ((codes "and", and_also) ∷ (codes "or", or_else) ∷ []) w
operation_at x = None

abbrev pub operator_read : List Lexeme → Option Function
operator_read (x ∷ []) = option_map binary (operation_at x)
operator_read xs = None

-- `like` or `ilike`, behind `not` or alone
abbrev pub like_at : Bool → Lexeme → Option Function
like_at negated (word w) = option_map (like negated) (beside ((codes "ilike", true) ∷ (codes "like", false) ∷ []) w)
like_at negated x = None

abbrev pub like_read : List Lexeme → Option Function
like_read (x ∷ []) = like_at false x
like_read (n ∷ x ∷ []) = elim (is_keyword (codes "not") n) [ true ↦ like_at true x | false ↦ None ]
like_read xs = None

-- the sign of a bound
abbrev pub strict_at : Lexeme → Option Bool
strict_at (sign Less) = Some true
strict_at (sign LessEqual) = Some false
strict_at x = None

abbrev pub between_read : List Lexeme → Option Function
between_read (a ∷ sign Colon ∷ lower ∷ sign Comma ∷ b ∷ sign Colon ∷ upper ∷ []) =
    elim (is_keyword (codes "lower_strict") a && is_keyword (codes "upper_strict") b) [
      | true ↦ option_and_then (λ l. option_map (between l) (strict_at upper)) (strict_at lower)
      | false ↦ None
    ]
between_read xs = None

abbrev pub truth_at : Lexeme → Option Bool
truth_at (word w) = beside ((codes "true", true) ∷ (codes "false", false) ∷ []) w
truth_at x = None

abbrev pub case_read : List Lexeme → Option Function
case_read (a ∷ sign OpenParen ∷ b ∷ sign Equal ∷ pairs ∷ sign Comma ∷ c ∷ sign Equal ∷ has_else ∷ sign CloseParen ∷ []) =
    elim (is_keyword (codes "case_when") a && (is_keyword (codes "pairs") b && is_keyword (codes "else") c)) [
      | true ↦ option_and_then (λ n. option_map (case_when n) (truth_at has_else)) (length_at pairs)
      | false ↦ None
    ]
case_read xs = None

-- a name in front of others
abbrev pub name_then : Name → List Name × List Lexeme → List Name × List Lexeme
name_then a (names, rest) = (a ∷ names, rest)

-- the names with commas between them, behind a name and from the first on, and what is left behind them
abbrev pub more_read : List Lexeme → List Name × List Lexeme
more_read (sign Comma ∷ word a ∷ xs) = name_then a (more_read xs)
more_read (sign Comma ∷ quoted a ∷ xs) = name_then a (more_read xs)
more_read xs = ([], xs)

abbrev pub names_read : List Lexeme → List Name × List Lexeme
names_read (word a ∷ xs) = name_then a (more_read xs)
names_read (quoted a ∷ xs) = name_then a (more_read xs)
names_read xs = ([], xs)

abbrev pub braced : (List Name → FieldSelection) → List Name × List Lexeme → Option Function
braced selection (names, sign CloseBrace ∷ []) = Some (select (selection names))
braced selection p = None

abbrev pub select_read : List Lexeme → Option Function
select_read (sign Tilde ∷ sign OpenBrace ∷ xs) = braced Exclude (names_read xs)
select_read (sign OpenBrace ∷ xs) = braced Include (names_read xs)
select_read xs = None

abbrev pub nullability_at : Lexeme → Option Bool
nullability_at (word w) = beside ((codes "nullable", true) ∷ (codes "nonnullable", false) ∷ []) w
nullability_at x = None

abbrev pub packed : List Name × List Lexeme → Option Function
packed (names, sign CloseBracket ∷ sign Comma ∷ a ∷ sign Colon ∷ n ∷ []) = elim (is_keyword (codes "nullability") a) [ true ↦ option_map (pack names) (nullability_at n) | false ↦ None ]
packed p = None

abbrev pub pack_read : List Lexeme → Option Function
pack_read (a ∷ sign Colon ∷ sign OpenBracket ∷ xs) = elim (is_keyword (codes "names") a) [ true ↦ packed (names_read xs) | false ↦ None ]
pack_read xs = None

abbrev pub item_read : List Lexeme → Option Function
item_read (x ∷ []) = option_map get_item (name_at x)
item_read xs = None

-- the functions with options that are neither a type nor a scalar
abbrev pub option_readers : List (List ℕ × (List Lexeme → Option Function))
option_readers = (codes "get_item", item_read) ∷ (codes "pack", pack_read) ∷ (codes "select", select_read) ∷ (codes "binary", operator_read) ∷ (codes "like", like_read) ∷ (codes "between", between_read) ∷ (codes "case_when", case_read) ∷ []

-- whether a function has that name and options
abbrev pub takes_options : Name → Bool
takes_options a = same_word a (codes "literal") || (same_word a (codes "cast") || is_some (beside option_readers a))

-- whether a function has that name
abbrev pub names_function : Name → Bool
names_function a = is_some (beside plain_functions a) || takes_options a

abbrev pub or_options : Option Function → Result Function Expected
or_options (Some f) = Ok f
or_options None = Err Options

abbrev pub other_read : List Lexeme → Option (List Lexeme → Option Function) → Result Function Expected
other_read xs (Some read) = or_options (read xs)
other_read xs None = Err Options

-- a function without options
abbrev pub without_options : Function → List Lexeme → Result Function Expected
without_options f [] = Ok f
without_options f (x ∷ xs) = refused x TheBracket

abbrev pub option_read : Name → List Lexeme → ℕ → Option Function → Result Function Expected
option_read a xs room (Some f) = without_options f xs
option_read a xs room None =
    elim (same_word a (codes "literal")) [
      | true ↦ elim (read_all (scalar_step room) scalar_due xs) [ Ok c ↦ Ok (literal c.type c.value) | Err e ↦ Err e ]
      | false ↦
          elim (same_word a (codes "cast")) [
            | true ↦ elim (read_all type_step (type_start room) xs) [ Ok t ↦ Ok (cast t) | Err e ↦ Err e ]
            | false ↦ other_read xs (beside option_readers a)
          ]
    ]

-- the function of that name with the options that the tokens say
abbrev pub function_read : Name → List Lexeme → ℕ → Result Function Expected
function_read a xs room = option_read a xs room (beside plain_functions a)
