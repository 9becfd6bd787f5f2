-- The options of functions that are neither a type nor a scalar.
use Rattle.std.proofs.Common.{◌≡◌, ℕ, ◌<◌, ◌^◌, Bool, true, false, List, [], ◌∷◌, ◌++◌, length, Option, Some, Ok, refl, ap, ◌∙◌, append_assoc, arith}
use Rattle.std.specs.Prelude.{codes, ◌==◌, nat_lt, option_map, option_and_then}
use Rattle.std.specs.Fmt.{decimal}
use Rattle.std.specs.List.{list_all}
use Rattle.std.specs.Str.{IsUtf8}
use Rattle.std.proofs.lemmas.Bool.{and_parts}
use Rattle.std.proofs.lemmas.Bool.Decides.{nat_tests}
use Rattle.vx_value.specs.Types.{Name}
use Rattle.vx_fn.specs.declared.options.FieldSelection.{FieldSelection}
use Rattle.vx_fn.specs.declared.options.FieldSelection.TheVariants.{Include, Exclude}
use Rattle.vx_floats.specs.declared.arithmetic.Arithmetic.TheVariants.{Sum, Difference, Product, Quotient, Remainder}
use Rattle.vx_fn.specs.Functions.{equal, not_equal, greater, greater_or_equal, less, less_or_equal, Operation, compares, and_also, or_else, computes, Function, case_when, get_item, pack, select, binary, between, like, selection_names}
use Rattle.vx_fn.specs.Texts.{bound_text, truth_text, nullability_text}
use Rattle.vx_dtype.proofs.Choice.{yes}
use Rattle.vx_source_types.proofs.FirstNumbers.{spelled, first_number}
use Rattle.vx_source_types.proofs.FirstSigns.{first_comma, first_open_bracket, first_open_brace, first_close_brace, first_equal}
use Rattle.vx_source_types.specs.Characters.{is_digit}
use Rattle.vx_source_types.specs.declared.token.Sign.TheVariants.{OpenParen, CloseParen, OpenBracket, CloseBracket, OpenBrace, CloseBrace, Comma, Colon, Tilde, Equal, NotEqual, Less, LessEqual, Greater, GreaterEqual, Plus, Minus, Star, Slash, Percent}
use Rattle.vx_source_types.specs.Tokens.{Lexeme, word, number as numeral, sign, next, first}
use Rattle.vx_source_types.specs.Names.{names_source}
use Rattle.vx_source_types.specs.TypeReading.{narrow_length}
use Rattle.vx_source_writer.specs.Options.{options_source}
use Rattle.vx_source_grammar.specs.OptionReading.{truth_at, packed, braced, or_options, function_read}
use Rattle.vx_source_laws.specs.SpelledTrees.{AreTexts}
use Rattle.vx_source_laws.proofs.Collecting.{Brackets, Collected, no_token, one_token, collected_then, of_collected_text}
use Rattle.vx_source_laws.proofs.NamesRead.{IsNameOf, as_word, as_quoted, name_again}
use Rattle.vx_source_laws.proofs.OptionNames.{name_counted, all_names}

-- the options at the front of a text, of which the function of that name is made again, where so much nesting is allowed
pub record AreOptions (f : Function) (b : Name) (room : ℕ) (rest : List ℕ) : Type 0 where
  pub tokens : List Lexeme
  pub collected : Collected 0 (options_source f ++ 93 ∷ rest) tokens 0 (93 ∷ rest)
  pub read : function_read b tokens room ≡ Ok f

-- ---- one token

one_option : {f : Function} {b : Name} {room : ℕ} {rest : List ℕ} (x : Lexeme) → first (options_source f ++ 93 ∷ rest) ≡ (x, 93 ∷ rest) → Brackets 0 x 0 → function_read b (x ∷ []) room ≡ Ok f → AreOptions f b room rest
one_option x p q e = record { tokens = x ∷ []; collected = one_token {m = 0} p q no_token; read = e }

item_back : {a : Name} {x : Lexeme} (room : ℕ) → IsNameOf a x → function_read (codes "get_item") (x ∷ []) room ≡ Ok (get_item a)
item_back room as_word = refl
item_back room as_quoted = refl

pub get_item_options : (a : Name) (room : ℕ) (rest : List ℕ) → IsUtf8 a → AreOptions (get_item a) (codes "get_item") room rest
get_item_options a room rest u = let name = name_again a (93 ∷ rest) u refl refl in one_option name.token name.found (name_counted 0 name.is_name) (item_back room name.is_name)

pub binary_options : (op : Operation) (room : ℕ) (rest : List ℕ) → AreOptions (binary op) (codes "binary") room rest
binary_options (compares equal) room rest = one_option (sign Equal) refl refl refl
binary_options (compares not_equal) room rest = one_option (sign NotEqual) refl refl refl
binary_options (compares greater) room rest = one_option (sign Greater) refl refl refl
binary_options (compares greater_or_equal) room rest = one_option (sign GreaterEqual) refl refl refl
binary_options (compares less) room rest = one_option (sign Less) refl refl refl
binary_options (compares less_or_equal) room rest = one_option (sign LessEqual) refl refl refl
binary_options and_also room rest = one_option (word (codes "and")) refl refl refl
binary_options or_else room rest = one_option (word (codes "or")) refl refl refl
binary_options (computes Sum) room rest = one_option (sign Plus) refl refl refl
binary_options (computes Difference) room rest = one_option (sign Minus) refl refl refl
binary_options (computes Product) room rest = one_option (sign Star) refl refl refl
binary_options (computes Quotient) room rest = one_option (sign Slash) refl refl refl
binary_options (computes Remainder) room rest = one_option (sign Percent) refl refl refl

-- ---- more tokens

pub like_options : (negated case_insensitive : Bool) (room : ℕ) (rest : List ℕ) → AreOptions (like negated case_insensitive) (codes "like") room rest
like_options false false room rest = one_option (word (codes "like")) refl refl refl
like_options false true room rest = one_option (word (codes "ilike")) refl refl refl
like_options true false room rest = record { tokens = word (codes "not") ∷ word (codes "like") ∷ []; collected = one_token {m = 0} refl refl (one_token {m = 0} refl refl no_token); read = refl }
like_options true true room rest = record { tokens = word (codes "not") ∷ word (codes "ilike") ∷ []; collected = one_token {m = 0} refl refl (one_token {m = 0} refl refl no_token); read = refl }

-- the sign of a bound, behind its name
abbrev bound_sign : Bool → Lexeme
bound_sign true = sign Less
bound_sign false = sign LessEqual

lower_collected : (strict : Bool) (rest : List ℕ) → Collected 0 (codes "lower_strict: " ++ (bound_text strict ++ 44 ∷ rest)) (word (codes "lower_strict") ∷ sign Colon ∷ bound_sign strict ∷ sign Comma ∷ []) 0 rest
lower_collected true rest = one_token {m = 0} refl refl (one_token {m = 0} refl refl (one_token {m = 0} refl refl (one_token {m = 0} (first_comma rest) refl no_token)))
lower_collected false rest = one_token {m = 0} refl refl (one_token {m = 0} refl refl (one_token {m = 0} refl refl (one_token {m = 0} (first_comma rest) refl no_token)))

upper_collected : (strict : Bool) (rest : List ℕ) → Collected 0 (codes " upper_strict: " ++ (bound_text strict ++ 93 ∷ rest)) (word (codes "upper_strict") ∷ sign Colon ∷ bound_sign strict ∷ []) 0 (93 ∷ rest)
upper_collected true rest = one_token {m = 0} refl refl (one_token {m = 0} refl refl (one_token {m = 0} refl refl no_token))
upper_collected false rest = one_token {m = 0} refl refl (one_token {m = 0} refl refl (one_token {m = 0} refl refl no_token))

abbrev bound_tokens : Bool → Bool → List Lexeme
bound_tokens lower_strict upper_strict = word (codes "lower_strict") ∷ sign Colon ∷ bound_sign lower_strict ∷ sign Comma ∷ word (codes "upper_strict") ∷ sign Colon ∷ bound_sign upper_strict ∷ []

between_back : (lower_strict upper_strict : Bool) (room : ℕ) → function_read (codes "between") (bound_tokens lower_strict upper_strict) room ≡ Ok (between lower_strict upper_strict)
between_back true true room = refl
between_back true false room = refl
between_back false true room = refl
between_back false false room = refl

pub between_options : (lower_strict upper_strict : Bool) (room : ℕ) (rest : List ℕ) → AreOptions (between lower_strict upper_strict) (codes "between") room rest
between_options lower_strict upper_strict room rest =
    let behind : List ℕ = codes " upper_strict: " ++ (bound_text upper_strict ++ 93 ∷ rest) in
    let grouped : (codes "lower_strict: " ++ (bound_text lower_strict ++ (codes ", upper_strict: " ++ bound_text upper_strict))) ++ 93 ∷ rest ≡ codes "lower_strict: " ++ (bound_text lower_strict ++ 44 ∷ behind) = simp append_assoc in
    record {
      tokens = bound_tokens lower_strict upper_strict;
      collected = of_collected_text grouped (collected_then (lower_collected lower_strict behind) (upper_collected upper_strict rest));
      read = between_back lower_strict upper_strict room;
    }

-- ---- the pairs of a CASE

digit_no_equal : (b : ℕ) → is_digit b ≡ true → (b == 61) ≡ false
digit_no_equal b e = grind (arith, nat_tests)

no_equal : (ds xs : List ℕ) → list_all is_digit ds ≡ true → 0 < length ds → (next (ds ++ xs) == 61) ≡ false
no_equal [] xs e h = absurd (omega arith)
no_equal (d ∷ ds) xs e h = digit_no_equal d (and_parts (is_digit d) (list_all is_digit ds) e).0

few : (n : ℕ) → n < 2 ^ 32 → narrow_length n ≡ Some n
few n h = let below : nat_lt n (2 ^ 32) ≡ true = grind (arith, nat_tests) in yes (nat_lt n (2 ^ 32)) (Some n) _ below

abbrev truth_token : Bool → Lexeme
truth_token true = word (codes "true")
truth_token false = word (codes "false")

-- what stands behind the number of pairs
else_collected : (has_else : Bool) (rest : List ℕ) → Collected 0 (codes ", else=" ++ (truth_text has_else ++ (41 ∷ 93 ∷ rest))) (sign Comma ∷ word (codes "else") ∷ sign Equal ∷ truth_token has_else ∷ sign CloseParen ∷ []) 0 (93 ∷ rest)
else_collected true rest = one_token {m = 0} refl refl (one_token {m = 0} refl refl (one_token {m = 0} refl refl (one_token {m = 0} refl refl (one_token {m = 0} refl refl no_token))))
else_collected false rest = one_token {m = 0} refl refl (one_token {m = 0} refl refl (one_token {m = 0} refl refl (one_token {m = 0} refl refl (one_token {m = 0} refl refl no_token))))

abbrev pairs_read : Bool → Option ℕ → Option Function
pairs_read has_else o = option_and_then (λ n. option_map (case_when n) (truth_at (truth_token has_else))) o

case_read_back : (pairs : ℕ) (has_else : Bool) (room : ℕ) → pairs < 2 ^ 32
    → function_read (codes "case_when") (word (codes "case_when") ∷ sign OpenParen ∷ word (codes "pairs") ∷ sign Equal ∷ numeral false (Some pairs) [] ∷ sign Comma ∷ word (codes "else") ∷ sign Equal ∷ truth_token has_else ∷ sign CloseParen ∷ []) room ≡ Ok (case_when pairs has_else)
case_read_back pairs true room h = ap (λ o. or_options (pairs_read true o)) (few pairs h)
case_read_back pairs false room h = ap (λ o. or_options (pairs_read false o)) (few pairs h)

pub case_options : (pairs : ℕ) (has_else : Bool) (room : ℕ) (rest : List ℕ) → pairs < 2 ^ 32 → AreOptions (case_when pairs has_else) (codes "case_when") room rest
case_options pairs has_else room rest h =
    let behind : List ℕ = codes ", else=" ++ (truth_text has_else ++ (41 ∷ 93 ∷ rest)) in
    let grouped : (codes "case_when(pairs=" ++ (decimal pairs ++ (codes ", else=" ++ (truth_text has_else ++ codes ")")))) ++ 93 ∷ rest ≡ codes "case_when(pairs=" ++ (decimal pairs ++ behind) = simp append_assoc in
    let digits = spelled pairs (omega arith) in
    record {
      tokens = word (codes "case_when") ∷ sign OpenParen ∷ word (codes "pairs") ∷ sign Equal ∷ numeral false (Some pairs) [] ∷ sign Comma ∷ word (codes "else") ∷ sign Equal ∷ truth_token has_else ∷ sign CloseParen ∷ [];
      collected =
          of_collected_text grouped
          (one_token {m = 0} refl refl (one_token {m = 0} refl refl (one_token {m = 0} refl refl
          (one_token {m = 0} (first_equal (decimal pairs ++ behind) (no_equal (decimal pairs) behind digits.1 digits.2)) refl
          (one_token {m = 0} (first_number pairs [] behind (omega arith) (refl, refl) refl refl refl) refl (else_collected has_else rest))))));
      read = case_read_back pairs has_else room h;
    }

-- ---- names

-- what stands behind the names of a struct
abbrev nullability_token : Bool → Lexeme
nullability_token true = word (codes "Nullable")
nullability_token false = word (codes "NonNullable")

nullability_collected : (n : Bool) (rest : List ℕ) → Collected 1 (codes "], nullability: " ++ (nullability_text n ++ 93 ∷ rest)) (sign CloseBracket ∷ sign Comma ∷ word (codes "nullability") ∷ sign Colon ∷ nullability_token n ∷ []) 0 (93 ∷ rest)
nullability_collected true rest = one_token {m = 0} refl refl (one_token {m = 0} refl refl (one_token {m = 0} refl refl (one_token {m = 0} refl refl (one_token {m = 0} refl refl no_token))))
nullability_collected false rest = one_token {m = 0} refl refl (one_token {m = 0} refl refl (one_token {m = 0} refl refl (one_token {m = 0} refl refl (one_token {m = 0} refl refl no_token))))

packed_back : (names : List Name) (n : Bool) → or_options (packed (names, sign CloseBracket ∷ sign Comma ∷ word (codes "nullability") ∷ sign Colon ∷ nullability_token n ∷ [])) ≡ Ok (pack names n)
packed_back names true = refl
packed_back names false = refl

pub pack_options : (names : List Name) (n : Bool) (room : ℕ) (rest : List ℕ) → AreTexts names → AreOptions (pack names n) (codes "pack") room rest
pack_options names n room rest u =
    let behind : List ℕ = codes "], nullability: " ++ (nullability_text n ++ 93 ∷ rest) in
    let grouped : (codes "names: [" ++ (names_source names ++ (codes "], nullability: " ++ nullability_text n))) ++ 93 ∷ rest ≡ codes "names: [" ++ (names_source names ++ behind) = simp append_assoc in
    let known = all_names names behind u refl refl in
    let closing : List Lexeme = sign Comma ∷ word (codes "nullability") ∷ sign Colon ∷ nullability_token n ∷ [] in
    record {
      tokens = word (codes "names") ∷ sign Colon ∷ sign OpenBracket ∷ (known.tokens ++ sign CloseBracket ∷ closing);
      collected =
          of_collected_text grouped
          (one_token {m = 0} refl refl (one_token {m = 0} refl refl (one_token {m = 1} (first_open_bracket (names_source names ++ behind)) refl (collected_then (known.collected 1) (nullability_collected n rest)))));
      read = ap (λ p. or_options (packed p)) (known.read_back (sign CloseBracket) closing (λ ys. (refl, refl))) ∙ packed_back names n;
    }

pub select_options : (selection : FieldSelection) (room : ℕ) (rest : List ℕ) → AreTexts (selection_names selection) → AreOptions (select selection) (codes "select") room rest
select_options (Include names) room rest u =
    let known = all_names names (125 ∷ 93 ∷ rest) u refl refl in
    record {
      tokens = sign OpenBrace ∷ (known.tokens ++ sign CloseBrace ∷ []);
      collected =
          of_collected_text (ap (λ xs. 123 ∷ xs) (append_assoc (names_source names) (codes "}") (93 ∷ rest)))
          (one_token {m = 0} (first_open_brace (names_source names ++ 125 ∷ 93 ∷ rest)) refl (collected_then (known.collected 0) (one_token {m = 0} (first_close_brace (93 ∷ rest)) refl no_token)));
      read = ap (λ p. or_options (braced Include p)) (known.read_back (sign CloseBrace) [] (λ ys. (refl, refl)));
    }
select_options (Exclude names) room rest u =
    let known = all_names names (125 ∷ 93 ∷ rest) u refl refl in
    record {
      tokens = sign Tilde ∷ sign OpenBrace ∷ (known.tokens ++ sign CloseBrace ∷ []);
      collected =
          of_collected_text (ap (λ xs. 126 ∷ 123 ∷ xs) (append_assoc (names_source names) (codes "}") (93 ∷ rest)))
          (one_token {m = 0} refl refl (one_token {m = 0} (first_open_brace (names_source names ++ 125 ∷ 93 ∷ rest)) refl (collected_then (known.collected 0) (one_token {m = 0} (first_close_brace (93 ∷ rest)) refl no_token))));
      read = ap (λ p. or_options (braced Exclude p)) (known.read_back (sign CloseBrace) [] (λ ys. (refl, refl)));
    }
