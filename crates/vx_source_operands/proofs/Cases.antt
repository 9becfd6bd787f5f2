-- The options of a CASE, read part after part.
use Rattle.std.proofs.Common.{◌≡◌, Bool, true, false, List, [], ◌∷◌, Option, Some, None, refl, sym, ap, ◌∙◌}
use Rattle.std.specs.Prelude.{codes, ◌&&◌, option_map, option_and_then}
use Rattle.vx_fn.specs.Functions.{Function, case_when}
use Rattle.vx_source_types.specs.declared.token.Sign.TheVariants.{OpenParen, CloseParen, Comma, Equal}
use Rattle.vx_source_types.specs.Tokens.{Lexeme, sign}
use Rattle.vx_source_types.specs.TypeReading.{length_at}
use Rattle.vx_source_grammar.specs.OptionReading.{case_read, is_keyword, truth_at}
use Rattle.vx_source_operands.specs.Parts.{assigned, behind_comma, case_inside, case_else}
use Rattle.vx_source_operands.proofs.Keywords.{where_true, nothing}

abbrev ends : Lexeme → Option Lexeme → Option Function
ends pairs (Some x) = option_and_then (λ n. option_map (case_when n) (truth_at x)) (length_at pairs)
ends pairs None = None

abbrev middle : Lexeme → Option (List Lexeme) → Option Function
middle pairs (Some xs) = ends pairs (case_else xs)
middle pairs None = None

abbrev counted : Option (Lexeme × List Lexeme) → Option Function
counted (Some (pairs, xs)) = middle pairs (behind_comma xs)
counted None = None

abbrev begins : Option (List Lexeme) → Option Function
begins (Some xs) = counted (assigned (codes "pairs") xs)
begins None = None

-- the three keywords
all_three : (a b c : Bool) (pairs x : Lexeme)
    → (elim (a && (b && c)) as (λ _. Option Function) [ true ↦ ends pairs (Some x) | false ↦ None ])
    ≡ where_true (a && b) (ends pairs (elim c as (λ _. Option Lexeme) [ true ↦ Some x | false ↦ None ]))
all_three true true true pairs x = refl
all_three true true false pairs x = refl
all_three true false c pairs x = refl
all_three false b c pairs x = refl

ends_is : (a b pairs : Lexeme) (xs : List Lexeme)
    → case_read (a ∷ sign OpenParen ∷ b ∷ sign Equal ∷ pairs ∷ sign Comma ∷ xs)
    ≡ where_true (is_keyword (codes "case_when") a && is_keyword (codes "pairs") b) (ends pairs (case_else xs))
ends_is a b pairs (c ∷ sign Equal ∷ x ∷ sign CloseParen ∷ []) =
    all_three (is_keyword (codes "case_when") a) (is_keyword (codes "pairs") b) (is_keyword (codes "else") c) pairs x
ends_is a b pairs xs = nothing (is_keyword (codes "case_when") a && is_keyword (codes "pairs") b)

middle_is : (a b pairs : Lexeme) (xs : List Lexeme)
    → case_read (a ∷ sign OpenParen ∷ b ∷ sign Equal ∷ pairs ∷ xs)
    ≡ where_true (is_keyword (codes "case_when") a && is_keyword (codes "pairs") b) (middle pairs (behind_comma xs))
middle_is a b pairs (sign Comma ∷ xs) = ends_is a b pairs xs
middle_is a b pairs xs = nothing (is_keyword (codes "case_when") a && is_keyword (codes "pairs") b)

first_two : (a b : Bool) (pairs : Lexeme) (xs : List Lexeme) (o : Option Function) → o ≡ where_true (a && b) (middle pairs (behind_comma xs))
    → o ≡ where_true a (counted (elim b as (λ _. Option (Lexeme × List Lexeme)) [ true ↦ Some (pairs, xs) | false ↦ None ]))
first_two true true pairs xs o h = h
first_two true false pairs xs o h = h
first_two false b pairs xs o h = h

counted_is : (a : Lexeme) (xs : List Lexeme)
    → case_read (a ∷ sign OpenParen ∷ xs) ≡ where_true (is_keyword (codes "case_when") a) (counted (assigned (codes "pairs") xs))
counted_is a (b ∷ sign Equal ∷ pairs ∷ xs) =
    first_two (is_keyword (codes "case_when") a) (is_keyword (codes "pairs") b) pairs xs _ (middle_is a b pairs xs)
counted_is a xs = nothing (is_keyword (codes "case_when") a)

begun : (a : Bool) (xs : List Lexeme) (o : Option Function) → o ≡ where_true a (counted (assigned (codes "pairs") xs))
    → o ≡ begins (elim a as (λ _. Option (List Lexeme)) [ true ↦ Some xs | false ↦ None ])
begun true xs o h = h
begun false xs o h = h

pub case_is : (xs : List Lexeme) → case_read xs ≡ begins (case_inside xs)
case_is (a ∷ sign OpenParen ∷ xs) = begun (is_keyword (codes "case_when") a) xs _ (counted_is a xs)
case_is xs = refl

-- without the word in front there are none
pub without_inside : (xs : List Lexeme) (o : Option (List Lexeme)) → o ≡ case_inside xs → o ≡ None → None ≡ case_read xs
without_inside xs o e h = sym (case_is xs ∙ ap begins (sym e ∙ h))
