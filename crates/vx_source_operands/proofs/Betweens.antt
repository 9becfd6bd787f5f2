-- The options of a range, read part after part.
use Rattle.std.proofs.Common.{◌≡◌, Bool, true, false, List, [], ◌∷◌, Option, Some, None, refl}
use Rattle.std.specs.Prelude.{codes, ◌&&◌, option_map, option_and_then}
use Rattle.vx_fn.specs.Functions.{Function, between}
use Rattle.vx_source_types.specs.declared.token.Sign.TheVariants.{Comma, Colon}
use Rattle.vx_source_types.specs.Tokens.{Lexeme, sign}
use Rattle.vx_source_grammar.specs.OptionReading.{between_read, is_keyword, strict_at}
use Rattle.vx_source_operands.specs.Parts.{labelled, labelled_last, behind_comma}
use Rattle.vx_source_operands.proofs.Keywords.{where_true, nothing}

abbrev ends : Lexeme → Option Lexeme → Option Function
ends l (Some u) = option_and_then (λ x. option_map (between x) (strict_at u)) (strict_at l)
ends l None = None

abbrev middle : Lexeme → Option (List Lexeme) → Option Function
middle l (Some xs) = ends l (labelled_last (codes "upper_strict") xs)
middle l None = None

abbrev begins : Option (Lexeme × List Lexeme) → Option Function
begins (Some (l, xs)) = middle l (behind_comma xs)
begins None = None

both : (lower upper : Bool) (l u : Lexeme)
    → (elim (lower && upper) as (λ _. Option Function) [ true ↦ ends l (Some u) | false ↦ None ])
    ≡ where_true lower (ends l (elim upper as (λ _. Option Lexeme) [ true ↦ Some u | false ↦ None ]))
both true true l u = refl
both true false l u = refl
both false upper l u = refl

ends_is : (a l : Lexeme) (xs : List Lexeme)
    → between_read (a ∷ sign Colon ∷ l ∷ sign Comma ∷ xs) ≡ where_true (is_keyword (codes "lower_strict") a) (ends l (labelled_last (codes "upper_strict") xs))
ends_is a l (b ∷ sign Colon ∷ u ∷ []) = both (is_keyword (codes "lower_strict") a) (is_keyword (codes "upper_strict") b) l u
ends_is a l xs = nothing (is_keyword (codes "lower_strict") a)

middle_is : (a l : Lexeme) (xs : List Lexeme)
    → between_read (a ∷ sign Colon ∷ l ∷ xs) ≡ where_true (is_keyword (codes "lower_strict") a) (middle l (behind_comma xs))
middle_is a l (sign Comma ∷ xs) = ends_is a l xs
middle_is a l xs = nothing (is_keyword (codes "lower_strict") a)

begun : (lower : Bool) (l : Lexeme) (xs : List Lexeme) (o : Option Function) → o ≡ where_true lower (middle l (behind_comma xs))
    → o ≡ begins (elim lower as (λ _. Option (Lexeme × List Lexeme)) [ true ↦ Some (l, xs) | false ↦ None ])
begun true l xs o h = h
begun false l xs o h = h

pub between_is : (xs : List Lexeme) → between_read xs ≡ begins (labelled (codes "lower_strict") xs)
between_is (a ∷ sign Colon ∷ l ∷ xs) = begun (is_keyword (codes "lower_strict") a) l xs _ (middle_is a l xs)
between_is xs = refl
