-- The options of a struct, read part after part.
use Rattle.std.proofs.Common.{◌≡◌, Bool, true, false, List, [], ◌∷◌, Option, Some, None, refl, ap, sym, ◌∙◌}
use Rattle.std.specs.Prelude.{codes, option_map}
use Rattle.vx_dtype.specs.declared.dtype.Nullability.{Nullability}
use Rattle.vx_value.specs.Types.{Name}
use Rattle.vx_value.specs.Views.{admits_null}
use Rattle.vx_fn.specs.Functions.{Function, pack}
use Rattle.vx_source_types.specs.declared.token.Sign.TheVariants.{CloseBracket, Comma, Colon}
use Rattle.vx_source_types.specs.Tokens.{Lexeme, sign}
use Rattle.vx_source_grammar.specs.OptionReading.{is_keyword, nullability_at, packed}
use Rattle.vx_source_operands.specs.NameParts.{behind_bracket}
use Rattle.vx_source_operands.specs.Parts.{labelled_last, behind_comma}

abbrev said : List Name → Option Lexeme → Option Function
said names (Some x) = option_map (pack names) (nullability_at x)
said names None = None

abbrev labels : List Name → Option (List Lexeme) → Option Function
labels names (Some xs) = said names (labelled_last (codes "nullability") xs)
labels names None = None

told : (b : Bool) (names : List Name) (x : Lexeme)
    → (elim b as (λ _. Option Function) [ true ↦ option_map (pack names) (nullability_at x) | false ↦ None ])
    ≡ said names (elim b as (λ _. Option Lexeme) [ true ↦ Some x | false ↦ None ])
told true names x = refl
told false names x = refl

label_is : (names : List Name) (xs : List Lexeme)
    → packed (names, sign CloseBracket ∷ sign Comma ∷ xs) ≡ said names (labelled_last (codes "nullability") xs)
label_is names (a ∷ sign Colon ∷ x ∷ []) = told (is_keyword (codes "nullability") a) names x
label_is names xs = refl

comma_is : (names : List Name) (xs : List Lexeme) → packed (names, sign CloseBracket ∷ xs) ≡ labels names (behind_comma xs)
comma_is names (sign Comma ∷ xs) = label_is names xs
comma_is names xs = refl

abbrev ends : List Name → Option (List Lexeme) → Option Function
ends names (Some xs) = labels names (behind_comma xs)
ends names None = None

pub packed_is : (names : List Name) (xs : List Lexeme) → packed (names, xs) ≡ ends names (behind_bracket xs)
packed_is names (sign CloseBracket ∷ xs) = comma_is names xs
packed_is names xs = refl

twice : (names : List Name) (r : Option Nullability)
    → option_map (λ (n : Nullability). pack names (admits_null n)) r ≡ option_map (pack names) (option_map admits_null r)
twice names (Some n) = refl
twice names None = refl

labelled_is : (names : List Name) (xs ys zs : List Lexeme) → Some ys ≡ behind_bracket xs → Some zs ≡ behind_comma ys
    → packed (names, xs) ≡ said names (labelled_last (codes "nullability") zs)
labelled_is names xs ys zs bracket comma = packed_is names xs ∙ (ap (ends names) (sym bracket) ∙ ap (labels names) (sym comma))

-- the nullability is said
pub nullable : (names : List Name) (xs ys zs : List Lexeme) (x : Lexeme) (r : Option Nullability) → Some ys ≡ behind_bracket xs → Some zs ≡ behind_comma ys
    → Some x ≡ labelled_last (codes "nullability") zs → option_map admits_null r ≡ nullability_at x
    → option_map (λ (n : Nullability). pack names (admits_null n)) r ≡ packed (names, xs)
nullable names xs ys zs x r bracket comma label read =
    twice names r ∙ (ap (option_map (pack names)) read ∙ sym (labelled_is names xs ys zs bracket comma ∙ ap (said names) (sym label)))

-- no word says it
pub unsaid : (names : List Name) (xs ys zs : List Lexeme) → Some ys ≡ behind_bracket xs → Some zs ≡ behind_comma ys
    → None ≡ labelled_last (codes "nullability") zs → None ≡ packed (names, xs)
unsaid names xs ys zs bracket comma label = sym (labelled_is names xs ys zs bracket comma ∙ ap (said names) (sym label))
