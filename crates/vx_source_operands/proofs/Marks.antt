-- What stands behind a word and a sign.
use Rattle.std.proofs.Common.{◌≡◌, ℕ, Bool, true, false, List, [], ◌∷◌, Option, Some, None, refl}
use Rattle.std.specs.Prelude.{codes}
use Rattle.vx_source_types.specs.declared.token.Sign.TheVariants.{CloseParen, Colon, Equal}
use Rattle.vx_source_types.specs.Tokens.{Lexeme, sign}
use Rattle.vx_source_grammar.specs.OptionReading.{is_keyword}
use Rattle.vx_source_operands.specs.Parts.{assigned, behind_word, case_else, is_closing, labelled, labelled_last}

-- the token behind a colon, or an equals sign
abbrev at_colon : Option (Lexeme × Lexeme × List Lexeme) → Option (Lexeme × List Lexeme)
at_colon (Some (sign Colon, x, xs)) = Some (x, xs)
at_colon o = None

abbrev at_equal : Option (Lexeme × Lexeme × List Lexeme) → Option (Lexeme × List Lexeme)
at_equal (Some (sign Equal, x, xs)) = Some (x, xs)
at_equal o = None

module _ (at : Option (Lexeme × Lexeme × List Lexeme) → Option (Lexeme × List Lexeme)) (none : ◌≡◌ {A = Option (Lexeme × List Lexeme)} None (at None)) where
  sign_here : (b : Bool) (s x : Lexeme) (xs : List Lexeme) → ◌≡◌ {A = Option (Lexeme × List Lexeme)} (Some (x, xs)) (at (Some (s, x, xs)))
      → (elim b as (λ _. Option (Lexeme × List Lexeme)) [ true ↦ Some (x, xs) | false ↦ None ])
      ≡ at (elim b as (λ _. Option (Lexeme × Lexeme × List Lexeme)) [ true ↦ Some (s, x, xs) | false ↦ None ])
  sign_here true s x xs h = h
  sign_here false s x xs h = none

  no_sign : (b : Bool) (s x : Lexeme) (xs : List Lexeme) → ◌≡◌ {A = Option (Lexeme × List Lexeme)} None (at (Some (s, x, xs)))
      → ◌≡◌ {A = Option (Lexeme × List Lexeme)} None (at (elim b as (λ _. Option (Lexeme × Lexeme × List Lexeme)) [ true ↦ Some (s, x, xs) | false ↦ None ]))
  no_sign true s x xs h = h
  no_sign false s x xs h = none

pub labelled_is : (w : List ℕ) (xs : List Lexeme) → labelled w xs ≡ at_colon (behind_word w xs)
labelled_is w (a ∷ sign Colon ∷ x ∷ xs) = sign_here at_colon refl (is_keyword w a) (sign Colon) x xs refl
labelled_is w (a ∷ s ∷ x ∷ xs) = no_sign at_colon refl (is_keyword w a) s x xs refl
labelled_is w xs = refl

pub assigned_is : (w : List ℕ) (xs : List Lexeme) → assigned w xs ≡ at_equal (behind_word w xs)
assigned_is w (a ∷ sign Equal ∷ x ∷ xs) = sign_here at_equal refl (is_keyword w a) (sign Equal) x xs refl
assigned_is w (a ∷ s ∷ x ∷ xs) = no_sign at_equal refl (is_keyword w a) s x xs refl
assigned_is w xs = refl

-- the token, where nothing is left behind it, or the closing parenthesis
abbrev alone : Option (Lexeme × List Lexeme) → Option Lexeme
alone (Some (x, [])) = Some x
alone o = None

abbrev enclosed : Option (Lexeme × List Lexeme) → Option Lexeme
enclosed (Some (x, xs)) = elim (is_closing xs) [ true ↦ Some x | false ↦ None ]
enclosed None = None

alone_here : (b : Bool) (x : Lexeme)
    → (elim b as (λ _. Option Lexeme) [ true ↦ Some x | false ↦ None ]) ≡ alone (elim b as (λ _. Option (Lexeme × List Lexeme)) [ true ↦ Some (x, []) | false ↦ None ])
alone_here true x = refl
alone_here false x = refl

not_alone : (b : Bool) (x y : Lexeme) (ys : List Lexeme)
    → ◌≡◌ {A = Option Lexeme} None (alone (elim b as (λ _. Option (Lexeme × List Lexeme)) [ true ↦ Some (x, y ∷ ys) | false ↦ None ]))
not_alone true x y ys = refl
not_alone false x y ys = refl

pub labelled_last_is : (w : List ℕ) (xs : List Lexeme) → labelled_last w xs ≡ alone (labelled w xs)
labelled_last_is w (a ∷ sign Colon ∷ x ∷ []) = alone_here (is_keyword w a) x
labelled_last_is w (a ∷ sign Colon ∷ x ∷ y ∷ ys) = not_alone (is_keyword w a) x y ys
labelled_last_is w xs = refl

closed_here : (b : Bool) (x : Lexeme)
    → (elim b as (λ _. Option Lexeme) [ true ↦ Some x | false ↦ None ])
    ≡ enclosed (elim b as (λ _. Option (Lexeme × List Lexeme)) [ true ↦ Some (x, sign CloseParen ∷ []) | false ↦ None ])
closed_here true x = refl
closed_here false x = refl

not_closed : (b : Bool) (x : Lexeme) (xs : List Lexeme) → ◌≡◌ {A = Option Lexeme} None (enclosed (Some (x, xs)))
    → ◌≡◌ {A = Option Lexeme} None (enclosed (elim b as (λ _. Option (Lexeme × List Lexeme)) [ true ↦ Some (x, xs) | false ↦ None ]))
not_closed true x xs h = h
not_closed false x xs h = refl

pub case_else_is : (xs : List Lexeme) → case_else xs ≡ enclosed (assigned (codes "else") xs)
case_else_is (a ∷ sign Equal ∷ x ∷ sign CloseParen ∷ []) = closed_here (is_keyword (codes "else") a) x
case_else_is (a ∷ sign Equal ∷ x ∷ xs) = not_closed (is_keyword (codes "else") a) x xs refl
case_else_is xs = refl
