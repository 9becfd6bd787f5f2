-- The square brackets that are open in a value.
use Rattle.std.proofs.Common.{◌≡◌, ℕ, zero, suc, ◌+◌, List, [], ◌∷◌, Option, Some, None, Ok, refl, subst}
use Rattle.vx_value.specs.Types.{Name, Datum}
use Rattle.vx_source_types.specs.declared.token.Sign.TheVariants.{OpenBracket, CloseBracket, OpenBrace, CloseBrace, Comma, Colon}
use Rattle.vx_source_types.specs.Tokens.{Lexeme, word, quoted, number as numeral, point, text, octets, sign}
use Rattle.vx_source_types.specs.Reading.{more}
use Rattle.vx_source_types.specs.ValueReading.{ValueFrame, in_items, in_row, ValueMode, value_due, first_item, first_named, next_named, named_value, whole_value, ValueState, ValueAnswer, word_value, number_value, point_begins, simple_begins, value_begins, value_ends, value_next, value_step}
use Rattle.vx_source_laws.proofs.Collecting.{Brackets}

-- a bracket is open around the items of each list
abbrev brackets_around : List ValueFrame → ℕ
brackets_around [] = 0
brackets_around (in_items d ∷ fs) = brackets_around fs + 1
brackets_around (in_row d ∷ fs) = brackets_around fs

abbrev brackets_in : List ValueFrame → ValueMode → ℕ
brackets_in fs (first_item d) = brackets_around fs + 1
brackets_in fs m = brackets_around fs

abbrev pub value_brackets : ValueState → ℕ
value_brackets s = brackets_in s.frames s.mode

same_state : {s t : ValueState} → (let a : ValueAnswer = Ok (more s) in a) ≡ Ok (more t) → s ≡ t
same_state q = cc

to : (n : ℕ) (x : Lexeme) {s t : ValueState} → (let a : ValueAnswer = Ok (more s) in a) ≡ Ok (more t) → Brackets n x (value_brackets s) → Brackets n x (value_brackets t)
to n x q b = subst (λ z. Brackets n x (value_brackets z)) (same_state q) b

simple_counted : (fs : List ValueFrame) (ns : List Name) (r : ℕ) (x : Lexeme) (o : Option Datum) (t : ValueState) → Brackets (brackets_around fs) x (brackets_around fs) → simple_begins fs ns r x o ≡ Ok (more t) → Brackets (brackets_around fs) x (value_brackets t)
simple_counted fs ns r x (Some v) t b q = to (brackets_around fs) x q b
simple_counted fs ns r x None t b q = cc

point_counted : (fs : List ValueFrame) (ns : List Name) (r : ℕ) (s : List ℕ) (t : ValueState) → point_begins fs ns r s ≡ Ok (more t) → Brackets (brackets_around fs) (point s) (value_brackets t)
point_counted [] ns r s t q = to 0 (point s) q refl
point_counted (f ∷ fs) ns r s t q = cc

begun_counted : (fs : List ValueFrame) (ns : List Name) (r : ℕ) (x : Lexeme) (t : ValueState) → value_begins fs ns r x ≡ Ok (more t) → Brackets (brackets_around fs) x (value_brackets t)
begun_counted fs ns zero (sign OpenBracket) t q = cc
begun_counted fs ns (suc r) (sign OpenBracket) t q = to (brackets_around fs) (sign OpenBracket) q refl
begun_counted fs ns zero (sign OpenBrace) t q = cc
begun_counted fs ns (suc r) (sign OpenBrace) t q = to (brackets_around fs) (sign OpenBrace) q refl
begun_counted fs ns r (word w) t q = simple_counted fs ns r (word w) (word_value w) t refl q
begun_counted fs ns r (numeral n m w) t q = simple_counted fs ns r (numeral n m w) (number_value n m w) t refl q
begun_counted fs ns r (point s) t q = point_counted fs ns r s t q
begun_counted fs ns r (text s) t q = to (brackets_around fs) (text s) q refl
begun_counted fs ns r (octets s) t q = to (brackets_around fs) (octets s) q refl
begun_counted fs ns r x t q = cc

behind_counted : (fs : List ValueFrame) (ns : List Name) (r : ℕ) (v : Datum) (x : Lexeme) (t : ValueState) → value_ends fs ns r v x ≡ Ok (more t) → Brackets (brackets_around fs) x (value_brackets t)
behind_counted [] ns r v x t q = cc
behind_counted (in_items d ∷ fs) ns r v (sign Comma) t q = to (brackets_around (in_items d ∷ fs)) (sign Comma) q refl
behind_counted (in_items d ∷ fs) ns r v (sign CloseBracket) t q = to (brackets_around (in_items d ∷ fs)) (sign CloseBracket) q refl
behind_counted (in_row d ∷ fs) ns r v (sign Comma) t q = to (brackets_around (in_row d ∷ fs)) (sign Comma) q refl
behind_counted (in_row d ∷ fs) ns r v (sign CloseBrace) t q = to (brackets_around (in_row d ∷ fs)) (sign CloseBrace) q refl
behind_counted (f ∷ fs) ns r v x t q = cc

next_counted : (fs : List ValueFrame) (m : ValueMode) (ns : List Name) (r : ℕ) (x : Lexeme) (t : ValueState) → value_next fs m ns r x ≡ Ok (more t) → Brackets (brackets_in fs m) x (value_brackets t)
next_counted fs value_due ns r x t q = begun_counted fs ns r x t q
next_counted fs (first_item d) ns r (sign CloseBracket) t q = to (brackets_in fs (first_item d)) (sign CloseBracket) q refl
next_counted fs (first_item d) ns r x t q = begun_counted (in_items d ∷ fs) ns r x t q
next_counted fs (first_named d) ns r (sign CloseBrace) t q = to (brackets_in fs (first_named d)) (sign CloseBrace) q refl
next_counted fs (first_named d) ns r (word a) t q = to (brackets_in fs (first_named d)) (word a) q refl
next_counted fs (first_named d) ns r (quoted a) t q = to (brackets_in fs (first_named d)) (quoted a) q refl
next_counted fs (next_named d) ns r (word a) t q = to (brackets_in fs (next_named d)) (word a) q refl
next_counted fs (next_named d) ns r (quoted a) t q = to (brackets_in fs (next_named d)) (quoted a) q refl
next_counted fs (named_value d) ns r (sign Colon) t q = to (brackets_in fs (named_value d)) (sign Colon) q refl
next_counted fs (whole_value v) ns r x t q = behind_counted fs ns r v x t q
next_counted fs m ns r x t q = cc

pub value_counted : (s t : ValueState) (x : Lexeme) → value_step s x ≡ Ok (more t) → Brackets (value_brackets s) x (value_brackets t)
value_counted s t x q = next_counted s.frames s.mode s.names s.room x t q
