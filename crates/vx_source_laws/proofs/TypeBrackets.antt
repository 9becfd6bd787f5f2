-- The square brackets that are open in a type.
use Rattle.std.proofs.Common.{◌≡◌, ℕ, zero, suc, Bool, true, false, List, [], ◌∷◌, Option, Some, None, Ok, Err, refl, subst}
use Rattle.std.specs.Prelude.{◌&&◌, nat_le}
use Rattle.vx_dtype.specs.declared.timestamp_type.TimeUnit.{TimeUnit}
use Rattle.vx_dtype.specs.Types.{LogicalType}
use Rattle.vx_source_types.specs.declared.expectation.Expected.TheVariants.{Precision, Scale}
use Rattle.vx_source_types.specs.declared.token.Sign.TheVariants.{OpenParen, CloseParen, OpenBracket, CloseBracket, OpenBrace, CloseBrace, Comma, Equal, Question}
use Rattle.vx_source_types.specs.Tokens.{Lexeme, word, quoted, number as numeral, text as text_token, sign}
use Rattle.vx_source_types.specs.Reading.{more}
use Rattle.vx_source_types.specs.TypeReading.{TypeFrame, in_list, in_fixed, in_struct, TypeMode, type_due, list_opens, fixed_opens, length_opens, length_due, length_closes, decimal_opens, precision_due, precision_ends, scale_due, scale_closes, timestamp_opens, unit_due, unit_ends, zone_due, zone_closes, first_field, next_field, field_type, unmarked, whole, TypeState, TypeAnswer, TypeWord, plain_word, list_word, fixed_word, decimal_word, timestamp_word, no_word, type_word_of, word_begins, goes, length_at, length_read, precision_read, scale_read, unit_word, unit_read, type_ends, type_next, type_step}
use Rattle.vx_source_laws.proofs.Collecting.{Brackets}

-- a bracket is open around the length of a list
abbrev brackets_in : TypeMode → ℕ
brackets_in (length_due t) = 1
brackets_in (length_closes t k) = 1
brackets_in m = 0

abbrev pub type_brackets : TypeState → ℕ
type_brackets s = brackets_in s.mode

same_state : {s t : TypeState} → (let a : TypeAnswer = Ok (more s) in a) ≡ Ok (more t) → s ≡ t
same_state q = cc

to : (n : ℕ) (x : Lexeme) {s t : TypeState} → (let a : TypeAnswer = Ok (more s) in a) ≡ Ok (more t) → Brackets n x (type_brackets s) → Brackets n x (type_brackets t)
to n x q b = subst (λ z. Brackets n x (type_brackets z)) (same_state q) b

word_counted : (fs : List TypeFrame) (r : ℕ) (w : List ℕ) (b : TypeWord) (t : TypeState) → word_begins fs r b ≡ Ok (more t) → Brackets 0 (word w) (type_brackets t)
word_counted fs r w (plain_word v) t q = to 0 (word w) q refl
word_counted fs r w list_word t q = to 0 (word w) q refl
word_counted fs r w fixed_word t q = to 0 (word w) q refl
word_counted fs r w decimal_word t q = to 0 (word w) q refl
word_counted fs r w timestamp_word t q = to 0 (word w) q refl
word_counted fs r w no_word t q = cc

length_counted : (fs : List TypeFrame) (r : ℕ) (v : LogicalType) (x y : Lexeme) (o : Option ℕ) (t : TypeState) → Brackets 1 x 1 → length_read fs r v y o ≡ Ok (more t) → Brackets 1 x (type_brackets t)
length_counted fs r v x y (Some k) t b q = to 1 x q b
length_counted fs r v x y None t b q = cc

precision_counted : (fs : List TypeFrame) (r : ℕ) (x y : Lexeme) (o : Option ℕ) (t : TypeState) → Brackets 0 x 0 → precision_read fs r y o ≡ Ok (more t) → Brackets 0 x (type_brackets t)
precision_counted fs r x y None t b q = cc
precision_counted fs r x y (Some k) t b q = go (nat_le 1 k && nat_le k 38) q
  where
    go : (c : Bool) → (let a : TypeAnswer = elim c [ true ↦ goes fs (precision_ends k) r | false ↦ Err Precision ] in a) ≡ Ok (more t) → Brackets 0 x (type_brackets t)
    go true p = to 0 x p b
    go false p = cc

scale_counted : (fs : List TypeFrame) (r p : ℕ) (x y : Lexeme) (o : Option ℕ) (t : TypeState) → Brackets 0 x 0 → scale_read fs r p y o ≡ Ok (more t) → Brackets 0 x (type_brackets t)
scale_counted fs r p x y None t b q = cc
scale_counted fs r p x y (Some s) t b q = go (nat_le s p) q
  where
    go : (c : Bool) → (let a : TypeAnswer = elim c [ true ↦ goes fs (scale_closes p s) r | false ↦ Err Scale ] in a) ≡ Ok (more t) → Brackets 0 x (type_brackets t)
    go true k = to 0 x k b
    go false k = cc

unit_counted : (fs : List TypeFrame) (r : ℕ) (x y : Lexeme) (o : Option TimeUnit) (t : TypeState) → Brackets 0 x 0 → unit_read fs r y o ≡ Ok (more t) → Brackets 0 x (type_brackets t)
unit_counted fs r x y None t b q = cc
unit_counted fs r x y (Some u) t b q = to 0 x q b

behind_counted : (fs : List TypeFrame) (r : ℕ) (v : LogicalType) (x : Lexeme) (t : TypeState) → type_ends fs r v x ≡ Ok (more t) → Brackets 0 x (type_brackets t)
behind_counted [] r v x t q = cc
behind_counted (in_list o ∷ fs) r v (sign CloseParen) t q = to 0 (sign CloseParen) q refl
behind_counted (in_fixed o ∷ fs) r v (sign CloseParen) t q = to 0 (sign CloseParen) q refl
behind_counted (in_struct d a ∷ fs) r v (sign Comma) t q = to 0 (sign Comma) q refl
behind_counted (in_struct d a ∷ fs) r v (sign CloseBrace) t q = to 0 (sign CloseBrace) q refl
behind_counted (f ∷ fs) r v x t q = cc

next_counted : (fs : List TypeFrame) (m : TypeMode) (r : ℕ) (x : Lexeme) (t : TypeState) → type_next fs m r x ≡ Ok (more t) → Brackets (brackets_in m) x (type_brackets t)
next_counted fs type_due r (word w) t q = word_counted fs r w (type_word_of w) t q
next_counted fs type_due zero (sign OpenBrace) t q = cc
next_counted fs type_due (suc r) (sign OpenBrace) t q = to (brackets_in type_due) (sign OpenBrace) q refl
next_counted fs list_opens zero (sign OpenParen) t q = cc
next_counted fs list_opens (suc r) (sign OpenParen) t q = to (brackets_in list_opens) (sign OpenParen) q refl
next_counted fs fixed_opens zero (sign OpenParen) t q = cc
next_counted fs fixed_opens (suc r) (sign OpenParen) t q = to (brackets_in fixed_opens) (sign OpenParen) q refl
next_counted fs (length_opens v) r (sign OpenBracket) t q = to (brackets_in (length_opens v)) (sign OpenBracket) q refl
next_counted fs (length_due v) r (numeral n k w) t q = length_counted fs r v (numeral n k w) (numeral n k w) (length_at (numeral n k w)) t refl q
next_counted fs (length_closes v k) r (sign CloseBracket) t q = to (brackets_in (length_closes v k)) (sign CloseBracket) q refl
next_counted fs decimal_opens r (sign OpenParen) t q = to 0 (sign OpenParen) q refl
next_counted fs precision_due r (numeral n k w) t q = precision_counted fs r (numeral n k w) (numeral n k w) (length_at (numeral n k w)) t refl q
next_counted fs (precision_ends p) r (sign Comma) t q = to 0 (sign Comma) q refl
next_counted fs (precision_ends p) r (sign CloseParen) t q = to 0 (sign CloseParen) q refl
next_counted fs (scale_due p) r (numeral n k w) t q = scale_counted fs r p (numeral n k w) (numeral n k w) (length_at (numeral n k w)) t refl q
next_counted fs (scale_closes p s) r (sign CloseParen) t q = to 0 (sign CloseParen) q refl
next_counted fs timestamp_opens r (sign OpenParen) t q = to 0 (sign OpenParen) q refl
next_counted fs unit_due r (word w) t q = unit_counted fs r (word w) (word w) (unit_word w) t refl q
next_counted fs (unit_ends u) r (sign Comma) t q = to 0 (sign Comma) q refl
next_counted fs (unit_ends u) r (sign CloseParen) t q = to 0 (sign CloseParen) q refl
next_counted fs (zone_due u) r (text_token z) t q = to 0 (text_token z) q refl
next_counted fs (zone_closes u z) r (sign CloseParen) t q = to 0 (sign CloseParen) q refl
next_counted fs (first_field d) r (sign CloseBrace) t q = to (brackets_in (first_field d)) (sign CloseBrace) q refl
next_counted fs (first_field d) r (word a) t q = to (brackets_in (first_field d)) (word a) q refl
next_counted fs (first_field d) r (quoted a) t q = to (brackets_in (first_field d)) (quoted a) q refl
next_counted fs (next_field d) r (word a) t q = to (brackets_in (next_field d)) (word a) q refl
next_counted fs (next_field d) r (quoted a) t q = to (brackets_in (next_field d)) (quoted a) q refl
next_counted fs (field_type d a) r (sign Equal) t q = to (brackets_in (field_type d a)) (sign Equal) q refl
next_counted fs (unmarked v) r (sign Question) t q = to (brackets_in (unmarked v)) (sign Question) q refl
next_counted fs (unmarked v) r x t q = behind_counted fs r v x t q
next_counted fs (whole v) r x t q = behind_counted fs r v x t q
next_counted fs m r x t q = cc

pub type_counted : (s t : TypeState) (x : Lexeme) → type_step s x ≡ Ok (more t) → Brackets (type_brackets s) x (type_brackets t)
type_counted s t x q = next_counted s.frames s.mode s.room x t q
