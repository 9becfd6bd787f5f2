-- How a type is read, token by token: what is open around it lies on a stack, and the last token says what is due next.
use Rattle.std.specs.Prelude.{ℕ, zero, suc, ◌^◌, ◌&&◌, true, false, List, [], ◌∷◌, ◌++◌, Option, Some, None, Result, Ok, Err, codes, nat_le, nat_lt, option_and_then}
use Rattle.vx_dtype.specs.declared.dtype.PType.{PType}
use Rattle.vx_dtype.specs.declared.dtype.PType.TheVariants.{U8, U16, U32, U64, I8, I16, I32, I64}
use Rattle.vx_dtype.specs.declared.float_type.FloatType.{FloatType}
use Rattle.vx_dtype.specs.declared.float_type.FloatType.TheVariants.{F32, F64}
use Rattle.vx_dtype.specs.declared.timestamp_type.TimeUnit.{TimeUnit}
use Rattle.vx_dtype.specs.declared.timestamp_type.TimeUnit.TheVariants.{Seconds, Milliseconds, Microseconds, Nanoseconds}
use Rattle.vx_dtype.specs.Fields.{fields_named}
use Rattle.vx_dtype.specs.Types.{Name, Atomic, truth, number, floating, decimals, date, timestamp, text, octets, LogicalType, ty, atomic, list, fixed, struct, with_nullability}
use Rattle.vx_source_types.specs.declared.expectation.Expected.{Expected}
use Rattle.vx_source_types.specs.declared.expectation.Expected.TheVariants.{LessNesting, TypeName, OpenParen, CloseParen, OpenBracket, CloseBracket, Length, Precision, Scale, Unit, Zone, CommaOrParen, Name as AName, FieldType, CommaOrCloseBrace}
use Rattle.vx_source_types.specs.declared.token.Sign.TheVariants.{OpenParen as ParenOpens, CloseParen as ParenCloses, OpenBracket as BracketOpens, CloseBracket as BracketCloses, OpenBrace as BraceOpens, CloseBrace as BraceCloses, Comma as CommaSign, Equal, Question}
use Rattle.vx_source_types.specs.Tokens.{Lexeme, word, number as numeral, text as quoted_text, sign}
use Rattle.vx_source_types.specs.Reading.{Goes, more, done, Step, refused}
use Rattle.vx_source_types.specs.Names.{name_at, same_word}

-- the fields of a struct so far, names and types, and the nesting that is allowed outside it
pub record FieldsRead : Type 0 where
  pub names : List Name
  pub types : List LogicalType
  pub room : ℕ

-- what is open around the type that is read, with the nesting that is allowed outside
pub data TypeFrame : Type 0 where
  in_list : (room : ℕ) → TypeFrame
  in_fixed : (room : ℕ) → TypeFrame
  in_struct : FieldsRead → Name → TypeFrame

-- what is due next: a type; the bracket of a list or of a fixed one; the bracket, the length and the closing bracket behind an
-- element type; the bracket of a decimal, its precision, its scale and the closing bracket; the same of a timestamp, its unit and
-- its zone; a field or the end of a struct without one; a field; the sign before its type; a question mark, if the
-- type is nullable; nothing
pub data TypeMode : Type 0 where
  type_due : TypeMode
  list_opens : TypeMode
  fixed_opens : TypeMode
  length_opens : LogicalType → TypeMode
  length_due : LogicalType → TypeMode
  length_closes : LogicalType → ℕ → TypeMode
  decimal_opens : TypeMode
  precision_due : TypeMode
  precision_ends : ℕ → TypeMode
  scale_due : ℕ → TypeMode
  scale_closes : ℕ → ℕ → TypeMode
  timestamp_opens : TypeMode
  unit_due : TypeMode
  unit_ends : TimeUnit → TypeMode
  zone_due : TimeUnit → TypeMode
  zone_closes : TimeUnit → Name → TypeMode
  first_field : FieldsRead → TypeMode
  next_field : FieldsRead → TypeMode
  field_type : FieldsRead → Name → TypeMode
  unmarked : LogicalType → TypeMode
  whole : LogicalType → TypeMode

-- a type that is being read, and the nesting that is still allowed
pub record TypeState : Type 0 where
  pub frames : List TypeFrame
  pub mode : TypeMode
  pub room : ℕ

abbrev pub TypeAnswer : Type 0
TypeAnswer = Result (Goes TypeState LogicalType) Expected

-- the state goes on
abbrev pub goes : List TypeFrame → TypeMode → ℕ → TypeAnswer
goes fs m r = Ok (more (record { frames = fs; mode = m; room = r }))

-- what is done inside one more bracket, where more nesting is allowed
abbrev pub within : {A : Type 0} → ℕ → (ℕ → Result A Expected) → Result A Expected
within zero f = Err LessNesting
within (suc r) f = f r

-- the number type of that name
abbrev pub ptype_word : List ℕ → Option PType
ptype_word w =
    elim (same_word w (codes "u8")) [
      | true ↦ Some U8
      | false ↦
          elim (same_word w (codes "u16")) [
            | true ↦ Some U16
            | false ↦
                elim (same_word w (codes "u32")) [
                  | true ↦ Some U32
                  | false ↦
                      elim (same_word w (codes "u64")) [
                        | true ↦ Some U64
                        | false ↦
                            elim (same_word w (codes "i8")) [
                              | true ↦ Some I8
                              | false ↦
                                  elim (same_word w (codes "i16")) [
                                    | true ↦ Some I16
                                    | false ↦
                                        elim (same_word w (codes "i32")) [
                                          | true ↦ Some I32
                                          | false ↦
                                              elim (same_word w (codes "i64")) [ true ↦ Some I64 | false ↦ None ]
                                        ]
                                  ]
                            ]
                      ]
                ]
          ]
    ]

-- the type of floating-point numbers of that name
abbrev pub float_word : List ℕ → Option FloatType
float_word w =
    elim (same_word w (codes "f32")) [
      | true ↦ Some F32
      | false ↦
          elim (same_word w (codes "f64")) [ true ↦ Some F64 | false ↦ None ]
    ]

-- a type of numbers that was found, as a kind of type
abbrev pub of_number : Option PType → Option FloatType → Option Atomic
of_number None None = None
of_number None (Some f) = Some (floating f)
of_number (Some p) f = Some (number p)

-- the type without parts of that name
abbrev pub atomic_word : List ℕ → Option Atomic
atomic_word w =
    elim (same_word w (codes "bool")) [
      | true ↦ Some truth
      | false ↦
          elim (same_word w (codes "utf8")) [
            | true ↦ Some text
            | false ↦
                elim (same_word w (codes "binary")) [ true ↦ Some octets | false ↦ elim (same_word w (codes "date")) [ true ↦ Some date | false ↦ of_number (ptype_word w) (float_word w) ] ]
          ]
    ]

-- what a word begins: a type without parts, a list, a fixed list, a decimal, a timestamp, or no type
pub data TypeWord : Type 0 where
  plain_word : LogicalType → TypeWord
  list_word : TypeWord
  fixed_word : TypeWord
  decimal_word : TypeWord
  timestamp_word : TypeWord
  no_word : TypeWord

abbrev pub plain_or_none : Option Atomic → TypeWord
plain_or_none None = no_word
plain_or_none (Some p) = plain_word (ty (atomic p) false)

abbrev pub type_word_of : List ℕ → TypeWord
type_word_of w =
    elim (same_word w (codes "list")) [
      | true ↦ list_word
      | false ↦
          elim (same_word w (codes "fixed_size_list")) [
            | true ↦ fixed_word
            | false ↦
                elim (same_word w (codes "decimal")) [
                  | true ↦ decimal_word
                  | false ↦
                      elim (same_word w (codes "timestamp")) [ true ↦ timestamp_word | false ↦ plain_or_none (atomic_word w) ]
                ]
          ]
    ]

-- the unit of that name
abbrev pub unit_word : List ℕ → Option TimeUnit
unit_word w =
    elim (same_word w (codes "s")) [
      | true ↦ Some Seconds
      | false ↦
          elim (same_word w (codes "ms")) [
            | true ↦ Some Milliseconds
            | false ↦
                elim (same_word w (codes "us")) [
                  | true ↦ Some Microseconds
                  | false ↦
                      elim (same_word w (codes "ns")) [ true ↦ Some Nanoseconds | false ↦ None ]
                ]
          ]
    ]

-- what the word begins
abbrev pub word_begins : List TypeFrame → ℕ → TypeWord → TypeAnswer
word_begins fs r (plain_word t) = goes fs (unmarked t) r
word_begins fs r list_word = goes fs list_opens r
word_begins fs r fixed_word = goes fs fixed_opens r
word_begins fs r decimal_word = goes fs decimal_opens r
word_begins fs r timestamp_word = goes fs timestamp_opens r
word_begins fs r no_word = Err TypeName

-- the beginning of a type
abbrev pub type_begins : List TypeFrame → ℕ → Lexeme → TypeAnswer
type_begins fs r (word w) = word_begins fs r (type_word_of w)
type_begins fs r (sign BraceOpens) = within r (λ less. goes fs (first_field (record { names = []; types = []; room = r })) less)
type_begins fs r t = refused t TypeName

-- the bracket before an element type
abbrev pub element_opens : List TypeFrame → ℕ → TypeFrame → Lexeme → TypeAnswer
element_opens fs r f (sign ParenOpens) = within r (λ less. goes (f ∷ fs) type_due less)
element_opens fs r f t = refused t OpenParen

-- the fields with another
abbrev pub with_field : FieldsRead → Name → LogicalType → FieldsRead
with_field d a t = record { names = d.names ++ a ∷ []; types = d.types ++ t ∷ []; room = d.room }

-- the struct of the fields
abbrev pub struct_ends : List TypeFrame → FieldsRead → TypeAnswer
struct_ends fs d = goes fs (unmarked (ty (struct (fields_named d.names d.types)) false)) d.room

-- what follows the type of a field
abbrev pub field_ends : List TypeFrame → ℕ → FieldsRead → Lexeme → TypeAnswer
field_ends fs r d (sign CommaSign) = goes fs (next_field d) r
field_ends fs r d (sign BraceCloses) = struct_ends fs d
field_ends fs r d t = refused t CommaOrCloseBrace

-- what follows an element type
abbrev pub element_ends : List TypeFrame → TypeMode → ℕ → Lexeme → TypeAnswer
element_ends fs m outside (sign ParenCloses) = goes fs m outside
element_ends fs m outside t = refused t CloseParen

-- what follows a whole type
abbrev pub type_ends : List TypeFrame → ℕ → LogicalType → Lexeme → TypeAnswer
type_ends [] r t x = Ok (done t)
type_ends (in_list outside ∷ fs) r t x = element_ends fs (unmarked (ty (list t) false)) outside x
type_ends (in_fixed outside ∷ fs) r t x = element_ends fs (length_opens t) outside x
type_ends (in_struct d a ∷ fs) r t x = field_ends fs r (with_field d a t) x

-- the name of a field, if it is one
abbrev pub field_named : List TypeFrame → ℕ → FieldsRead → Lexeme → Option Name → TypeAnswer
field_named fs r d x None = refused x AName
field_named fs r d x (Some a) = goes fs (field_type d a) r

-- a field, or the end of a struct without one
abbrev pub first_field_at : List TypeFrame → ℕ → FieldsRead → Lexeme → TypeAnswer
first_field_at fs r d (sign BraceCloses) = struct_ends fs d
first_field_at fs r d x = field_named fs r d x (name_at x)

-- the sign before the type of a field
abbrev pub field_type_at : List TypeFrame → ℕ → FieldsRead → Name → Lexeme → TypeAnswer
field_type_at fs r d a (sign Equal) = goes (in_struct d a ∷ fs) type_due r
field_type_at fs r d a x = refused x FieldType

-- a number without a sign and a suffix that is below 2 ^ 32
abbrev pub narrow_length : ℕ → Option ℕ
narrow_length n = elim (nat_lt n (2 ^ 32)) [ true ↦ Some n | false ↦ None ]

abbrev pub length_at : Lexeme → Option ℕ
length_at (numeral false magnitude []) = option_and_then narrow_length magnitude
length_at _ = None

-- the length of a list, if it is one
abbrev pub length_read : List TypeFrame → ℕ → LogicalType → Lexeme → Option ℕ → TypeAnswer
length_read fs r t x None = refused x Length
length_read fs r t x (Some k) = goes fs (length_closes t k) r

-- the bracket before the length
abbrev pub length_opens_at : List TypeFrame → ℕ → LogicalType → Lexeme → TypeAnswer
length_opens_at fs r t (sign BracketOpens) = goes fs (length_due t) r
length_opens_at fs r t x = refused x OpenBracket

-- the bracket behind the length
abbrev pub length_closes_at : List TypeFrame → ℕ → LogicalType → ℕ → Lexeme → TypeAnswer
length_closes_at fs r t k (sign BracketCloses) = goes fs (unmarked (ty (fixed t k) false)) r
length_closes_at fs r t k x = refused x CloseBracket

-- a type without others in it, which isn't nullable
abbrev pub plain : Atomic → LogicalType
plain p = ty (atomic p) false

-- the bracket before what a decimal or a timestamp is made of
abbrev pub parts_open : List TypeFrame → ℕ → TypeMode → Lexeme → TypeAnswer
parts_open fs r m (sign ParenOpens) = goes fs m r
parts_open fs r m x = refused x OpenParen

-- the bracket behind what the type is made of
abbrev pub parts_close : List TypeFrame → ℕ → LogicalType → Lexeme → TypeAnswer
parts_close fs r t (sign ParenCloses) = goes fs (unmarked t) r
parts_close fs r t x = refused x CloseParen

-- more of it behind a comma, or the bracket
abbrev pub parts_go_on : List TypeFrame → ℕ → LogicalType → TypeMode → Lexeme → TypeAnswer
parts_go_on fs r t m (sign CommaSign) = goes fs m r
parts_go_on fs r t m (sign ParenCloses) = goes fs (unmarked t) r
parts_go_on fs r t m x = refused x CommaOrParen

-- a precision from 1 to 38, and a scale of at most that
abbrev pub precision_read : List TypeFrame → ℕ → Lexeme → Option ℕ → TypeAnswer
precision_read fs r x None = refused x Precision
precision_read fs r x (Some k) = elim (nat_le 1 k && nat_le k 38) [ true ↦ goes fs (precision_ends k) r | false ↦ Err Precision ]

abbrev pub scale_read : List TypeFrame → ℕ → ℕ → Lexeme → Option ℕ → TypeAnswer
scale_read fs r p x None = refused x Scale
scale_read fs r p x (Some s) = elim (nat_le s p) [ true ↦ goes fs (scale_closes p s) r | false ↦ Err Scale ]

-- the unit of a timestamp
abbrev pub unit_at : Lexeme → Option TimeUnit
unit_at (word w) = unit_word w
unit_at _ = None

abbrev pub unit_read : List TypeFrame → ℕ → Lexeme → Option TimeUnit → TypeAnswer
unit_read fs r x None = refused x Unit
unit_read fs r x (Some u) = goes fs (unit_ends u) r

-- its zone
abbrev pub zone_at : List TypeFrame → ℕ → TimeUnit → Lexeme → TypeAnswer
zone_at fs r u (quoted_text z) = goes fs (zone_closes u z) r
zone_at fs r u x = refused x Zone

-- a question mark makes the type nullable; without one the type is whole
abbrev pub marked : List TypeFrame → ℕ → LogicalType → Lexeme → TypeAnswer
marked fs r t (sign Question) = goes fs (whole (with_nullability true t)) r
marked fs r t x = type_ends fs r t x

-- what a token makes of a type that is being read
abbrev pub type_next : List TypeFrame → TypeMode → ℕ → Lexeme → TypeAnswer
type_next fs type_due r x = type_begins fs r x
type_next fs list_opens r x = element_opens fs r (in_list r) x
type_next fs fixed_opens r x = element_opens fs r (in_fixed r) x
type_next fs (length_opens t) r x = length_opens_at fs r t x
type_next fs (length_due t) r x = length_read fs r t x (length_at x)
type_next fs (length_closes t k) r x = length_closes_at fs r t k x
type_next fs decimal_opens r x = parts_open fs r precision_due x
type_next fs precision_due r x = precision_read fs r x (length_at x)
type_next fs (precision_ends p) r x = parts_go_on fs r (plain (decimals p 0)) (scale_due p) x
type_next fs (scale_due p) r x = scale_read fs r p x (length_at x)
type_next fs (scale_closes p s) r x = parts_close fs r (plain (decimals p s)) x
type_next fs timestamp_opens r x = parts_open fs r unit_due x
type_next fs unit_due r x = unit_read fs r x (unit_at x)
type_next fs (unit_ends u) r x = parts_go_on fs r (plain (timestamp u None)) (zone_due u) x
type_next fs (zone_due u) r x = zone_at fs r u x
type_next fs (zone_closes u z) r x = parts_close fs r (plain (timestamp u (Some z))) x
type_next fs (first_field d) r x = first_field_at fs r d x
type_next fs (next_field d) r x = field_named fs r d x (name_at x)
type_next fs (field_type d a) r x = field_type_at fs r d a x
type_next fs (unmarked t) r x = marked fs r t x
type_next fs (whole t) r x = type_ends fs r t x

abbrev pub type_step : Step TypeState LogicalType
type_step s x = type_next s.frames s.mode s.room x

-- nothing of a type is read, and so much nesting is allowed
abbrev pub type_start : ℕ → TypeState
type_start room = record { frames = []; mode = type_due; room = room }
