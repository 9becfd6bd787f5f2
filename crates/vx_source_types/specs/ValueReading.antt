-- How a value is read, token by token: what is open around it lies on a stack, and the last token says what is due next.
-- Its type isn't known yet, so the names of its structs are kept in the order in which they stand.
use Rattle.std.specs.Prelude.{ℕ, Bool, true, false, List, [], ◌∷◌, ◌++◌, Option, Some, None, Result, Ok, Err, codes, option_map, ℤ, pos, neg_ℤ, if◌then◌else◌}
use Rattle.vx_value.specs.Types.{Name, Datum, null, bool, int, utf8, bytes, list_of, struct_of}
use Rattle.vx_value.specs.Fields.{data_of}
use Rattle.vx_source_types.specs.declared.expectation.Expected.{Expected}
use Rattle.vx_source_types.specs.declared.expectation.Expected.TheVariants.{Value, Number, Name as AName, FieldValue, CommaOrCloseBracket, CommaOrCloseBrace}
use Rattle.vx_source_types.specs.declared.token.Sign.TheVariants.{OpenBracket as BracketOpens, CloseBracket as BracketCloses, OpenBrace as BraceOpens, CloseBrace as BraceCloses, Comma as CommaSign, Colon}
use Rattle.vx_source_types.specs.Tokens.{Lexeme, word, number as numeral, point, text, octets, sign, is_whole}
use Rattle.vx_source_types.specs.Names.{name_at, same_word}
use Rattle.vx_source_types.specs.Reading.{Goes, more, done, Step, refused}
use Rattle.vx_source_types.specs.TypeReading.{within}

-- what has no type yet: a value and the names of its structs; or the text of a number with a point or an exponent, or from
-- 2 ^ 64 on
pub data Drafted : Type 0 where
  drafted : Datum → List Name → Drafted
  pointed : List ℕ → Drafted

-- the items of a list or the values of a struct so far, and the nesting that is allowed outside it
pub record ItemsRead : Type 0 where
  pub items : List Datum
  pub room : ℕ

-- what is open around the value that is read
pub data ValueFrame : Type 0 where
  in_items : ItemsRead → ValueFrame
  in_row : ItemsRead → ValueFrame

-- what is due next: a value; an item or the end of a list without one; a field or the end of a struct without one; a field;
-- the sign before its value; nothing behind a value, or behind a number with a point
pub data ValueMode : Type 0 where
  value_due : ValueMode
  first_item : ItemsRead → ValueMode
  first_named : ItemsRead → ValueMode
  next_named : ItemsRead → ValueMode
  named_value : ItemsRead → ValueMode
  whole_value : Datum → ValueMode
  whole_point : List ℕ → ValueMode

-- a value that is being read, the names so far, and the nesting that is still allowed
pub record ValueState : Type 0 where
  pub frames : List ValueFrame
  pub mode : ValueMode
  pub names : List Name
  pub room : ℕ

abbrev pub ValueAnswer : Type 0
ValueAnswer = Result (Goes ValueState Drafted) Expected

-- the state goes on
abbrev pub value_goes : List ValueFrame → ValueMode → List Name → ℕ → ValueAnswer
value_goes fs m ns r = Ok (more (record { frames = fs; mode = m; names = ns; room = r }))

-- the number, below zero or not
abbrev pub signed : Bool → ℕ → ℤ
signed true n = neg_ℤ (pos n)
signed false n = pos n

-- the value that a word is
abbrev pub word_value : List ℕ → Option Datum
word_value w =
    elim (same_word w (codes "null")) [
      | true ↦ Some null
      | false ↦
          elim (same_word w (codes "true")) [
            | true ↦ Some (bool true)
            | false ↦ elim (same_word w (codes "false")) [ true ↦ Some (bool false) | false ↦ None ]
          ]
    ]

-- the value of a number without a suffix
abbrev pub number_value : Bool → Option ℕ → List ℕ → Option Datum
number_value negative magnitude [] = option_map (λ n. int (signed negative n)) magnitude
number_value negative magnitude (b ∷ suffix) = None

-- the value that a token is
abbrev pub simple_value : Lexeme → Option Datum
simple_value (word w) = word_value w
simple_value (numeral negative magnitude suffix) = number_value negative magnitude suffix
simple_value (text s) = Some (utf8 s)
simple_value (octets bs) = Some (bytes bs)
simple_value _ = None

-- what a token that is no value lacks: a whole number its range, any other a value
abbrev pub value_lacking : Lexeme → Expected
value_lacking (point s) = if is_whole s then Number else Value
value_lacking x = Value

abbrev pub simple_begins : List ValueFrame → List Name → ℕ → Lexeme → Option Datum → ValueAnswer
simple_begins fs ns r x None = refused x (value_lacking x)
simple_begins fs ns r x (Some v) = value_goes fs (whole_value v) ns r

-- no item yet
abbrev pub no_items : ℕ → ItemsRead
no_items r = record { items = []; room = r }

-- a number with a point stands by itself, and is no part of a value
abbrev pub point_begins : List ValueFrame → List Name → ℕ → List ℕ → ValueAnswer
point_begins [] ns r s = value_goes [] (whole_point s) ns r
point_begins (f ∷ fs) ns r s = Err (value_lacking (point s))

-- the beginning of a value
abbrev pub value_begins : List ValueFrame → List Name → ℕ → Lexeme → ValueAnswer
value_begins fs ns r (sign BracketOpens) = within r (λ less. value_goes fs (first_item (no_items r)) ns less)
value_begins fs ns r (sign BraceOpens) = within r (λ less. value_goes fs (first_named (no_items r)) ns less)
value_begins fs ns r (point s) = point_begins fs ns r s
value_begins fs ns r x = simple_begins fs ns r x (simple_value x)

-- the items with another
abbrev pub with_item : ItemsRead → Datum → ItemsRead
with_item d v = record { items = d.items ++ v ∷ []; room = d.room }

-- the list, and the struct, of the items
abbrev pub list_ends : List ValueFrame → List Name → ItemsRead → ValueAnswer
list_ends fs ns d = value_goes fs (whole_value (list_of (data_of d.items))) ns d.room

abbrev pub row_ends : List ValueFrame → List Name → ItemsRead → ValueAnswer
row_ends fs ns d = value_goes fs (whole_value (struct_of (data_of d.items))) ns d.room

-- what follows an item, and the value of a field
abbrev pub item_ends : List ValueFrame → List Name → ℕ → ItemsRead → Lexeme → ValueAnswer
item_ends fs ns r d (sign CommaSign) = value_goes (in_items d ∷ fs) value_due ns r
item_ends fs ns r d (sign BracketCloses) = list_ends fs ns d
item_ends fs ns r d x = refused x CommaOrCloseBracket

abbrev pub named_ends : List ValueFrame → List Name → ℕ → ItemsRead → Lexeme → ValueAnswer
named_ends fs ns r d (sign CommaSign) = value_goes fs (next_named d) ns r
named_ends fs ns r d (sign BraceCloses) = row_ends fs ns d
named_ends fs ns r d x = refused x CommaOrCloseBrace

-- what follows a whole value
abbrev pub value_ends : List ValueFrame → List Name → ℕ → Datum → Lexeme → ValueAnswer
value_ends [] ns r v x = Ok (done (drafted v ns))
value_ends (in_items d ∷ fs) ns r v x = item_ends fs ns r (with_item d v) x
value_ends (in_row d ∷ fs) ns r v x = named_ends fs ns r (with_item d v) x

-- the name of a field, if it is one
abbrev pub value_named : List ValueFrame → List Name → ℕ → ItemsRead → Lexeme → Option Name → ValueAnswer
value_named fs ns r d x None = refused x AName
value_named fs ns r d x (Some a) = value_goes fs (named_value d) (ns ++ a ∷ []) r

-- an item, or the end of a list without one
abbrev pub first_item_at : List ValueFrame → List Name → ℕ → ItemsRead → Lexeme → ValueAnswer
first_item_at fs ns r d (sign BracketCloses) = list_ends fs ns d
first_item_at fs ns r d x = value_begins (in_items d ∷ fs) ns r x

-- a field, or the end of a struct without one
abbrev pub first_named_at : List ValueFrame → List Name → ℕ → ItemsRead → Lexeme → ValueAnswer
first_named_at fs ns r d (sign BraceCloses) = row_ends fs ns d
first_named_at fs ns r d x = value_named fs ns r d x (name_at x)

-- the sign before the value of a field
abbrev pub named_value_at : List ValueFrame → List Name → ℕ → ItemsRead → Lexeme → ValueAnswer
named_value_at fs ns r d (sign Colon) = value_goes (in_row d ∷ fs) value_due ns r
named_value_at fs ns r d x = refused x FieldValue

-- what a token makes of a value that is being read
abbrev pub value_next : List ValueFrame → ValueMode → List Name → ℕ → Lexeme → ValueAnswer
value_next fs value_due ns r x = value_begins fs ns r x
value_next fs (first_item d) ns r x = first_item_at fs ns r d x
value_next fs (first_named d) ns r x = first_named_at fs ns r d x
value_next fs (next_named d) ns r x = value_named fs ns r d x (name_at x)
value_next fs (named_value d) ns r x = named_value_at fs ns r d x
value_next fs (whole_value v) ns r x = value_ends fs ns r v x
value_next fs (whole_point s) ns r x = Ok (done (pointed s))

abbrev pub value_step : Step ValueState Drafted
value_step s x = value_next s.frames s.mode s.names s.room x

-- nothing of a value is read, and so much nesting is allowed
abbrev pub value_start : ℕ → ValueState
value_start room = record { frames = []; mode = value_due; names = []; room = room }
