-- The first token of a text.
use Rattle.std.specs.Prelude.{ℕ, ◌^◌, ◌+◌, ◌*◌, ◌-◌, Bool, true, false, not, ◌||◌, ◌&&◌, List, [], ◌∷◌, ◌++◌, Option, Some, None, Result, Ok, Err, take, drop, ◌==◌, nat_lt, if◌then◌else◌}
use Rattle.std.specs.List.{filter, list_all, prefix_len}
use Rattle.std.specs.Str.{is_utf8}
use Rattle.hex.specs.Hex.{decode_of}
use Rattle.hex.specs.declared.error.FromHexError.{FromHexError}
use Rattle.vx_source_types.specs.declared.expectation.Expected.{Expected}
use Rattle.vx_source_types.specs.declared.expectation.Expected.TheVariants.{Token, ClosingQuote, ClosingSingleQuote, ClosingBackquote, HexDigits}
use Rattle.vx_source_types.specs.declared.token.Sign.{Sign}
use Rattle.vx_source_types.specs.declared.token.Sign.TheVariants.{OpenParen, CloseParen, OpenBracket, CloseBracket, OpenBrace, CloseBrace, Comma, Colon, DoubleColon, Dot, Question, Tilde, Equal, DoubleEqual, NotEqual, Less, LessEqual, Greater, GreaterEqual, Plus, Minus, Star, Slash, Percent, Dollar}
use Rattle.vx_source_types.specs.Characters.{is_letter, is_digit, is_word, is_blank}

-- what stands in a text: words, names between backquotes, whole numbers (below zero or not, their magnitude where it is
-- below 2 ^ 64, and the word that follows at once), numbers with a point or an exponent, or whole ones from 2 ^ 64 on, as
-- their text, texts, bytes and signs; the end of the text; and what is none of these
pub data Lexeme : Type 0 where
  word : List ℕ → Lexeme
  quoted : List ℕ → Lexeme
  number : Bool → Option ℕ → List ℕ → Lexeme
  point : List ℕ → Lexeme
  text : List ℕ → Lexeme
  octets : List ℕ → Lexeme
  sign : Sign → Lexeme
  end : Lexeme
  invalid : Expected → Lexeme

-- the first byte, 0 of none
abbrev pub next : List ℕ → ℕ
next [] = 0
next (b ∷ bs) = b

-- whether two dashes begin a comment
abbrev pub begins_comment : ℕ → List ℕ → Bool
begins_comment b bs = elim (b == 45) [ true ↦ next bs == 45 | false ↦ false ]

-- what is left behind blanks and comments, inside a comment or not; a comment ends with its line
abbrev pub skip : Bool → List ℕ → List ℕ
skip comment [] = []
skip true (b ∷ bs) = skip (not (b == 10)) bs
skip false (b ∷ bs) = elim (is_blank b) [ true ↦ skip false bs | false ↦ elim (begins_comment b bs) [ true ↦ skip true bs | false ↦ b ∷ bs ] ]

-- the text with a byte in front
abbrev pub with_byte : ℕ → Option (List ℕ × List ℕ) → Option (List ℕ × List ℕ)
with_byte b None = None
with_byte b (Some (made, rest)) = Some (b ∷ made, rest)

-- what stands before the closing quote, and what is left behind it; two quotes one after another stand for one. Where a
-- quote was seen, it is the closing one unless another follows
abbrev pub unquoted : ℕ → Bool → List ℕ → Option (List ℕ × List ℕ)
unquoted q false [] = None
unquoted q true [] = Some ([], [])
unquoted q false (b ∷ bs) = elim (b == q) [ true ↦ unquoted q true bs | false ↦ with_byte b (unquoted q false bs) ]
unquoted q true (b ∷ bs) = elim (b == q) [ true ↦ with_byte q (unquoted q false bs) | false ↦ Some ([], b ∷ bs) ]

-- the text with others in front
abbrev pub after_bytes : List ℕ → Option (List ℕ × List ℕ) → Option (List ℕ × List ℕ)
after_bytes before None = None
after_bytes before (Some (made, rest)) = Some (before ++ made, rest)

-- a token and what is left behind it
abbrev pub Taken : Type 0
Taken = Lexeme × List ℕ

-- what stands between quotes, where it is UTF-8, or what would have stood right
abbrev pub text_lexeme : Expected → List ℕ → Lexeme
text_lexeme wanted made = elim (is_utf8 made) [ true ↦ text made | false ↦ invalid wanted ]

-- what stands between backquotes, where it is UTF-8
abbrev pub quoted_lexeme : List ℕ → Lexeme
quoted_lexeme made = elim (is_utf8 made) [ true ↦ quoted made | false ↦ invalid ClosingBackquote ]

-- a text between quotes, or what would have stood right
abbrev pub text_taken : Expected → Option (List ℕ × List ℕ) → Taken
text_taken wanted None = (invalid wanted, [])
text_taken wanted (Some (made, rest)) = (text_lexeme wanted made, rest)

-- a name between backquotes
abbrev pub quoted_taken : Option (List ℕ × List ℕ) → Taken
quoted_taken None = (invalid ClosingBackquote, [])
quoted_taken (Some (made, rest)) = (quoted_lexeme made, rest)

-- the longest word at the front
abbrev pub word_len : List ℕ → ℕ
word_len bs = prefix_len is_word bs

-- bytes by their hexadecimal digits, two each
abbrev pub octets_lexeme : Result (List ℕ) FromHexError → Lexeme
octets_lexeme (Ok bs) = octets bs
octets_lexeme (Err e) = invalid HexDigits

-- the number, if it is below 2 ^ 64
abbrev pub narrow : ℕ → Option ℕ
narrow n = elim (nat_lt n (2 ^ 64)) [ true ↦ Some n | false ↦ None ]

-- ten times the number and the digit more, if that is below 2 ^ 64
abbrev pub more_digits : Option ℕ → ℕ → Option ℕ
more_digits None digit = None
more_digits (Some n) digit = narrow (n * 10 + (digit - 48))

-- the same of a digit, and of an underscore the number as it is
abbrev pub more_or_same : Option ℕ → ℕ → Option ℕ
more_or_same value b = elim (b == 95) [ true ↦ value | false ↦ more_digits value b ]

-- what the digits behind a number make of it, if that is below 2 ^ 64, where underscores are left out
abbrev pub magnitude : Option ℕ → List ℕ → Option ℕ
magnitude value [] = value
magnitude value (b ∷ bs) = magnitude (more_or_same value b) bs

-- whether digits go on at the front: with a digit, or an underscore before one
abbrev pub digits_go_on : ℕ → List ℕ → Bool
digits_go_on b bs = is_digit b || (b == 95 && is_digit (next bs))

-- how many bytes the digits take at the front, with the underscores between them; the first is a digit
abbrev pub digits_len : List ℕ → ℕ
digits_len [] = 0
digits_len (b ∷ bs) = elim (digits_go_on b bs) [ true ↦ 1 + digits_len bs | false ↦ 0 ]

-- what follows `0x`
abbrev pub octets_taken : List ℕ → Taken
octets_taken bs = (octets_lexeme (decode_of (take (word_len bs) bs)), drop (word_len bs) bs)

-- whether a point and a digit are at the front
abbrev pub has_point : List ℕ → Bool
has_point bs = next bs == 46 && is_digit (next (drop 1 bs))

-- how many bytes a point and the digits behind it take at the front
abbrev pub point_len : List ℕ → ℕ
point_len bs = if has_point bs then 1 + digits_len (drop 1 bs) else 0

-- whether the byte is an e, with which an exponent begins
abbrev pub is_e : ℕ → Bool
is_e b = b == 101 || b == 69

-- whether the byte is a plus or a minus
abbrev pub is_plus_or_minus : ℕ → Bool
is_plus_or_minus b = b == 43 || b == 45

-- how many bytes a sign takes at the front
abbrev pub sign_len : List ℕ → ℕ
sign_len bs = if is_plus_or_minus (next bs) then 1 else 0

-- how many bytes digits behind a sign of so many take, with it and the e before it
abbrev pub power_len : ℕ → List ℕ → ℕ
power_len k bs = if is_digit (next (drop k bs)) then 1 + k + digits_len (drop k bs) else 0

-- how many bytes an exponent takes at the front: an e, a sign or none, and digits
abbrev pub exponent_len : List ℕ → ℕ
exponent_len [] = 0
exponent_len (b ∷ bs) = if is_e b then power_len (sign_len bs) bs else 0

-- how many bytes a point with its digits takes at the front, an exponent, or both
abbrev pub fraction_len : List ℕ → ℕ
fraction_len bs = point_len bs + exponent_len (drop (point_len bs) bs)

-- whether the byte is a part of a number with a point or an exponent, and no underscore
abbrev pub is_in_number : ℕ → Bool
is_in_number b = is_digit b || (b == 46 || (is_e b || is_plus_or_minus b))

-- the number without underscores, behind a minus where it is below zero
abbrev pub point_digits : Bool → List ℕ → List ℕ
point_digits negative bs = let digits = filter is_in_number bs in if negative then 45 ∷ digits else digits

-- whether the text of a number has neither a point nor an exponent
abbrev pub is_whole : List ℕ → Bool
is_whole s = list_all (λ b. is_digit b || b == 45) s

-- a whole number of those digits, with its value and the word behind it: the text of one that is too great and has no word
abbrev pub whole_lexeme : Bool → List ℕ → Option ℕ → List ℕ → Lexeme
whole_lexeme negative digits None [] = point (point_digits negative digits)
whole_lexeme negative digits value suffix = number negative value suffix

-- a whole number whose digits take that many bytes, and the word behind them
abbrev pub number_of : Bool → ℕ → List ℕ → Taken
number_of negative n bs =
    let rest = drop n bs in
    let digits = take n bs in
    (whole_lexeme negative digits (magnitude (Some 0) digits) (take (word_len rest) rest), drop (word_len rest) rest)

-- a number of so many bytes with a point or an exponent
abbrev pub point_of : Bool → ℕ → List ℕ → Taken
point_of negative n bs = (point (point_digits negative (take n bs)), drop n bs)

-- a number, whose first digits take that many bytes
abbrev pub number_behind : Bool → ℕ → List ℕ → Taken
number_behind negative n bs = if fraction_len (drop n bs) == 0 then number_of negative n bs else point_of negative (n + fraction_len (drop n bs)) bs

-- a number
abbrev pub number_taken : Bool → List ℕ → Taken
number_taken negative bs = number_behind negative (digits_len bs) bs

-- whether `0x` is at the front
abbrev pub is_hex : ℕ → List ℕ → Bool
is_hex b bs = elim (b == 48) [ true ↦ next bs == 120 | false ↦ false ]

-- the sign of one byte
abbrev pub short_sign : ℕ → Option Sign
short_sign b =
    elim (b == 40) [
      | true ↦ Some OpenParen
      | false ↦
          elim (b == 41) [
            | true ↦ Some CloseParen
            | false ↦
                elim (b == 44) [
                  | true ↦ Some Comma
                  | false ↦
                      elim (b == 46) [
                        | true ↦ Some Dot
                        | false ↦
                            elim (b == 36) [
                              | true ↦ Some Dollar
                              | false ↦
                                  elim (b == 58) [
                                    | true ↦ Some Colon
                                    | false ↦
                                        elim (b == 61) [
                                          | true ↦ Some Equal
                                          | false ↦
                                              elim (b == 60) [
                                                | true ↦ Some Less
                                                | false ↦
                                                    elim (b == 62) [
                                                      | true ↦ Some Greater
                                                      | false ↦
                                                          elim (b == 43) [
                                                            | true ↦ Some Plus
                                                            | false ↦
                                                                elim (b == 42) [
                                                                  | true ↦ Some Star
                                                                  | false ↦
                                                                      elim (b == 47) [
                                                                        | true ↦ Some Slash
                                                                        | false ↦
                                                                            elim (b == 37) [
                                                                              | true ↦ Some Percent
                                                                              | false ↦
                                                                                  elim (b == 91) [
                                                                                    | true ↦ Some OpenBracket
                                                                                    | false ↦
                                                                                        elim (b == 93) [
                                                                                          | true ↦ Some CloseBracket
                                                                                          | false ↦
                                                                                              elim (b == 123) [
                                                                                                | true ↦ Some OpenBrace
                                                                                                | false ↦
                                                                                                    elim (b == 125) [
                                                                                                      | true ↦ Some CloseBrace
                                                                                                      | false ↦
                                                                                                          elim (b == 63) [
                                                                                                            | true ↦ Some Question
                                                                                                            | false ↦
                                                                                                                elim (b == 126) [ true ↦ Some Tilde | false ↦ None ]
                                                                                                          ]
                                                                                                    ]
                                                                                              ]
                                                                                        ]
                                                                                  ]
                                                                            ]
                                                                      ]
                                                                ]
                                                          ]
                                                    ]
                                              ]
                                        ]
                                  ]
                            ]
                      ]
                ]
          ]
    ]

-- the sign of two bytes
abbrev pub long_sign : ℕ → ℕ → Option Sign
long_sign b c =
    elim (b == 58) [
      | true ↦ elim (c == 58) [ true ↦ Some DoubleColon | false ↦ None ]
      | false ↦
          elim (b == 60) [
            | true ↦ elim (c == 61) [ true ↦ Some LessEqual | false ↦ elim (c == 62) [ true ↦ Some NotEqual | false ↦ None ] ]
            | false ↦
                elim (c == 61) [
                  | true ↦
                      elim (b == 62) [
                        | true ↦ Some GreaterEqual
                        | false ↦
                            elim (b == 61) [
                              | true ↦ Some DoubleEqual
                              | false ↦
                                  elim (b == 33) [ true ↦ Some NotEqual | false ↦ None ]
                            ]
                      ]
                  | false ↦ None
                ]
          ]
    ]

-- a sign of one byte, or what is none
abbrev pub short_taken : Option Sign → List ℕ → Taken
short_taken None bs = (invalid Token, bs)
short_taken (Some s) bs = (sign s, bs)

-- a sign of two bytes, else of one, of which the first byte is taken already
abbrev pub sign_taken : Option Sign → Option Sign → List ℕ → Taken
sign_taken None short bs = short_taken short bs
sign_taken (Some s) short bs = (sign s, drop 1 bs)

-- what begins with a dash: a number below zero, else the sign
abbrev pub dash_taken : List ℕ → Taken
dash_taken bs = elim (is_digit (next bs)) [ true ↦ number_taken true bs | false ↦ (sign Minus, bs) ]

-- a text, a name between backquotes, a number below zero or a sign, of which b is the first byte
abbrev pub other_taken : ℕ → List ℕ → Taken
other_taken b bs =
    elim (b == 34) [
      | true ↦ text_taken ClosingQuote (unquoted 34 false bs)
      | false ↦
          elim (b == 39) [
            | true ↦ text_taken ClosingSingleQuote (unquoted 39 false bs)
            | false ↦
                elim (b == 96) [
                  | true ↦ quoted_taken (unquoted 96 false bs)
                  | false ↦
                      elim (b == 45) [ true ↦ dash_taken bs | false ↦ sign_taken (long_sign b (next bs)) (short_sign b) bs ]
                ]
          ]
    ]

-- the token that begins with b
abbrev pub token_from : ℕ → List ℕ → Taken
token_from b bs =
    elim (is_letter b) [
      | true ↦ (word (take (word_len (b ∷ bs)) (b ∷ bs)), drop (word_len (b ∷ bs)) (b ∷ bs))
      | false ↦
          elim (is_hex b bs) [
            | true ↦ octets_taken (drop 1 bs)
            | false ↦
                elim (is_digit b) [ true ↦ number_taken false (b ∷ bs) | false ↦ other_taken b bs ]
          ]
    ]

-- the token at the front, where there is no blank
abbrev pub token_at : List ℕ → Taken
token_at [] = (end, [])
token_at (b ∷ bs) = token_from b bs

-- the first token, and what is left behind it
abbrev pub first : List ℕ → Taken
first bs = token_at (skip false bs)
