-- The quotes of a CSV record: those around its cells, and those that stand for one inside them.
use Rattle.std.specs.Prelude.{ℕ, ◌+◌, ◌==◌, ◌&&◌, Bool, false, not, List, [], ◌∷◌, Option, Some, None, if◌then◌else◌}
use Rattle.std.specs.List.{list_any}
use Rattle.vx_data.specs.declared.csv_files.quotes.WrongQuotes.{WrongQuotes}
use Rattle.vx_data.specs.declared.csv_files.quotes.WrongQuotes.TheVariants.{Behind, Open}
use Rattle.vx_data.specs.declared.csv_files.quotes.Place.{Place}
use Rattle.vx_data.specs.declared.csv_files.quotes.Place.TheVariants.{Bare, Closed, Quoted, Start}

-- the byte of a quote
abbrev pub quote : ℕ
quote = 34

-- whether a quote stands among the bytes
abbrev pub has_quote : List ℕ → Bool
has_quote bytes = list_any (λ byte. byte == quote) bytes

-- where the byte stands that comes behind that byte, the i-th of the record
abbrev pub place_after : ℕ → Place → ℕ → ℕ → Place
place_after delimiter Start i byte = if byte == quote then Quoted i else if byte == delimiter then Start else Bare
place_after delimiter Bare i byte = if byte == delimiter then Start else Bare
place_after delimiter (Quoted from) i byte = if byte == quote then Closed from else Quoted from
place_after delimiter (Closed from) i byte = if byte == quote then Quoted from else Start

-- whether a byte stands behind a cell's closing quote that neither doubles that quote nor ends the cell
abbrev pub is_behind : ℕ → Place → ℕ → Bool
is_behind delimiter (Closed from) byte = not (byte == quote) && not (byte == delimiter)
is_behind delimiter Start byte = false
is_behind delimiter Bare byte = false
is_behind delimiter (Quoted from) byte = false

-- the quote that is left open where a record ends at that place
abbrev pub left_open : Place → Option WrongQuotes
left_open (Quoted from) = Some (Open from)
left_open Start = None
left_open Bare = None
left_open (Closed from) = None

-- what is wrong first with the quotes of bytes that begin at that place, the i-th of the record
unfoldable pub misquoted_from : ℕ → Place → ℕ → List ℕ → Option WrongQuotes
misquoted_from delimiter place i [] = left_open place
misquoted_from delimiter place i (byte ∷ rest) =
    if is_behind delimiter place byte then Some (Behind i) else misquoted_from delimiter (place_after delimiter place i byte) (i + 1) rest

-- what is wrong first with the quotes of a record
abbrev pub misquoted : ℕ → List ℕ → Option WrongQuotes
misquoted delimiter text = misquoted_from delimiter Start 0 text
