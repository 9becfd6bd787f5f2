-- The kinds of what stands in a column of a file, by which its type is guessed.
use Rattle.std.specs.Prelude.{ℕ, ◌+◌, ◌-◌, ◌==◌, ◌&&◌, ◌||◌, Bool, true, false, not, max, List, length, drop, get_or, Option, Some, None, ℤ, is_some, nat_le, codes, if◌then◌else◌}
use Rattle.std.specs.Char.{is_ascii_digit}
use Rattle.std.specs.List.{between, list_all, prefix_len}
use Rattle.std.specs.Option.{unwrap_or}
use Rattle.std.specs.Str.{bytes_eq}
use Rattle.vx_dtype.specs.declared.dtype.PType.TheVariants.{I64, U64}
use Rattle.vx_dtype.specs.declared.float_type.FloatType.TheVariants.{F64}
use Rattle.vx_dtype.specs.declared.timestamp_type.TimeUnit.{TimeUnit}
use Rattle.vx_dtype.specs.declared.timestamp_type.TimeUnit.TheVariants.{Microseconds, Nanoseconds}
use Rattle.vx_floats.specs.Texts.{float_read}
use Rattle.vx_literals.specs.Decimals.{decimal_read}
use Rattle.vx_value.specs.Fits.{fits, fits_ptype}
use Rattle.vx_value.specs.Types.{Name, Atomic, truth, number, floating, decimals, date, timestamp, text, LogicalType, ty, atomic}
use Rattle.vx_value.specs.Values.{int}
use Rattle.vx_data.specs.declared.kind.Kind.{Kind}
use Rattle.vx_data.specs.declared.kind.Kind.TheVariants.{Unknown, Truth, Number, Float, Day, Instant, Text}
use Rattle.vx_data.specs.declared.kind.Instants.{Instants}
use Rattle.vx_data.specs.declared.kind.Numbers.{Numbers}
use Rattle.vx_data.specs.Numbers.{number_said}

-- ---- two kinds together

-- the kind of numbers, of which one has so many digits before the point at most: a decimal has no more than 38 in all
abbrev pub numbers_kind : Bool → Bool → ℕ → Option ℕ → Kind
numbers_kind signed unsigned whole places =
    if nat_le (whole + unwrap_or places 0) 38 then Number (record { signed = signed; unsigned = unsigned; whole = whole; places = places }) else Text

-- the places of both, if they are as many: numbers without a point have any
abbrev numbers_together : Bool → Bool → ℕ → Option ℕ → Option ℕ → Kind
numbers_together signed unsigned whole None q = numbers_kind signed unsigned whole q
numbers_together signed unsigned whole (Some p) None = numbers_kind signed unsigned whole (Some p)
numbers_together signed unsigned whole (Some p) (Some q) = if p == q then numbers_kind signed unsigned whole (Some p) else Text

-- the kind of instants, with a zone or without: read by microseconds, or by nanoseconds
abbrev pub instants_kind : Bool → Bool → Bool → Kind
instants_kind zoned micros nanos = if micros || nanos then Instant (record { zoned = zoned; micros = micros; nanos = nanos }) else Text

-- whether both are, or neither
abbrev both_or_neither : Bool → Bool → Bool
both_or_neither true b = b
both_or_neither false b = not b

-- the kind of two together
abbrev pub together : Kind → Kind → Kind
together Text b = Text
together Unknown b = b
together a Unknown = a
together Truth Truth = Truth
together (Number a) (Number b) = numbers_together (a.signed && b.signed) (a.unsigned && b.unsigned) (max a.whole b.whole) a.places b.places
together Float Float = Float
together (Number a) Float = Float
together Float (Number b) = Float
together Day Day = Day
together (Instant a) (Instant b) = if both_or_neither a.zoned b.zoned then instants_kind a.zoned (a.micros && b.micros) (a.nanos && b.nanos) else Text
together _ _ = Text

-- ---- the kind of one

-- whether the number is one of the type
abbrev is_of : LogicalType → Option ℤ → Bool
is_of t None = false
is_of t (Some i) = fits (int i) t

-- whether the text says a number of the type, as it is read
abbrev pub says : List ℕ → LogicalType → Bool
says s t = is_of t (number_said s t)

-- the first kind, if it isn't that of texts
abbrev pub else_kind : Kind → Kind → Kind
else_kind Text b = b
else_kind a b = a

-- the zone of instants
abbrev pub zone : Bool → Option Name
zone true = Some (codes "UTC")
zone false = None

-- the type of instants in a unit, with a zone or without
abbrev pub moment : TimeUnit → Bool → LogicalType
moment u zoned = ty (atomic (timestamp u (zone zoned))) false

-- whether more than six digits stand behind the point of a second
abbrev pub is_fine : List ℕ → Bool
is_fine s = nat_le 27 (length s) && list_all is_ascii_digit (between 20 27 s)

-- an instant, with a zone or without
abbrev pub moment_kind : Bool → List ℕ → Kind
moment_kind zoned s = instants_kind zoned (not (is_fine s) && says s (moment Microseconds zoned)) (says s (moment Nanoseconds zoned))

-- a text
abbrev pub text_kind : List ℕ → Kind
text_kind s = if says s (ty (atomic date) false) then Day else else_kind (moment_kind true s) (moment_kind false s)

-- a number without its minus
abbrev pub unsigned_part : List ℕ → List ℕ
unsigned_part s = if get_or s 0 0 == 45 then drop 1 s else s

-- how many bytes stand before the point
abbrev pub before_point : List ℕ → ℕ
before_point = prefix_len (λ b. not (b == 46))

-- whether digits are written as those of a number are: `007` may be more than a number
abbrev pub is_plain : List ℕ → Bool
is_plain ds = not (get_or ds 0 0 == 48 && is_ascii_digit (get_or ds 1 0))

-- how many of so many digits before the point count
abbrev pub whole_digits : List ℕ → ℕ → ℕ
whole_digits ds k = if get_or ds 0 0 == 48 then 0 else k

-- a whole number
abbrev pub whole_kind : ℕ → Option ℤ → Kind
whole_kind whole None = Text
whole_kind whole (Some i) = numbers_kind (fits_ptype i I64) (fits_ptype i U64) whole None

-- a number with so many digits behind its point
abbrev pub places_kind : List ℕ → ℕ → ℕ → Kind
places_kind s whole places = if nat_le places 38 && says s (ty (atomic (decimals 38 places)) false) then numbers_kind false false whole (Some places) else Text

-- whether the byte may stand in a number: a digit, a point, or an exponent's letter or sign
abbrev pub in_number : ℕ → Bool
in_number b = is_ascii_digit b || ((b == 46) || ((b == 101) || ((b == 69) || ((b == 43) || (b == 45)))))

-- whether a digit stands in front, and behind the point, if there is one
abbrev pub has_digits : List ℕ → ℕ → Bool
has_digits ds k = is_ascii_digit (get_or ds 0 0) && ((k == length ds) || is_ascii_digit (get_or ds (k + 1) 0))

-- a number with a point or an exponent, whose digits have so many bytes before the point
abbrev pub float_kind : List ℕ → List ℕ → ℕ → Kind
float_kind s ds k = if has_digits ds k && (list_all in_number ds && is_some (float_read F64 s)) then Float else Text

-- a number, whose digits have so many before the point; one that isn't whole is a floating-point number unless decimals are told
abbrev digits_kind : Bool → List ℕ → List ℕ → ℕ → Kind
digits_kind told s ds k =
    if not (is_plain ds) then Text
    else if list_all is_ascii_digit ds then whole_kind (whole_digits ds k) (decimal_read 0 s)
    else if told then places_kind s (whole_digits ds k) (length ds - (k + 1))
    else float_kind s ds k

abbrev pub number_kind : Bool → List ℕ → Kind
number_kind told s = digits_kind told s (unsigned_part s) (before_point (unsigned_part s))

-- a cell of CSV
abbrev pub cell_kind : Bool → List ℕ → Kind
cell_kind told s = if bytes_eq s (codes "true") || bytes_eq s (codes "false") then Truth else else_kind (number_kind told s) (text_kind s)

-- ---- the type of a kind

-- the narrowest type of whole numbers
abbrev whole_type : Bool → Bool → Atomic
whole_type signed unsigned = if signed then number I64 else if unsigned then number U64 else text

-- the narrowest type of numbers, of which each with a point has so many digits behind it
abbrev pub numbers_type : Bool → Bool → Option ℕ → Atomic
numbers_type signed unsigned None = whole_type signed unsigned
numbers_type signed unsigned (Some p) = if nat_le p 38 then decimals 38 p else text

-- the narrowest type of a kind
abbrev pub kind_type : Kind → Atomic
kind_type Truth = truth
kind_type (Number n) = numbers_type n.signed n.unsigned n.places
kind_type Float = floating F64
kind_type Day = date
kind_type (Instant i) = timestamp (if i.micros then Microseconds else Nanoseconds) (zone i.zoned)
kind_type _ = text
