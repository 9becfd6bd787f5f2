-- What is computed of numbers within bounds.
use Rattle.std.proofs.Common.{◌≡◌, refl, ap, Bool, true, false, ◌&&◌, arith}
use Rattle.std.specs.Prelude.{ℤ, ◌≤ℤ◌, ◌<ℤ◌, Option, Some, None, IsTrue}
use Rattle.std.specs.declared.cmp.Ordering.{Ordering}
use Rattle.std.specs.declared.cmp.Ordering.TheVariants.{Less, Equal, Greater}
use Rattle.std.specs.Cmp.{int_ranks}
use Rattle.std.specs.Float.{Format}
use Rattle.std.specs.Float as ieee
use Rattle.std.specs.Float.Ieee.{add, sub, mul, div, rem}
use Rattle.std.specs.Option.{option_map}
use Rattle.std.specs.Ordering.{is_le, int_cmp, MatchOrdering}
use Rattle.std.proofs.lemmas.Bool.{and_from, or_left, or_right}
use Rattle.std.proofs.lemmas.Int.{ints}
use Rattle.vx_dtype.specs.declared.float_type.FloatType.{FloatType}
use Rattle.vx_floats.specs.Floats.{format_of, is_canonical, ieee_result}
use Rattle.vx_floats.specs.declared.arithmetic.Arithmetic.{Arithmetic}
use Rattle.vx_floats.specs.declared.arithmetic.Arithmetic.TheVariants.{Sum, Difference, Product, Quotient, Remainder}
use Rattle.vx_floats.specs.declared.float.Float.{Float}
use Rattle.vx_value.specs.Fits.{Fits}
use Rattle.vx_value.specs.Types.{same_float_type, number, floating, decimals, LogicalType, ty, atomic, Datum, null, int, float}
use Rattle.vx_fn.specs.Values.{computed, whole_result}
use Rattle.vx_prune_bounds.specs.Bounds.{Bounds, is_from, is_up_to, Contains, starts_within, ends_within, is_interval}
use Rattle.vx_prune_bounds.specs.Spans.{Side, Least, Greatest, Span, span_end}
use Rattle.vx_prune_bounds.specs.Kernels.{whole, span, arithmetic_end, arithmetic_bounds}
use Rattle.vx_prune_bounds.proofs.Contained.{inside, from_inside}
use Rattle.vx_prune_bounds.proofs.Corners.{Reached, Closer}
use Rattle.vx_prune_bounds.proofs.Spanned.{Spanned, Ordered, reached}

-- ---- numbers in their order

pub le_from : (x y : ℤ) → is_le (int_cmp x y) ≡ true → x ≤ℤ y
le_from x y e = go (int_cmp x y) (int_ranks x y) e
  where
    go : (o : Ordering) → MatchOrdering o (x <ℤ y) (x ≡ y) (y <ℤ x) → is_le o ≡ true → x ≤ℤ y
    go Less h e = omega (arith, ints)
    go Equal h e = omega (arith, ints)
    go Greater h e = cc

pub from_le : (x y : ℤ) → x ≤ℤ y → is_le (int_cmp x y) ≡ true
from_le x y h = go (int_cmp x y) (int_ranks x y)
  where
    go : (o : Ordering) → MatchOrdering o (x <ℤ y) (x ≡ y) (y <ℤ x) → is_le o ≡ true
    go Less k = refl
    go Equal k = refl
    go Greater k = absurd (omega (arith, ints))

own_end : (i : ℤ) → is_le (int_cmp i i) ≡ true
own_end i = from_le i i (omega (arith, ints))

-- ---- ends that are whole numbers

-- two numbers in order are the ends of an interval
pub interval_of : (e f : Option ℤ) → Ordered e f → is_interval (option_map int e) (option_map int f) ≡ true
interval_of None None o = refl
interval_of None (Some b) o = own_end b
interval_of (Some a) None o = own_end a
interval_of (Some a) (Some b) o = from_le a b o

pub ordered_ends : (l g : Option Datum) → is_interval l g ≡ true → Ordered (whole l) (whole g)
ordered_ends (Some (int a)) (Some (int b)) e = le_from a b e
ordered_ends (Some (int a)) None e = tt
ordered_ends (Some (int a)) (Some _) e = cc
ordered_ends None g e = tt
ordered_ends (Some _) g e = tt

number_from : (e : Option ℤ) (k : ℤ) → Reached Least e k → is_from (option_map int e) (int k) ≡ true
number_from None k r = refl
number_from (Some p) k r = from_le p k r

number_up_to : (e : Option ℤ) (k : ℤ) → Reached Greatest e k → is_up_to (option_map int e) (int k) ≡ true
number_up_to None k r = refl
number_up_to (Some p) k r = from_le k p r

whole_from : (l : Option Datum) (i : ℤ) → is_from l (int i) ≡ true → Reached Least (whole l) i
whole_from None i e = tt
whole_from (Some (int a)) i e = le_from a i e
whole_from (Some _) i e = tt

whole_up_to : (g : Option Datum) (i : ℤ) → is_up_to g (int i) ≡ true → Reached Greatest (whole g) i
whole_up_to None i e = tt
whole_up_to (Some (int b)) i e = le_from i b e
whole_up_to (Some _) i e = tt

pub whole_starts : (l m : Option Datum) → starts_within l m ≡ true → Closer Least (whole l) (whole m)
whole_starts l None e = tt
whole_starts (Some (int a)) (Some (int b)) e = le_from b a e
whole_starts None (Some m) e = cc
whole_starts (Some _) (Some (int b)) e = cc
whole_starts (Some _) (Some _) e = tt

pub whole_ends : (g h : Option Datum) → ends_within g h ≡ true → Closer Greatest (whole g) (whole h)
whole_ends g None e = tt
whole_ends (Some (int a)) (Some (int b)) e = le_from a b e
whole_ends None (Some h) e = cc
whole_ends (Some _) (Some (int b)) e = cc
whole_ends (Some _) (Some _) e = tt

pub number_starts : (e f : Option ℤ) → Closer Least e f → starts_within (option_map int e) (option_map int f) ≡ true
number_starts e None c = refl
number_starts None (Some q) c = elim c [ ]
number_starts (Some p) (Some q) c = from_le q p c

pub number_ends : (e f : Option ℤ) → Closer Greatest e f → ends_within (option_map int e) (option_map int f) ≡ true
number_ends e None c = refl
number_ends None (Some q) c = elim c [ ]
number_ends (Some p) (Some q) c = from_le p q c

-- ends that leave a floating-point number in are no whole numbers
float_from : (l : Option Datum) (p : Float) → is_from l (float p) ≡ true → whole l ≡ None
float_from None p e = refl
float_from (Some (float a)) p e = refl
float_from (Some _) p e = cc

float_up_to : (g : Option Datum) (p : Float) → is_up_to g (float p) ≡ true → whole g ≡ None
float_up_to None p e = refl
float_up_to (Some (float a)) p e = refl
float_up_to (Some _) p e = cc

-- ---- values

-- a whole number or null
pub data Numeric : Datum → Type 0 where
  no_number : Numeric null
  a_number : {i : ℤ} → Numeric (int i)

-- whether the values of the type are whole numbers, decimals by their units among them
abbrev pub is_whole : LogicalType → Bool
is_whole (ty (atomic (number p)) n) = true
is_whole (ty (atomic (decimals p s)) n) = true
is_whole _ = false

pub numeric : (t : LogicalType) (v : Datum) → is_whole t ≡ true → Fits v t → Numeric v
numeric (ty (atomic (number p)) n) null e f = no_number
numeric (ty (atomic (number p)) n) (int i) e f = a_number
numeric (ty (atomic (number p)) n) _ e f = cc
numeric (ty (atomic (decimals p s)) n) null e f = no_number
numeric (ty (atomic (decimals p s)) n) (int i) e f = a_number
numeric (ty (atomic (decimals p s)) n) _ e f = cc
numeric _ v e f = cc

spanned : (x : Bounds) (i : ℤ) → Contains x (int i) → Spanned (span x) i
spanned x i h = let p = inside x (int i) refl h in record { least = whole_from x.least i p.from; greatest = whole_up_to x.greatest i p.up_to }

pub computed-sound : (a : Arithmetic) (x y : Bounds) {v w : Datum} → Numeric v → Numeric w → Contains x v → Contains y w → Contains (arithmetic_bounds a x y) (computed a v w)
computed-sound a x y no_number q h k = or_left x.null y.null h
computed-sound a x y (a_number {i = i}) no_number h k = or_right x.null y.null k
computed-sound a x y (a_number {i = i}) (a_number {i = j}) h k =
    let p = spanned x i h in
    let q = spanned y j k in
    from_inside (arithmetic_bounds a x y) (int (whole_result a i j)) refl (record {
      value = and_from _ _ (inside x (int i) refl h).value (inside y (int j) refl k).value;
      from = number_from (span_end a Least (span x) (span y)) (whole_result a i j) (reached a Least (span x) (span y) i j p q);
      up_to = number_up_to (span_end a Greatest (span x) (span y)) (whole_result a i j) (reached a Greatest (span x) (span y) i j p q);
    })

-- ---- floating-point numbers

-- of spans without ends no end is computed
no_end : (a : Arithmetic) (s : Side) (x y : Span) → x.least ≡ None → x.greatest ≡ None → y.least ≡ None → span_end a s x y ≡ None
no_end Sum Least x y e f g = rw e refl
no_end Sum Greatest x y e f g = rw f refl
no_end Difference Least x y e f g = rw e refl
no_end Difference Greatest x y e f g = rw f refl
no_end Product s x y e f g = rw e refl
no_end Quotient s x y e f g = rw e refl
no_end Remainder s x y e f g = rw g refl

no_float_end : (a : Arithmetic) (s : Side) (x y : Bounds) (p q : Float) → Contains x (float p) → Contains y (float q) → arithmetic_end a s x y ≡ None
no_float_end a s x y p q h k =
    let b = inside x (float p) refl h in
    let c = inside y (float q) refl k in
    ap (option_map int) (no_end a s (span x) (span y) (float_from x.least p b.from) (float_up_to x.greatest p b.up_to) (float_from y.least q c.from))

float_parts : (a : Arithmetic) (x y : Bounds) (p q z : Float) → Contains x (float p) → Contains y (float q) → Contains (arithmetic_bounds a x y) (float z)
float_parts a x y p q z h k =
    from_inside (arithmetic_bounds a x y) (float z) refl (record {
      value = and_from _ _ (inside x (float p) refl h).value (inside y (float q) refl k).value;
      from = rw (no_float_end a Least x y p q h k) refl;
      up_to = rw (no_float_end a Greatest x y p q h k) refl;
    })

-- there is a result
float_result-in : (a : Arithmetic) (x y : Bounds) (p q : Float) (f : Format) (of : ieee.Float → Float) (c d : ieee.Float) → Contains x (float p) → Contains y (float q) →
    Contains (arithmetic_bounds a x y) (elim (option_map of (ieee_result a f c d)) [ Some z ↦ float z | None ↦ null ])
float_result-in Sum x y p q f of c d h k = float_parts Sum x y p q (of (add f c d)) h k
float_result-in Difference x y p q f of c d h k = float_parts Difference x y p q (of (sub f c d)) h k
float_result-in Product x y p q f of c d h k = float_parts Product x y p q (of (mul f c d)) h k
float_result-in Quotient x y p q f of c d h k = float_parts Quotient x y p q (of (div f c d)) h k
float_result-in Remainder x y p q f of c d h k = float_parts Remainder x y p q (of (rem f c d)) h k

of_format : (a : Arithmetic) (x y : Bounds) (f g : FloatType) (p q : Float) → IsTrue (same_float_type f g) → IsTrue (same_float_type (format_of p) f && is_canonical p) →
    IsTrue (same_float_type (format_of q) g && is_canonical q) → Contains x (float p) → Contains y (float q) → Contains (arithmetic_bounds a x y) (computed a (float p) (float q))
of_format a x y FloatType.F32 FloatType.F32 (Float.F32 b) (Float.F32 c) s d e h k = float_result-in a x y (Float.F32 b) (Float.F32 c) _ _ _ _ h k
of_format a x y FloatType.F64 FloatType.F64 (Float.F64 b) (Float.F64 c) s d e h k = float_result-in a x y (Float.F64 b) (Float.F64 c) _ _ _ _ h k
of_format _ _ _ _ _ _ _ s d e h k = cc

pub computed_floats-sound : (a : Arithmetic) (f g : FloatType) (n m : Bool) (x y : Bounds) (v w : Datum) → IsTrue (same_float_type f g) → Fits v (ty (atomic (floating f)) n) → Fits w (ty (atomic (floating g)) m) →
    Contains x v → Contains y w → Contains (arithmetic_bounds a x y) (computed a v w)
computed_floats-sound a f g n m x y null w s c d h k = or_left x.null y.null h
computed_floats-sound a f g n m x y (float p) null s c d h k = or_right x.null y.null k
computed_floats-sound a f g n m x y (float p) (float q) s c d h k = of_format a x y f g p q s c d h k
computed_floats-sound a f g n m x y _ _ s c d h k = cc
