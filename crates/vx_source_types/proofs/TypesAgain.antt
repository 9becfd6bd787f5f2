-- The text of a type is read as that type.
use Rattle.std.proofs.Common.{◌≡◌, ℕ, ◌≤◌, ◌<◌, ◌^◌, zero, suc, Bool, true, false, List, [], ◌∷◌, ◌++◌, Some, None, refl, sym, ap, ◌∙◌, subst, append_assoc, append-nil, arith}
use Rattle.std.specs.Prelude.{codes, ◌==◌, ◌&&◌, nat_le, nat_lt}
use Rattle.std.specs.Fmt.{decimal}
use Rattle.std.specs.Str.{IsUtf8}
use Rattle.std.proofs.lemmas.Bool.{and_from, le-leb}
use Rattle.std.proofs.lemmas.Bool.Decides.{nat_tests}
use Rattle.vx_dtype.specs.declared.dtype.PType.{PType}
use Rattle.vx_dtype.specs.declared.dtype.PType.TheVariants.{U8, U16, U32, U64, I8, I16, I32, I64}
use Rattle.vx_dtype.specs.declared.float_type.FloatType.{FloatType}
use Rattle.vx_dtype.specs.declared.float_type.FloatType.TheVariants.{F32, F64}
use Rattle.vx_dtype.specs.declared.timestamp_type.TimeUnit.{TimeUnit}
use Rattle.vx_dtype.specs.declared.timestamp_type.TimeUnit.TheVariants.{Seconds, Milliseconds, Microseconds, Nanoseconds}
use Rattle.vx_dtype.specs.Fields.{fields_named}
use Rattle.vx_dtype.specs.Texts.{with_commas, atomic_text, ptype_text, float_type_text, unit_text}
use Rattle.vx_dtype.specs.Types.{Name, Atomic, truth, number, floating, decimals, date, timestamp, text, octets, LogicalType, ty, Shape, atomic, list, fixed, struct, Fields, no_field, field}
use Rattle.vx_dtype.proofs.Commas.{after_commas}
use Rattle.vx_source_types.specs.Characters.{is_word}
use Rattle.vx_source_types.specs.Tokens.{word, number as numeral, next}
use Rattle.vx_dtype.proofs.Choice.{yes}
use Rattle.vx_source_types.proofs.FirstTokens.{first_word, first_quoted, first_text}
use Rattle.vx_source_types.proofs.FirstNumbers.{first_number}
use Rattle.vx_source_types.proofs.FirstSigns.{first_open_paren, first_close_paren, first_open_bracket, first_close_bracket, first_open_brace, first_close_brace, first_comma, first_question, first_equal}
use Rattle.vx_dtype.specs.Quotes.{between_quotes}
use Rattle.vx_source_types.specs.Names.{is_plain, name_source}
use Rattle.vx_source_types.specs.Reading.{Leads, stays, leads, IsRead, is_read}
use Rattle.vx_source_types.specs.TypePrintable.{type_nesting, shape_nesting, fields_nesting, IsPrintable, IsPrintableAtomic, IsPrintableShape, ArePrintable}
use Rattle.vx_source_types.specs.TypeReading.{TypeFrame, in_list, in_fixed, in_struct, FieldsRead, TypeMode, type_due, length_due, length_closes, decimal_opens, precision_due, precision_ends, scale_due, scale_closes, timestamp_opens, unit_due, unit_ends, zone_due, zone_closes, first_field, next_field, unmarked, whole, TypeState, type_start, type_step, type_word_of, unit_word, plain, plain_word, word_begins, with_field, narrow_length, length_read, precision_read, scale_read, unit_read}
use Rattle.vx_source_types.specs.TypeTexts.{type_source, shape_source, field_sources}
use Rattle.vx_source_types.proofs.Reading.{then, of_text}

-- a state
abbrev at : List TypeFrame → TypeMode → ℕ → TypeState
at fs m r = record { frames = fs; mode = m; room = r }

-- tokens at the front of a text make another state of one
abbrev Goes : TypeState → List ℕ → TypeState → List ℕ → Type 0
Goes s bs u ds = Leads type_step s bs u ds

-- a type that was read, behind which a question mark may still follow where it isn't nullable
abbrev pub read_mode : LogicalType → TypeMode
read_mode (ty s true) = whole (ty s true)
read_mode (ty s false) = unmarked (ty s false)

-- ---- types without parts

ptype_word_is : (p : PType) → type_word_of (ptype_text p) ≡ plain_word (ty (atomic (number p)) false)
ptype_word_is U8 = refl
ptype_word_is U16 = refl
ptype_word_is U32 = refl
ptype_word_is U64 = refl
ptype_word_is I8 = refl
ptype_word_is I16 = refl
ptype_word_is I32 = refl
ptype_word_is I64 = refl

ptype_is_plain : (p : PType) → is_plain (ptype_text p) ≡ true
ptype_is_plain U8 = refl
ptype_is_plain U16 = refl
ptype_is_plain U32 = refl
ptype_is_plain U64 = refl
ptype_is_plain I8 = refl
ptype_is_plain I16 = refl
ptype_is_plain I32 = refl
ptype_is_plain I64 = refl

float_word_is : (f : FloatType) → type_word_of (float_type_text f) ≡ plain_word (ty (atomic (floating f)) false)
float_word_is F32 = refl
float_word_is F64 = refl

float_is_plain : (f : FloatType) → is_plain (float_type_text f) ≡ true
float_is_plain F32 = refl
float_is_plain F64 = refl

word_again : (w : List ℕ) (p : Atomic) (fs : List TypeFrame) (r : ℕ) (rest : List ℕ) → is_plain w ≡ true → type_word_of w ≡ plain_word (plain p) → is_word (next rest) ≡ false
    → Goes (at fs type_due r) (w ++ rest) (at fs (unmarked (plain p)) r) rest
word_again w p fs r rest h is e = leads (first_word w rest h e) (ap (word_begins fs r) is) stays

short_length : (k : ℕ) → k < 2 ^ 32 → narrow_length k ≡ Some k
short_length k h = let below : nat_lt k (2 ^ 32) ≡ true = grind (arith, nat_tests) in yes (nat_lt k (2 ^ 32)) (Some k) _ below

-- ---- decimals

chosen : {A : Type 0} (b : Bool) (x y : A) → b ≡ true → (elim b as (λ v. A) [ true ↦ x | false ↦ y ]) ≡ x
chosen b x y e = yes b x y e

decimal_again : (p s : ℕ) (fs : List TypeFrame) (r : ℕ) (rest : List ℕ) → 1 ≤ p → p ≤ 38 → s ≤ p
    → Goes (at fs type_due r) (atomic_text (decimals p s) ++ rest) (at fs (unmarked (plain (decimals p s))) r) rest
decimal_again p s fs r rest some wide within =
    let behind : List ℕ = decimal s ++ 41 ∷ rest in
    let grouped : atomic_text (decimals p s) ++ rest ≡ codes "decimal" ++ (40 ∷ (decimal p ++ 44 ∷ 32 ∷ behind)) = simp append_assoc in
    of_text type_step grouped
    (leads {t = at fs decimal_opens r} (first_word (codes "decimal") (40 ∷ (decimal p ++ 44 ∷ 32 ∷ behind)) refl refl) refl
    (leads {t = at fs precision_due r} (first_open_paren (decimal p ++ 44 ∷ 32 ∷ behind)) refl
    (leads {t = at fs (precision_ends p) r} (first_number p [] (44 ∷ 32 ∷ behind) (omega arith) (refl, refl) refl refl refl)
    (ap (precision_read fs r (numeral false (Some p) [])) (short_length p (omega arith)) ∙ chosen (nat_le 1 p && nat_le p 38) _ _ (and_from _ _ (le-leb 1 p some) (le-leb p 38 wide)))
    (leads {t = at fs (scale_due p) r} (first_comma (32 ∷ behind)) refl
    (leads {t = at fs (scale_closes p s) r} (first_number s [] (41 ∷ rest) (omega arith) (refl, refl) refl refl refl)
    (ap (scale_read fs r p (numeral false (Some s) [])) (short_length s (omega arith)) ∙ chosen (nat_le s p) _ _ (le-leb s p within))
    (leads (first_close_paren rest) refl stays))))))

-- ---- timestamps

unit_is_plain : (u : TimeUnit) → is_plain (unit_text u) ≡ true
unit_is_plain Seconds = refl
unit_is_plain Milliseconds = refl
unit_is_plain Microseconds = refl
unit_is_plain Nanoseconds = refl

unit_word_is : (u : TimeUnit) → unit_word (unit_text u) ≡ Some u
unit_word_is Seconds = refl
unit_word_is Milliseconds = refl
unit_word_is Microseconds = refl
unit_word_is Nanoseconds = refl

clock_again : (u : TimeUnit) (fs : List TypeFrame) (r : ℕ) (rest : List ℕ)
    → Goes (at fs type_due r) (atomic_text (timestamp u None) ++ rest) (at fs (unmarked (plain (timestamp u None))) r) rest
clock_again u fs r rest =
    let grouped : atomic_text (timestamp u None) ++ rest ≡ codes "timestamp" ++ (40 ∷ (unit_text u ++ 41 ∷ rest)) = simp append_assoc in
    of_text type_step grouped
    (leads {t = at fs timestamp_opens r} (first_word (codes "timestamp") (40 ∷ (unit_text u ++ 41 ∷ rest)) refl refl) refl
    (leads {t = at fs unit_due r} (first_open_paren (unit_text u ++ 41 ∷ rest)) refl
    (leads {t = at fs (unit_ends u) r} (first_word (unit_text u) (41 ∷ rest) (unit_is_plain u) refl) (ap (unit_read fs r (word (unit_text u))) (unit_word_is u))
    (leads (first_close_paren rest) refl stays))))

zoned_again : (u : TimeUnit) (z : Name) (fs : List TypeFrame) (r : ℕ) (rest : List ℕ) → IsUtf8 z
    → Goes (at fs type_due r) (atomic_text (timestamp u (Some z)) ++ rest) (at fs (unmarked (plain (timestamp u (Some z)))) r) rest
zoned_again u z fs r rest utf8 =
    let behind : List ℕ = between_quotes 34 z ++ 41 ∷ rest in
    let grouped : atomic_text (timestamp u (Some z)) ++ rest ≡ codes "timestamp" ++ (40 ∷ (unit_text u ++ 44 ∷ 32 ∷ behind)) = simp append_assoc in
    of_text type_step grouped
    (leads {t = at fs timestamp_opens r} (first_word (codes "timestamp") (40 ∷ (unit_text u ++ 44 ∷ 32 ∷ behind)) refl refl) refl
    (leads {t = at fs unit_due r} (first_open_paren (unit_text u ++ 44 ∷ 32 ∷ behind)) refl
    (leads {t = at fs (unit_ends u) r} (first_word (unit_text u) (44 ∷ 32 ∷ behind) (unit_is_plain u) refl) (ap (unit_read fs r (word (unit_text u))) (unit_word_is u))
    (leads {t = at fs (zone_due u) r} (first_comma (32 ∷ behind)) refl
    (leads {t = at fs (zone_closes u z) r} (first_text z (41 ∷ rest) utf8 refl) refl
    (leads (first_close_paren rest) refl stays))))))

atomic_again : (p : Atomic) (fs : List TypeFrame) (r : ℕ) (rest : List ℕ) → IsPrintableAtomic p → is_word (next rest) ≡ false
    → Goes (at fs type_due r) (atomic_text p ++ rest) (at fs (unmarked (plain p)) r) rest
atomic_again truth fs r rest u e = word_again (codes "bool") truth fs r rest refl refl e
atomic_again (number p) fs r rest u e = word_again (ptype_text p) (number p) fs r rest (ptype_is_plain p) (ptype_word_is p) e
atomic_again (floating f) fs r rest u e = word_again (float_type_text f) (floating f) fs r rest (float_is_plain f) (float_word_is f) e
atomic_again (decimals p s) fs r rest u e = decimal_again p s fs r rest u.0 u.1 u.2
atomic_again date fs r rest u e = word_again (codes "date") date fs r rest refl refl e
atomic_again (timestamp v None) fs r rest u e = clock_again v fs r rest
atomic_again (timestamp v (Some z)) fs r rest u e = zoned_again v z fs r rest u
atomic_again text fs r rest u e = word_again (codes "utf8") text fs r rest refl refl e
atomic_again octets fs r rest u e = word_again (codes "binary") octets fs r rest refl refl e

-- ---- what follows a type

closed_list : (t : LogicalType) (fs : List TypeFrame) (r : ℕ) (rest : List ℕ)
    → Goes (at (in_list (suc r) ∷ fs) (read_mode t) r) (41 ∷ rest) (at fs (unmarked (ty (list t) false)) (suc r)) rest
closed_list (ty s true) fs r rest = leads (first_close_paren rest) refl stays
closed_list (ty s false) fs r rest = leads (first_close_paren rest) refl stays

length_again : (t : LogicalType) (k : ℕ) (fs : List TypeFrame) (r : ℕ) (rest : List ℕ) → k < 2 ^ 32
    → Goes (at fs (length_due t) r) (decimal k ++ 93 ∷ rest) (at fs (unmarked (ty (fixed t k) false)) r) rest
length_again t k fs r rest h =
    leads {t = at fs (length_closes t k) r} (first_number k [] (93 ∷ rest) (omega arith) (refl, refl) refl refl refl) (ap (length_read fs r t (numeral false (Some k) [])) (short_length k h)) (leads (first_close_bracket rest) refl stays)

closed_fixed : (t : LogicalType) (k : ℕ) (fs : List TypeFrame) (r : ℕ) (rest : List ℕ) → k < 2 ^ 32
    → Goes (at (in_fixed (suc r) ∷ fs) (read_mode t) r) (41 ∷ 91 ∷ (decimal k ++ 93 ∷ rest)) (at fs (unmarked (ty (fixed t k) false)) (suc r)) rest
closed_fixed (ty s true) k fs r rest h = leads (first_close_paren (91 ∷ (decimal k ++ 93 ∷ rest))) refl (leads (first_open_bracket (decimal k ++ 93 ∷ rest)) refl (length_again (ty s true) k fs (suc r) rest h))
closed_fixed (ty s false) k fs r rest h = leads (first_close_paren (91 ∷ (decimal k ++ 93 ∷ rest))) refl (leads (first_open_bracket (decimal k ++ 93 ∷ rest)) refl (length_again (ty s false) k fs (suc r) rest h))

-- the struct of the fields
abbrev ended : List TypeFrame → FieldsRead → TypeState
ended fs d = at fs (unmarked (ty (struct (fields_named d.names d.types)) false)) d.room

closed_struct : (t : LogicalType) (d : FieldsRead) (a : Name) (fs : List TypeFrame) (r : ℕ) (rest : List ℕ)
    → Goes (at (in_struct d a ∷ fs) (read_mode t) r) (125 ∷ rest) (ended fs (with_field d a t)) rest
closed_struct (ty s true) d a fs r rest = leads (first_close_brace rest) refl stays
closed_struct (ty s false) d a fs r rest = leads (first_close_brace rest) refl stays

another_field : (t : LogicalType) (d : FieldsRead) (a : Name) (fs : List TypeFrame) (r : ℕ) (rest : List ℕ)
    → Goes (at (in_struct d a ∷ fs) (read_mode t) r) (44 ∷ rest) (at fs (next_field (with_field d a t)) r) rest
another_field (ty s true) d a fs r rest = leads (first_comma rest) refl stays
another_field (ty s false) d a fs r rest = leads (first_comma rest) refl stays

-- ---- names of fields

-- the name and the sign behind it, where a blank may stand before them
named_next : (a : Name) (d : FieldsRead) (fs : List TypeFrame) (r : ℕ) (rest : List ℕ) → IsUtf8 a → (next rest == 61) ≡ false
    → Goes (at fs (next_field d) r) (32 ∷ (name_source a ++ 61 ∷ rest)) (at (in_struct d a ∷ fs) type_due r) rest
named_next a d fs r rest u n = go (is_plain a) refl where
  go : (b : Bool) → is_plain a ≡ b → Goes (at fs (next_field d) r) (32 ∷ ((elim b as (λ v. List ℕ) [ true ↦ a | false ↦ between_quotes 96 a ]) ++ 61 ∷ rest)) (at (in_struct d a ∷ fs) type_due r) rest
  go true e = leads (first_word a (61 ∷ rest) e refl) refl (leads (first_equal rest n) refl stays)
  go false e = leads (first_quoted a (61 ∷ rest) u refl) refl (leads (first_equal rest n) refl stays)

named_first : (a : Name) (d : FieldsRead) (fs : List TypeFrame) (r : ℕ) (rest : List ℕ) → IsUtf8 a → (next rest == 61) ≡ false
    → Goes (at fs (first_field d) r) (name_source a ++ 61 ∷ rest) (at (in_struct d a ∷ fs) type_due r) rest
named_first a d fs r rest u n = go (is_plain a) refl where
  go : (b : Bool) → is_plain a ≡ b → Goes (at fs (first_field d) r) ((elim b as (λ v. List ℕ) [ true ↦ a | false ↦ between_quotes 96 a ]) ++ 61 ∷ rest) (at (in_struct d a ∷ fs) type_due r) rest
  go true e = leads (first_word a (61 ∷ rest) e refl) refl (leads (first_equal rest n) refl stays)
  go false e = leads (first_quoted a (61 ∷ rest) u refl) refl (leads (first_equal rest n) refl stays)

-- ---- the fields of a struct as lists

abbrev names_in : Fields → List Name
names_in no_field = []
names_in (field a t fs) = a ∷ names_in fs

abbrev types_in : Fields → List LogicalType
types_in no_field = []
types_in (field a t fs) = t ∷ types_in fs

fields_again : (gs : Fields) → fields_named (names_in gs) (types_in gs) ≡ gs
fields_again no_field = refl
fields_again (field a t gs) = ap (field a t) (fields_again gs)

-- the fields with others behind them
abbrev made : List Name → List LogicalType → ℕ → FieldsRead
made names types r = record { names = names; types = types; room = r }

abbrev with_fields : FieldsRead → Fields → FieldsRead
with_fields d gs = made (d.names ++ names_in gs) (d.types ++ types_in gs) d.room

one_field_more : (d : FieldsRead) (a : Name) (t : LogicalType) (gs : Fields) → with_fields (with_field d a t) gs ≡ with_fields d (field a t gs)
one_field_more d a t gs =
    ap (λ names. made names ((d.types ++ t ∷ []) ++ types_in gs) d.room) (append_assoc d.names (a ∷ []) (names_in gs))
    ∙ ap (λ types. made (d.names ++ (a ∷ names_in gs)) types d.room) (append_assoc d.types (t ∷ []) (types_in gs))

no_field_more : (d : FieldsRead) → with_fields d no_field ≡ d
no_field_more d = ap (λ names. made names (d.types ++ []) d.room) (append-nil d.names) ∙ ap (λ types. made d.names types d.room) (append-nil d.types)

to_state : {s u v : TypeState} {bs ds : List ℕ} → u ≡ v → Goes s bs u ds → Goes s bs v ds
to_state {s} {u} {v} {bs} {ds} e h = subst (λ w. Goes s bs w ds) e h

-- no type begins with an equals sign
no_equals : (t : LogicalType) (rest : List ℕ) → (next (type_source t ++ rest) == 61) ≡ false
no_equals (ty (atomic truth) n) rest = refl
no_equals (ty (atomic (number U8)) n) rest = refl
no_equals (ty (atomic (number U16)) n) rest = refl
no_equals (ty (atomic (number U32)) n) rest = refl
no_equals (ty (atomic (number U64)) n) rest = refl
no_equals (ty (atomic (number I8)) n) rest = refl
no_equals (ty (atomic (number I16)) n) rest = refl
no_equals (ty (atomic (number I32)) n) rest = refl
no_equals (ty (atomic (number I64)) n) rest = refl
no_equals (ty (atomic (floating F32)) n) rest = refl
no_equals (ty (atomic (floating F64)) n) rest = refl
no_equals (ty (atomic (decimals p s)) n) rest = refl
no_equals (ty (atomic date) n) rest = refl
no_equals (ty (atomic (timestamp u z)) n) rest = refl
no_equals (ty (atomic text) n) rest = refl
no_equals (ty (atomic octets) n) rest = refl
no_equals (ty (list t) n) rest = refl
no_equals (ty (fixed t k) n) rest = refl
no_equals (ty (struct fs) n) rest = refl

-- what stands behind a field's type goes on with no word
word_ends : (gs : Fields) (rest : List ℕ) → is_word (next (after_commas (field_sources gs) ++ 125 ∷ rest)) ≡ false
word_ends no_field rest = refl
word_ends (field a t gs) rest = refl

-- ---- types

mutual
  pub type_again : (t : LogicalType) (fs : List TypeFrame) (r : ℕ) (rest : List ℕ) → IsPrintable t → type_nesting t ≤ r → is_word (next rest) ≡ false
      → Goes (at fs type_due r) (type_source t ++ rest) (at fs (read_mode t) r) rest
  type_again (ty s false) fs r rest u h e = of_text type_step (append_assoc (shape_source s) [] rest) (shape_again s fs r rest u h e)
  type_again (ty s true) fs r rest u h e =
      of_text type_step (append_assoc (shape_source s) (codes "?") rest) (then type_step (shape_again s fs r (63 ∷ rest) u h refl) (leads (first_question rest) refl stays))

  shape_again : (s : Shape) (fs : List TypeFrame) (r : ℕ) (rest : List ℕ) → IsPrintableShape s → shape_nesting s ≤ r → is_word (next rest) ≡ false
      → Goes (at fs type_due r) (shape_source s ++ rest) (at fs (unmarked (ty s false)) r) rest
  shape_again (atomic p) fs r rest u h e = atomic_again p fs r rest u e
  shape_again (list t) fs zero rest u h e = absurd (omega arith)
  shape_again (list t) fs (suc r) rest u h e =
      of_text type_step (ap (λ xs. codes "list(" ++ xs) (append_assoc (type_source t) (codes ")") rest))
      (leads refl refl (leads (first_open_paren (type_source t ++ 41 ∷ rest)) refl (then type_step (type_again t (in_list (suc r) ∷ fs) r (41 ∷ rest) u (omega arith) refl) (closed_list t fs r rest))))
  shape_again (fixed t k) fs zero rest u h e = absurd (omega arith)
  shape_again (fixed t k) fs (suc r) rest u h e =
      let grouped : (type_source t ++ (codes ")[" ++ (decimal k ++ codes "]"))) ++ rest ≡ type_source t ++ (41 ∷ 91 ∷ (decimal k ++ 93 ∷ rest)) = simp append_assoc in
      of_text type_step (ap (λ xs. codes "fixed_size_list(" ++ xs) grouped)
      (leads refl refl (leads (first_open_paren (type_source t ++ (41 ∷ 91 ∷ (decimal k ++ 93 ∷ rest)))) refl (then type_step (type_again t (in_fixed (suc r) ∷ fs) r (41 ∷ 91 ∷ (decimal k ++ 93 ∷ rest)) u.1 (omega arith) refl) (closed_fixed t k fs r rest u.0))))
  shape_again (struct gs) fs zero rest u h e = absurd (omega arith)
  shape_again (struct gs) fs (suc r) rest u h e =
      let none : FieldsRead = record { names = []; types = []; room = suc r } in
      let fields = with_commas (field_sources gs) in
      of_text type_step (ap (λ xs. codes "{" ++ xs) (append_assoc fields (codes "}") rest))
      (leads (first_open_brace (fields ++ 125 ∷ rest)) refl (to_state (ap (λ xs. at fs (unmarked (ty (struct xs) false)) (suc r)) (fields_again gs)) (first_again gs none fs r rest u (omega arith))))

  -- all the fields of a struct
  first_again : (gs : Fields) (d : FieldsRead) (fs : List TypeFrame) (r : ℕ) (rest : List ℕ) → ArePrintable gs → fields_nesting gs ≤ r
      → Goes (at fs (first_field d) r) (with_commas (field_sources gs) ++ 125 ∷ rest) (ended fs (with_fields d gs)) rest
  first_again no_field d fs r rest u h = to_state (ap (ended fs) (sym (no_field_more d))) (leads (first_close_brace rest) refl stays)
  first_again (field a t gs) d fs r rest u h =
      let behind : List ℕ = after_commas (field_sources gs) ++ 125 ∷ rest in
      let grouped : ((name_source a ++ (codes "=" ++ type_source t)) ++ after_commas (field_sources gs)) ++ 125 ∷ rest ≡ name_source a ++ (61 ∷ (type_source t ++ behind)) = simp append_assoc in
      of_text type_step grouped
      (then type_step (named_first a d fs r (type_source t ++ behind) u.0 (no_equals t behind))
      (then type_step (type_again t (in_struct d a ∷ fs) r behind u.1 (omega arith) (word_ends gs rest))
      (to_state (ap (ended fs) (one_field_more d a t gs)) (more_again gs t d a fs r rest u.2 (omega arith)))))

  -- the fields behind one
  more_again : (gs : Fields) (t : LogicalType) (d : FieldsRead) (a : Name) (fs : List TypeFrame) (r : ℕ) (rest : List ℕ) → ArePrintable gs → fields_nesting gs ≤ r
      → Goes (at (in_struct d a ∷ fs) (read_mode t) r) (after_commas (field_sources gs) ++ 125 ∷ rest) (ended fs (with_fields (with_field d a t) gs)) rest
  more_again no_field t d a fs r rest u h = to_state (ap (ended fs) (sym (no_field_more (with_field d a t)))) (closed_struct t d a fs r rest)
  more_again (field b v gs) t d a fs r rest u h =
      let e : FieldsRead = with_field d a t in
      let behind : List ℕ = after_commas (field_sources gs) ++ 125 ∷ rest in
      let grouped : ((codes ", " ++ (name_source b ++ (codes "=" ++ type_source v))) ++ after_commas (field_sources gs)) ++ 125 ∷ rest ≡ 44 ∷ 32 ∷ (name_source b ++ (61 ∷ (type_source v ++ behind))) = simp append_assoc in
      of_text type_step grouped
      (then type_step (another_field t d a fs r (32 ∷ (name_source b ++ (61 ∷ (type_source v ++ behind)))))
      (then type_step (named_next b e fs r (type_source v ++ behind) u.0 (no_equals v behind))
      (then type_step (type_again v (in_struct e b ∷ fs) r behind u.1 (omega arith) (word_ends gs rest))
      (to_state (ap (ended fs) (one_field_more e b v gs)) (more_again gs v e b fs r rest u.2 (omega arith))))))

-- the text of a type, alone, is read as it
pub text_again : (t : LogicalType) (room : ℕ) → IsPrintable t → type_nesting t ≤ room → IsRead type_step (type_start room) (type_source t) t
text_again t room u h = read t (subst (λ bs. Goes (at [] type_due room) bs (at [] (read_mode t) room) []) (append-nil (type_source t)) (type_again t [] room [] u h refl)) where
  read : (v : LogicalType) → Goes (at [] type_due room) (type_source t) (at [] (read_mode v) room) [] → IsRead type_step (type_start room) (type_source t) v
  read (ty s true) k = is_read k refl refl
  read (ty s false) k = is_read k refl refl
