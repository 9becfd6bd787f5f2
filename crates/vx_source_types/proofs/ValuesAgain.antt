-- The text of a value is read as that value.
use Rattle.std.proofs.Common.{◌≡◌, ℕ, ◌≤◌, ◌<◌, ◌^◌, zero, suc, Bool, true, false, List, [], ◌∷◌, ◌++◌, Option, Some, None, Ok, refl, sym, ap, subst, append_assoc, append-nil, arith}
use Rattle.std.specs.Prelude.{codes, ◌==◌, ◌&&◌, nat_lt, ℤ, pos, negsuc, IsSome}
use Rattle.std.specs.Int.{int_div_euclid}
use Rattle.std.specs.Fmt.{decimal, signed_decimal}
use Rattle.std.specs.Str.{IsUtf8}
use Rattle.std.proofs.lemmas.Bool.{and_parts, ltb-true}
use Rattle.std.proofs.lemmas.Bool.Decides.{nat_tests}
use Rattle.vx_dtype.specs.declared.dtype.PType.{PType}
use Rattle.vx_dtype.specs.declared.dtype.PType.TheVariants.{U8, U16, U32, U64, I8, I16, I32, I64}
use Rattle.vx_floats.specs.Texts.{float_text}
use Rattle.vx_literals.specs.Days.{Civil, civil_at, day_text}
use Rattle.vx_literals.specs.Decimals.{decimal_text}
use Rattle.vx_literals.specs.Instants.{instant_text, units_a_day}
use Rattle.vx_value.specs.Fields.{data_of}
use Rattle.vx_value.specs.Fits.{fits, each_fits, fields_fit, fits_ptype, Fits}
use Rattle.vx_value.specs.Types.{Name, bits, is_signed, number, floating, decimals, date, timestamp, LogicalType, ty, atomic, list, fixed, struct, Fields, no_field, field, Datum, null, bool, int, float, utf8, bytes, list_of, struct_of, Data, no_datum, datum}
use Rattle.vx_dtype.specs.Texts.{with_commas}
use Rattle.vx_dtype.proofs.Commas.{after_commas}
use Rattle.vx_source_types.specs.Characters.{is_word}
use Rattle.vx_source_types.specs.declared.token.Sign.TheVariants.{OpenBracket, CloseBracket, OpenBrace}
use Rattle.vx_source_types.specs.Tokens.{Lexeme, word, number as numeral, text as text_lexeme, octets as octets_lexeme, sign, next, has_point, first}
use Rattle.vx_source_types.proofs.FirstTokens.{first_word, first_quoted, first_text}
use Rattle.vx_source_types.proofs.FirstNumbers.{is_more, first_number, first_below_zero}
use Rattle.vx_source_types.proofs.FirstOctets.{first_octets}
use Rattle.vx_source_types.proofs.FirstSigns.{first_open_bracket, first_close_bracket, first_open_brace, first_close_brace, first_comma}
use Rattle.vx_dtype.specs.Quotes.{between_quotes}
use Rattle.vx_source_types.specs.Names.{is_plain, name_source}
use Rattle.vx_source_types.specs.Reading.{more, Leads, stays, leads}
use Rattle.vx_source_types.specs.TypePrintable.{IsPrintable, ArePrintable}
use Rattle.vx_source_types.proofs.Reading.{then, of_text}
use Rattle.vx_source_types.specs.ScalarReading.{suffixed}
use Rattle.vx_source_types.specs.ScalarTexts.{plain_source, value_source, item_sources, row_sources}
use Rattle.vx_source_types.specs.Untyped.{dated, untyped, untyped_items, untyped_row}
use Rattle.vx_source_types.proofs.FloatTexts.{float_plain}
use Rattle.vx_source_types.proofs.WrittenTexts.{few_digits, Plain, plain_utf8, in_quotes, decimal_plain, day_plain, instant_plain}
use Rattle.vx_source_types.specs.ScalarPrintable.{value_nesting, data_nesting, IsSpelledValue, AreSpelledValues}
use Rattle.vx_source_types.specs.ValueReading.{ItemsRead, no_items, with_item, ValueFrame, in_items, in_row, ValueMode, value_due, first_item, first_named, next_named, whole_value, ValueState, value_step}
use Rattle.vx_source_types.proofs.ByteTexts.{byte_texts}

-- a state
abbrev pub at : List ValueFrame → ValueMode → List Name → ℕ → ValueState
at fs m ns r = record { frames = fs; mode = m; names = ns; room = r }

abbrev pub Goes : ValueState → List ℕ → ValueState → List ℕ → Type 0
Goes s bs u ds = Leads value_step s bs u ds

-- a value at the front, from its first token on, which is no number with a word behind it
pub record Begins (s : ValueState) (bs : List ℕ) (u : ValueState) (ds : List ℕ) : Type 0 where
  pub token : Lexeme
  pub behind : List ℕ
  pub state : ValueState
  pub found : first bs ≡ (token, behind)
  pub taken : value_step s token ≡ Ok (more state)
  pub bare : suffixed token ≡ None
  pub goes : Goes state behind u ds

begun : {s u : ValueState} {bs ds : List ℕ} → Begins s bs u ds → Goes s bs u ds
begun b = leads b.found b.taken b.goes

of_begun_text : {s u : ValueState} {bs cs ds : List ℕ} → bs ≡ cs → Begins s cs u ds → Begins s bs u ds
of_begun_text {s} {u} {bs} {cs} {ds} e b = subst (λ xs. Begins s xs u ds) (sym e) b

-- a value that is one token
one_token : (fs : List ValueFrame) (ns : List Name) (r : ℕ) (v : Datum) (bs rest : List ℕ) (x : Lexeme) → first bs ≡ (x, rest) → value_step (at fs value_due ns r) x ≡ Ok (more (at fs (whole_value v) ns r)) → suffixed x ≡ None
    → Begins (at fs value_due ns r) bs (at fs (whole_value v) ns r) rest
one_token fs ns r v bs rest x p q n = record { token = x; behind = rest; state = at fs (whole_value v) ns r; found = p; taken = q; bare = n; goes = stays }

-- what may follow a value: no word goes on there, no text, and behind a number no point
abbrev pub Follows : Datum → List ℕ → Type 0
Follows v rest = (is_word (next rest) ≡ false) × ((next rest == 34) ≡ false) × ((i : ℤ) → v ≡ int i → has_point rest ≡ false)

-- ---- numbers

small_bits : (p : PType) (n : ℕ) → n < 2 ^ bits p → n < 2 ^ 64
small_bits U8 n h = omega arith
small_bits U16 n h = omega arith
small_bits U32 n h = omega arith
small_bits U64 n h = omega arith
small_bits I8 n h = omega arith
small_bits I16 n h = omega arith
small_bits I32 n h = omega arith
small_bits I64 n h = omega arith

below_bits : (p : PType) (n : ℕ) → (is_signed p && nat_lt n (2 ^ bits p)) ≡ true → suc n < 2 ^ 64
below_bits U8 n h = cc
below_bits U16 n h = cc
below_bits U32 n h = cc
below_bits U64 n h = cc
below_bits I8 n h = let k = ltb-true n (2 ^ 7) h in omega arith
below_bits I16 n h = let k = ltb-true n (2 ^ 15) h in omega arith
below_bits I32 n h = let k = ltb-true n (2 ^ 31) h in omega arith
below_bits I64 n h = let k = ltb-true n (2 ^ 63) h in omega arith

pub fits_small : (p : PType) (n : ℕ) → fits_ptype (pos n) p ≡ true → n < 2 ^ 64
fits_small p n h = small_bits p n (ltb-true n (2 ^ bits p) h)

pub fits_below_zero : (p : PType) (n : ℕ) → fits_ptype (negsuc n) p ≡ true → suc n < 2 ^ 64
fits_below_zero p n h = below_bits p n h

word_no_more : (b : ℕ) → is_word b ≡ false → is_more b ≡ false
word_no_more b e = grind (arith, nat_tests)

word_no_x : (b : ℕ) → is_word b ≡ false → (b == 120) ≡ false
word_no_x b e = grind (arith, nat_tests)

number_again : (i : ℤ) (p : PType) (fs : List ValueFrame) (ns : List Name) (r : ℕ) (rest : List ℕ) → fits_ptype i p ≡ true → is_word (next rest) ≡ false → has_point rest ≡ false
    → Begins (at fs value_due ns r) (signed_decimal i ++ rest) (at fs (whole_value (int i)) ns r) rest
number_again (pos n) p fs ns r rest h e k =
    one_token fs ns r (int (pos n)) (decimal n ++ rest) rest (numeral false (Some n) [])
    (first_number n [] rest (fits_small p n h) (word_no_more (next rest) e, k) (word_no_x (next rest) e) refl e) refl refl
number_again (negsuc n) p fs ns r rest h e k =
    one_token fs ns r (int (negsuc n)) (45 ∷ (decimal (suc n) ++ rest)) rest (numeral true (Some (suc n)) [])
    (first_below_zero (suc n) [] rest (fits_below_zero p n h) (word_no_more (next rest) e, k) refl e) refl refl

-- ---- decimals, days and instants

text_again : (fs : List ValueFrame) (ns : List Name) (r : ℕ) (s rest : List ℕ) → Plain s → (next rest == 34) ≡ false → Begins (at fs value_due ns r) (plain_source (utf8 s) ++ rest) (at fs (whole_value (utf8 s)) ns r) rest
text_again fs ns r s rest p e =
    of_begun_text (ap (λ bs. bs ++ rest) (in_quotes s p)) (one_token fs ns r (utf8 s) (between_quotes 34 s ++ rest) rest (text_lexeme s) (first_text s rest (plain_utf8 s p) e) refl refl)

dated_again : (i : ℤ) (p : PType) (s : List ℕ) (o : Option Civil) (fs : List ValueFrame) (ns : List Name) (r : ℕ) (rest : List ℕ) → fits_ptype i p ≡ true → (IsSome o → Plain s) → Follows (int i) rest
    → Begins (at fs value_due ns r) (plain_source (dated s i o) ++ rest) (at fs (whole_value (dated s i o)) ns r) rest
dated_again i p s (Some c) fs ns r rest f u e = text_again fs ns r s rest (u refl) e.1
dated_again i p s None fs ns r rest f u e = number_again i p fs ns r rest f e.0 (e.2 i refl)

-- ---- the names of the structs, outer ones first, behind those that are there

abbrev mutual
  pub names_after : List Name → Datum → LogicalType → List Name
  names_after ns (list_of vs) (ty (list t) n) = items_after ns vs t
  names_after ns (list_of vs) (ty (fixed t k) n) = items_after ns vs t
  names_after ns (struct_of vs) (ty (struct fs) n) = row_after ns vs fs
  names_after ns v t = ns

  pub items_after : List Name → Data → LogicalType → List Name
  items_after ns no_datum t = ns
  items_after ns (datum v vs) t = items_after (names_after ns v t) vs t

  pub row_after : List Name → Data → Fields → List Name
  row_after ns (datum v vs) (field a t fs) = row_after (names_after (ns ++ a ∷ []) v t) vs fs
  row_after ns vs fs = ns

-- ---- items as a list

abbrev items_in : Data → List Datum
items_in no_datum = []
items_in (datum v vs) = v ∷ items_in vs

items_again : (vs : Data) → data_of (items_in vs) ≡ vs
items_again no_datum = refl
items_again (datum v vs) = ap (datum v) (items_again vs)

abbrev with_items : ItemsRead → Data → ItemsRead
with_items d vs = record { items = d.items ++ items_in vs; room = d.room }

one_item_more : (d : ItemsRead) (v : Datum) (vs : Data) → with_items (with_item d v) vs ≡ with_items d (datum v vs)
one_item_more d v vs = ap (λ (xs : List Datum). let e : ItemsRead = record { items = xs; room = d.room } in e) (append_assoc d.items (v ∷ []) (items_in vs))

no_item_more : (d : ItemsRead) → with_items d no_datum ≡ d
no_item_more d = ap (λ (xs : List Datum). let e : ItemsRead = record { items = xs; room = d.room } in e) (append-nil d.items)

abbrev listed : List ValueFrame → List Name → ItemsRead → ValueState
listed fs ns d = at fs (whole_value (list_of (data_of d.items))) ns d.room

abbrev rowed : List ValueFrame → List Name → ItemsRead → ValueState
rowed fs ns d = at fs (whole_value (struct_of (data_of d.items))) ns d.room

to_state : {s u v : ValueState} {bs ds : List ℕ} → u ≡ v → Goes s bs u ds → Goes s bs v ds
to_state {s} {u} {v} {bs} {ds} e h = subst (λ w. Goes s bs w ds) e h

-- the first item of a list begins as any value does
due_first : (fs : List ValueFrame) (d : ItemsRead) (ns : List Name) (r : ℕ) (u : ValueState) (x : Lexeme) → value_step (at (in_items d ∷ fs) value_due ns r) x ≡ Ok (more u) → value_step (at fs (first_item d) ns r) x ≡ Ok (more u)
due_first fs d ns r u (sign CloseBracket) q = cc
due_first fs d ns r u x q = q

begun_first : {fs : List ValueFrame} {d : ItemsRead} {ns : List Name} {r : ℕ} {u : ValueState} {bs ds : List ℕ} → Begins (at (in_items d ∷ fs) value_due ns r) bs u ds → Goes (at fs (first_item d) ns r) bs u ds
begun_first {fs} {d} {ns} {r} b = leads b.found (due_first fs d ns r b.state b.token b.taken) b.goes

-- the name of a field and the sign behind it, where a blank may stand before them
named_next : (a : Name) (d : ItemsRead) (fs : List ValueFrame) (ns : List Name) (r : ℕ) (rest : List ℕ) → IsUtf8 a
    → Goes (at fs (next_named d) ns r) (32 ∷ (name_source a ++ 58 ∷ 32 ∷ rest)) (at (in_row d ∷ fs) value_due (ns ++ a ∷ []) r) (32 ∷ rest)
named_next a d fs ns r rest u = go (is_plain a) refl where
  go : (b : Bool) → is_plain a ≡ b → Goes (at fs (next_named d) ns r) (32 ∷ ((elim b as (λ v. List ℕ) [ true ↦ a | false ↦ between_quotes 96 a ]) ++ 58 ∷ 32 ∷ rest)) (at (in_row d ∷ fs) value_due (ns ++ a ∷ []) r) (32 ∷ rest)
  go true e = leads (first_word a (58 ∷ 32 ∷ rest) e refl) refl (leads refl refl stays)
  go false e = leads (first_quoted a (58 ∷ 32 ∷ rest) u refl) refl (leads refl refl stays)

named_first : (a : Name) (d : ItemsRead) (fs : List ValueFrame) (ns : List Name) (r : ℕ) (rest : List ℕ) → IsUtf8 a
    → Goes (at fs (first_named d) ns r) (name_source a ++ 58 ∷ 32 ∷ rest) (at (in_row d ∷ fs) value_due (ns ++ a ∷ []) r) (32 ∷ rest)
named_first a d fs ns r rest u = go (is_plain a) refl where
  go : (b : Bool) → is_plain a ≡ b → Goes (at fs (first_named d) ns r) ((elim b as (λ v. List ℕ) [ true ↦ a | false ↦ between_quotes 96 a ]) ++ 58 ∷ 32 ∷ rest) (at (in_row d ∷ fs) value_due (ns ++ a ∷ []) r) (32 ∷ rest)
  go true e = leads (first_word a (58 ∷ 32 ∷ rest) e refl) refl (leads refl refl stays)
  go false e = leads (first_quoted a (58 ∷ 32 ∷ rest) u refl) refl (leads refl refl stays)

-- a blank before a value is skipped
behind_blank : {s u : ValueState} {bs ds : List ℕ} → Begins s bs u ds → Goes s (32 ∷ bs) u ds
behind_blank b = leads b.found b.taken b.goes

-- what stands behind an item
item_follows : (vs : Data) (t : LogicalType) (rest : List ℕ) → (v : Datum) → Follows v (after_commas (item_sources vs t) ++ 93 ∷ rest)
item_follows no_datum t rest v = (refl, refl, λ i e. refl)
item_follows (datum x vs) t rest v = (refl, refl, λ i e. refl)

value_follows : (vs : Data) (fs : Fields) (rest : List ℕ) → (v : Datum) → Follows v (after_commas (row_sources vs fs) ++ 125 ∷ rest)
value_follows no_datum fs rest v = (refl, refl, λ i e. refl)
value_follows (datum x vs) no_field rest v = (refl, refl, λ i e. refl)
value_follows (datum x vs) (field a t fs) rest v = (refl, refl, λ i e. refl)

-- a list whose items are read, in brackets
in_brackets : (fs : List ValueFrame) (ns ms : List Name) (r : ℕ) (vs : Data) (mid bs rest : List ℕ) → (codes "[" ++ (mid ++ codes "]")) ++ rest ≡ 91 ∷ bs
    → Goes (at fs (first_item (no_items (suc r))) ns r) bs (listed fs ms (with_items (no_items (suc r)) vs)) rest
    → Begins (at fs value_due ns (suc r)) ((codes "[" ++ (mid ++ codes "]")) ++ rest) (at fs (whole_value (list_of vs)) ms (suc r)) rest
in_brackets fs ns ms r vs mid bs rest f h =
    of_begun_text f (record {
      token = sign OpenBracket;
      behind = bs;
      state = at fs (first_item (no_items (suc r))) ns r;
      found = first_open_bracket bs;
      taken = refl;
      bare = refl;
      goes = to_state (ap (λ xs. at fs (whole_value (list_of xs)) ms (suc r)) (items_again vs)) h;
    })

in_braces : (fs : List ValueFrame) (ns ms : List Name) (r : ℕ) (vs : Data) (mid bs rest : List ℕ) → (codes "{" ++ (mid ++ codes "}")) ++ rest ≡ 123 ∷ bs
    → Goes (at fs (first_named (no_items (suc r))) ns r) bs (rowed fs ms (with_items (no_items (suc r)) vs)) rest
    → Begins (at fs value_due ns (suc r)) ((codes "{" ++ (mid ++ codes "}")) ++ rest) (at fs (whole_value (struct_of vs)) ms (suc r)) rest
in_braces fs ns ms r vs mid bs rest f h =
    of_begun_text f (record {
      token = sign OpenBrace;
      behind = bs;
      state = at fs (first_named (no_items (suc r))) ns r;
      found = first_open_brace bs;
      taken = refl;
      bare = refl;
      goes = to_state (ap (λ xs. at fs (whole_value (struct_of xs)) ms (suc r)) (items_again vs)) h;
    })

mutual
  pub value_again : (v : Datum) (t : LogicalType) (fs : List ValueFrame) (ns : List Name) (r : ℕ) (rest : List ℕ) → Fits v t → IsSpelledValue v → IsPrintable t → value_nesting v ≤ r → Follows v rest
      → Begins (at fs value_due ns r) (value_source v t ++ rest) (at fs (whole_value (untyped v t)) (names_after ns v t) r) rest
  value_again null t fs ns r rest f u w h e = one_token fs ns r null _ rest (word (codes "null")) (first_word (codes "null") rest refl e.0) refl refl
  value_again (bool true) t fs ns r rest f u w h e = one_token fs ns r (bool true) _ rest (word (codes "true")) (first_word (codes "true") rest refl e.0) refl refl
  value_again (bool false) t fs ns r rest f u w h e = one_token fs ns r (bool false) _ rest (word (codes "false")) (first_word (codes "false") rest refl e.0) refl refl
  value_again (int i) (ty (atomic (number p)) n) fs ns r rest f u w h e = number_again i p fs ns r rest f e.0 (e.2 i refl)
  value_again (int i) (ty (atomic (decimals p s)) n) fs ns r rest f u w h e = text_again fs ns r (decimal_text i s) rest (decimal_plain i s (few_digits i p w.1 f)) e.1
  value_again (int i) (ty (atomic date) n) fs ns r rest f u w h e = dated_again i I32 (day_text i) (civil_at i) fs ns r rest f (day_plain i) e
  value_again (int i) (ty (atomic (timestamp k z)) n) fs ns r rest f u w h e = dated_again i I64 (instant_text k z i) (civil_at (int_div_euclid i (pos (units_a_day k)))) fs ns r rest f (instant_plain k z i) e
  value_again (float x) (ty (atomic (floating g)) n) fs ns r rest f u w h e = text_again fs ns r (float_text x) rest (float_plain x) e.1
  value_again (utf8 s) t fs ns r rest f u w h e = one_token fs ns r (utf8 s) _ rest (text_lexeme s) (first_text s rest u e.1) refl refl
  value_again (bytes bs) t fs ns r rest f u w h e =
      of_begun_text (ap (λ xs. 48 ∷ 120 ∷ (xs ++ rest)) (byte_texts bs u)) (one_token fs ns r (bytes bs) _ rest (octets_lexeme bs) (first_octets bs rest u e.0) refl refl)
  value_again (list_of vs) (ty (list t) n) fs ns zero rest f u w h e = absurd (omega arith)
  value_again (list_of vs) (ty (list t) n) fs ns (suc r) rest f u w h e =
      in_brackets fs ns (items_after ns vs t) r (untyped_items vs t) _ _ rest (ap (λ xs. 91 ∷ xs) (append_assoc (with_commas (item_sources vs t)) (codes "]") rest)) (list_again vs t (no_items (suc r)) fs ns r rest f u w (omega arith))
  value_again (list_of vs) (ty (fixed t k) n) fs ns zero rest f u w h e = absurd (omega arith)
  value_again (list_of vs) (ty (fixed t k) n) fs ns (suc r) rest f u w h e =
      in_brackets fs ns (items_after ns vs t) r (untyped_items vs t) _ _ rest (ap (λ xs. 91 ∷ xs) (append_assoc (with_commas (item_sources vs t)) (codes "]") rest))
      (list_again vs t (no_items (suc r)) fs ns r rest (and_parts _ _ f).1 u w.1 (omega arith))
  value_again (struct_of vs) (ty (struct gs) n) fs ns zero rest f u w h e = absurd (omega arith)
  value_again (struct_of vs) (ty (struct gs) n) fs ns (suc r) rest f u w h e =
      in_braces fs ns (row_after ns vs gs) r (untyped_row vs gs) _ _ rest (ap (λ xs. 123 ∷ xs) (append_assoc (with_commas (row_sources vs gs)) (codes "}") rest)) (row_again vs gs (no_items (suc r)) fs ns r rest f u w (omega arith))
  value_again _ t fs ns r rest f u w h e = cc

  -- all the items of a list
  list_again : (vs : Data) (t : LogicalType) (d : ItemsRead) (fs : List ValueFrame) (ns : List Name) (r : ℕ) (rest : List ℕ) → each_fits vs t ≡ true → AreSpelledValues vs → IsPrintable t → data_nesting vs ≤ r
      → Goes (at fs (first_item d) ns r) (with_commas (item_sources vs t) ++ 93 ∷ rest) (listed fs (items_after ns vs t) (with_items d (untyped_items vs t))) rest
  list_again no_datum t d fs ns r rest f u w h = to_state (ap (listed fs ns) (sym (no_item_more d))) (leads (first_close_bracket rest) refl stays)
  list_again (datum v vs) t d fs ns r rest f u w h =
      let parts = and_parts (fits v t) (each_fits vs t) f in
      let behind : List ℕ = after_commas (item_sources vs t) ++ 93 ∷ rest in
      of_text value_step (append_assoc (value_source v t) (after_commas (item_sources vs t)) (93 ∷ rest))
      (then value_step (begun_first (value_again v t (in_items d ∷ fs) ns r behind parts.0 u.0 w (omega arith) (item_follows vs t rest v)))
      (to_state (ap (listed fs (items_after (names_after ns v t) vs t)) (one_item_more d (untyped v t) (untyped_items vs t))) (items_behind vs t (untyped v t) d fs (names_after ns v t) r rest parts.1 u.1 w (omega arith))))

  -- the items behind one
  items_behind : (vs : Data) (t : LogicalType) (v : Datum) (d : ItemsRead) (fs : List ValueFrame) (ns : List Name) (r : ℕ) (rest : List ℕ) → each_fits vs t ≡ true → AreSpelledValues vs → IsPrintable t → data_nesting vs ≤ r
      → Goes (at (in_items d ∷ fs) (whole_value v) ns r) (after_commas (item_sources vs t) ++ 93 ∷ rest) (listed fs (items_after ns vs t) (with_items (with_item d v) (untyped_items vs t))) rest
  items_behind no_datum t v d fs ns r rest f u w h = to_state (ap (listed fs ns) (sym (no_item_more (with_item d v)))) (leads (first_close_bracket rest) refl stays)
  items_behind (datum x vs) t v d fs ns r rest f u w h =
      let parts = and_parts (fits x t) (each_fits vs t) f in
      let c : ItemsRead = with_item d v in
      let behind : List ℕ = after_commas (item_sources vs t) ++ 93 ∷ rest in
      let grouped : ((codes ", " ++ value_source x t) ++ after_commas (item_sources vs t)) ++ 93 ∷ rest ≡ 44 ∷ 32 ∷ (value_source x t ++ behind) = simp append_assoc in
      of_text value_step grouped
      (leads (first_comma _) refl
      (then value_step (behind_blank (value_again x t (in_items c ∷ fs) ns r behind parts.0 u.0 w (omega arith) (item_follows vs t rest x)))
      (to_state (ap (listed fs (items_after (names_after ns x t) vs t)) (one_item_more c (untyped x t) (untyped_items vs t))) (items_behind vs t (untyped x t) c fs (names_after ns x t) r rest parts.1 u.1 w (omega arith)))))

  -- all the values of a struct
  row_again : (vs : Data) (gs : Fields) (d : ItemsRead) (fs : List ValueFrame) (ns : List Name) (r : ℕ) (rest : List ℕ) → fields_fit vs gs ≡ true → AreSpelledValues vs → ArePrintable gs → data_nesting vs ≤ r
      → Goes (at fs (first_named d) ns r) (with_commas (row_sources vs gs) ++ 125 ∷ rest) (rowed fs (row_after ns vs gs) (with_items d (untyped_row vs gs))) rest
  row_again no_datum no_field d fs ns r rest f u w h = to_state (ap (rowed fs ns) (sym (no_item_more d))) (leads (first_close_brace rest) refl stays)
  row_again no_datum (field a t gs) d fs ns r rest f u w h = cc
  row_again (datum v vs) no_field d fs ns r rest f u w h = cc
  row_again (datum v vs) (field a t gs) d fs ns r rest f u w h =
      let parts = and_parts (fits v t) (fields_fit vs gs) f in
      let ms : List Name = ns ++ a ∷ [] in
      let behind : List ℕ = after_commas (row_sources vs gs) ++ 125 ∷ rest in
      let grouped : ((name_source a ++ (codes ": " ++ value_source v t)) ++ after_commas (row_sources vs gs)) ++ 125 ∷ rest ≡ name_source a ++ (58 ∷ 32 ∷ (value_source v t ++ behind)) = simp append_assoc in
      of_text value_step grouped
      (then value_step (named_first a d fs ns r (value_source v t ++ behind) w.0)
      (then value_step (behind_blank (value_again v t (in_row d ∷ fs) ms r behind parts.0 u.0 w.1 (omega arith) (value_follows vs gs rest v)))
      (to_state (ap (rowed fs (row_after (names_after ms v t) vs gs)) (one_item_more d (untyped v t) (untyped_row vs gs))) (row_behind vs gs (untyped v t) d fs (names_after ms v t) r rest parts.1 u.1 w.2 (omega arith)))))

  -- the values behind one
  row_behind : (vs : Data) (gs : Fields) (v : Datum) (d : ItemsRead) (fs : List ValueFrame) (ns : List Name) (r : ℕ) (rest : List ℕ) → fields_fit vs gs ≡ true → AreSpelledValues vs → ArePrintable gs → data_nesting vs ≤ r
      → Goes (at (in_row d ∷ fs) (whole_value v) ns r) (after_commas (row_sources vs gs) ++ 125 ∷ rest) (rowed fs (row_after ns vs gs) (with_items (with_item d v) (untyped_row vs gs))) rest
  row_behind no_datum no_field v d fs ns r rest f u w h = to_state (ap (rowed fs ns) (sym (no_item_more (with_item d v)))) (leads (first_close_brace rest) refl stays)
  row_behind no_datum (field a t gs) v d fs ns r rest f u w h = cc
  row_behind (datum x vs) no_field v d fs ns r rest f u w h = cc
  row_behind (datum x vs) (field a t gs) v d fs ns r rest f u w h =
      let parts = and_parts (fits x t) (fields_fit vs gs) f in
      let c : ItemsRead = with_item d v in
      let ms : List Name = ns ++ a ∷ [] in
      let behind : List ℕ = after_commas (row_sources vs gs) ++ 125 ∷ rest in
      let grouped : ((codes ", " ++ (name_source a ++ (codes ": " ++ value_source x t))) ++ after_commas (row_sources vs gs)) ++ 125 ∷ rest ≡ 44 ∷ 32 ∷ (name_source a ++ (58 ∷ 32 ∷ (value_source x t ++ behind))) = simp append_assoc in
      of_text value_step grouped
      (leads (first_comma _) refl
      (then value_step (named_next a c fs ns r (value_source x t ++ behind) w.0)
      (then value_step (behind_blank (value_again x t (in_row c ∷ fs) ms r behind parts.0 u.0 w.1 (omega arith) (value_follows vs gs rest x)))
      (to_state (ap (rowed fs (row_after (names_after ms x t) vs gs)) (one_item_more c (untyped x t) (untyped_row vs gs))) (row_behind vs gs (untyped x t) c fs (names_after ms x t) r rest parts.1 u.1 w.2 (omega arith))))))
