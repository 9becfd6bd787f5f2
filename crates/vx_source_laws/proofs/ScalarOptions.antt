-- The options of functions that are a type or a scalar.
use Rattle.std.proofs.Common.{◌≡◌, ℕ, suc, ◌≤◌, Bool, true, false, List, [], ◌∷◌, ◌++◌, Some, Result, Ok, Err, refl, sym, ap, ◌∙◌, subst, append_assoc, append-nil}
use Rattle.std.specs.Prelude.{codes, ℤ, pos, negsuc}
use Rattle.std.specs.Fmt.{signed_decimal}
use Rattle.vx_dtype.specs.declared.dtype.PType.{PType}
use Rattle.vx_value.specs.Columns.{Constant, constant}
use Rattle.vx_value.specs.Fits.{Fits}
use Rattle.vx_value.specs.Texts.{ptype_text}
use Rattle.vx_value.specs.Types.{truth, number, floating, decimals, date, timestamp, text, octets, LogicalType, ty, atomic, list, fixed, struct, Datum, bool, int, utf8, bytes}
use Rattle.vx_fn.specs.Functions.{Function, literal, cast}
use Rattle.vx_source_types.specs.declared.expectation.Expected.{Expected}
use Rattle.vx_source_types.specs.declared.expectation.Expected.TheVariants.{CloseBracket as TheBracket}
use Rattle.vx_source_types.specs.declared.token.Sign.TheVariants.{CloseBracket}
use Rattle.vx_source_types.specs.Characters.{is_word}
use Rattle.vx_source_types.specs.Tokens.{Lexeme, number as numeral, sign, next, first}
use Rattle.vx_source_types.proofs.FirstNumbers.{first_number, first_below_zero}
use Rattle.vx_source_types.specs.Reading.{Goes, Step, more, done}
use Rattle.vx_source_types.specs.TypePrintable.{IsPrintable, type_nesting}
use Rattle.vx_source_types.specs.TypeReading.{TypeState, type_start, type_step}
use Rattle.vx_source_types.specs.TypeTexts.{type_source}
use Rattle.vx_source_types.specs.Literals.{ranged, plain_literal, fitting}
use Rattle.vx_source_types.specs.ScalarReading.{ScalarState, scalar_due, in_value, in_type, whole_scalar, value_begun, scalar_begins, value_after, type_after, ended, type_ended as scalar_ended, scalar_step}
use Rattle.vx_source_types.specs.ScalarTexts.{value_source, type_behind}
use Rattle.vx_source_types.specs.ScalarPrintable.{value_nesting, IsSpelledValue}
use Rattle.vx_source_types.specs.ValueReading.{value_start, value_step}
use Rattle.vx_source_types.proofs.ValuesAgain.{Follows, value_again, fits_small, fits_below_zero}
use Rattle.vx_source_grammar.specs.OptionReading.{read_all, function_read}
use Rattle.vx_source_laws.proofs.Collecting.{Taken, none_taken, one_taken, taken_then, collected_of, read_of, embedded}
use Rattle.vx_source_laws.proofs.Literals.{read_value, fitted, suffix_is, suffix_apart}
use Rattle.vx_source_laws.proofs.PlainOptions.{AreOptions}
use Rattle.vx_source_laws.proofs.TypeBrackets.{type_brackets, type_counted}
use Rattle.vx_source_laws.proofs.TypedLiterals.{draft, typed_is}
use Rattle.vx_source_types.proofs.TypesAgain.{type_again}
use Rattle.vx_source_laws.proofs.TypesRead.{read_type, type_ended}
use Rattle.vx_source_laws.proofs.ValueBrackets.{value_brackets, value_counted}

-- what has ended before the bracket is read
ends_read : {S A : Type 0} (step : Step S A) (s : S) (a : A) → step s (sign CloseBracket) ≡ Ok (done a) → read_all step s [] ≡ Ok a
ends_read {S} {A} step s a q = ap after q where
  after : Result (Goes S A) Expected → Result A Expected
  after o = elim o [ Ok g ↦ elim g [ more v ↦ Err TheBracket | done b ↦ Ok b ] | Err e ↦ Err e ]

-- ---- a type

-- a type inside something else
type_taken : {T B : Type 0} (outer : Step T B) (embed : TypeState → T) (t : LogicalType) (r : ℕ) (rest : List ℕ)
    → ((v w : TypeState) (x : Lexeme) → type_step v x ≡ Ok (more w) → outer (embed v) x ≡ Ok (more (embed w))) → IsPrintable t → type_nesting t ≤ r → is_word (next rest) ≡ false
    → (xs : List Lexeme) × Taken outer 0 (embed (type_start r)) (type_source t ++ rest) xs 0 (embed (read_type t r)) rest
type_taken outer embed (ty s true) r rest goes u h e = embedded type_step outer embed type_brackets goes type_counted (type_again (ty s true) [] r rest u h e)
type_taken outer embed (ty s false) r rest goes u h e = embedded type_step outer embed type_brackets goes type_counted (type_again (ty s false) [] r rest u h e)

-- what a type that is read makes of a cast
abbrev as_cast : Result LogicalType Expected → Result Function Expected
as_cast (Ok t) = Ok (cast t)
as_cast (Err e) = Err e

cast_read : (xs : List Lexeme) (room : ℕ) → function_read (codes "cast") xs room ≡ as_cast (read_all type_step (type_start room) xs)
cast_read xs room = refl

pub cast_options : (t : LogicalType) (room : ℕ) (rest : List ℕ) → IsPrintable t → type_nesting t ≤ room → AreOptions (cast t) (codes "cast") room rest
cast_options t room rest u h =
    let taken = type_taken type_step (λ s. s) t room (93 ∷ rest) (λ v w x q. q) u h refl in
    record {
      tokens = taken.0;
      collected = collected_of type_step taken.1;
      read = cast_read taken.0 room ∙ ap as_cast (read_of type_step taken.1 ∙ ends_read type_step (read_type t room) t (type_ended t room (sign CloseBracket) refl));
    }

-- ---- a scalar

-- what a scalar that is read makes of a literal
abbrev as_literal : Result Constant Expected → Result Function Expected
as_literal (Ok c) = Ok (literal c.type c.value)
as_literal (Err e) = Err e

literal_read : (xs : List Lexeme) (room : ℕ) → function_read (codes "literal") xs room ≡ as_literal (read_all (scalar_step room) scalar_due xs)
literal_read xs room = refl

-- a scalar whose tokens are taken
scalar_options : (t : LogicalType) (v : Datum) (room : ℕ) (rest : List ℕ) (xs : List Lexeme) (u : ScalarState)
    → Taken (scalar_step room) 0 scalar_due ((value_source v t ++ type_behind t) ++ 93 ∷ rest) xs 0 u (93 ∷ rest) → scalar_step room u (sign CloseBracket) ≡ Ok (done (constant t v)) → AreOptions (literal t v) (codes "literal") room rest
scalar_options t v room rest xs u taken q =
    record {
      tokens = xs;
      collected = collected_of (scalar_step room) taken;
      read = literal_read xs room ∙ ap as_literal (read_of (scalar_step room) taken ∙ ends_read (scalar_step room) u (constant t v) q);
    }

of_taken_text : {S A : Type 0} (step : Step S A) {n k : ℕ} {s u : S} {bs cs ds : List ℕ} {xs : List Lexeme} → bs ≡ cs → Taken step n s cs xs k u ds → Taken step n s bs xs k u ds
of_taken_text step {n} {k} {s} {u} {bs} {cs} {ds} {xs} q h = subst (λ zs. Taken step n s zs xs k u ds) (sym q) h

-- a value inside a scalar
value_taken : (v : Datum) (t : LogicalType) (room : ℕ) (behind : List ℕ) → Fits v t → IsSpelledValue v → IsPrintable t → value_nesting v ≤ room → Follows v behind
    → (xs : List Lexeme) × Taken (scalar_step room) 0 scalar_due (value_source v t ++ behind) xs 0 (in_value (read_value v t room)) behind
value_taken v t room behind f u w h e =
    let it = value_again v t [] [] room behind f u w h e in
    let rest = embedded value_step (scalar_step room) in_value value_brackets (λ a b x q. ap (value_after room x) q) value_counted it.goes in
    (it.token ∷ rest.0, one_taken it.found (ap (scalar_begins room it.token) it.bare ∙ ap (value_begun it.token) it.taken) (value_counted (value_start room) it.state it.token it.taken) rest.1)

alone_options : (v : Datum) (t : LogicalType) (room : ℕ) (rest : List ℕ) → Fits v t → IsSpelledValue v → IsPrintable t → value_nesting v ≤ room → type_behind t ≡ [] → plain_literal (draft v t) ≡ Ok (constant t v) → AreOptions (literal t v) (codes "literal") room rest
alone_options v t room rest f u w h q l =
    let taken = value_taken v t room (93 ∷ rest) f u w h (refl, refl, λ i e. refl) in
    let grouped : (value_source v t ++ type_behind t) ++ 93 ∷ rest ≡ value_source v t ++ 93 ∷ rest = ap (λ xs. (value_source v t ++ xs) ++ 93 ∷ rest) q ∙ ap (λ xs. xs ++ 93 ∷ rest) (append-nil (value_source v t)) in
    scalar_options t v room rest taken.0 (in_value (read_value v t room)) (of_taken_text (scalar_step room) grouped taken.1) (ap ended l)

typed_options : (v : Datum) (t : LogicalType) (room : ℕ) (rest : List ℕ) → Fits v t → IsSpelledValue v → IsPrintable t → value_nesting v ≤ room → type_nesting t ≤ room → type_behind t ≡ codes "::" ++ type_source t
    → AreOptions (literal t v) (codes "literal") room rest
typed_options v t room rest f u w h k q =
    let behind : List ℕ = 58 ∷ 58 ∷ (type_source t ++ 93 ∷ rest) in
    let value = value_taken v t room behind f u w h (refl, refl, λ i e. refl) in
    let type = type_taken (scalar_step room) (in_type (draft v t)) t room (93 ∷ rest) (λ a b x p. ap (type_after (draft v t)) p) w k refl in
    let grouped : (value_source v t ++ type_behind t) ++ 93 ∷ rest ≡ value_source v t ++ behind = append_assoc (value_source v t) (type_behind t) (93 ∷ rest) ∙ ap (λ xs. value_source v t ++ (xs ++ 93 ∷ rest)) q in
    scalar_options t v room rest _ (in_type (draft v t) (read_type t room))
    (of_taken_text (scalar_step room) grouped (taken_then (scalar_step room) value.1 (one_taken {m = 0} {t = in_type (draft v t) (type_start room)} refl refl refl type.1)))
    (ap (type_after (draft v t)) (type_ended t room (sign CloseBracket) refl) ∙ ap scalar_ended (typed_is v t room f u w h k q))

-- a number whose token is known
number_options : (p : PType) (i : ℤ) (room : ℕ) (rest : List ℕ) (negative : Bool) (n : ℕ) → first (signed_decimal i ++ (ptype_text p ++ 93 ∷ rest)) ≡ (numeral negative (Some n) (ptype_text p), 93 ∷ rest)
    → ranged negative (Some n) (Some p) ≡ fitting (ty (atomic (number p)) false) (int i) → Fits (int i) (ty (atomic (number p)) false) → AreOptions (literal (ty (atomic (number p)) false) (int i)) (codes "literal") room rest
number_options p i room rest negative n e g f =
    let t = ty (atomic (number p)) false in
    let found = suffix_is p negative n ∙ ap (λ o. Some o) (g ∙ fitted t (int i) f) in
    scalar_options t (int i) room rest (numeral negative (Some n) (ptype_text p) ∷ []) (whole_scalar (constant t (int i)))
    (of_taken_text (scalar_step room) (append_assoc (signed_decimal i) (ptype_text p) (93 ∷ rest)) (one_taken {m = 0} e (ap (scalar_begins room (numeral negative (Some n) (ptype_text p))) found) refl none_taken)) refl

suffixed_options : (p : PType) (i : ℤ) (room : ℕ) (rest : List ℕ) → Fits (int i) (ty (atomic (number p)) false) → AreOptions (literal (ty (atomic (number p)) false) (int i)) (codes "literal") room rest
suffixed_options p (pos n) room rest f =
    let apart = suffix_apart p (93 ∷ rest) in
    number_options p (pos n) room rest false n (first_number n (ptype_text p) (93 ∷ rest) (fits_small p n f) apart.0 apart.1 apart.2 refl) refl f
suffixed_options p (negsuc n) room rest f =
    let apart = suffix_apart p (93 ∷ rest) in
    number_options p (negsuc n) room rest true (suc n) (first_below_zero (suc n) (ptype_text p) (93 ∷ rest) (fits_below_zero p n f) apart.0 apart.2 refl) refl f

pub literal_options : (t : LogicalType) (v : Datum) (room : ℕ) (rest : List ℕ) → Fits v t → IsSpelledValue v → IsPrintable t → value_nesting v ≤ room → type_nesting t ≤ room → AreOptions (literal t v) (codes "literal") room rest
literal_options (ty (atomic (number p)) false) (int i) room rest f u w h k = suffixed_options p i room rest f
literal_options (ty (atomic truth) false) (bool true) room rest f u w h k = alone_options (bool true) (ty (atomic truth) false) room rest f u w h refl refl
literal_options (ty (atomic truth) false) (bool false) room rest f u w h k = alone_options (bool false) (ty (atomic truth) false) room rest f u w h refl refl
literal_options (ty (atomic text) false) (utf8 s) room rest f u w h k = alone_options (utf8 s) (ty (atomic text) false) room rest f u w h refl refl
literal_options (ty (atomic octets) false) (bytes s) room rest f u w h k = alone_options (bytes s) (ty (atomic octets) false) room rest f u w h refl refl
literal_options (ty (atomic (number p)) true) v room rest f u w h k = typed_options v (ty (atomic (number p)) true) room rest f u w h k refl
literal_options (ty (atomic truth) true) v room rest f u w h k = typed_options v (ty (atomic truth) true) room rest f u w h k refl
literal_options (ty (atomic text) true) v room rest f u w h k = typed_options v (ty (atomic text) true) room rest f u w h k refl
literal_options (ty (atomic octets) true) v room rest f u w h k = typed_options v (ty (atomic octets) true) room rest f u w h k refl
literal_options (ty (atomic (floating g)) n) v room rest f u w h k = typed_options v (ty (atomic (floating g)) n) room rest f u w h k refl
literal_options (ty (atomic (decimals p s)) n) v room rest f u w h k = typed_options v (ty (atomic (decimals p s)) n) room rest f u w h k refl
literal_options (ty (atomic date) n) v room rest f u w h k = typed_options v (ty (atomic date) n) room rest f u w h k refl
literal_options (ty (atomic (timestamp i z)) n) v room rest f u w h k = typed_options v (ty (atomic (timestamp i z)) n) room rest f u w h k refl
literal_options (ty (list t) n) v room rest f u w h k = typed_options v (ty (list t) n) room rest f u w h k refl
literal_options (ty (fixed t l) n) v room rest f u w h k = typed_options v (ty (fixed t l) n) room rest f u w h k refl
literal_options (ty (struct gs) n) v room rest f u w h k = typed_options v (ty (struct gs) n) room rest f u w h k refl
literal_options (ty (atomic p) false) _ room rest f u w h k = cc
