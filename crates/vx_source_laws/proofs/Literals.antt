-- Literals: a number with its type's name behind it, a value, or a value and its type.
use Rattle.std.proofs.Common.{◌≡◌, ℕ, suc, ◌<◌, ◌≤◌, Bool, true, false, List, [], ◌∷◌, ◌++◌, map, Option, Some, None, Ok, Err, refl, ap, ◌∙◌}
use Rattle.std.specs.Prelude.{codes, ◌==◌, if◌then◌else◌, ℤ, pos, negsuc}
use Rattle.std.specs.Char.{to_ascii_lowercase}
use Rattle.std.specs.Fmt.{signed_decimal}
use Rattle.std.specs.List.{list_all}
use Rattle.std.specs.Str.{bytes_eq}
use Rattle.std.proofs.lemmas.Slice.Eq.{bytes_eq-Decides}
use Rattle.vx_dtype.specs.declared.dtype.PType.{PType}
use Rattle.vx_dtype.specs.declared.dtype.PType.TheVariants.{U8, U16, U32, U64, I8, I16, I32, I64}
use Rattle.vx_value.specs.Columns.{constant}
use Rattle.vx_value.specs.Fits.{Fits}
use Rattle.vx_value.specs.Texts.{ptype_text}
use Rattle.vx_value.specs.Types.{number, LogicalType, ty, atomic, Datum, int}
use Rattle.vx_fn.specs.Functions.{literal}
use Rattle.vx_tree.specs.Trees.{call, no_tree}
use Rattle.vx_source_types.specs.Characters.{is_word}
use Rattle.vx_source_types.specs.declared.token.Sign.TheVariants.{OpenBracket, OpenBrace, CloseParen, DoubleColon}
use Rattle.vx_source_types.specs.Tokens.{Lexeme, word, number as numeral, point as point_token, text as text_token, octets as octets_token, sign, next, first}
use Rattle.vx_dtype.proofs.Choice.{no}
use Rattle.vx_source_types.specs.declared.expectation.Expected.TheVariants.{Value}
use Rattle.vx_source_types.proofs.FirstNumbers.{IsApart, first_number, first_below_zero}
use Rattle.vx_source_types.specs.Names.{same_word}
use Rattle.vx_source_types.specs.Reading.{more, Leads, stays, leads}
use Rattle.vx_source_types.specs.TypePrintable.{IsPrintable}
use Rattle.vx_source_types.proofs.Reading.{then}
use Rattle.vx_source_types.specs.Literals.{fitting, ranged, plain_literal}
use Rattle.vx_source_types.specs.ScalarReading.{suffixed}
use Rattle.vx_source_types.specs.ScalarTexts.{value_source}
use Rattle.vx_source_types.specs.ScalarPrintable.{value_nesting, IsSpelledValue}
use Rattle.vx_source_types.specs.Untyped.{untyped}
use Rattle.vx_source_types.specs.ValueReading.{Drafted, drafted, ValueState, whole_value, simple_begins, value_start, value_step, word_value}
use Rattle.vx_source_types.proofs.ValuesAgain.{Follows, names_after, value_again, fits_small, fits_below_zero}
use Rattle.vx_source_grammar.specs.Beginning.{begins, word_begins, first_child_at, literal_before, value_ends, value_goes}
use Rattle.vx_source_grammar.specs.Numbers.{value_begun, number_begins}
use Rattle.vx_source_grammar.specs.Following.{follows}
use Rattle.vx_source_grammar.specs.ExpressionReading.{expression_step}
use Rattle.vx_source_grammar.specs.Keywords.{operator_words, value_words, case_words, either, keyword_of}
use Rattle.vx_source_grammar.specs.declared.words.Keyword.{Keyword}
use Rattle.vx_source_grammar.specs.declared.words.Keyword.TheVariants.{Null, True, False}
use Rattle.vx_source_grammar.specs.States.{Frame, in_value, tight, ExpressionState, when_read}
use Rattle.vx_source_laws.proofs.TreesRead.{at, Goes, Ends, ends_word, ends_text, is_suffix, IsBehind, Reads, over_is, node_is}

-- ---- a value begins

-- the keyword of a word by its letters in lower case
abbrev lowered_beside : {A : Type 0} → List (List ℕ × A) → List ℕ → Option A
lowered_beside [] l = None
lowered_beside ((v, a) ∷ rest) l = elim (bytes_eq l (map to_ascii_lowercase v)) [ true ↦ Some a | false ↦ lowered_beside rest l ]

abbrev lowered_keyword : List ℕ → Option Keyword
lowered_keyword l = either (lowered_beside operator_words l) (either (lowered_beside value_words l) (lowered_beside case_words l))

-- a word that is a value is the keyword of one
data IsValueWord (w : List ℕ) : Type 0 where
  is_null_word : keyword_of w ≡ Some Null → IsValueWord w
  is_true_word : keyword_of w ≡ Some True → IsValueWord w
  is_false_word : keyword_of w ≡ Some False → IsValueWord w

spelled_so : (w v : List ℕ) → same_word w v ≡ true → keyword_of w ≡ lowered_keyword (map to_ascii_lowercase v)
spelled_so w v e = ap lowered_keyword ((bytes_eq-Decides (map to_ascii_lowercase w) (map to_ascii_lowercase v)).0 e)

value_word : (w : List ℕ) (v : Datum) → word_value w ≡ Some v → IsValueWord w
value_word w v e = by_null (same_word w (codes "null")) refl where
  by_false : (b : Bool) → same_word w (codes "false") ≡ b → same_word w (codes "null") ≡ false → same_word w (codes "true") ≡ false → IsValueWord w
  by_false true p n t = is_false_word (spelled_so w (codes "false") p)
  by_false false p n t =
      let none : word_value w ≡ None = no (same_word w (codes "null")) _ _ n ∙ (no (same_word w (codes "true")) _ _ t ∙ no (same_word w (codes "false")) _ _ p) in cc

  by_true : (b : Bool) → same_word w (codes "true") ≡ b → same_word w (codes "null") ≡ false → IsValueWord w
  by_true true p n = is_true_word (spelled_so w (codes "true") p)
  by_true false p n = by_false (same_word w (codes "false")) refl n p

  by_null : (b : Bool) → same_word w (codes "null") ≡ b → IsValueWord w
  by_null true p = is_null_word (spelled_so w (codes "null") p)
  by_null false p = by_true (same_word w (codes "true")) refl p

begun_word : (fs : List Frame) (r : ℕ) (w : List ℕ) (s : ValueState) → IsValueWord w → value_step (value_start r) (word w) ≡ Ok (more s) → begins fs r (word w) ≡ Ok (more (at fs (in_value s) r))
begun_word fs r w s (is_null_word p) q = ap (word_begins fs r w) p ∙ ap (value_begun fs r (word w)) q
begun_word fs r w s (is_true_word p) q = ap (word_begins fs r w) p ∙ ap (value_begun fs r (word w)) q
begun_word fs r w s (is_false_word p) q = ap (word_begins fs r w) p ∙ ap (value_begun fs r (word w)) q

word_taken : (fs : List Frame) (r : ℕ) (w : List ℕ) (s : ValueState) (o : Option Datum) → word_value w ≡ o → value_step (value_start r) (word w) ≡ Ok (more s) → IsValueWord w
word_taken fs r w s (Some v) p q = value_word w v p
word_taken fs r w s None p q = let refused : value_step (value_start r) (word w) ≡ Err Value = ap (simple_begins [] [] r (word w)) p in cc

-- a token with which a value begins, and which is no number with a word behind it, begins an operand as that value
value_due : (fs : List Frame) (r : ℕ) (x : Lexeme) (s : ValueState) → suffixed x ≡ None → value_step (value_start r) x ≡ Ok (more s) → begins fs r x ≡ Ok (more (at fs (in_value s) r))
value_due fs r (word w) s n q = begun_word fs r w s (word_taken fs r w s (word_value w) refl q) q
value_due fs r (numeral negative magnitude suffix) s n q = ap (number_begins fs r (numeral negative magnitude suffix)) n ∙ ap (value_begun fs r (numeral negative magnitude suffix)) q
value_due fs r (point_token t) s n q = ap (value_begun fs r (point_token t)) q
value_due fs r (text_token t) s n q = ap (value_begun fs r (text_token t)) q
value_due fs r (octets_token bs) s n q = ap (value_begun fs r (octets_token bs)) q
value_due fs r (sign OpenBracket) s n q = ap (value_begun fs r (sign OpenBracket)) q
value_due fs r (sign OpenBrace) s n q = ap (value_begun fs r (sign OpenBrace)) q
value_due fs r _ s n q = cc

-- it is no bracket that closes
no_bracket : (fs : List Frame) (r : ℕ) (x : Lexeme) (s : ValueState) → value_step (value_start r) x ≡ Ok (more s) → first_child_at fs r x ≡ begins fs r x
no_bracket fs r (sign CloseParen) s q = cc
no_bracket fs r x s q = refl

pub value_in : {s u : ValueState} {bs ds : List ℕ} (fs : List Frame) (r : ℕ) → Leads value_step s bs u ds → Goes (at fs (in_value s) r) bs (at fs (in_value u) r) ds
value_in fs r stays = stays
value_in fs r (leads {x = x} p q h) = leads p (ap (value_goes plain_literal fs r x) q) (value_in fs r h)

-- a value that is read, as it stands before its type, and the names of its structs
abbrev pub read_value : Datum → LogicalType → ℕ → ValueState
read_value v t r = record { frames = []; mode = whole_value (untyped v t); names = names_after [] v t; room = r }

-- ---- nodes

-- the literal's node, before the token that follows
pub literal_is : (fs : List Frame) (r : ℕ) (t : LogicalType) (v : Datum) (x : Lexeme) → 0 < r → literal_before fs r x (Ok (constant t v)) ≡ follows fs r (call (literal t v) no_tree) x
literal_is fs r t v x h = ap (when_read (λ e. follows fs r e x)) (over_is (literal t v) no_tree r h)

pub fitted : (t : LogicalType) (v : Datum) → Fits v t → fitting t v ≡ Some (constant t v)
fitted t v f = ap (λ b. if b then Some (constant t v) else None) f

-- a value, and what is read behind it
pub literal_of : (v : Datum) (t : LogicalType) (fs : List Frame) (r : ℕ) (behind rest : List ℕ) (last : ExpressionState) → Fits v t → IsSpelledValue v → IsPrintable t → value_nesting v ≤ r → Follows v behind
    → Goes (at fs (in_value (read_value v t r)) r) behind last rest → IsBehind fs r (call (literal t v) no_tree) last
    → Reads fs r (call (literal t v) no_tree) (value_source v t ++ behind) rest
literal_of v t fs r behind rest last f u w h e g b =
    let it = value_again v t [] [] r behind f u w h e in
    record {
      token = it.token;
      behind = it.behind;
      state = at fs (in_value it.state) r;
      last = last;
      found = it.found;
      taken = value_due fs r it.token it.state it.bare it.taken;
      opens = no_bracket fs r it.token it.state it.taken;
      more_of = (then) expression_step (value_in fs r it.goes) g;
      is_behind = b;
    }

-- ---- a value alone

no_type : (fs : List Frame) (r : ℕ) (d : Drafted) (x : Lexeme) → is_suffix x ≡ false → value_ends plain_literal fs r d x ≡ literal_before fs r x (plain_literal d)
no_type fs r d (sign DoubleColon) p = cc
no_type fs r d x p = refl

value_alone : (v : Datum) (t : LogicalType) (fs : List Frame) (r : ℕ) → plain_literal (drafted (untyped v t) (names_after [] v t)) ≡ Ok (constant t v) → 0 < r → IsBehind fs r (call (literal t v) no_tree) (at fs (in_value (read_value v t r)) r)
value_alone v t fs r q h x p = no_type fs r (drafted (untyped v t) (names_after [] v t)) x p ∙ (ap (literal_before fs r x) q ∙ literal_is fs r t v x h)

pub alone_again : (v : Datum) (t : LogicalType) (fs : List Frame) (r : ℕ) (rest : List ℕ) → Fits v t → IsSpelledValue v → IsPrintable t → value_nesting v ≤ r → 0 < r → plain_literal (drafted (untyped v t) (names_after [] v t)) ≡ Ok (constant t v) → ((i : ℤ) → v ≡ int i → ⊥) → Ends rest
    → Reads fs r (call (literal t v) no_tree) (value_source v t ++ rest) rest
alone_again v t fs r rest f u w h l q n m = literal_of v t fs r rest rest _ f u w h (ends_word rest m, ends_text rest m, λ i e. absurd (n i e)) stays (value_alone v t fs r q l)

-- ---- a number with its type's name behind it

pub suffix_is : (p : PType) (negative : Bool) (n : ℕ) → suffixed (numeral negative (Some n) (ptype_text p)) ≡ Some (ranged negative (Some n) (Some p))
suffix_is U8 negative n = refl
suffix_is U16 negative n = refl
suffix_is U32 negative n = refl
suffix_is U64 negative n = refl
suffix_is I8 negative n = refl
suffix_is I16 negative n = refl
suffix_is I32 negative n = refl
suffix_is I64 negative n = refl

-- a suffix begins with a letter that no number has, and is a word
pub suffix_apart : (p : PType) (rest : List ℕ) → IsApart (ptype_text p ++ rest) × ((next (ptype_text p ++ rest) == 120) ≡ false) × (list_all is_word (ptype_text p) ≡ true)
suffix_apart U8 rest = ((refl, refl), refl, refl)
suffix_apart U16 rest = ((refl, refl), refl, refl)
suffix_apart U32 rest = ((refl, refl), refl, refl)
suffix_apart U64 rest = ((refl, refl), refl, refl)
suffix_apart I8 rest = ((refl, refl), refl, refl)
suffix_apart I16 rest = ((refl, refl), refl, refl)
suffix_apart I32 rest = ((refl, refl), refl, refl)
suffix_apart I64 rest = ((refl, refl), refl, refl)

-- a number whose token is known
number_read : (p : PType) (i : ℤ) (fs : List Frame) (r : ℕ) (bs rest : List ℕ) (negative : Bool) (n : ℕ) → first bs ≡ (numeral negative (Some n) (ptype_text p), rest) → ranged negative (Some n) (Some p) ≡ fitting (ty (atomic (number p)) false) (int i)
    → Fits (int i) (ty (atomic (number p)) false) → 0 < r → Reads fs r (call (literal (ty (atomic (number p)) false) (int i)) no_tree) bs rest
number_read p i fs r bs rest negative n e g f h =
    let t = ty (atomic (number p)) false in
    let found : suffixed (numeral negative (Some n) (ptype_text p)) ≡ Some (Some (constant t (int i))) = suffix_is p negative n ∙ ap (λ o. Some o) (g ∙ fitted t (int i) f) in
    record {
      token = numeral negative (Some n) (ptype_text p);
      behind = rest;
      state = at fs (tight (call (literal t (int i)) no_tree)) r;
      last = at fs (tight (call (literal t (int i)) no_tree)) r;
      found = e;
      taken = ap (number_begins fs r (numeral negative (Some n) (ptype_text p))) found ∙ node_is fs (literal t (int i)) no_tree r h;
      opens = refl;
      more_of = stays;
      is_behind = λ x p. refl;
    }

pub number_again : (p : PType) (i : ℤ) (fs : List Frame) (r : ℕ) (rest : List ℕ) → Fits (int i) (ty (atomic (number p)) false) → 0 < r → Ends rest
    → Reads fs r (call (literal (ty (atomic (number p)) false) (int i)) no_tree) (signed_decimal i ++ (ptype_text p ++ rest)) rest
number_again p (pos n) fs r rest f h m =
    let apart = suffix_apart p rest in
    number_read p (pos n) fs r _ rest false n (first_number n (ptype_text p) rest (fits_small p n f) apart.0 apart.1 apart.2 (ends_word rest m)) refl f h
number_again p (negsuc n) fs r rest f h m =
    let apart = suffix_apart p rest in
    number_read p (negsuc n) fs r _ rest true (suc n) (first_below_zero (suc n) (ptype_text p) rest (fits_below_zero p n f) apart.0 apart.2 (ends_word rest m)) refl f h
