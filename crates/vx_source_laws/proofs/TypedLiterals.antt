-- Literals with their types.
use Rattle.std.proofs.Common.{◌≡◌, ℕ, ◌<◌, ◌≤◌, true, false, List, [], ◌∷◌, ◌++◌, Option, Some, None, refl, sym, ap, ◌∙◌, subst, append_assoc, append-nil, arith}
use Rattle.std.specs.Prelude.{codes}
use Rattle.vx_value.specs.Columns.{Constant, constant}
use Rattle.vx_value.specs.Fits.{Fits}
use Rattle.vx_value.specs.Types.{truth, number, floating, decimals, date, timestamp, text, octets, LogicalType, ty, atomic, list, fixed, struct, Datum, bool, int, utf8, bytes}
use Rattle.vx_fn.specs.Functions.{literal}
use Rattle.vx_tree.specs.Trees.{call, no_tree}
use Rattle.vx_source_types.specs.Tokens.{end}
use Rattle.vx_source_types.specs.Reading.{Leads, stays, leads, IsRead, is_read, stops_at}
use Rattle.vx_source_types.specs.TypePrintable.{IsPrintable, type_nesting}
use Rattle.vx_source_types.specs.TypeReading.{TypeState, type_start, type_step}
use Rattle.vx_source_types.specs.TypeTexts.{type_source}
use Rattle.vx_source_types.proofs.Reading.{then, of_text, read_once, read_or_stopped}
use Rattle.vx_source_types.specs.Literals.{typed_literal}
use Rattle.vx_source_types.specs.ScalarReading.{scalar_due, in_value as in_scalar_value, in_type as in_scalar_type, value_begun, scalar_begins, value_after, type_after, type_ended as scalar_ended, scalar_step}
use Rattle.vx_source_types.specs.ScalarTexts.{value_source, type_behind}
use Rattle.vx_source_types.specs.ScalarPrintable.{value_nesting, IsSpelledValue}
use Rattle.vx_source_types.specs.Untyped.{untyped}
use Rattle.vx_source_types.specs.ValueReading.{Drafted, drafted, ValueState, value_step}
use Rattle.vx_source_types.proofs.ScalarsAgain.{scalar_again}
use Rattle.vx_source_types.proofs.ValuesAgain.{names_after, value_again}
use Rattle.vx_source_grammar.specs.Beginning.{fitting, literal_before}
use Rattle.vx_source_grammar.specs.States.{Frame, in_type, for_literal}
use Rattle.vx_source_laws.proofs.Literals.{literal_is, literal_of, alone_again, number_again}
use Rattle.vx_source_laws.proofs.Owns.{IsOwnAgain}
use Rattle.vx_source_laws.proofs.TreesRead.{at, ends_word, IsBehind, Reads, of_grouped}
use Rattle.vx_source_types.proofs.TypesAgain.{type_again}
use Rattle.vx_source_laws.proofs.TypesRead.{read_type, type_ended, whole_type, type_read}

-- ---- the value is one of the type, since the scalar alone is read as it

-- the value as it was read, before its type
abbrev pub draft : Datum → LogicalType → Drafted
draft v t = drafted (untyped v t) (names_after [] v t)

value_in : {s u : ValueState} {bs ds : List ℕ} (room : ℕ) → Leads value_step s bs u ds → Leads (scalar_step room) (in_scalar_value s) bs (in_scalar_value u) ds
value_in room stays = stays
value_in room (leads {x = x} p q h) = leads p (ap (value_after room x) q) (value_in room h)

type_in : {s u : TypeState} {bs ds : List ℕ} (room : ℕ) (d : Drafted) → Leads type_step s bs u ds → Leads (scalar_step room) (in_scalar_type d s) bs (in_scalar_type d u) ds
type_in room d stays = stays
type_in room d (leads p q h) = leads p (ap (type_after d) q) (type_in room d h)

scalar_read : (v : Datum) (t : LogicalType) (room : ℕ) → Fits v t → IsSpelledValue v → IsPrintable t → value_nesting v ≤ room → type_nesting t ≤ room
    → Leads (scalar_step room) scalar_due (value_source v t ++ 58 ∷ 58 ∷ type_source t) (in_scalar_type (draft v t) (read_type t room)) []
scalar_read v t room f u w h k =
    let it = value_again v t [] [] room (58 ∷ 58 ∷ type_source t) f u w h (refl, refl, λ i e. refl) in
    let behind : Leads type_step (type_start room) (type_source t) (read_type t room) [] = of_text type_step (sym (append-nil (type_source t))) (type_again t [] room [] w k refl) in
    leads it.found (ap (scalar_begins room it.token) it.bare ∙ ap (value_begun it.token) it.taken)
    ((then) (scalar_step room) (value_in room it.goes) (leads {t = in_scalar_type (draft v t) (type_start room)} refl refl (type_in room (draft v t) behind)))

pub typed_is : (v : Datum) (t : LogicalType) (room : ℕ) → Fits v t → IsSpelledValue v → IsPrintable t → value_nesting v ≤ room → type_nesting t ≤ room → type_behind t ≡ codes "::" ++ type_source t
    → typed_literal (draft v t) t ≡ Some (constant t v)
typed_is v t room f u w h k q = by_literal (typed_literal (draft v t) t) refl where
  whole : IsRead (scalar_step room) scalar_due (value_source v t ++ 58 ∷ 58 ∷ type_source t) (constant t v)
  whole = subst (λ xs. IsRead (scalar_step room) scalar_due (value_source v t ++ xs) (constant t v)) q (scalar_again t v room f u w h k)

  behind : (o : Option Constant) → typed_literal (draft v t) t ≡ o → scalar_step room (in_scalar_type (draft v t) (read_type t room)) end ≡ scalar_ended o
  behind o e = ap (type_after (draft v t)) (type_ended t room end refl) ∙ ap scalar_ended e

  by_literal : (o : Option Constant) → typed_literal (draft v t) t ≡ o → typed_literal (draft v t) t ≡ Some (constant t v)
  by_literal (Some c) e = e ∙ ap (λ d. Some d) (read_once (scalar_step room) (is_read (scalar_read v t room f u w h k) refl (behind (Some c) e)) whole)
  by_literal None e = absurd (read_or_stopped (scalar_step room) whole (stops_at (scalar_read v t room f u w h k) refl (behind None e)))

-- ---- a value and its type

value_typed : (v : Datum) (t : LogicalType) (fs : List Frame) (r : ℕ) → typed_literal (draft v t) t ≡ Some (constant t v) → 0 < r
    → IsBehind fs r (call (literal t v) no_tree) (at fs (in_type (for_literal (draft v t)) (read_type t r)) r)
value_typed v t fs r q h x p = whole_type fs r (for_literal (draft v t)) t r x p ∙ (ap (λ o. literal_before fs r x (fitting o)) q ∙ literal_is fs r t v x h)

typed_again : (v : Datum) (t : LogicalType) → Fits v t → IsSpelledValue v → IsPrintable t → type_behind t ≡ codes "::" ++ type_source t → IsOwnAgain (literal t v) no_tree
typed_again v t f u w q fs r rest h m =
    let behind : List ℕ = 58 ∷ 58 ∷ (type_source t ++ rest) in
    let grouped : (value_source v t ++ type_behind t) ++ rest ≡ value_source v t ++ behind = append_assoc (value_source v t) (type_behind t) rest ∙ ap (λ xs. value_source v t ++ (xs ++ rest)) q in
    of_grouped grouped
    (literal_of v t fs r behind rest (at fs (in_type (for_literal (draft v t)) (read_type t r)) r) f u w (omega arith) (refl, refl, λ i e. refl)
    (leads {t = at fs (in_type (for_literal (draft v t)) (type_start r)) r} refl refl (type_read t fs r (for_literal (draft v t)) r rest w (omega arith) (ends_word rest m)))
    (value_typed v t fs r (typed_is v t r f u w (omega arith) (omega arith) q) (omega arith)))

-- a value of a type that shows in it
shown_again : (v : Datum) (t : LogicalType) (fs : List Frame) (r : ℕ) (rest : List ℕ) → Reads fs r (call (literal t v) no_tree) (value_source v t ++ rest) rest → Reads fs r (call (literal t v) no_tree) ((value_source v t ++ []) ++ rest) rest
shown_again v t fs r rest h = of_grouped (append_assoc (value_source v t) [] rest) h

pub literal_again : (t : LogicalType) (v : Datum) → Fits v t → IsSpelledValue v → IsPrintable t → IsOwnAgain (literal t v) no_tree
literal_again (ty (atomic (number p)) false) (int i) f u w fs r rest h m = of_grouped (append_assoc _ _ rest) (number_again p i fs r rest f (omega arith) m)
literal_again (ty (atomic truth) false) (bool true) f u w fs r rest h m = shown_again _ _ fs r rest (alone_again (bool true) (ty (atomic truth) false) fs r rest f u w (omega arith) (omega arith) refl (λ i e. cc) m)
literal_again (ty (atomic truth) false) (bool false) f u w fs r rest h m = shown_again _ _ fs r rest (alone_again (bool false) (ty (atomic truth) false) fs r rest f u w (omega arith) (omega arith) refl (λ i e. cc) m)
literal_again (ty (atomic text) false) (utf8 s) f u w fs r rest h m = shown_again _ _ fs r rest (alone_again (utf8 s) (ty (atomic text) false) fs r rest f u w (omega arith) (omega arith) refl (λ i e. cc) m)
literal_again (ty (atomic octets) false) (bytes s) f u w fs r rest h m = shown_again _ _ fs r rest (alone_again (bytes s) (ty (atomic octets) false) fs r rest f u w (omega arith) (omega arith) refl (λ i e. cc) m)
literal_again (ty (atomic (number p)) true) v f u w fs r rest h m = typed_again v (ty (atomic (number p)) true) f u w refl fs r rest h m
literal_again (ty (atomic truth) true) v f u w fs r rest h m = typed_again v (ty (atomic truth) true) f u w refl fs r rest h m
literal_again (ty (atomic text) true) v f u w fs r rest h m = typed_again v (ty (atomic text) true) f u w refl fs r rest h m
literal_again (ty (atomic octets) true) v f u w fs r rest h m = typed_again v (ty (atomic octets) true) f u w refl fs r rest h m
literal_again (ty (atomic (floating g)) n) v f u w fs r rest h m = typed_again v (ty (atomic (floating g)) n) f u w refl fs r rest h m
literal_again (ty (atomic (decimals p s)) n) v f u w fs r rest h m = typed_again v (ty (atomic (decimals p s)) n) f u w refl fs r rest h m
literal_again (ty (atomic date) n) v f u w fs r rest h m = typed_again v (ty (atomic date) n) f u w refl fs r rest h m
literal_again (ty (atomic (timestamp i z)) n) v f u w fs r rest h m = typed_again v (ty (atomic (timestamp i z)) n) f u w refl fs r rest h m
literal_again (ty (list t) n) v f u w fs r rest h m = typed_again v (ty (list t) n) f u w refl fs r rest h m
literal_again (ty (fixed t l) n) v f u w fs r rest h m = typed_again v (ty (fixed t l) n) f u w refl fs r rest h m
literal_again (ty (struct gs) n) v f u w fs r rest h m = typed_again v (ty (struct gs) n) f u w refl fs r rest h m
literal_again (ty (atomic p) false) _ f u w fs r rest h m = cc
