-- A value that stands without its type has its type behind it again.
use Rattle.std.proofs.Common.{◌≡◌, Bool, true, Option, Some, None, refl, ap, ◌∙◌, arith}
use Rattle.std.specs.Prelude.{ℤ, pos}
use Rattle.std.specs.Int.{int_div_euclid}
use Rattle.std.specs.Option.{option_and_then, option_map, is_some}
use Rattle.std.proofs.lemmas.Bool.{and_parts}
use Rattle.vx_dtype.specs.declared.timestamp_type.TimeUnit.{TimeUnit}
use Rattle.vx_literals.specs.Days.{Civil, civil_at, day_or_number, day_text, day_read}
use Rattle.vx_literals.specs.Instants.{instant_text, units_a_day}
use Rattle.vx_literals.proofs.DecimalsAgain.{decimal_again}
use Rattle.vx_literals.proofs.InstantsAgain.{instant_again}
use Rattle.vx_literals.proofs.ReadBack.{day_again}
use Rattle.vx_value.specs.Fits.{fits, each_fits, fields_fit, Fits}
use Rattle.vx_value.specs.Types.{Name, number, floating, decimals, date, timestamp, text, LogicalType, ty, atomic, list, fixed, struct, Fields, no_field, field, Datum, null, bool, int, float, utf8, bytes, list_of, struct_of, Data, no_datum, datum}
use Rattle.vx_source_types.proofs.FloatTexts.{float_again}
use Rattle.vx_source_types.proofs.WrittenTexts.{few_digits}
use Rattle.vx_source_types.specs.TypePrintable.{IsPrintable, ArePrintable}
use Rattle.vx_source_types.specs.Untyped.{dated, untyped, untyped_items, untyped_row, typed_value, typed_items, typed_row}

day_typed : (i : ℤ) (n : Bool) (o : Option Civil) → civil_at i ≡ o → typed_value (dated (day_text i) i o) (ty (atomic date) n) ≡ Some (int i)
day_typed i n (Some c) e = ap (λ s. option_map int (day_read s)) (ap (day_or_number i) e) ∙ ap (option_map int) (day_again i c e)
day_typed i n None e = refl

instant_typed : (u : TimeUnit) (z : Option Name) (i : ℤ) (n : Bool) (o : Option Civil) → civil_at (int_div_euclid i (pos (units_a_day u))) ≡ o
    → typed_value (dated (instant_text u z i) i o) (ty (atomic (timestamp u z)) n) ≡ Some (int i)
instant_typed u z i n (Some c) e = ap (option_map int) (instant_again u z i (ap is_some e))
instant_typed u z i n None e = refl

goes_on : {A B : Type 0} (f : A → Option B) (o : Option A) (x : A) (r : Option B) → o ≡ Some x → f x ≡ r → option_and_then f o ≡ r
goes_on f o x r p q = ap (option_and_then f) p ∙ q

mutual
  pub typed_again : (v : Datum) (t : LogicalType) → Fits v t → IsPrintable t → typed_value (untyped v t) t ≡ Some v
  typed_again null t f w = refl
  typed_again (bool b) t f w = refl
  typed_again (int i) (ty (atomic (number p)) n) f w = refl
  typed_again (int i) (ty (atomic (decimals p s)) n) f w = ap (option_map int) (decimal_again i s (few_digits i p w.1 f) (omega arith))
  typed_again (int i) (ty (atomic date) n) f w = day_typed i n (civil_at i) refl
  typed_again (int i) (ty (atomic (timestamp u z)) n) f w = instant_typed u z i n _ refl
  typed_again (float x) (ty (atomic (floating g)) n) f w = ap (option_map float) (float_again x g f)
  typed_again (utf8 s) (ty (atomic text) n) f w = refl
  typed_again (bytes s) t f w = refl
  typed_again (list_of vs) (ty (list t) n) f w = ap (option_map list_of) (items_again vs t f w)
  typed_again (list_of vs) (ty (fixed t k) n) f w = ap (option_map list_of) (items_again vs t (and_parts _ _ f).1 w.1)
  typed_again (struct_of vs) (ty (struct fs) n) f w = ap (option_map struct_of) (row_again vs fs f w)
  typed_again _ _ f w = cc

  items_again : (vs : Data) (t : LogicalType) → each_fits vs t ≡ true → IsPrintable t → typed_items (untyped_items vs t) t ≡ Some vs
  items_again no_datum t f w = refl
  items_again (datum v vs) t f w =
      let parts = and_parts (fits v t) (each_fits vs t) f in
      goes_on _ (typed_value (untyped v t) t) v (Some (datum v vs)) (typed_again v t parts.0 w) (ap (option_map (datum v)) (items_again vs t parts.1 w))

  row_again : (vs : Data) (fs : Fields) → fields_fit vs fs ≡ true → ArePrintable fs → typed_row (untyped_row vs fs) fs ≡ Some vs
  row_again no_datum no_field f w = refl
  row_again no_datum (field a t fs) f w = cc
  row_again (datum v vs) no_field f w = cc
  row_again (datum v vs) (field a t fs) f w =
      let parts = and_parts (fits v t) (fields_fit vs fs) f in
      goes_on _ (typed_value (untyped v t) t) v (Some (datum v vs)) (typed_again v t parts.0 w.1) (ap (option_map (datum v)) (row_again vs fs parts.1 w.2))
