-- A value of a type is one of every type above it.
use Rattle.std.proofs.Common.{◌≡◌, refl, true}
use Rattle.std.proofs.lemmas.Bool.{and_parts, and_from}
use Rattle.vx_value.specs.Types.{truth, number, floating, decimals, date, timestamp, text, octets, LogicalType, Fields, Datum, null, bool, int, float, utf8, bytes, list_of, struct_of, Data, no_datum, datum}
use Rattle.vx_value.specs.Fits.{each_fits, fields_fit, Fits}
use Rattle.vx_value.specs.Joins.{Narrower, narrower, same_atomic_shape, narrower_list, narrower_fixed, narrower_struct, NarrowerFields, no_fields, narrower_field}

mutual
  pub fits-above : (v : Datum) {t u : LogicalType} → Narrower t u → Fits v t → Fits v u
  fits-above null (narrower s i) e = i e
  fits-above (bool b) (narrower (same_atomic_shape {p = truth}) i) e = refl
  fits-above (int z) (narrower (same_atomic_shape {p = number p}) i) e = e
  fits-above (float x) (narrower (same_atomic_shape {p = floating f}) i) e = e
  fits-above (int z) (narrower (same_atomic_shape {p = decimals q s}) i) e = e
  fits-above (int z) (narrower (same_atomic_shape {p = date}) i) e = e
  fits-above (int z) (narrower (same_atomic_shape {p = timestamp u y}) i) e = e
  fits-above (utf8 x) (narrower (same_atomic_shape {p = text}) i) e = refl
  fits-above (bytes x) (narrower (same_atomic_shape {p = octets}) i) e = refl
  fits-above (list_of vs) (narrower (narrower_list p) i) e = each-above vs p e
  fits-above (list_of vs) (narrower (narrower_fixed p) i) e = let x = and_parts _ _ e in and_from _ _ x.0 (each-above vs p x.1)
  fits-above (struct_of vs) (narrower (narrower_struct p) i) e = fields-above vs p e
  fits-above _ _ e = cc

  each-above : (vs : Data) {t u : LogicalType} → Narrower t u → each_fits vs t ≡ true → each_fits vs u ≡ true
  each-above no_datum p e = refl
  each-above (datum v vs) p e = let x = and_parts _ _ e in and_from _ _ (fits-above v p x.0) (each-above vs p x.1)

  fields-above : (vs : Data) {fs gs : Fields} → NarrowerFields fs gs → fields_fit vs fs ≡ true → fields_fit vs gs ≡ true
  fields-above no_datum no_fields e = refl
  fields-above (datum v vs) (narrower_field p ps) e = let x = and_parts _ _ e in and_from _ _ (fits-above v p x.0) (fields-above vs ps x.1)
  fields-above _ _ e = cc
