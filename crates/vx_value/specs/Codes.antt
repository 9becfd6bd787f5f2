-- Scaffolding: a code of values, so that they may be what a `Model` shows.
use Rattle.std.specs.Prelude.{◌≡◌, refl}
use Rattle.std.specs.Coded.{Coded, coded_ℤ, coded_bool}
use Rattle.std.proofs.Common.{ap}
use base.Stored.{Gv, gnil, gnum, gcons}
use Rattle.vx_floats.specs.Codes.{float_code}
use Rattle.vx_value.specs.Values.{Datum, null, bool, int, float, utf8, bytes, list_of, struct_of, Data, no_datum, datum}
pub use Rattle.vx_dtype.specs.Codes.{name_code, code_type, code_shape, code_fields, inj_type, inj_shape, inj_fields, type_code}

-- a value, by its kind's number and what it holds
abbrev mutual
  pub code_datum : Datum → Gv
  code_datum null = gcons (gnum 0) gnil
  code_datum (bool b) = gcons (gnum 1) (coded_bool.code b)
  code_datum (int i) = gcons (gnum 2) (coded_ℤ.code i)
  code_datum (float x) = gcons (gnum 7) (float_code.code x)
  code_datum (utf8 t) = gcons (gnum 3) (name_code.code t)
  code_datum (bytes t) = gcons (gnum 4) (name_code.code t)
  code_datum (list_of vs) = gcons (gnum 5) (code_data vs)
  code_datum (struct_of vs) = gcons (gnum 6) (code_data vs)

  -- values, one after another
  pub code_data : Data → Gv
  code_data no_datum = gnil
  code_data (datum v vs) = gcons (code_datum v) (code_data vs)

-- values of one code are the same
mutual
  pub inj_datum : (v w : Datum) → code_datum v ≡ code_datum w → v ≡ w
  inj_datum null null p = refl
  inj_datum (bool a) (bool b) p = ap bool (coded_bool.inj a b cc)
  inj_datum (int i) (int j) p = ap int (coded_ℤ.inj i j cc)
  inj_datum (float x) (float y) p = ap float (float_code.inj x y cc)
  inj_datum (utf8 a) (utf8 b) p = ap utf8 (name_code.inj a b cc)
  inj_datum (bytes a) (bytes b) p = ap bytes (name_code.inj a b cc)
  inj_datum (list_of vs) (list_of ws) p = ap list_of (inj_data vs ws cc)
  inj_datum (struct_of vs) (struct_of ws) p = ap struct_of (inj_data vs ws cc)
  inj_datum _ _ p = cc

  -- lists of values of one code are the same
  pub inj_data : (vs ws : Data) → code_data vs ≡ code_data ws → vs ≡ ws
  inj_data no_datum no_datum p = refl
  inj_data (datum v vs) (datum w ws) p = let a = inj_datum v w cc in let b = inj_data vs ws cc in cc
  inj_data _ _ p = cc

-- values may be what a `Model` shows
abbrev pub datum_code : Coded Datum
datum_code = record { code = code_datum; inj = inj_datum }
