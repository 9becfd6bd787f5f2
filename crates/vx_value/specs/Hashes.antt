-- What a value feeds to a hasher, so that equal ones are hashed alike.
use Rattle.std.specs.Prelude.{◌++◌}
use Rattle.std.specs.Hash.{HashWrites}
use Rattle.std.specs.Hash as fed
use Rattle.vx_floats.specs.Floats.{float_fed}
use Rattle.vx_value.specs.Values.{Datum, null, bool, int, float, utf8, bytes, list_of, struct_of, Data, no_datum, datum}
pub use Rattle.vx_dtype.specs.Hashes.{atomic_fed, type_fed, shape_fed, fields_fed}

-- a value is hashed as its kind's number and what it holds
abbrev mutual
  pub datum_fed : Datum → HashWrites
  datum_fed null = fed.u8 0
  datum_fed (bool b) = fed.u8 1 ++ fed.bool b
  datum_fed (int i) = fed.u8 2 ++ fed.i128 i
  datum_fed (float x) = fed.u8 7 ++ float_fed x
  datum_fed (utf8 t) = fed.u8 3 ++ fed.str t
  datum_fed (bytes t) = fed.u8 4 ++ fed.slice fed.u8 t
  datum_fed (list_of vs) = fed.u8 5 ++ data_fed vs
  datum_fed (struct_of vs) = fed.u8 6 ++ data_fed vs

  -- values are hashed one after another, each after a one, and a zero ends them
  pub data_fed : Data → HashWrites
  data_fed no_datum = fed.u8 0
  data_fed (datum v vs) = fed.u8 1 ++ (datum_fed v ++ data_fed vs)
