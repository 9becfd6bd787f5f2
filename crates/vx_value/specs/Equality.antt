-- When two values are equal, as a test that decides `≡`.
use Rattle.std.specs.Prelude.{Bool, true, false, ◌&&◌}
use Rattle.std.specs.Bool.{beq}
use Rattle.std.specs.Ordering.{int_eq}
use Rattle.std.specs.Str.{bytes_eq}
use Rattle.vx_floats.specs.Floats.{same_float}
use Rattle.vx_value.specs.Values.{Datum, null, bool, int, float, utf8, bytes, list_of, struct_of, Data, no_datum, datum}
pub use Rattle.vx_dtype.specs.Equality.{equal_type, equal_shape, equal_fields}

-- whether two values are the same
abbrev mutual
  pub equal_datum : Datum → Datum → Bool
  equal_datum null null = true
  equal_datum (bool a) (bool b) = beq a b
  equal_datum (int i) (int j) = int_eq i j
  equal_datum (float x) (float y) = same_float x y
  equal_datum (utf8 a) (utf8 b) = bytes_eq a b
  equal_datum (bytes a) (bytes b) = bytes_eq a b
  equal_datum (list_of vs) (list_of ws) = equal_data vs ws
  equal_datum (struct_of vs) (struct_of ws) = equal_data vs ws
  equal_datum _ _ = false

  -- whether two lists of values are the same
  pub equal_data : Data → Data → Bool
  equal_data no_datum no_datum = true
  equal_data (datum v vs) (datum w ws) = equal_datum v w && equal_data vs ws
  equal_data _ _ = false
