-- Values, seen without pointers: the field's own data, in place of the program's.
use Rattle.std.specs.Prelude.{ℕ, Bool, true, false, List, ℤ}
use Rattle.vx_floats.specs.declared.float.Float.{Float}

-- a value: null, a truth value, a whole number, a floating-point number, a text by its bytes, bytes, a list of values, or a struct
-- of values
mutual
  pub data Datum : Type 0 where
    null : Datum
    bool : Bool → Datum
    int : ℤ → Datum
    float : Float → Datum
    utf8 : List ℕ → Datum
    bytes : List ℕ → Datum
    list_of : Data → Datum
    struct_of : Data → Datum

  -- values one after another
  pub data Data : Type 0 where
    no_datum : Data
    datum : Datum → Data → Data

-- whether the value is null
abbrev pub is_null_datum : Datum → Bool
is_null_datum null = true
is_null_datum _ = false
