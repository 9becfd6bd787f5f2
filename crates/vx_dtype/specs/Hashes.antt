-- What a type feeds to a hasher, so that equal ones are hashed alike.
use Rattle.std.specs.Prelude.{◌++◌, Option, Some, None}
use Rattle.std.specs.Hash.{HashWrites}
use Rattle.std.specs.Hash as fed
use Rattle.vx_dtype.specs.Types.{Name, ptype_index, float_type_index, unit_index, Atomic, truth, number, floating, decimals, date, timestamp, text, octets, LogicalType, ty, Shape, atomic, list, fixed, struct, Fields, no_field, field}

-- a zone is hashed as whether there is one, and its name
abbrev pub zone_fed : Option Name → HashWrites
zone_fed None = fed.u8 0
zone_fed (Some a) = fed.u8 1 ++ fed.str a

-- such a kind is hashed as its number and what it holds
abbrev pub atomic_fed : Atomic → HashWrites
atomic_fed truth = fed.u8 0
atomic_fed (number p) = fed.u8 1 ++ fed.u8 (ptype_index p)
atomic_fed (floating f) = fed.u8 10 ++ fed.u8 (float_type_index f)
atomic_fed (decimals p s) = fed.u8 7 ++ (fed.u8 p ++ fed.u8 s)
atomic_fed date = fed.u8 8
atomic_fed (timestamp u z) = fed.u8 9 ++ (fed.u8 (unit_index u) ++ zone_fed z)
atomic_fed text = fed.u8 2
atomic_fed octets = fed.u8 3

-- a type is hashed as its nullability and then its shape
abbrev mutual
  pub type_fed : LogicalType → HashWrites
  type_fed (ty s n) = fed.bool n ++ shape_fed s

  -- a shape is hashed as its number and what it holds
  pub shape_fed : Shape → HashWrites
  shape_fed (atomic p) = atomic_fed p
  shape_fed (list t) = fed.u8 4 ++ type_fed t
  shape_fed (fixed t k) = fed.u8 5 ++ (fed.u32 k ++ type_fed t)
  shape_fed (struct fs) = fed.u8 6 ++ fields_fed fs

  -- fields are hashed one after another, each after a one, and a zero ends them
  pub fields_fed : Fields → HashWrites
  fields_fed no_field = fed.u8 0
  fields_fed (field a t fs) = fed.u8 1 ++ (fed.str a ++ (type_fed t ++ fields_fed fs))
