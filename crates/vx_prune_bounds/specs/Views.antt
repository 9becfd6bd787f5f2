-- What the program's bounds stand for.
use Rattle.std.specs.Prelude.{option_map}
use Rattle.vx_value.specs.Types.{Datum, bool, int, float, utf8, bytes}
use Rattle.vx_prune_bounds.specs.Bounds.{Bounds, bounds}
use Rattle.vx_prune_bounds.specs.declared.bounds.Bounds as declared
use Rattle.vx_prune_bounds.specs.declared.endpoint.Endpoint.{Endpoint}
use Rattle.vx_prune_bounds.specs.declared.endpoint.Endpoint.TheVariants.{Bool, Int, Float, Text, Bytes}

-- the value that an end is
abbrev pub endpoint_value : Endpoint → Datum
endpoint_value (Bool b) = bool b
endpoint_value (Int i) = int i
endpoint_value (Float x) = float x
endpoint_value (Text s) = utf8 s.now
endpoint_value (Bytes s) = bytes s.now

-- bounds, seen without pointers
abbrev pub bounds_view : declared.Bounds → Bounds
bounds_view b = bounds b.null b.value (option_map endpoint_value b.least) (option_map endpoint_value b.greatest)
