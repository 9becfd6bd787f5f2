-- What the program's types of instants stand for.
use Rattle.std.specs.Prelude.{Option}
use Rattle.std.specs.Option.{option_map}
use Rattle.std.specs.Arc.{arc_str_bytes}
use Rattle.vx_dtype.specs.declared.timestamp_type.TimestampType.{TimestampType}
use Rattle.vx_dtype.specs.Types.{Name, Atomic, timestamp}

-- the name of the zone, if there is one
abbrev pub zone_name : TimestampType → Option Name
zone_name t = option_map arc_str_bytes t.zone

-- the kind of a type of instants
abbrev pub instants : TimestampType → Atomic
instants t = timestamp t.unit (zone_name t)
