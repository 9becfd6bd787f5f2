-- What reading gives where refusals are left out.
use Rattle.std.specs.Prelude.{◌≡◌, Bool, true, false, List, Ok, Err}
use Rattle.std.specs.List.{filter}
use Rattle.vx_data.specs.declared.error.DataError.TheVariants.{OutOfMemory, Read, Unexpected}
use Rattle.vx_records.specs.Reading.{Reading}

-- whether the reading isn't left out: it gave a record, or was refused for something else than what the record holds
abbrev pub stays : Reading → Bool
stays (Ok r) = true
stays (Err (Unexpected line at expected)) = false
stays (Err (Read e)) = true
stays (Err OutOfMemory) = true

-- these are such readings, without those that are left out
abbrev pub Skips : (List Reading → Type 0) → List Reading → Type 0
Skips leaves gs = (all : List Reading) × leaves all × (gs ≡ filter stays all)
