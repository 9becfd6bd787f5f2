-- What the program's places stand for.
use Rattle.std.specs.Prelude.{List, map}
use Rattle.vx_prune.specs.Records.{Place}
use Rattle.vx_prune.specs.declared.places.Place.{Place as PlaceOf}

-- what a `Place` stands for
abbrev pub place_of : PlaceOf → Place
place_of p = (p.name, p.path)

-- the places, one after another
abbrev pub places_of : List PlaceOf → List Place
places_of = map place_of
