-- What an index of a list of names tells.
use Rattle.std.specs.Prelude.{◌≡◌, ℕ, List, position}
use Rattle.std.specs.HashMap.{HashMap, get}
use Rattle.std.specs.Str.{bytes_eq}

-- a name is found at the first place at which it stands, and not at all where it stands at none
abbrev pub TellsFirstPlaces : {S : Type 0} → HashMap (List ℕ) ℕ S → List (List ℕ) → Type 0
TellsFirstPlaces index names = (a : List ℕ) → get bytes_eq index a ≡ position (bytes_eq a) names
