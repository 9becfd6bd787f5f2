-- What a writer holds that nothing is written to.
use Rattle.std.proofs.Common.{ℕ, List, Option, Some, None, refl}
use Rattle.std.specs.Io.KnownBytes.{Keeps}

pub untold : (held : Option (List ℕ)) → Keeps held held
untold None = tt
untold (Some bytes) = refl
