-- What a writer holds that nothing is written to.
use Rattle.std.proofs.Common.{ℕ, List, Option, Some, None, refl}
use Rattle.std.specs.Io.KnownBytes.{Keeps}

pub kept : (held : Option (List ℕ)) → Keeps held held
kept None = tt
kept (Some bytes) = refl
