-- Rows in one buffer, of which some are valid.
use Rattle.std.specs.Prelude.{ℕ, List, take, Bool, true, false}
use Rattle.std.proofs.Math.ListN.{replicate}
use Rattle.vx_array.specs.declared.validity.Validity.{Validity}
use Rattle.vx_array.specs.declared.validity.Validity.TheVariants.{All, Nothing, Rows}
use Rattle.vx_array_build.specs.declared.valid_rows.ValidRows.{ValidRows}
use Rattle.vx_array_build.specs.declared.valid_rows.ValidRows.TheVariants as variants

-- whether each of n rows is valid: all of them where there is no list
abbrev pub flags : ℕ → ValidRows → List Bool
flags n variants.All = replicate n true
flags n (variants.Listed truths) = truths

-- whether each of the first n rows is valid
abbrev pub valid_in : Validity → ℕ → List Bool
valid_in All n = replicate n true
valid_in Nothing n = replicate n false
valid_in (Rows bits) n = take n bits
