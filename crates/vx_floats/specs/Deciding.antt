-- Scaffolding: a proof that the test of floating-point numbers decides `≡`, which laws cite.
use Rattle.std.specs.Prelude.{◌≡◌}
use Rattle.std.specs.Bool.{Decides}
use Rattle.std.proofs.Common.{ap}
use Rattle.std.proofs.lemmas.Bool.Decides.{Decides-eqb, Decides-like}
use Rattle.vx_dtype.specs.Deciding.{apart}
use Rattle.vx_floats.specs.Floats.{same_float}
use Rattle.vx_floats.specs.declared.float.Float.{Float}
use Rattle.vx_floats.specs.declared.float.Float.TheVariants.{F32, F64}

-- the test says whether two numbers are the same
pub same_float-Decides : (x y : Float) → Decides (same_float x y) (x ≡ y)
same_float-Decides (F32 a) (F32 b) = Decides-like _ (λ e. ap F32 e) (λ e. cc) (Decides-eqb a b)
same_float-Decides (F64 a) (F64 b) = Decides-like _ (λ e. ap F64 e) (λ e. cc) (Decides-eqb a b)
same_float-Decides _ _ = apart (λ e. cc)
