-- Scaffolding: a code of floating-point numbers, so that they may be what a `Model` shows.
use Rattle.std.specs.Prelude.{◌≡◌}
use Rattle.std.specs.Coded.{Coded}
use base.Stored.{Gv, gnum, gcons}
use Rattle.vx_floats.specs.declared.float.Float.{Float}
use Rattle.vx_floats.specs.declared.float.Float.TheVariants.{F32, F64}

-- a number, by its format and its bits
abbrev pub code_float : Float → Gv
code_float (F32 b) = gcons (gnum 0) (gnum b)
code_float (F64 b) = gcons (gnum 1) (gnum b)

-- numbers of one code are the same
pub inj_float : (x y : Float) → code_float x ≡ code_float y → x ≡ y
inj_float (F32 a) (F32 b) h = cc
inj_float (F64 a) (F64 b) h = cc
inj_float _ _ h = cc

-- floating-point numbers may be what a `Model` shows
abbrev pub float_code : Coded Float
float_code = record { code = code_float; inj = inj_float }
