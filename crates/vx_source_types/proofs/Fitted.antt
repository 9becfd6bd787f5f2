-- What is a scalar of a type.
use Rattle.std.proofs.Common.{◌≡◌, Bool, true, false, Some, None, Ok, Err, refl, sym}
use Rattle.std.specs.Prelude.{Result, if◌then◌else◌}
use Rattle.vx_dtype.specs.declared.error.VortexError.{VortexError}
use Rattle.vx_dtype.specs.declared.error.VortexError.TheVariants.{RowMisfit}
use Rattle.std.specs.Result.{result_ok}
use Rattle.vx_value.specs.Returns.{Returns}
use Rattle.vx_value.specs.Columns.{Constant, constant, constant_or_misfit}
use Rattle.vx_value.specs.Fits.{fits}
use Rattle.vx_value.specs.Types.{LogicalType, Datum}
use Rattle.vx_source_types.specs.Literals.{fitting}

chosen : (b : Bool) (s c : Constant) (e : VortexError) → (let r : Result Constant VortexError = if b then Ok s else Err e in r) ≡ Ok c → (if b then Some s else None) ≡ Some c
chosen true s c e h = cc
chosen false s c e h = cc

refused : (b : Bool) (s : Constant) (e f : VortexError) → (let r : Result Constant VortexError = if b then Ok s else Err e in r) ≡ Err f → (if b then Some s else None) ≡ None
refused true s e f h = cc
refused false s e f h = refl

fits_some : (t : LogicalType) (v : Datum) (c : Constant) → constant_or_misfit t v ≡ Ok c → fitting t v ≡ Some c
fits_some t v c h = chosen (fits v t) (constant t v) c (RowMisfit 0) h

fits_none : (t : LogicalType) (v : Datum) (e : VortexError) → constant_or_misfit t v ≡ Err e → fitting t v ≡ None
fits_none t v e h = refused (fits v t) (constant t v) (RowMisfit 0) e h

pub fits_of : (t : LogicalType) (v : Datum) (r : Result Constant VortexError) → Returns (λ c. c) r (constant_or_misfit t v) → result_ok r ≡ fitting t v
fits_of t v (Ok c) h = sym (fits_some t v c h)
fits_of t v (Err e) h = sym (fits_none t v e h)
