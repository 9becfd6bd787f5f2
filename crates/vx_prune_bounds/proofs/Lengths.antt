-- The length of a value within bounds is within the bounds of its length.
use Rattle.std.proofs.Common.{refl, Bool, true, ◌-◌, ◌^◌, min, length, arith}
use Rattle.std.specs.Prelude.{pos}
use Rattle.std.proofs.lemmas.Int.{ints}
use Rattle.vx_value.specs.Fits.{Fits}
use Rattle.vx_value.specs.Types.{ty, atomic, text, Datum, null, utf8}
use Rattle.vx_fn.specs.Values.{counted_bytes}
use Rattle.vx_prune_bounds.specs.Bounds.{Bounds, Contains, IsWithin, IsProper}
use Rattle.vx_prune_bounds.specs.Kernels.{length_bounds}
use Rattle.vx_prune_bounds.proofs.Contained.{inside, from_inside, null_in, in_null, within, from_within, implied}
use Rattle.vx_prune_bounds.proofs.Sums.{from_le}

pub length-sound : (n : Bool) (x : Bounds) (v : Datum) → Fits v (ty (atomic text) n) → Contains x v → Contains (length_bounds x) (counted_bytes v)
length-sound n x null e h = in_null (length_bounds x) null refl (null_in x null refl h)
length-sound n x (utf8 t) e h =
    from_inside (length_bounds x) (counted_bytes (utf8 t)) refl
    (record { value = (inside x (utf8 t) refl h).value; from = from_le (pos 0) (pos (min (length t) (2 ^ 63 - 1))) (omega (arith, ints)); up_to = refl })
length-sound n x _ e h = cc

pub length-mono : (x y : Bounds) → IsWithin x y → IsWithin (length_bounds x) (length_bounds y)
length-mono x y e =
    let p = within x y e in
    from_within (length_bounds x) (length_bounds y) (record { null = p.null; value = p.value; starts = λ _. refl; ends = λ _. refl })

pub length-proper : (x : Bounds) → IsProper (length_bounds x)
length-proper x = implied x.value true (λ _. refl)
