-- What is kept of a value is a value of its type, and what the code takes.
use Rattle.std.proofs.Common.{◌≡◌, ℕ, zero, suc, List, [], ◌∷◌, refl, ap, ◌∙◌, Bool, true, false, replicate, map, None, add-one, eq-eqb, ◌^◌, arith}
use Rattle.std.proofs.Math.Nat.{one-le-pow}
use borrow.Author.Tests.{lt-ltb}
use lib.Ieee.{of_bits, to_bits}
use Rattle.std.specs.Prelude.{if◌then◌else◌, pos}
use Rattle.std.proofs.lemmas.Bool.{and_parts, and_from}
use Rattle.vx_dtype.specs.declared.dtype.PType.{PType}
use Rattle.vx_dtype.specs.declared.dtype.PType.TheVariants.{U8, U16, U32, U64, I8, I16, I32, I64}
use Rattle.vx_dtype.specs.declared.float_type.FloatType.{FloatType}
use Rattle.vx_dtype.specs.declared.float_type.FloatType.TheVariants.{F32, F64}
use Rattle.vx_value.proofs.Misfits.{no_misfit}
use Rattle.vx_value.specs.Columns.{first_misfit, batch}
use Rattle.vx_value.specs.Fields.{data_of}
use Rattle.vx_value.specs.Fits.{Fits, fits_digits, fits_ptype, each_fits, fields_fit, count, IsBatch}
use Rattle.vx_value.specs.Paths.{Path, is_member}
use Rattle.vx_value.specs.Types.{truth, number, floating, decimals, date, timestamp, text, octets, LogicalType, ty, Shape, atomic, list, fixed, struct, Fields, no_field, field, Datum, null, float, struct_of, Data, no_datum, datum}
use Rattle.vx_projection.specs.Defaults.{zero_of, default_of, shape_default, field_defaults}
use Rattle.vx_projection.specs.Kept.{rests, others, at_paths, kept, fields_kept, kept_batch}
use Rattle.vx_projection.specs.Wanted.{Want, want_all, want_none, want_fields, wanted, fields_wanted, taken, each_taken}

-- ---- a default is a value of its type

zero-fits : (p : PType) → fits_ptype (pos 0) p ≡ true
zero-fits U8 = refl
zero-fits U16 = refl
zero-fits U32 = refl
zero-fits U64 = refl
zero-fits I8 = refl
zero-fits I16 = refl
zero-fits I32 = refl
zero-fits I64 = refl

zero_of-fits : (f : FloatType) → Fits (float (zero_of f)) (ty (atomic (floating f)) false)
unfolding of_bits to_bits
zero_of-fits F32 = refl
zero_of-fits F64 = refl

no_units : (p : ℕ) → fits_digits (pos 0) p ≡ true
no_units p = lt-ltb 0 (10 ^ p) (omega (arith, one-le-pow p 10 (omega arith)))

count-replicate : (k : ℕ) (v : Datum) → count (data_of (replicate k v)) ≡ k
count-replicate zero v = refl
count-replicate (suc k) v = rw (count-replicate k v, add-one) refl

replicate-fits : (k : ℕ) (v : Datum) (t : LogicalType) → Fits v t → each_fits (data_of (replicate k v)) t ≡ true
replicate-fits zero v t e = refl
replicate-fits (suc k) v t e = and_from _ _ e (replicate-fits k v t e)

mutual
  pub default-fits : (t : LogicalType) → Fits (default_of t) t
  default-fits (ty s true) = refl
  default-fits (ty s false) = shape-fits s

  shape-fits : (s : Shape) → Fits (shape_default s) (ty s false)
  shape-fits (atomic truth) = refl
  shape-fits (atomic (number p)) = zero-fits p
  shape-fits (atomic (floating f)) = zero_of-fits f
  shape-fits (atomic (decimals p s)) = no_units p
  shape-fits (atomic date) = refl
  shape-fits (atomic (timestamp u z)) = refl
  shape-fits (atomic text) = refl
  shape-fits (atomic octets) = refl
  shape-fits (list t) = refl
  shape-fits (fixed t k) = and_from _ _ (eq-eqb _ _ (count-replicate k (default_of t))) (replicate-fits k (default_of t) t (default-fits t))
  shape-fits (struct fs) = defaults-fit fs

  defaults-fit : (fs : Fields) → fields_fit (field_defaults fs) fs ≡ true
  defaults-fit no_field = refl
  defaults-fit (field a t fs) = and_from _ _ (default-fits t) (defaults-fit fs)

-- ---- what is kept is one

at-fits : (paths : List Path) (all inside default : Datum) (t : LogicalType) → Fits all t → Fits inside t → Fits default t → Fits (at_paths paths all inside default) t
at-fits [] all inside default t a i d = d
at-fits (p ∷ ps) all inside default t a i d = go (is_member (p ∷ ps) [])
  where
    go : (b : Bool) → Fits (if b then all else inside) t
    go true = a
    go false = i

mutual
  pub kept-fits : (paths : List Path) (t : LogicalType) (v : Datum) → Fits v t → Fits (kept paths t v) t
  kept-fits paths (ty (struct fs) n) null e = at-fits paths null null (default_of (ty (struct fs) n)) (ty (struct fs) n) e e (default-fits (ty (struct fs) n))
  kept-fits paths (ty (struct fs) n) (struct_of vs) e = at-fits paths (struct_of vs) (struct_of (fields_kept paths fs vs)) (default_of (ty (struct fs) n)) (ty (struct fs) n) e (fields_kept-fit paths fs vs e) (default-fits (ty (struct fs) n))
  kept-fits paths t v e = at-fits paths v (default_of t) (default_of t) t e (default-fits t) (default-fits t)

  fields_kept-fit : (paths : List Path) (fs : Fields) (vs : Data) → fields_fit vs fs ≡ true → fields_fit (fields_kept paths fs vs) fs ≡ true
  fields_kept-fit paths no_field no_datum e = refl
  fields_kept-fit paths no_field (datum v vs) e = cc
  fields_kept-fit paths (field a t fs) no_datum e = cc
  fields_kept-fit paths (field a t fs) (datum v vs) e = let p = and_parts _ _ e in and_from _ _ (kept-fits (rests a paths) t v p.0) (fields_kept-fit (others a paths) fs vs p.1)

-- so for each row
pub kept_rows-fit : (paths : List Path) (t : LogicalType) (rows : List Datum) → IsBatch t rows → IsBatch t (map (kept paths t) rows)
kept_rows-fit paths t [] e = refl
kept_rows-fit paths t (v ∷ rows) e = let p = and_parts _ _ e in and_from _ _ (kept-fits paths t v p.0) (kept_rows-fit paths t rows p.1)

-- ---- what is taken is what is kept

at-taken : (paths : List Path) (all inside default : Want) (v : Datum) → taken (at_paths paths all inside default) v ≡ at_paths paths (taken all v) (taken inside v) (taken default v)
at-taken [] all inside default v = refl
at-taken (p ∷ ps) all inside default v = go (is_member (p ∷ ps) [])
  where
    go : (b : Bool) → taken (if b then all else inside) v ≡ (if b then taken all v else taken inside v)
    go true = refl
    go false = refl

mutual
  pub taken-kept : (paths : List Path) (t : LogicalType) (v : Datum) → Fits v t → taken (wanted paths t) v ≡ kept paths t v
  taken-kept paths (ty (struct fs) n) null e = at-taken paths want_all (want_fields (fields_wanted paths fs)) (want_none (default_of (ty (struct fs) n))) null
  taken-kept paths (ty (struct fs) n) (struct_of vs) e =
      at-taken paths want_all (want_fields (fields_wanted paths fs)) (want_none (default_of (ty (struct fs) n))) (struct_of vs)
      ∙ ap (λ x. at_paths paths (struct_of vs) (struct_of x) (default_of (ty (struct fs) n))) (each_taken-kept paths fs vs e)
  taken-kept paths (ty (struct fs) n) _ e = cc
  taken-kept paths t v e = at-taken paths want_all (want_none (default_of t)) (want_none (default_of t)) v

  each_taken-kept : (paths : List Path) (fs : Fields) (vs : Data) → fields_fit vs fs ≡ true → each_taken (fields_wanted paths fs) vs ≡ fields_kept paths fs vs
  each_taken-kept paths no_field vs e = refl
  each_taken-kept paths (field a t fs) no_datum e = cc
  each_taken-kept paths (field a t fs) (datum v vs) e = let p = and_parts _ _ e in rw (taken-kept (rests a paths) t v p.0, each_taken-kept (others a paths) fs vs p.1) refl

pub taken_rows-kept : (paths : List Path) (t : LogicalType) (rows : List Datum) → IsBatch t rows → map (taken (wanted paths t)) rows ≡ map (kept paths t) rows
taken_rows-kept paths t [] e = refl
taken_rows-kept paths t (v ∷ rows) e = let p = and_parts _ _ e in rw (taken-kept paths t v p.0, taken_rows-kept paths t rows p.1) refl

-- so the column of what was taken is that of what is kept
module _ (paths : List Path) (t u : LogicalType) (rows made : List Datum) (w : Want) (same : u ≡ t) (want : w ≡ wanted paths t) (fit : first_misfit t rows ≡ None) (took : made ≡ map (taken w) rows) where
  are_kept : made ≡ map (kept paths t) rows
  are_kept = took ∙ ap (λ x. map (taken x) rows) want ∙ taken_rows-kept paths t rows ((no_misfit t rows).0 fit)

  pub made-fit : first_misfit u made ≡ None
  made-fit = rw (same, are_kept) ((no_misfit t (map (kept paths t) rows)).1 (kept_rows-fit paths t rows ((no_misfit t rows).0 fit)))

  pub made-kept : kept_batch paths (batch t rows) ≡ batch u made
  made-kept = rw (same, are_kept) refl
