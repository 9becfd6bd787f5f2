-- What is found where memory runs out, and what says the same of what is found.
use Rattle.std.proofs.Common.{◌≡◌, subst, sym, refl}
use Rattle.std.specs.Prelude.{Option, Some, None, Result, Ok, Err}
use Rattle.vx_dtype.specs.declared.error.VortexError.{VortexError}
use Rattle.vx_dtype.specs.declared.error.VortexError.TheVariants.{OutOfMemory}
use Rattle.vx_rewrite_fusing.specs.Finding.{Finds}

module _ {A : Type 0} (nothing : Type 0) (done : A → Type 0) where
  pub failed : {r : Result (Option A) VortexError} {e : VortexError} → r ≡ Err e → e ≡ OutOfMemory → (nothing → ⊥) → Finds nothing done r
  failed q e h = subst (Finds nothing done) (sym q) (h, e)

  pub spent : {r : Result (Option A) VortexError} → r ≡ Err OutOfMemory → (nothing → ⊥) → Finds nothing done r
  spent q h = failed q refl h

  -- there is nothing to do in the one case where there is in the other, and what is done is what is asked
  pub found_as : (other : Type 0) (did : A → Type 0) (r : Result (Option A) VortexError) → (other → nothing) → (nothing → other) → ((a : A) → did a → done a) → Finds other did r → Finds nothing done r
  found_as other did (Ok None) f g h p = f p
  found_as other did (Ok (Some a)) f g h p = (λ n. p.0 (g n), h a p.1)
  found_as other did (Err e) f g h p = (λ n. p.0 (g n), p.1)
