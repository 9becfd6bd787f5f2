-- Nodes put in the place of others.
use Rattle.std.specs.Prelude.{◌≡◌, ◌≤◌, ℕ, Result, Ok, Err, Option, Some, None, true}
use Rattle.std.proofs.Common.{ap, arith}
use Rattle.vx_dtype.specs.declared.error.VortexError.{VortexError}
use Rattle.vx_walk.specs.declared.order.TraversalOrder.TheVariants.{Skip, Continue}
use Rattle.vx_walk.specs.declared.transformed.Transformed.{Transformed}
use Rattle.vx_walk.specs.Handed.{Back, unchanged}

-- what is handed back for a node on the way down: what is given in its place, past whose children the rewrite goes; where nothing is, the node
abbrev pub placed : {N : Type 0} → N → Result (Option N) VortexError → Back N
placed n (Ok (Some m)) = Ok (record { value = m; order = Skip; changed = true })
placed n (Ok None) = Ok (unchanged n)
placed n (Err e) = Err e

-- a step on the way down: R gives what is put in the node's place
pub record Replaces {V N : Type 0} (R : V → N → Result (Option N) VortexError → V → Type 0) (v : V) (n : N) (a : Back N) (w : V) : Type 0 where
  pub given : Result (Option N) VortexError
  pub step : R v n given w
  pub puts : a ≡ placed n given

-- R gives nothing, whatever the node
abbrev pub GivesNothing : {V N : Type 0} → (V → N → Result (Option N) VortexError → V → Type 0) → Type 0
GivesNothing {V} {N} R = (v : V) (n : N) (given : Result (Option N) VortexError) (w : V) → R v n given w → given ≡ Ok None

-- where the rewrite goes on to the children, the node is the one that was handed over
stays : {N : Type 0} (n : N) (given : Result (Option N) VortexError) (t : Transformed N) → ◌≡◌ {A = Back N} (Ok t) (placed n given) → t.order ≡ Continue → t.value ≡ n
stays n (Ok (Some m)) t p e = cc
stays n (Ok None) t p e = cc
stays n (Err d) t p e = cc

-- so it is no higher
pub no_higher_placed : {V N : Type 0} {R : V → N → Result (Option N) VortexError → V → Type 0} (height : N → ℕ) {v w : V} {n : N} {t : Transformed N} → Replaces R v n (Ok t) w → t.order ≡ Continue → height t.value ≤ height n
no_higher_placed height {n = n} {t = t} r e =
    let same : height t.value ≡ height n = ap height (stays n r.given t r.puts e) in
    omega (arith, same)
