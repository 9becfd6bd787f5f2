-- What a call that reads a token answers.
use Rattle.std.specs.Prelude.{◌≡◌, ◌≤◌, ℕ, Result, Ok, Err}
use Rattle.vx_source_types.specs.declared.error.ParseError.{ParseError}
use Rattle.vx_source_types.specs.declared.error.ParseError.TheVariants.{OutOfMemory, Unexpected}
use Rattle.vx_source_types.specs.declared.expectation.Expected.{Expected}

-- the call gave what is said, seen by view, or refused for the same reason, at the token or before it, unless memory ran out
abbrev pub ReadsUpTo : {A B : Type 0} → ℕ → (A → B) → Result A ParseError → Result B Expected → Type 0
ReadsUpTo at view (Ok x) said = said ≡ Ok (view x)
ReadsUpTo at view (Err OutOfMemory) said = Unit {0}
ReadsUpTo at view (Err (Unexpected place e)) said = (place ≤ at) × (said ≡ Err e)
