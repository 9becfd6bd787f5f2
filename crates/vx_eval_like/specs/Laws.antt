-- What a pattern that was read promises.
use Rattle.std.specs.Prelude.{◌≡◌, ℕ, Bool, List}
use Rattle.vx_fn.specs.Values.{is_like}
use Rattle.vx_eval_like.specs.Patterns.{compiled, accepts}

-- a pattern that was read accepts the texts that are like it
abbrev pub AcceptsWhatIsLike : Type 0
AcceptsWhatIsLike = (ci : Bool) (t p : List ℕ) → accepts (compiled ci p) t ≡ is_like ci t p
