-- A run along parts, from where it began to where it stops.
use Rattle.std.specs.Prelude.{◌≡◌, ◌≤◌, ℕ, Bool, true, false, List, ◌∷◌, length}
use Rattle.vx_fn.specs.Values.{Part, any_text, matches, some_rest}
use Rattle.vx_eval_like.specs.Patterns.{characters, parts_view}
use Rattle.vx_eval_like.specs.declared.walk.Stop.{Stop}
use Rattle.vx_eval_like.specs.declared.walk.Stop.TheVariants.{AtEnd, AtAnyText, Mismatch}

-- the match at ps and ts comes to one at qs and cs, and so does each match that begins later
pub record Reaches (ps : List Part) (ts : List ℕ) (qs : List Part) (cs : List ℕ) : Type 0 where
  pub here : matches ps ts ≡ matches qs cs
  pub later : some_rest (matches ps) ts ≡ true → some_rest (matches qs) cs ≡ true
  pub fewer : length qs ≤ length ps
  pub shorter : length cs ≤ length ts

-- what a stop says of the parts and the text
abbrev pub Stops : Bool → List Part → List ℕ → Stop → Type 0
Stops ci ps ts AtEnd = matches ps ts ≡ true
Stops ci ps ts (AtAnyText after rest) = Reaches ps ts (any_text ∷ parts_view after.now) (characters ci rest.now)
Stops ci ps ts Mismatch = matches ps ts ≡ false
