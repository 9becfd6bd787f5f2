-- Texts against patterns that were read.
use Rattle.std.proofs.Common.{◌≡◌, ℕ, ◌<◌, List, get_or, refl, sym, ap, ◌∙◌, Some, None, Result, Ok, Bool}
use Rattle.std.proofs.Math.ListN.{replicate}
use Rattle.std.proofs.lemmas.List.{get_or-replicate}
use Rattle.vx_dtype.specs.declared.error.VortexError.{VortexError}
use Rattle.vx_value.specs.Types.{Datum, null, utf8}
use Rattle.vx_fn.specs.Values.{liked}
use Rattle.vx_eval_like.specs.Patterns.{Compiled, compiled}
use Rattle.vx_eval.specs.Kernels.{text_of, accepted}

abbrev ok : Datum → Result Datum VortexError
ok v = Ok v

abbrev read : Compiled → Result Compiled VortexError
read p = Ok p

pub liked_at : (negated ci : Bool) (a b c d v : Datum) → ok (liked negated ci a b) ≡ Ok v → a ≡ c → b ≡ d → v ≡ liked negated ci c d
liked_at negated ci a b c d v e f g = let h : liked negated ci a b ≡ v = cc in rw (← f, ← g) (sym h)

is_text : (w : Datum) (t : List ℕ) → text_of w ≡ Some t → w ≡ utf8 t
is_text (utf8 s) t e = let h : s ≡ t = cc in ap utf8 h
is_text _ t e = cc

-- a pattern that was read once, at each row
pub accepted_at : (negated ci : Bool) (n i : ℕ) (v w u : Datum) (t : List ℕ) (p : Compiled) → i < n → text_of w ≡ Some t → read (compiled ci t) ≡ Ok p → u ≡ accepted negated p v → u ≡ liked negated ci v (get_or (replicate n w) i null)
accepted_at negated ci n i v w u t p lt is made here =
    let same : compiled ci t ≡ p = cc in
    here ∙ ap (λ q. accepted negated q v) (sym same) ∙ go v ∙ ap (liked negated ci v) (sym (get_or-replicate n i w null lt ∙ is_text w t is))
  where
    go : (v : Datum) → accepted negated (compiled ci t) v ≡ liked negated ci v (utf8 t)
    go (utf8 s) = refl
    go _ = refl

-- what is no text is no pattern
pub unliked_at : (negated ci : Bool) (n i : ℕ) (v w u : Datum) → i < n → text_of w ≡ None → u ≡ null → u ≡ liked negated ci v (get_or (replicate n w) i null)
unliked_at negated ci n i v w u lt none is = is ∙ go v w none ∙ ap (liked negated ci v) (sym (get_or-replicate n i w null lt))
  where
    go : (v w : Datum) → text_of w ≡ None → null ≡ liked negated ci v w
    go (utf8 s) (utf8 t) e = cc
    go _ _ e = refl
