use Rattle.std.proofs.Common.{◌≡◌, Bool, refl, sym, ◌∙◌, get_or}
use Rattle.vx_value.specs.Types.{bool, null}
use Rattle.vx_fn.specs.Values.{flipped}
use Rattle.vx_eval_like.specs.Patterns.{Compiled}
use Rattle.vx_array_kernels.specs.Likeness.{accepted, text_rows, Suits}
use Rattle.vx_array_kernels.proofs.Quick.{quick_told, some_both}
use Rattle.vx_array_kernels.proofs.likeness.quickly.Goals as goal

pub returns-then-k-saturating_sub : goal.returns-then-k-saturating_sub
returns-then-k-saturating_sub c =
    some_both c.accepts.result _ _ (λ told. (negated : Bool) (p : Compiled) → Suits p c.args.texts c.args.quick.now → bool (flipped negated told) ≡ accepted negated p (get_or (text_rows c.args.texts) c.args.k null))
    (λ told ascii is negated p suits. quick_told negated p c.args.texts c.args.quick.now c.args.k _ _ told suits c.requires (sym c.is_valid.ensures ∙ c.if-is_valid.true) refl refl ascii is) c.accepts.ensures.ascii c.accepts.ensures.told
