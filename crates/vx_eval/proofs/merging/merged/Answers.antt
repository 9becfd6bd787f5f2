use Rattle.std.proofs.Common.{◌<◌, length, get_or, [], subst}
use Rattle.vx_value.specs.Types.{null}
use Rattle.vx_eval_masks.specs.Masks.{IsAll}
use Rattle.vx_eval.proofs.Masked.{whole_is}
use Rattle.vx_eval.proofs.merging.merged.Goals as goal

pub returns-in-Some-clause-rows : goal.returns-in-Some-clause-rows
returns-in-Some-clause-rows c =
    whole_is c.args.count c.args.masks.items c.args.values.items (λ k. null) c.in-Some.place _ c.requires.pairs c.requires.masks c.requires.columns c.requires.apart (subst (λ l. c.in-Some.place < length l) c.as_slice.ensures.value c.in-Some.ensures.0)
    (subst (λ l. IsAll (get_or l c.in-Some.place [])) c.as_slice.ensures.value c.in-Some.ensures.1) c.swap_remove.ensures.value
