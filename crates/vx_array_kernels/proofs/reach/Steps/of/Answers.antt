use Rattle.std.proofs.Common.{◌≡◌, ◌++◌, List, [], ◌∷◌, sym, subst, length, map, not, nat_lt, false, rules}
use Rattle.std.proofs.lemmas.List.{length-map}
use Rattle.vx_fn.specs.Values.{Part}
use Rattle.vx_eval_like.specs.Patterns.{part_view, spelled_by}
use Rattle.vx_array_loops.proofs.Filled.{written_as}
use Rattle.vx_array_kernels.specs.Reach.{AreSteps}
use Rattle.vx_array_kernels.proofs.Along.{all_read, more_read}
use Rattle.vx_array_kernels.proofs.reach.Steps.of.Goals as goal

pub loop-part-preserved : goal.loop-part-preserved
loop-part-preserved c =
    let ci = c.args.ignore_case in
    let bytes = c.args.bytes.now in
    let items : c.push.new.self.items ≡ c.loop-part.steps.items ++ (c.in_ok-step_of.field-0 ∷ []) = search rules in
    let made = more_read ci bytes c.args.pattern.now c.loop-part.rest.now c.in-Some.after.now c.loop-part.steps.items (part_view c.in-Some.part) c.in_ok-step_of.field-0 c.loop-part.invariant.1 c.in-Some.ensures.part c.in_ok-step_of.ensures in
    (search rules, subst (λ ss. (read : List Part) × AreSteps ci bytes read ss × (read ++ spelled_by ci c.in-Some.after.now ≡ spelled_by ci c.args.pattern.now)) (sym items) made)

pub returns : goal.returns
returns c =
    let bytes = c.args.bytes.now in (
      all_read c.args.ignore_case bytes c.args.pattern.now c.loop-part.rest.now c.loop-part.steps.items c.loop-part.invariant.1 c.in_default.ensures.part,
      written_as false (length bytes) (map (λ b. not (nat_lt b 128)) bytes) c.in_ok-beyond.beyond _ (length-map bytes (λ b. not (nat_lt b 128))) c.in_ok-beyond.ensures.long c.in_ok-beyond.ensures.each (λ k x lt post. search rules),
    )
