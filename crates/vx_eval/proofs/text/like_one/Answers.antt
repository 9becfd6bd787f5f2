use Rattle.std.proofs.Common.{◌≡◌, rules, refl, ap, sym, ◌∙◌, ◌∷◌, [], get_or}
use Rattle.std.specs.Prelude.{option_map}
use Rattle.std.proofs.Math.ListN.{replicate}
use Rattle.vx_value.specs.Types.{null}
use Rattle.vx_value.specs.Views.{value_of}
use Rattle.vx_fn.specs.Functions.{like}
use Rattle.vx_eval.specs.Columns.{rows_view, truth_datum}
use Rattle.vx_eval.specs.Kernels.{accepted}
use Rattle.vx_eval.proofs.Filled.{evaluated}
use Rattle.vx_eval.proofs.Likes.{accepted_at, unliked_at}
use Rattle.vx_eval.proofs.text.like_one.Goals as goal

pub returns-in_ok-read-in-Some : goal.returns-in_ok-read-in-Some
returns-in_ok-read-in-Some c = λ ts.
    let negated = c.args.options.now.negated in
    let ci = c.args.options.now.case_insensitive in
    evaluated (like negated ci) ts c.args.count (rows_view c.args.child.now ∷ replicate c.args.count (value_of c.args.pattern.now) ∷ []) _ refl
    (c.told.ensures.rows _ (λ i t lt p.
    let here : truth_datum t ≡ accepted negated c.in_ok-read-in-Some.read (get_or (rows_view c.args.child.now) i null) = search rules in
    accepted_at negated ci c.args.count i (get_or (rows_view c.args.child.now) i null) (value_of c.args.pattern.now) (truth_datum t) c.in-Some.text.now c.in_ok-read-in-Some.read lt
    (sym c.as_text.ensures ∙ ap (option_map (λ s. s.now)) c.in-Some.is) c.in_ok-read-in-Some.ensures here))
    c.told.ensures.memory

pub returns-in-None : goal.returns-in-None
returns-in-None c = λ ts.
    let negated = c.args.options.now.negated in
    let ci = c.args.options.now.case_insensitive in
    evaluated (like negated ci) ts c.args.count (rows_view c.args.child.now ∷ replicate c.args.count (value_of c.args.pattern.now) ∷ []) _ refl
    (c.told-in-None.ensures.rows _ (λ i t lt p.
    let here : truth_datum t ≡ null = search rules in
    unliked_at negated ci c.args.count i (get_or (rows_view c.args.child.now) i null) (value_of c.args.pattern.now) (truth_datum t) lt
    (sym c.as_text.ensures ∙ ap (option_map (λ s. s.now)) c.in-None.is) here))
    c.told-in-None.ensures.memory
