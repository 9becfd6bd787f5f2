use Rattle.std.proofs.Common.{◌≡◌, rules, refl, ◌∷◌, [], get_or}
use Rattle.std.proofs.Math.ListN.{replicate}
use Rattle.vx_value.specs.Types.{null}
use Rattle.vx_value.specs.Views.{value_of}
use Rattle.vx_fn.specs.Functions.{list_contains}
use Rattle.vx_fn.specs.Values as values
use Rattle.vx_eval.specs.Columns.{rows_view, truth_datum}
use Rattle.vx_eval.proofs.Filled.{evaluated}
use Rattle.vx_eval.proofs.Gathered.{contained_at}
use Rattle.vx_eval.proofs.membership.in_one.Goals as goal

pub returns-in_ok-elements-in-Some : goal.returns-in_ok-elements-in-Some
returns-in_ok-elements-in-Some c = λ ts.
    let same : value_of c.args.list.now ≡ c.in_ok-elements-in-Some.elements = search rules in
    evaluated list_contains ts c.args.count (replicate c.args.count (value_of c.args.list.now) ∷ rows_view c.args.needle.now ∷ []) _ refl
    (c.told.ensures.rows _ (λ i t lt p.
    let here : truth_datum t ≡ values.contained c.in_ok-elements-in-Some.elements (get_or (rows_view c.args.needle.now) i null) = search rules in
    contained_at c.args.count i (value_of c.args.list.now) (get_or (rows_view c.args.needle.now) i null) (truth_datum t) c.in_ok-elements-in-Some.elements lt same here))
    c.told.ensures.memory

pub returns-in-None : goal.returns-in-None
returns-in-None c = λ ts.
    evaluated list_contains ts c.args.count (replicate c.args.count (value_of c.args.list.now) ∷ rows_view c.args.needle.now ∷ []) _ refl
    (c.told-in-None.ensures.rows _ (λ i t lt p.
    let here : truth_datum t ≡ values.contained (value_of c.args.list.now) (get_or (rows_view c.args.needle.now) i null) = search rules in
    contained_at c.args.count i (value_of c.args.list.now) (get_or (rows_view c.args.needle.now) i null) (truth_datum t) (value_of c.args.list.now) lt refl here))
    c.told-in-None.ensures.memory
