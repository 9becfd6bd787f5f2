use Rattle.std.proofs.Common.{◌≡◌, subst, sym, false, true, rules}
use Rattle.vx_tree.specs.Views.{bound_of}
use Rattle.vx_query.specs.Queries.{Runs, whole}
use Rattle.vx_query.proofs.Unsplit.{not_asked}
use Rattle.vx_array_query.proofs.query.run_tree.Goals as goal

pub returns-then-split : goal.returns-then-split
returns-then-split c =
    let asked : c.args.split ≡ true = search rules in
    subst (λ s. Runs s (bound_of c.args.tree.now) c.args.batch.now c.run_split.result) (sym asked) c.run_split.ensures

pub returns-else-split : goal.returns-else-split
returns-else-split c =
    let unasked : c.args.split ≡ false = search rules in
    whole (not_asked c.args.split c.args.batch.now.type unasked) (c.apply_array.ensures.meaning c.requires.over)
