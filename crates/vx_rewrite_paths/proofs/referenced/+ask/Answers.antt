use Rattle.std.proofs.Common.{◌≡◌, ◌++◌, [], sym, ap, subst, ◌∙◌}
use Rattle.std.specs.Prelude.{OnOk}
use Rattle.std.proofs.lemmas.List.{append-nil}
use Rattle.vx_tree.specs.Trees.{node_types}
use Rattle.vx_tree.specs.Views.{bound_of, bounds_of}
use Rattle.vx_rewrite_paths.specs.Asked.{asked, each_asked}
use Rattle.vx_rewrite_paths.specs.Requests.{front_path, end_paths, requested}
use Rattle.vx_rewrite_paths.proofs.Requests.{nothing, asked-nothing, item_asks}
use Rattle.vx_rewrite_paths.proofs.referenced.+ask.Goals as goal

pub ask-returns-then-is_nothing-clause-recorded : goal.ask-returns-then-is_nothing-clause-recorded
ask-returns-then-is_nothing-clause-recorded t c =
    let paths = requested c.args.request.now in
    let none : paths ≡ [] = nothing paths (sym c.is_nothing.ensures ∙ c.if-is_nothing.true) in
    let same : asked (bound_of c.args.b.now) paths ≡ [] = ap (asked (bound_of c.args.b.now)) none ∙ asked-nothing (bound_of c.args.b.now) in
    sym (ap (λ ps. c.args.recorded.now.items ++ ps) same ∙ append-nil c.args.recorded.now.items)

pub ask_item-returns-clause-recorded : goal.ask_item-returns-clause-recorded
ask_item-returns-clause-recorded t c =
    let children = bounds_of c.args.children.now in
    let request = c.args.request.now in
    let same = item_asks c.args.name.now (node_types children) (front_path request.front) (end_paths request.ends) in
    subst (λ ps. OnOk c.ask_each.result (c.ask_each.new.recorded.items ≡ c.args.recorded.now.items ++ each_asked children ps)) (sym same) c.ask_each.ensures.recorded
