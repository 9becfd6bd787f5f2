use Rattle.std.proofs.Common.{◌≡◌, rules, ap, nat_lt, ◌∙◌}
use Rattle.vx_value.specs.declared.value.Value.{the_lemmas}
use Rattle.vx_value.specs.Fits.{count}
use Rattle.vx_value.specs.Types.{list_of}
use Rattle.vx_value.specs.Views.{value_of, data_view}
use Rattle.vx_value.proofs.Lists.{count_view}
use Rattle.vx_eval.specs.Searches.{is_long_list}
use Rattle.vx_eval.proofs.searches.is_long_list.Goals as goal

pub returns-in-List : goal.returns-in-List
returns-in-List c =
    let items = c.in-List.items.items in
    let held : list_of (data_view items) ≡ value_of c.args.value.now = search (rules, the_lemmas) in
    let many : c.len.result ≡ count (data_view items) = search (rules, count_view items, c.in-List.items.ok) in
    ap (λ n. nat_lt 64 n) many ∙ ap is_long_list held
