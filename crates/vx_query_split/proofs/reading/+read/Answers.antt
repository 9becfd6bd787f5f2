use Rattle.std.proofs.Common.{◌≡◌, ◌∙◌, ap, arith, length, map, None, refl, rules, Some}
use Rattle.std.specs.Prelude.{is_some}
use Rattle.std.proofs.lemmas.Result.{IfOk-weaker}
use Rattle.std.specs.Option.{option_copied}
use Rattle.vx_fn.specs.Views.{function_of}
use Rattle.vx_value.specs.Views.{type_of}
use Rattle.vx_tree.specs.declared.bound.BoundExpression.{the_lemmas}
use Rattle.vx_tree.specs.Trees.{node, scope}
use Rattle.vx_tree.specs.Views.{bound_of, bounds_of}
use Rattle.vx_partition.proofs.Meeting.{copied_put}
use Rattle.vx_query_split.specs.Reads.{name_list}
use Rattle.vx_query_split.specs.declared.reading.Reads.TheVariants.{One}
use Rattle.vx_query_split.proofs.Walked.{all_met, copied_some, cut_back, goes_on, item_read, node_read, not_one_below, one_below, scope_read}
use Rattle.vx_query_split.proofs.reading.+read.Goals as goal

pub read-returns-in_default : goal.read-returns-in_default
read-returns-in_default t c =
    let b = bound_of c.args.e.now in
    let bs = bounds_of c.as_slice-children.result.now in
    let is : b ≡ node (type_of c.in-Scalar.dtype) (function_of c.in-Scalar.scalar_fn) bs = search (rules, the_lemmas) in
    let none : option_copied c.field_of_root.result ≡ None = search rules in
    IfOk-weaker c.read_below.result _ _ (λ r below names told.
    node_read names b (type_of c.in-Scalar.dtype) (function_of c.in-Scalar.scalar_fn) bs r.reads r.is_covered _ _ is (c.field_of_root.ensures (type_of c.in-Scalar.dtype) names ∙ ap name_list none) (below names told)) c.read_below.ensures

pub read-returns-in_ok-push-in-Root : goal.read-returns-in_ok-push-in-Root
read-returns-in_ok-push-in-Root t c = λ names told.
    let b = bound_of c.args.e.now in
    let is : b ≡ scope (type_of c.in-Root.dtype) = search (rules, the_lemmas) in
    let one = option_copied c.one-one.result in
    let same : c.is_some.result ≡ is_some one = c.is_some.ensures ∙ copied_some c.one-one.result in
    rw same (scope_read names b (type_of c.in-Root.dtype) c.args.scope one _ _ is told (c.one-one.ensures names told) (copied_put _ _ c.one-one.result one refl c.in_ok-push-in-Root.ensures.items))

pub read-returns-in_ok-push-in-Scalar : goal.read-returns-in_ok-push-in-Scalar
read-returns-in_ok-push-in-Scalar t c = λ names told.
    let b = bound_of c.args.e.now in
    let bs = bounds_of c.as_slice-children.result.now in
    let name = c.in-Some.name in
    let is : b ≡ node (type_of c.in-Scalar.dtype) (function_of c.in-Scalar.scalar_fn) bs = search (rules, the_lemmas) in
    let some : option_copied c.field_of_root.result ≡ Some name.now = search rules in
    item_read names b (type_of c.in-Scalar.dtype) (function_of c.in-Scalar.scalar_fn) bs name _ _ is (c.field_of_root.ensures (type_of c.in-Scalar.dtype) names ∙ ap name_list some) (copied_put _ _ (Some name) (Some name.now) refl c.in_ok-push-in-Scalar.ensures.items)

pub read_below-loop-child-preserved : goal.read_below-loop-child-preserved
read_below-loop-child-preserved t c = λ names told.
    let l = c.loop-child in
    let es = c.args.children.now in
    goes_on names (bounds_of es) es l.child-index c.child-item.result l.reads c.in_ok-next.next.reads c.and-reads.result l.is_covered c.in_ok-next.next.is_covered (map option_copied c.args.met.now.items) (map option_copied l.met.items) (map option_copied c.read.new.met.items)
    (omega arith) c.child-item.is c.and-reads.ensures (c.in_ok-next.ensures names told) (l.invariant names told)

pub read_below-returns-in-One : goal.read_below-returns-in-One
read_below-returns-in-One t c = λ names told.
    let l = c.loop-child in
    let es = c.args.children.now in
    let name = c.in-One.name in
    let is : l.reads ≡ One name = search rules in
    let old = map option_copied c.args.met.now.items in
    let so = l.invariant names told in
    let met = all_met names (bounds_of es) es l.child-index l.reads l.is_covered old (map option_copied l.met.items) (omega arith) so in
    let here : c.len-here.result ≡ length c.args.met.now.items = search rules in
    let back = cut_back c.args.met.now.items l.met.items c.truncate.new.self.items c.len-here.result _ met here c.truncate.ensures.items in
    one_below names (bounds_of es) es l.child-index l.reads l.is_covered old (map option_copied l.met.items) (omega arith) so name (map option_copied c.truncate.new.self.items) _ is back (copied_put _ _ (Some name) (Some name.now) refl c.in_ok-push-2.ensures.items)

pub read_below-returns : goal.read_below-returns
read_below-returns t c = λ names told.
    let l = c.loop-child in
    let es = c.args.children.now in
    not_one_below names (bounds_of es) es l.child-index l.reads l.is_covered (map option_copied c.args.met.now.items) (map option_copied l.met.items) (omega arith) (l.invariant names told) (λ a is. search (rules, is))
