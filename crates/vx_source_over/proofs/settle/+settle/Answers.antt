use Rattle.std.proofs.Common.{◌≡◌, ◌∙◌, Ok, Err, ap, sym, subst, arith, rules, true, false, ◌&&◌}
use Rattle.std.proofs.lemmas.Grind.{common_steps}
use Rattle.std.specs.Prelude.{None, option_map}
use Rattle.vx_fn.specs.Views.{function_of}
use Rattle.vx_value.specs.Views.{type_of}
use Rattle.vx_tree.specs.Views.{tree_of, trees_of}
use Rattle.vx_tree.proofs.Seen.{item_smaller}
use Rattle.vx_source_over.specs.Peers.{is_peer, has_type_of_peers, open_scalar, child_at, is_open}
use Rattle.vx_source_over.specs.Reading.{Settles, Refuses}
use Rattle.vx_source_over.specs.Settling.{unless, settled, owned, rest}
use Rattle.vx_source_over.specs.Views.{AreTyped, EachTyped, none_of, other_of, own_trees, said_of, settled_tree, settled_trees, wish_of}
use Rattle.vx_source_over.proofs.Settles.{seen_call, none_there, peer_refused, node_waits, rest_is_refused, node_refused, node_settled, peer_said, other_said, own_next, own_stops, own_end, typed_push, one_typed, lent_wish, rest_next, rest_stops, rest_end, child_said, said_first, said_then, typed_first, typed_behind, each_typed_push}
use Rattle.vx_source_over.proofs.settle.+settle.Goals as goal

pub own-returns-in_err-own-clause-tree : goal.own-returns-in_err-own-clause-tree
own-returns-in_err-own-clause-tree t c =
    let s = type_of c.args.over.scope.now in
    let e = tree_of c.args.e.now in
    let d = other_of c.args.beside in
    let f = function_of c.in-Scalar.scalar_fn in
    let es = trees_of c.as_slice.result.now in
    let r = c.in_err-own.field-0.0 in
    let seen = seen_call _ _ _ c.as_slice.result.now c.in-Scalar.is (c.as_slice.ensures.value ∙ ap (λ v. v.items) c.deref.ensures) in
    let bare = none_there (open_scalar f d) (sym c.is_untyped.ensures ∙ c.if-is_untyped.false) in
    let is : c.from_residual-in_err-own.result ≡ Err r = search rules in
    subst (λ x. Settles (option_map settled_tree) x (unless (is_open e d) (settled s e d))) (sym is) (peer_refused s f es d e seen r bare c.in_err-own.ensures.trees)

pub own-returns-then-all_wait-clause-tree : goal.own-returns-then-all_wait-clause-tree
own-returns-then-all_wait-clause-tree t c =
    let s = type_of c.args.over.scope.now in
    let e = tree_of c.args.e.now in
    let d = other_of c.args.beside in
    let f = function_of c.in-Scalar.scalar_fn in
    let es = trees_of c.as_slice.result.now in
    let seen = seen_call _ _ _ c.as_slice.result.now c.in-Scalar.is (c.as_slice.ensures.value ∙ ap (λ v. v.items) c.deref.ensures) in
    let bare = none_there (open_scalar f d) (sym c.is_untyped.ensures ∙ c.if-is_untyped.false) in
    let below = c.in_ok-own.own.items in
    let tested = ap (λ xs. has_type_of_peers f && none_of (own_trees xs)) c.as_slice-2.ensures.value in
    node_waits s f es d e seen (own_trees below) bare c.in_ok-own.ensures.trees (sym tested ∙ sym c.all_wait.ensures ∙ c.if-all_wait.true)

pub own-returns-in_err-below-clause-tree : goal.own-returns-in_err-below-clause-tree
own-returns-in_err-below-clause-tree t c =
    let s = type_of c.args.over.scope.now in
    let e = tree_of c.args.e.now in
    let d = other_of c.args.beside in
    let f = function_of c.in-Scalar.scalar_fn in
    let es = trees_of c.as_slice.result.now in
    let seen = seen_call _ _ _ c.as_slice.result.now c.in-Scalar.is (c.as_slice.ensures.value ∙ ap (λ v. v.items) c.deref.ensures) in
    let bare = none_there (open_scalar f d) (sym c.is_untyped.ensures ∙ c.if-is_untyped.false) in
    let below = c.in_ok-own.own.items in
    let tested = ap (λ xs. has_type_of_peers f && none_of (own_trees xs)) c.as_slice-2.ensures.value in
    let same : c.as_slice-3.result.now ≡ c.as_slice.result.now = (c.as_slice-3.ensures.value ∙ ap (λ v. v.items) c.deref-2.ensures) ∙ sym (c.as_slice.ensures.value ∙ ap (λ v. v.items) c.deref.ensures) in
    let w = option_map type_of c.in_ok-begun.begun.wish in
    let begun : own_trees c.in_ok-begun.begun.own.items ≡ own_trees below = ap (λ v. own_trees v.items) c.in_ok-begun.ensures.own in
    let waits_not = sym tested ∙ sym c.all_wait.ensures ∙ c.if-all_wait.false in
    let r = c.in_err-below.field-0.0 in
    let is : c.from_residual-in_err-below.result ≡ Err r = search rules in
    let refused = subst (λ o. Refuses r (rest s w f 0 es d o)) begun (subst (λ xs. Refuses r (rest s w f 0 (trees_of xs) d (own_trees c.in_ok-begun.begun.own.items))) same c.in_err-below.ensures.trees) in
    subst (λ x. Settles (option_map settled_tree) x (unless (is_open e d) (settled s e d))) (sym is)
    (rest_is_refused s f es d e seen (own_trees below) w r bare c.in_ok-own.ensures.trees waits_not (c.in_ok-begun.ensures.wish s c.in_ok-own.ensures.typed) refused)

pub own-returns-in_err-node_with-clause-tree : goal.own-returns-in_err-node_with-clause-tree
own-returns-in_err-node_with-clause-tree t c =
    let s = type_of c.args.over.scope.now in
    let e = tree_of c.args.e.now in
    let d = other_of c.args.beside in
    let f = function_of c.in-Scalar.scalar_fn in
    let es = trees_of c.as_slice.result.now in
    let seen = seen_call _ _ _ c.as_slice.result.now c.in-Scalar.is (c.as_slice.ensures.value ∙ ap (λ v. v.items) c.deref.ensures) in
    let bare = none_there (open_scalar f d) (sym c.is_untyped.ensures ∙ c.if-is_untyped.false) in
    let below = c.in_ok-own.own.items in
    let tested = ap (λ xs. has_type_of_peers f && none_of (own_trees xs)) c.as_slice-2.ensures.value in
    let same : c.as_slice-3.result.now ≡ c.as_slice.result.now = (c.as_slice-3.ensures.value ∙ ap (λ v. v.items) c.deref-2.ensures) ∙ sym (c.as_slice.ensures.value ∙ ap (λ v. v.items) c.deref.ensures) in
    let w = option_map type_of c.in_ok-begun.begun.wish in
    let begun : own_trees c.in_ok-begun.begun.own.items ≡ own_trees below = ap (λ v. own_trees v.items) c.in_ok-begun.ensures.own in
    let waits_not = sym tested ∙ sym c.all_wait.ensures ∙ c.if-all_wait.false in
    let ts = settled_trees c.in_ok-below.below.items in
    let all = subst (λ o. rest s w f 0 es d o ≡ Ok ts) begun (subst (λ xs. rest s w f 0 (trees_of xs) d (own_trees c.in_ok-begun.begun.own.items) ≡ Ok ts) same c.in_ok-below.ensures.trees) in
    let r = c.in_err-node_with.field-0.0 in
    let is : c.from_residual-in_err-node_with.result ≡ Err r = search rules in
    subst (λ x. Settles (option_map settled_tree) x (unless (is_open e d) (settled s e d))) (sym is)
    (node_refused s f es d e seen (own_trees below) w ts r bare c.in_ok-own.ensures.trees waits_not (c.in_ok-begun.ensures.wish s c.in_ok-own.ensures.typed) all c.in_err-node_with.ensures.tree)

pub own-returns-clause-tree : goal.own-returns-clause-tree
own-returns-clause-tree t c =
    let s = type_of c.args.over.scope.now in
    let e = tree_of c.args.e.now in
    let d = other_of c.args.beside in
    let f = function_of c.in-Scalar.scalar_fn in
    let es = trees_of c.as_slice.result.now in
    let seen = seen_call _ _ _ c.as_slice.result.now c.in-Scalar.is (c.as_slice.ensures.value ∙ ap (λ v. v.items) c.deref.ensures) in
    let bare = none_there (open_scalar f d) (sym c.is_untyped.ensures ∙ c.if-is_untyped.false) in
    let below = c.in_ok-own.own.items in
    let tested = ap (λ xs. has_type_of_peers f && none_of (own_trees xs)) c.as_slice-2.ensures.value in
    let same : c.as_slice-3.result.now ≡ c.as_slice.result.now = (c.as_slice-3.ensures.value ∙ ap (λ v. v.items) c.deref-2.ensures) ∙ sym (c.as_slice.ensures.value ∙ ap (λ v. v.items) c.deref.ensures) in
    let w = option_map type_of c.in_ok-begun.begun.wish in
    let begun : own_trees c.in_ok-begun.begun.own.items ≡ own_trees below = ap (λ v. own_trees v.items) c.in_ok-begun.ensures.own in
    let waits_not = sym tested ∙ sym c.all_wait.ensures ∙ c.if-all_wait.false in
    let ts = settled_trees c.in_ok-below.below.items in
    let all = subst (λ o. rest s w f 0 es d o ≡ Ok ts) begun (subst (λ xs. rest s w f 0 (trees_of xs) d (own_trees c.in_ok-begun.begun.own.items) ≡ Ok ts) same c.in_ok-below.ensures.trees) in
    node_settled s f es d e seen (own_trees below) w ts (settled_tree c.in_ok-node_with.field-0) bare c.in_ok-own.ensures.trees waits_not (c.in_ok-begun.ensures.wish s c.in_ok-own.ensures.typed) all c.in_ok-node_with.ensures.tree

pub own_all-own-requires : goal.own_all-own-requires
own_all-own-requires t c =
    let below = item_smaller tree_of c.args.es.now c.loop-i.i c.index-es-i.result (omega arith) c.index-es-i.is in
    (omega (arith, below, c.decreases), tt)

pub own_all-returns-in_err-own-clause-trees : goal.own_all-returns-in_err-own-clause-trees
own_all-returns-in_err-own-clause-trees t c =
    let s = type_of c.args.over.scope.now in
    let f = function_of c.args.scalar_fn.now in
    let d = other_of c.args.beside in
    let es = c.args.es.now in
    let i = c.loop-i.i in
    let e = c.index-es-i.result in
    let r = c.in_err-own.field-0.0 in
    let peer : is_peer f i ≡ true = grind (arith, common_steps) in
    let said = peer_said s f i (tree_of e) d (other_of c.beside_child.result) peer c.beside_child.ensures in
    let is : c.from_residual-in_err-own.result ≡ Err r = search rules in
    subst (λ x. Settles (λ all. own_trees all.items) x (owned s f 0 (trees_of es) d)) (sym is)
    (own_stops s f d es c.loop-i.all.items i e r _ (omega arith) c.index-es-i.is (subst (Refuses r) (sym said) c.in_err-own.ensures.tree) c.loop-i.invariant.trees)

pub own_all-loop-i-preserved : goal.own_all-loop-i-preserved
own_all-loop-i-preserved t c =
    let s = type_of c.args.over.scope.now in
    let f = function_of c.args.scalar_fn.now in
    let d = other_of c.args.beside in
    let es = c.args.es.now in
    let i = c.loop-i.i in
    let e = c.index-es-i.result in
    let x = c.in_ok-own.field-0 in
    let peer : is_peer f i ≡ true = grind (arith, common_steps) in
    let said = peer_said s f i (tree_of e) d (other_of c.beside_child.result) peer c.beside_child.ensures in
    let pushed = c.in_ok-push-2.ensures.items in
    record {
      trees = own_next s f d es c.loop-i.all.items c.push-in-loop-i.new.self.items i e x _ (omega arith) c.index-es-i.is pushed (said ∙ c.in_ok-own.ensures.tree) c.loop-i.invariant.trees;
      typed = subst (AreTyped s) (sym pushed) (typed_push s c.loop-i.all.items x c.loop-i.invariant.typed (one_typed s x c.in_ok-own.ensures.typed));
    }

pub own_all-loop-i-preserved-then-not-is_peer : goal.own_all-loop-i-preserved-then-not-is_peer
own_all-loop-i-preserved-then-not-is_peer t c =
    let s = type_of c.args.over.scope.now in
    let f = function_of c.args.scalar_fn.now in
    let d = other_of c.args.beside in
    let es = c.args.es.now in
    let i = c.loop-i.i in
    let e = c.index-es-i.result in
    let other : is_peer f i ≡ false = grind (arith, common_steps) in
    let pushed = c.in_ok-push.ensures.items in
    record {
      trees = own_next s f d es c.loop-i.all.items c.push.new.self.items i e None _ (omega arith) c.index-es-i.is pushed (other_said s f i (tree_of e) d other) c.loop-i.invariant.trees;
      typed = subst (AreTyped s) (sym pushed) (typed_push s c.loop-i.all.items None c.loop-i.invariant.typed tt);
    }

pub own_all-returns-clause-trees : goal.own_all-returns-clause-trees
own_all-returns-clause-trees t c = own_end (type_of c.args.over.scope.now) (function_of c.args.scalar_fn.now) (other_of c.args.beside) c.args.es.now c.loop-i.all.items c.loop-i.i _ (omega arith) c.loop-i.invariant.trees

pub rest-settle-requires : goal.rest-settle-requires
rest-settle-requires t c =
    let below = item_smaller tree_of c.args.es.now c.loop-i.i c.index-es-i.result (omega arith) c.index-es-i.is in
    (omega (arith, below, c.decreases), tt)

pub rest-returns-in_err-settle-clause-trees : goal.rest-returns-in_err-settle-clause-trees
rest-returns-in_err-settle-clause-trees t c =
    let s = type_of c.args.over.scope.now in
    let f = function_of c.args.scalar_fn.now in
    let d = other_of c.args.beside in
    let es = c.args.es.now in
    let i = c.loop-i.i in
    let e = c.index-es-i.result in
    let w = option_map type_of c.args.begun.wish in
    let own = c.loop-i.own.rest.items in
    let wish = lent_wish c.as_ref.result _ c.args.begun.wish c.as_ref.ensures.value c.loop-i.invariant.wish in
    let said = said_then own (said_of s (is_peer f i) w (tree_of e) (child_at d i)) c.in_default.ensures.first
    ∙ sym (child_said s w (wish_of c.as_ref.result) f i c.is_peer-peer.result (tree_of e) d (other_of c.beside_child-child.result) c.is_peer-peer.ensures c.beside_child-child.ensures wish) in
    let r = c.in_err-settle.field-0.0 in
    let is : c.from_residual-in_err-settle.result ≡ Err r = search rules in
    subst (λ x. Settles (λ all. settled_trees all.items) x (rest s w f 0 (trees_of es) d (own_trees c.args.begun.own.items))) (sym is)
    (rest_stops s w f d es c.loop-i.all.items i e own r _ (omega arith) c.index-es-i.is (subst (Refuses r) (sym said) c.in_err-settle.ensures.tree) c.loop-i.invariant.trees)

pub rest-loop-i-preserved : goal.rest-loop-i-preserved
rest-loop-i-preserved t c =
    let s = type_of c.args.over.scope.now in
    let f = function_of c.args.scalar_fn.now in
    let d = other_of c.args.beside in
    let es = c.args.es.now in
    let i = c.loop-i.i in
    let e = c.index-es-i.result in
    let w = option_map type_of c.args.begun.wish in
    let own = c.loop-i.own.rest.items in
    let wish = lent_wish c.as_ref.result _ c.args.begun.wish c.as_ref.ensures.value c.loop-i.invariant.wish in
    let said = said_then own (said_of s (is_peer f i) w (tree_of e) (child_at d i)) c.in_default.ensures.first
    ∙ sym (child_said s w (wish_of c.as_ref.result) f i c.is_peer-peer.result (tree_of e) d (other_of c.beside_child-child.result) c.is_peer-peer.ensures c.beside_child-child.ensures wish) in
    let x = c.in_ok-settle.field-0 in
    let pushed = c.in_ok-push-2.ensures.items in
    record {
      trees = rest_next s w f d es c.loop-i.all.items c.push-in-loop-i.new.self.items i e own c.next_own.new.own.rest.items x _ (omega arith) c.index-es-i.is c.in_default.ensures.rest pushed (said ∙ c.in_ok-settle.ensures.tree) c.loop-i.invariant.trees;
      wish = c.loop-i.invariant.wish;
      typed = λ h. let so_far = c.loop-i.invariant.typed h in
          (subst (AreTyped s) (sym c.in_default.ensures.rest) (typed_behind s own so_far.0), subst (EachTyped s) (sym pushed) (each_typed_push s c.loop-i.all.items x so_far.1 c.in_ok-settle.ensures.typed));
    }

pub rest-loop-i-preserved-in-Some : goal.rest-loop-i-preserved-in-Some
rest-loop-i-preserved-in-Some t c =
    let s = type_of c.args.over.scope.now in
    let f = function_of c.args.scalar_fn.now in
    let d = other_of c.args.beside in
    let es = c.args.es.now in
    let i = c.loop-i.i in
    let e = c.index-es-i.result in
    let w = option_map type_of c.args.begun.wish in
    let own = c.loop-i.own.rest.items in
    let x = c.in-Some.settled in
    let said = said_first own x (said_of s (is_peer f i) w (tree_of e) (child_at d i)) c.in-Some.ensures.first in
    let pushed = c.in_ok-push.ensures.items in
    record {
      trees = rest_next s w f d es c.loop-i.all.items c.push.new.self.items i e own c.next_own.new.own.rest.items x _ (omega arith) c.index-es-i.is c.in-Some.ensures.rest pushed said c.loop-i.invariant.trees;
      wish = c.loop-i.invariant.wish;
      typed = λ h. let so_far = c.loop-i.invariant.typed h in
          (subst (AreTyped s) (sym c.in-Some.ensures.rest) (typed_behind s own so_far.0), subst (EachTyped s) (sym pushed) (each_typed_push s c.loop-i.all.items x so_far.1 (typed_first s own x so_far.0 c.in-Some.ensures.first)));
    }

pub rest-returns-clause-trees : goal.rest-returns-clause-trees
rest-returns-clause-trees t c = rest_end (type_of c.args.over.scope.now) (option_map type_of c.args.begun.wish) (function_of c.args.scalar_fn.now) (other_of c.args.beside) c.args.es.now c.loop-i.all.items c.loop-i.i c.loop-i.own.rest.items _ (omega arith) c.loop-i.invariant.trees
