-- A match with the pattern of a beginning is kept by a test of that.
use Rattle.std.proofs.Common.{◌≡◌, ℕ, List, refl, sym, ap, subst, Some, false}
use Rattle.vx_eval_like.proofs.Beginning.{like_is}
use Rattle.vx_eval_like.specs.Beginnings.{beginning_of}
use Rattle.vx_fn.specs.Functions.{literal, like}
use Rattle.vx_fn.specs.Values.{liked, begun}
use Rattle.vx_tree.specs.Meaning.{value}
use Rattle.vx_tree.specs.Trees.{BoundTree, node, BoundTrees, WellTyped}
use Rattle.vx_value.specs.Fits.{Fits}
use Rattle.vx_value.specs.Types.{text, LogicalType, ty, atomic, Datum, bool, utf8}
use Rattle.vx_rewrite_core.specs.Keeps.{Keeps}
use Rattle.vx_rewrite_core.specs.Nodes.{one_bound, two_bounds, literal_node}
use Rattle.vx_rewrite_core.proofs.Prelude.{narrower_refl, literal_shape, first_quiet, children_quiet}
use Rattle.vx_rewrite_rule_laws.specs.Folding.{begins_so}

-- where a text is one of the type, so is each other one
other_text : (p q : List ℕ) (u : LogicalType) → Fits (utf8 p) u → Fits (utf8 q) u
other_text p q (ty (atomic text) n) e = refl
other_text p q _ e = cc

same_answer : (v : Datum) (p q : List ℕ) → beginning_of p ≡ Some q → begun v (utf8 q) ≡ liked false false v (utf8 p)
same_answer (utf8 t) p q e = ap bool (sym (like_is t p q e))
same_answer _ p q e = refl

pub keeps_begun : (t u v : LogicalType) (x : BoundTree) (xs : BoundTrees) (p q : List ℕ) → WellTyped (node t (like false false) (two_bounds x (node u (literal v (utf8 p)) xs))) → beginning_of p ≡ Some q → Keeps (node t (like false false) (two_bounds x (node u (literal v (utf8 p)) xs))) (begins_so t x u q)
keeps_begun t u v x xs p q w e =
    let own : WellTyped (literal_node u (utf8 p)) = subst WellTyped (literal_shape u v (utf8 p) xs w.2.1.0) w.2.1.0 in
    record {
      typed_before = w;
      typed_after = (w.0, tt, (w.2.0, ((refl, other_text p q u own.1, tt), tt)));
      scopes = λ s o. (o.0, (tt, tt));
      type = narrower_refl t;
      no_fault = λ s batch o i n. let h = first_quiet x (one_bound (node u (literal v (utf8 p)) xs)) batch (children_quiet t (like false false) (two_bounds x (node u (literal v (utf8 p)) xs)) batch n) in rw h refl;
      meaning = λ s batch o i n d j. same_answer (value x d) p q e;
    }
