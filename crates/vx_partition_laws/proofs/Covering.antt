-- Trees that are covered.
use Rattle.std.proofs.Common.{inl, inr, Bool}
use Rattle.std.specs.Prelude.{IsTrue}
use Rattle.vx_tree.specs.Trees.{BoundTree, scope, node, BoundTrees, no_bound, bound}
use Rattle.vx_rewrite_analysis.specs.Covers.{Covered, AreCovered}

-- what is covered by some pieces is by more
mutual
  pub covered_by_more : (p q : BoundTree → Bool) → ((c : BoundTree) → IsTrue (p c) → IsTrue (q c)) → (b : BoundTree) → Covered p b → Covered q b
  covered_by_more p q more (scope t) h = more (scope t) h
  covered_by_more p q more (node t f bs) h = elim h [
    | inl piece ↦ inl (more (node t f bs) piece)
    | inr each ↦ inr (each_covered_by_more p q more bs each)
  ]

  each_covered_by_more : (p q : BoundTree → Bool) → ((c : BoundTree) → IsTrue (p c) → IsTrue (q c)) → (bs : BoundTrees) → AreCovered p bs → AreCovered q bs
  each_covered_by_more p q more no_bound h = tt
  each_covered_by_more p q more (bound b bs) h = (covered_by_more p q more b h.0, each_covered_by_more p q more bs h.1)
