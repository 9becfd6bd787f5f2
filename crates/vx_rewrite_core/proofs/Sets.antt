-- Laws of rule sets, alone and two together.
use Rattle.std.proofs.Common.{◌≡◌, inl, inr, ℕ, refl, sym, subst}
use Rattle.std.specs.Prelude.{Option}
use Rattle.vx_tree.specs.Trees.{BoundTree, scope, node, BoundTrees, no_bound, bound, WellTyped}
use Rattle.vx_tree.specs.Nodes.{bound_children_of}
use Rattle.vx_rewrite_core.proofs.Stepping.{nothing_at_root, step_at_root}
use Rattle.vx_rewrite_core.specs.Lawful.{Lawful}
use Rattle.vx_rewrite_core.specs.Steps.{Steps, no_step, one_more, GivesNothing, Normal, EachNormal, NormalBelow}
use Rattle.vx_rewrite_core.specs.FromSubterms.{Inside, at_first, in_first, in_rest, IsLiteral, is_literal, EachFrom, from_none, from_inside, from_literal, FromSubterms}
use Rattle.vx_rewrite_core.specs.Sets.{either, Keeping, Lightening, Functional, DecidedBy, NormalFormIsOne}

-- ---- modest rules

module _ (R : BoundTree → BoundTree → Type 0) where
  each_below : (b : BoundTree) → NormalBelow R b → EachNormal R (bound_children_of b)
  each_below (scope t) n = tt
  each_below (node t f bs) n = n

  below_each : (b : BoundTree) → EachNormal R (bound_children_of b) → NormalBelow R b
  below_each (scope t) n = tt
  below_each (node t f bs) n = n

  inside-normal : {x : BoundTree} {xs : BoundTrees} → Inside x xs → EachNormal R xs → Normal R x
  inside-normal at_first n = n.0
  inside-normal (in_first i) n = inside-normal i n.0.1
  inside-normal (in_rest i) n = inside-normal i n.1

  literal-normal : {b : BoundTree} → ((b : BoundTree) → IsLiteral b → GivesNothing R b) → IsLiteral b → Normal R b
  literal-normal never (is_literal {t = t} {u = u} {c = c}) = (never _ (is_literal {t = t} {u = u} {c = c}), tt)

  each_from-normal : {xs ys : BoundTrees} → ((b : BoundTree) → IsLiteral b → GivesNothing R b) → EachFrom xs ys → EachNormal R xs → EachNormal R ys
  each_from-normal never from_none n = tt
  each_from-normal never (from_inside i k) n = (inside-normal i n, each_from-normal never k n)
  each_from-normal never (from_literal i k) n = (literal-normal never i, each_from-normal never k n)

  -- they leave what is normal below the root normal
  pub modest_stays_normal : FromSubterms R → (b u : BoundTree) → R b u → NormalBelow R b → NormalBelow R u
  modest_stays_normal m b u r n = below_each u (each_from-normal m.at_literals (m.from b u r) (each_below b n))

  -- so such rules that keep and lighten are lawful
  pub modest_lawful : FromSubterms R → Keeping R → Lightening R → Lawful R
  modest_lawful m keeps lighter = record { keeps = keeps; lighter = lighter; normal = λ b u w r n. modest_stays_normal m b u r n }

-- ---- rules that are decided by a function

pub decided_functional : (R : BoundTree → BoundTree → Type 0) (given : BoundTree → Option BoundTree) → DecidedBy R given → Functional R
decided_functional R given decided b u v w r s = let e = (decided b u w).0 r in let f = (decided b v w).0 s in cc

-- ---- one normal form

module _ (R : BoundTree → BoundTree → Type 0) (law : Lawful R) (functional : Functional R) where
  -- two rows of steps to where nothing is given end alike
  one_end : {b u v : BoundTree} {n m : ℕ} → WellTyped b → NormalBelow R b → Steps R b n u → Steps R b m v → GivesNothing R u → GivesNothing R v → u ≡ v
  one_end w k no_step no_step g h = refl
  one_end w k no_step (one_more {u = d} s q) g h = absurd (g d (step_at_root R s k))
  one_end w k (one_more {u = c} s q) no_step g h = absurd (h c (step_at_root R s k))
  one_end {v = v} w k (one_more {b = b} {u = c} s q) (one_more {u = d} {n = m} s' q') g h =
      let r = step_at_root R s k in
      let e : c ≡ d = functional b c d w r (step_at_root R s' k) in
      one_end (law.keeps b c w r).typed_after (law.normal b c w r k) q (subst (λ x. Steps R x m v) (sym e) q') g h

  pub one_normal_form : NormalFormIsOne R
  one_normal_form b u v n m w k s g t h = one_end w k s t (nothing_at_root R u g) (nothing_at_root R v h)

-- ---- two sets

module _ (R S : BoundTree → BoundTree → Type 0) where
  mutual
    -- what is normal under both is normal under the first
    pub either_normal : (b : BoundTree) → Normal (either R S) b → Normal R b
    either_normal (scope t) n = λ u r. n u (inl r)
    either_normal (node t f bs) n = (λ u r. n.0 u (inl r), each_either_normal bs n.1)

    each_either_normal : (bs : BoundTrees) → EachNormal (either R S) bs → EachNormal R bs
    each_either_normal no_bound n = tt
    each_either_normal (bound b bs) n = (either_normal b n.0, each_either_normal bs n.1)

  -- two functional sets, of which one at most gives something at a node, make a functional one
  pub either_functional : Functional R → Functional S → ((b u v : BoundTree) → R b u → S b v → ⊥) → Functional (either R S)
  either_functional f g apart b u v w (inl r) (inl s) = f b u v w r s
  either_functional f g apart b u v w (inl r) (inr s) = absurd (apart b u v r s)
  either_functional f g apart b u v w (inr r) (inl s) = absurd (apart b v u s r)
  either_functional f g apart b u v w (inr r) (inr s) = g b u v w r s

module _ (R S : BoundTree → BoundTree → Type 0) (r : FromSubterms R) (s : FromSubterms S) where
  either_from : (b u : BoundTree) → either R S b u → EachFrom (bound_children_of b) (bound_children_of u)
  either_from b u (inl h) = r.from b u h
  either_from b u (inr h) = s.from b u h

  either_at_literals : (b : BoundTree) → IsLiteral b → GivesNothing (either R S) b
  either_at_literals b l u (inl h) = r.at_literals b l u h
  either_at_literals b l u (inr h) = s.at_literals b l u h

  -- two modest sets make a modest one
  pub either_modest : FromSubterms (either R S)
  either_modest = record { from = either_from; at_literals = either_at_literals }

  -- and two lawful ones that are modest make a lawful one
  pub either_lawful : Lawful R → Lawful S → Lawful (either R S)
  either_lawful h k =
      modest_lawful (either R S) either_modest
      (λ b u w e. elim e [ inl x ↦ h.keeps b u w x | inr x ↦ k.keeps b u w x ])
      (λ b u w e. elim e [ inl x ↦ h.lighter b u w x | inr x ↦ k.lighter b u w x ])
