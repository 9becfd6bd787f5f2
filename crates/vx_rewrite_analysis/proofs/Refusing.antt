-- The first refusal that is met, child by child.
use Rattle.std.proofs.Common.{◌≡◌, ◌<◌, arith, List, [], ◌∷◌, length, Bool, refl, sym, ap, inl, inr, ◌∙◌}
use Rattle.std.specs.Prelude.{◌⊎◌, Option, None, Some, Result, Ok, Err, IsOkAnd, if◌then◌else◌}
use Rattle.std.specs.Cmp.{IsEquivalence}
use Rattle.std.specs.Option.{option_or}
use Rattle.vx_dtype.specs.declared.error.VortexError.{VortexError}
use Rattle.vx_dtype.specs.declared.error.VortexError.TheVariants.{OutOfMemory}
use Rattle.vx_tree.specs.Nodes.{bound_children_of}
use Rattle.vx_tree.specs.Trees.{BoundTree, scope, node, BoundTrees, no_bound, bound}
use Rattle.vx_rewrite_analysis.specs.Annotations.{is_some_item, SameAnnotations}
use Rattle.vx_rewrite_analysis.specs.Refusals.{refusal_or, first_refusal, first_refusal_in}
use Rattle.vx_rewrite_analysis.proofs.Annotating.{items-alike, some_item, no_item}

module _ {A : Type 0} where
  -- a node with the same answers as some refuses nothing
  answers-refusal : (eq : A → A → Bool) → IsEquivalence eq → (own : List A) (r : Result (List A) VortexError) (below : Option VortexError)
      → IsOkAnd r (SameAnnotations eq own) → 0 < length own → refusal_or r below ≡ None
  answers-refusal eq q own (Err y) below same some = absurd same
  answers-refusal eq q own (Ok []) below same some = cc (items-alike eq q own [] same, some_item own some)
  answers-refusal eq q own (Ok (a ∷ rest)) below same some = refl

  -- a node with the same answers as none refuses what is refused below it
  none-refusal : (eq : A → A → Bool) → IsEquivalence eq → (own : List A) (r : Result (List A) VortexError) (below : Option VortexError)
      → IsOkAnd r (SameAnnotations eq own) → length own ≡ 0 → refusal_or r below ≡ below
  none-refusal eq q own (Err y) below same none = absurd same
  none-refusal eq q own (Ok []) below same none = refl
  none-refusal eq q own (Ok (a ∷ rest)) below same none = cc (items-alike eq q own (a ∷ rest) same, no_item own none)

  module _ (said : BoundTree → Result (List A) VortexError) where
    pub first_refusal-children : (b : BoundTree) → first_refusal said b ≡ refusal_or (said b) (first_refusal_in said (bound_children_of b))
    first_refusal-children (scope t) = refl
    first_refusal-children (node t f bs) = refl

    -- a node with answers
    pub unrefused-here : (eq : A → A → Bool) → IsEquivalence eq → (b : BoundTree) (own : List A) → IsOkAnd (said b) (SameAnnotations eq own) → 0 < length own
        → first_refusal said b ≡ None
    unrefused-here eq q b own same some = first_refusal-children b ∙ answers-refusal eq q own (said b) _ same some

    -- a node refuses first what its children do, or nothing, if it has answers
    pub refusal-split : (eq : A → A → Bool) → IsEquivalence eq → (b : BoundTree) (own : List A) (bs : BoundTrees) → IsOkAnd (said b) (SameAnnotations eq own) → bs ≡ bound_children_of b
        → first_refusal said b ≡ (if is_some_item own then None else first_refusal_in said bs)
    refusal-split eq q b [] bs same children = first_refusal-children b ∙ none-refusal eq q [] (said b) _ same refl ∙ sym (ap (first_refusal_in said) children)
    refusal-split eq q b (a ∷ rest) bs same children = unrefused-here eq q b (a ∷ rest) same (omega arith)

    -- a node that refuses itself
    pub refused-here : (b : BoundTree) (y : VortexError) → (y ≡ OutOfMemory) ⊎ (said b ≡ Err y) → (y ≡ OutOfMemory) ⊎ (first_refusal said b ≡ Some y)
    refused-here b y (inl spent) = inl spent
    refused-here b y (inr is) = inr (first_refusal-children b ∙ ap (λ r. refusal_or r (first_refusal_in said (bound_children_of b))) is)

    -- the same at a tree that is equal to it
    pub refused-as : (b c : BoundTree) (y : VortexError) → b ≡ c → (y ≡ OutOfMemory) ⊎ (said b ≡ Err y) → (y ≡ OutOfMemory) ⊎ (first_refusal said c ≡ Some y)
    refused-as b c y same (inl spent) = inl spent
    refused-as b c y same (inr is) = refused-here c y (inr (sym (ap said same) ∙ is))

    -- one more child refuses nothing
    pub refusal-next : (left rest : BoundTrees) (b : BoundTree) (all : Option VortexError) → left ≡ bound b rest
        → first_refusal said b ≡ None → first_refusal_in said left ≡ all → first_refusal_in said rest ≡ all
    refusal-next left rest b all next none so_far =
        sym (ap (λ o. option_or o (first_refusal_in said rest)) none) ∙ sym (ap (first_refusal_in said) next) ∙ so_far

    module _ (eq : A → A → Bool) (q : IsEquivalence eq) (b : BoundTree) (own : List A) (bs left : BoundTrees) where
      -- a node without answers refuses first what its children do
      refusal-below : IsOkAnd (said b) (SameAnnotations eq own) → length own ≡ 0 → bs ≡ bound_children_of b → first_refusal said b ≡ first_refusal_in said bs
      refusal-below same none e =
          first_refusal-children b ∙ none-refusal eq q own (said b) _ same none ∙ sym (ap (first_refusal_in said) e)

      -- a node without answers, where the children up to one that refuses don't
      pub refused-below : (rest : BoundTrees) (c : BoundTree) (y : VortexError) → IsOkAnd (said b) (SameAnnotations eq own) → length own ≡ 0 → bs ≡ bound_children_of b
          → left ≡ bound c rest → first_refusal_in said left ≡ first_refusal_in said bs
          → (y ≡ OutOfMemory) ⊎ (first_refusal said c ≡ Some y) → (y ≡ OutOfMemory) ⊎ (first_refusal said b ≡ Some y)
      refused-below rest c y same none e next so_far (inl spent) = inl spent
      refused-below rest c y same none e next so_far (inr here) =
          inr (refusal-below same none e ∙ sym so_far ∙ ap (first_refusal_in said) next ∙ ap (λ o. option_or o (first_refusal_in said rest)) here)

      -- a node without answers, where no child refuses
      pub unrefused-below : IsOkAnd (said b) (SameAnnotations eq own) → length own ≡ 0 → bs ≡ bound_children_of b
          → left ≡ no_bound → first_refusal_in said left ≡ first_refusal_in said bs → first_refusal said b ≡ None
      unrefused-below same none e end so_far = refusal-below same none e ∙ sym so_far ∙ ap (first_refusal_in said) end
