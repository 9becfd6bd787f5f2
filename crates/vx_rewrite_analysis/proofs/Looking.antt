-- A walk that keeps the numbers that it still has to look at, the next one first.
use Rattle.std.proofs.Common.{◌≡◌, ℕ, suc, ◌<◌, ◌+◌, get_or, arith, List, [], ◌∷◌, ◌++◌, length, reverse, Bool, true, false, ◌||◌, refl, sym, ap, subst, inl, inr, ◌∙◌, true≢false}
use Rattle.std.specs.Prelude.{◌⊎◌, All, Option, None, Some, is_some, not, ◌&&◌, Result, IsOkAnd, if◌then◌else◌}
use Rattle.std.specs.Cmp.{IsEquivalence}
use Rattle.std.specs.Option.{option_or}
use Rattle.std.proofs.Math.ListN.{set}
use Rattle.std.proofs.lemmas.List.{append_assoc, reverse-append}
use Rattle.std.proofs.lemmas.List.Elements.{All-append}
use Rattle.vx_dtype.specs.declared.error.VortexError.{VortexError}
use Rattle.vx_dtype.specs.declared.error.VortexError.TheVariants.{OutOfMemory}
use Rattle.vx_tree.specs.Equality.{equal_bound}
use Rattle.vx_tree.specs.Nodes.{sizes_of, bound_children_of}
use Rattle.vx_tree.specs.Trees.{BoundTree, unbound_each}
use Rattle.vx_rewrite_analysis.specs.Annotations.{is_some_item, SameAnnotations}
use Rattle.vx_rewrite_analysis.specs.ByNumber.{has_some}
use Rattle.vx_rewrite_analysis.specs.Numbers.{tree_at, trees_at}
use Rattle.vx_rewrite_analysis.specs.Reached.{is_reached, is_reached_in}
use Rattle.vx_rewrite_analysis.specs.Refusals.{first_refusal, first_refusal_in}
use Rattle.vx_rewrite_analysis.specs.declared.numbers.NumberedNode.{NumberedNode}
use Rattle.vx_rewrite_analysis.proofs.ByNumber.{has-none, has-set, some-set}
use Rattle.vx_rewrite_analysis.proofs.Refusing.{refusal-split}
use Rattle.vx_rewrite_analysis.proofs.Subtrees.{reached-children, or_assoc, or_false, sizes-below}

-- ---- what is left of the nodes below one that was looked at

-- of each number that has something, what is left below stands first, and is lower; of that R says something
abbrev pub IsLeft : {X : Type 0} → (BoundTree → List ℕ → Type 0) → List NumberedNode → List (Option X) → List ℕ → Type 0
IsLeft R ns xs waiting = (i : ℕ) → is_some (get_or xs i None) ≡ true → (left : List ℕ) × (after : List ℕ) × (waiting ≡ left ++ after) × All (λ k. k < i) left × R (tree_at ns i) left

same-first : {m n : ℕ} {ms ns : List ℕ} → m ∷ ms ≡ n ∷ ns → m ≡ n
same-first e = cc

same-rest : {m n : ℕ} {ms ns : List ℕ} → m ∷ ms ≡ n ∷ ns → ms ≡ ns
same-rest e = cc

pub all-none : (P : ℕ → Type 0) → All P []
all-none P j d h = absurd (omega (arith, h))

all-rest : (P : ℕ → Type 0) (k : ℕ) (ks : List ℕ) → All P (k ∷ ks) → All P ks
all-rest P k ks all j d h = all (suc j) d (omega (arith, h))

-- nothing is left below a number that is met again
pub left-again : {X : Type 0} (R : BoundTree → List ℕ → Type 0) (ns : List NumberedNode) (xs : List (Option X)) (n : ℕ) (rest : List ℕ) → IsLeft R ns xs (n ∷ rest) → is_some (get_or xs n None) ≡ true
    → R (tree_at ns n) []
left-again R ns xs n rest is there =
    let l = is n there in
    none l.0 l.1 l.2 l.3 l.4
  where
    none : (left after : List ℕ) → n ∷ rest ≡ left ++ after → All (λ k. k < n) left → R (tree_at ns n) left → R (tree_at ns n) []
    none [] after e low here = here
    none (k ∷ left) after e low here =
        let same : n ≡ k = same-first e in
        let lower : k < n = low 0 0 (omega arith) in
        absurd (omega (arith, same, lower))

-- the first number is replaced by lower ones
pub left-next : {X Y : Type 0} (R S : BoundTree → List ℕ → Type 0) (ns : List NumberedNode) (xs : List (Option X)) (ys : List (Option Y)) (n : ℕ) (below rest : List ℕ)
    → ((b : BoundTree) (left : List ℕ) → R b (n ∷ left) → S b (below ++ left)) → ((b : BoundTree) → R b [] → S b []) → S (tree_at ns n) below → All (λ k. k < n) below
    → ((i : ℕ) → is_some (get_or ys i None) ≡ true → (is_some (get_or xs i None) ≡ true) ⊎ (i ≡ n))
    → IsLeft R ns xs (n ∷ rest) → IsLeft S ns ys (below ++ rest)
left-next R S ns xs ys n below rest more done here low met is i there = elim (met i there) [
  | inl before ↦ let l = is i before in moved l.0 l.1 l.2 l.3 l.4
  | inr last ↦ (below, rest, refl, λ j d h. omega (arith, low j d h, last), subst (λ k. S (tree_at ns k) below) (sym last) here)
]
  where
    moved : (left after : List ℕ) → n ∷ rest ≡ left ++ after → All (λ k. k < i) left → R (tree_at ns i) left
        → (left : List ℕ) × (after : List ℕ) × (below ++ rest ≡ left ++ after) × All (λ k. k < i) left × S (tree_at ns i) left
    moved [] after e lower said = ([], below ++ rest, refl, all-none (λ k. k < i), done (tree_at ns i) said)
    moved (k ∷ left) after e lower said =
        let same : n ≡ k = same-first e in
        let first : k < i = lower 0 0 (omega arith) in (
          below ++ left,
          after,
          ap (λ ks. below ++ ks) (same-rest e) ∙ sym (append_assoc below left after),
          All-append (λ k. k < i) below left (λ j d h. omega (arith, low j d h, same, first)) (all-rest (λ k. k < i) k left lower),
          more (tree_at ns i) left (subst (λ m. R (tree_at ns i) (m ∷ left)) (sym same) said),
        )

-- ---- the nodes that are reached

-- what is reached from the tree has something, or is reached from those that are left
abbrev pub HasOrLeaves : {X : Type 0} → (BoundTree → Bool) → List NumberedNode → List (Option X) → BoundTree → List ℕ → Type 0
HasOrLeaves stops ns xs b left = (k : BoundTree) → is_reached stops k b ≡ true → (has_some k ns xs || is_reached_in stops k (trees_at ns left)) ≡ true

-- what is reached from the tree has something, or is reached from those that wait, and nothing else; and so it is of each that was looked at
abbrev pub IsReaching : {X : Type 0} → (BoundTree → Bool) → List NumberedNode → BoundTree → List (Option X) → List ℕ → Type 0
IsReaching stops ns b xs waiting = ((k : BoundTree) → (has_some k ns xs || is_reached_in stops k (trees_at ns waiting)) ≡ is_reached stops k b) × IsLeft (HasOrLeaves stops ns xs) ns xs waiting

module _ (stops : BoundTree → Bool) (ns : List NumberedNode) where
  reached-append : (k : BoundTree) (is js : List ℕ) → is_reached_in stops k (trees_at ns (is ++ js)) ≡ (is_reached_in stops k (trees_at ns is) || is_reached_in stops k (trees_at ns js))
  reached-append k [] js = refl
  reached-append k (i ∷ is) js = ap (λ r. is_reached stops k (tree_at ns i) || r) (reached-append k is js) ∙ sym (or_assoc (is_reached stops k (tree_at ns i)) _ _)

  module _ {X : Type 0} (root : BoundTree) (xs : List (Option X)) where
    -- at first the tree alone waits
    pub reaching-first : (n : ℕ) → tree_at ns n ≡ root → ((i : ℕ) → get_or xs i None ≡ None) → IsReaching stops ns root xs (n ∷ [])
    reaching-first n is none = (
      λ k. ap (λ h. h || (is_reached stops k (tree_at ns n) || false)) (has-none k ns xs none) ∙ or_false (is_reached stops k (tree_at ns n)) ∙ ap (is_reached stops k) is,
      λ i there. absurd (true≢false (sym there ∙ ap is_some (none i))),
    )

    -- at last none waits
    pub reaching-last : (waiting : List ℕ) → waiting ≡ [] → IsReaching stops ns root xs waiting → (k : BoundTree) → has_some k ns xs ≡ is_reached stops k root
    reaching-last waiting none is k = sym (or_false (has_some k ns xs)) ∙ sym (ap (λ w. has_some k ns xs || is_reached_in stops k (trees_at ns w)) none) ∙ is.0 k

    -- a number that is met again
    pub reaching-again : (n : ℕ) (rest : List ℕ) → is_some (get_or xs n None) ≡ true → IsReaching stops ns root xs (n ∷ rest) → IsReaching stops ns root xs rest
    reaching-again n rest there is =
        let again : HasOrLeaves stops ns xs (tree_at ns n) [] = left-again (HasOrLeaves stops ns xs) ns xs n rest is.1 there in
        let had : (k : BoundTree) → is_reached stops k (tree_at ns n) ≡ true → has_some k ns xs ≡ true = λ k r. sym (or_false (has_some k ns xs)) ∙ again k r in (
          λ k. sym (skip (has_some k ns xs) (is_reached stops k (tree_at ns n)) (is_reached_in stops k (trees_at ns rest)) (had k)) ∙ is.0 k,
          left-next (HasOrLeaves stops ns xs) (HasOrLeaves stops ns xs) ns xs xs n [] rest
              (λ b left said k r. sym (skip (has_some k ns xs) (is_reached stops k (tree_at ns n)) (is_reached_in stops k (trees_at ns left)) (had k)) ∙ said k r)
              (λ b said. said) again (all-none (λ k. k < n)) (λ i h. inl h) is.1,
        )
      where
        skip : (h r w : Bool) → (r ≡ true → h ≡ true) → (h || (r || w)) ≡ (h || w)
        skip true r w f = refl
        skip false true w f = cc (f refl)
        skip false false w f = refl

    -- a number that is looked at: lower ones are left of it
    pub reaching-next : (n : ℕ) (x : X) (below rest : List ℕ) → n < length ns → length xs ≡ length ns → All (λ k. k < n) below
        → ((k : BoundTree) → is_reached stops k (tree_at ns n) ≡ (equal_bound k (tree_at ns n) || is_reached_in stops k (trees_at ns below)))
        → IsReaching stops ns root xs (n ∷ rest) → IsReaching stops ns root (set xs n (Some x)) (below ++ rest)
    reaching-next n x below rest within count low split is = (
      λ k. moved k rest ∙ is.0 k,
      left-next (HasOrLeaves stops ns xs) (HasOrLeaves stops ns (set xs n (Some x))) ns xs (set xs n (Some x)) n below rest
          (λ b left said k r. moved k left ∙ said k r)
          (λ b said k r. ap (λ h. h || false) (has-set k ns xs n x within count) ∙ later (equal_bound k (tree_at ns n)) (has_some k ns xs) (said k r))
          (λ k r. ap (λ h. h || is_reached_in stops k (trees_at ns below)) (has-set k ns xs n x within count)
          ∙ itself (equal_bound k (tree_at ns n)) (has_some k ns xs) (is_reached_in stops k (trees_at ns below)) (sym (split k) ∙ r))
          low (λ i. some-set xs n i (Some x)) is.1,
    )
      where
        shuffle : (e h l w : Bool) → ((e || h) || (l || w)) ≡ (h || ((e || l) || w))
        shuffle true true l w = refl
        shuffle true false l w = refl
        shuffle false h true w = refl
        shuffle false h false w = refl

        later : (e h : Bool) → (h || false) ≡ true → ((e || h) || false) ≡ true
        later true h s = refl
        later false h s = s

        itself : (e h l : Bool) → (e || l) ≡ true → ((e || h) || l) ≡ true
        itself true h l s = refl
        itself false true l s = refl
        itself false false l s = s

        moved : (k : BoundTree) (left : List ℕ) → (has_some k ns (set xs n (Some x)) || is_reached_in stops k (trees_at ns (below ++ left))) ≡ (has_some k ns xs || is_reached_in stops k (trees_at ns (n ∷ left)))
        moved k left =
            ap (λ h. h || is_reached_in stops k (trees_at ns (below ++ left))) (has-set k ns xs n x within count)
            ∙ ap (λ w. (equal_bound k (tree_at ns n) || has_some k ns xs) || w) (reached-append k below left)
            ∙ shuffle (equal_bound k (tree_at ns n)) (has_some k ns xs) (is_reached_in stops k (trees_at ns below)) (is_reached_in stops k (trees_at ns left))
            ∙ ap (λ r. has_some k ns xs || (r || is_reached_in stops k (trees_at ns left))) (sym (split k))

  -- what is reached from a node: itself, and what is reached from those that are looked at next
  pub reached-split : (b : BoundTree) (answered : Bool) (ks : List ℕ) → stops b ≡ answered → trees_at ns ks ≡ bound_children_of b
      → (k : BoundTree) → is_reached stops k b ≡ (equal_bound k b || is_reached_in stops k (trees_at ns (if answered then [] else ks)))
  reached-split b true ks stop children k = reached-children stops k b ∙ ap (λ s. equal_bound k b || (not s && is_reached_in stops k (bound_children_of b))) stop
  reached-split b false ks stop children k =
      reached-children stops k b ∙ ap (λ s. equal_bound k b || (not s && is_reached_in stops k (bound_children_of b))) stop
      ∙ ap (λ bs. equal_bound k b || is_reached_in stops k bs) (sym children)

-- ---- the first refusal

module _ {A : Type 0} (said : BoundTree → Result (List A) VortexError) (ns : List NumberedNode) where
  -- what the tree refuses first is refused by those that are left
  abbrev pub RefusesAsLeft : BoundTree → List ℕ → Type 0
  RefusesAsLeft b left = first_refusal said b ≡ first_refusal_in said (trees_at ns left)

  -- what the tree refuses first is refused by those that wait; and so it is of each that was looked at
  abbrev pub IsRefusing : {X : Type 0} → BoundTree → List (Option X) → List ℕ → Type 0
  IsRefusing b xs waiting = RefusesAsLeft b waiting × IsLeft RefusesAsLeft ns xs waiting

  option_or-assoc : (o p q : Option VortexError) → option_or o (option_or p q) ≡ option_or (option_or o p) q
  option_or-assoc None p q = refl
  option_or-assoc (Some y) p q = refl

  option_or-none : (o : Option VortexError) → option_or o None ≡ o
  option_or-none None = refl
  option_or-none (Some y) = refl

  refusal-append : (is js : List ℕ) → first_refusal_in said (trees_at ns (is ++ js)) ≡ option_or (first_refusal_in said (trees_at ns is)) (first_refusal_in said (trees_at ns js))
  refusal-append [] js = refl
  refusal-append (i ∷ is) js = ap (option_or (first_refusal said (tree_at ns i))) (refusal-append is js) ∙ option_or-assoc (first_refusal said (tree_at ns i)) _ _

  -- a node refuses first what those do that are looked at next
  pub refuses-split : (eq : A → A → Bool) → IsEquivalence eq → (b : BoundTree) (own : List A) (ks : List ℕ) → IsOkAnd (said b) (SameAnnotations eq own) → trees_at ns ks ≡ bound_children_of b
      → RefusesAsLeft b (if is_some_item own then [] else ks)
  refuses-split eq q b [] ks same children = refusal-split said eq q b [] (trees_at ns ks) same children
  refuses-split eq q b (a ∷ rest) ks same children = refusal-split said eq q b (a ∷ rest) (trees_at ns ks) same children

  module _ {X : Type 0} (root : BoundTree) (xs : List (Option X)) where
    pub refusing-first : (n : ℕ) → tree_at ns n ≡ root → ((i : ℕ) → get_or xs i None ≡ None) → IsRefusing root xs (n ∷ [])
    refusing-first n is none = (ap (first_refusal said) (sym is) ∙ sym (option_or-none (first_refusal said (tree_at ns n))), λ i there. absurd (true≢false (sym there ∙ ap is_some (none i))))

    pub refusing-last : (waiting : List ℕ) → waiting ≡ [] → IsRefusing root xs waiting → first_refusal said root ≡ None
    refusing-last waiting none is = is.0 ∙ ap (λ w. first_refusal_in said (trees_at ns w)) none

    -- a number that refuses
    pub refusing-here : (n : ℕ) (rest : List ℕ) (y : VortexError) → IsRefusing root xs (n ∷ rest) → (y ≡ OutOfMemory) ⊎ (first_refusal said (tree_at ns n) ≡ Some y) → (y ≡ OutOfMemory) ⊎ (first_refusal said root ≡ Some y)
    refusing-here n rest y is (inl spent) = inl spent
    refusing-here n rest y is (inr here) = inr (is.0 ∙ ap (λ o. option_or o (first_refusal_in said (trees_at ns rest))) here)

    -- a number that is met again
    pub refusing-again : (n : ℕ) (rest : List ℕ) → is_some (get_or xs n None) ≡ true → IsRefusing root xs (n ∷ rest) → IsRefusing root xs rest
    refusing-again n rest there is =
        let again : first_refusal said (tree_at ns n) ≡ None = left-again RefusesAsLeft ns xs n rest is.1 there in
        let skip : (left : List ℕ) → first_refusal_in said (trees_at ns (n ∷ left)) ≡ first_refusal_in said (trees_at ns left) = λ left. ap (λ o. option_or o (first_refusal_in said (trees_at ns left))) again in (
          is.0 ∙ skip rest,
          left-next RefusesAsLeft RefusesAsLeft ns xs xs n [] rest (λ b left was. was ∙ skip left) (λ b was. was) again (all-none (λ k. k < n)) (λ i h. inl h) is.1,
        )

    -- a number that is looked at: it refuses first what the lower ones do that are left of it
    pub refusing-next : (n : ℕ) (x : X) (below rest : List ℕ) → All (λ k. k < n) below → RefusesAsLeft (tree_at ns n) below → IsRefusing root xs (n ∷ rest) → IsRefusing root (set xs n (Some x)) (below ++ rest)
    refusing-next n x below rest low here is =
        let moved : (left : List ℕ) → first_refusal_in said (trees_at ns (n ∷ left)) ≡ first_refusal_in said (trees_at ns (below ++ left)) = λ left.
        ap (λ o. option_or o (first_refusal_in said (trees_at ns left))) here ∙ sym (refusal-append below left) in (
          is.0 ∙ moved rest,
          left-next RefusesAsLeft RefusesAsLeft ns xs (set xs n (Some x)) n below rest (λ b left was. was ∙ moved left) (λ b was. was) here low (λ i. some-set xs n i (Some x)) is.1,
        )

-- ---- the walk ends

-- the number of nodes at and below those that wait
abbrev pub waiting_size : List NumberedNode → List ℕ → ℕ
waiting_size ns waiting = sizes_of (unbound_each (trees_at ns waiting))

size-append : (ns : List NumberedNode) (is js : List ℕ) → waiting_size ns (is ++ js) ≡ waiting_size ns is + waiting_size ns js
size-append ns [] js = omega arith
size-append ns (i ∷ is) js = omega (arith, size-append ns is js)

pub size-again : (ns : List NumberedNode) (n : ℕ) (rest : List ℕ) → waiting_size ns rest < waiting_size ns (n ∷ rest)
size-again ns n rest = omega (arith, sizes-below (tree_at ns n))

pub size-next : (ns : List NumberedNode) (n : ℕ) (answered : Bool) (ks rest : List ℕ) → trees_at ns ks ≡ bound_children_of (tree_at ns n) → waiting_size ns ((if answered then [] else ks) ++ rest) < waiting_size ns (n ∷ rest)
size-next ns n true ks rest children = size-again ns n rest
size-next ns n false ks rest children =
    let below : waiting_size ns ks ≡ sizes_of (unbound_each (bound_children_of (tree_at ns n))) = ap (λ bs. sizes_of (unbound_each bs)) children in
    omega (arith, size-append ns ks rest, below, sizes-below (tree_at ns n))

-- the number that is taken is the first of those that wait
pub popped : (waiting left : List ℕ) (n : ℕ) → waiting ≡ left ++ n ∷ [] → reverse waiting ≡ n ∷ reverse left
popped waiting left n is = ap reverse is ∙ reverse-append left (n ∷ [])

-- it is a number, and those that wait then are
pub popped-within : (n : ℕ) (waiting left : List ℕ) (k : ℕ) → waiting ≡ left ++ k ∷ [] → All (λ j. j < n) (reverse waiting) → (k < n) × All (λ j. j < n) (reverse left)
popped-within n waiting left k is all =
    let here : All (λ j. j < n) (k ∷ reverse left) = subst (All (λ j. j < n)) (popped waiting left k is) all in
    (here 0 0 (omega arith), all-rest (λ j. j < n) k (reverse left) here)

-- those that are looked at next are lower
pub next-low : (n : ℕ) (answered : Bool) (ks : List ℕ) → All (λ k. k < n) ks → All (λ k. k < n) (if answered then [] else ks)
next-low n true ks low = all-none (λ k. k < n)
next-low n false ks low = low

pub next-within : (n m : ℕ) (below rest : List ℕ) → n < m → All (λ k. k < n) below → All (λ k. k < m) rest → All (λ k. k < m) (below ++ rest)
next-within n m below rest h low all = All-append (λ k. k < m) below rest (λ j d lt. omega (arith, low j d lt, h)) all
