-- Nodes that are numbered by their place in a list.
use Rattle.std.proofs.Common.{◌≡◌, ℕ, zero, suc, ◌+◌, ◌<◌, ◌≤◌, get_or, drop, arith, List, [], ◌∷◌, ◌++◌, length, map, Bool, true, false, ◌||◌, refl, sym, ap, subst, inl, inr, ◌∙◌, length-append}
use Rattle.std.specs.Prelude.{◌⊎◌, All, Some, if◌then◌else◌, nat_eq, slice_get}
use Rattle.std.specs.Cmp.{first_so, second_so}
use Rattle.std.specs.Cmp.Lexicographic.{pointwise, same_text}
use Rattle.std.specs.List.{list_any}
use Rattle.std.proofs.lemmas.List.{at_drop_more, at_drop_all, append_assoc, map-append}
use Rattle.std.proofs.lemmas.List.Elements.{All-append}
use Rattle.std.proofs.lemmas.Option.{slice_get_within, slice_get_read}
use Rattle.indexmap.specs.IndexSet.{insert_key}
use Rattle.vx_tree.specs.Equality.{equal_bound, equal_bound-Decides}
use Rattle.vx_tree.specs.Nodes.{bound_children_of}
use Rattle.vx_tree.specs.Trees.{BoundTree, scope, node, no_bound, bound}
use Rattle.vx_tree.specs.Views.{bound_of, bounds_from}
use Rattle.vx_tree.specs.declared.bound.BoundExpression.{BoundExpression}
use Rattle.vx_rewrite_analysis.specs.Numbers.{head_of, node_tree, equal_numbered, tree_at, trees_at, has_node, IsNumberOf, HasChildrenBelow, IsNumbered, KeepsNumbers}
use Rattle.vx_rewrite_analysis.specs.Reached.{nowhere, occurs, occurs_in}
use Rattle.vx_rewrite_analysis.specs.declared.numbers.NumberedNode.{NumberedNode}
use Rattle.vx_rewrite_analysis.proofs.Subtrees.{or_first, or_second, or_assoc, or_swap, or_false, reached-children}

-- ---- the trees of numbers

-- what is left of the numbers at the place i begins with the number there
pub trees-next : (ns : List NumberedNode) (ks : List ℕ) (i : ℕ) → i < length ks → trees_at ns (drop i ks) ≡ bound (tree_at ns (get_or ks i 0)) (trees_at ns (drop (i + 1) ks))
trees-next ns ks i h = at_drop_more (trees_at ns) ks i 0 h

pub trees-end : (ns : List NumberedNode) (ks : List ℕ) (i : ℕ) → length ks ≤ i → trees_at ns (drop i ks) ≡ no_bound
trees-end ns ks i h = at_drop_all (trees_at ns) ks i h

-- the tree of a number is that of its node
pub tree-read : (ns : List NumberedNode) (i : ℕ) (n : NumberedNode) → i < length ns → n ≡ get_or ns i n → tree_at ns i ≡ node_tree n
tree-read [] i n h is = absurd (omega arith)
tree-read (m ∷ ns) zero n h is = ap node_tree (sym is)
tree-read (m ∷ ns) (suc i) n h is = tree-read ns i n (omega arith) is

pub read-tree : (ns : List NumberedNode) (i : ℕ) (d : NumberedNode) → i < length ns → node_tree (get_or ns i d) ≡ tree_at ns i
read-tree [] i d h = absurd (omega arith)
read-tree (m ∷ ns) zero d h = refl
read-tree (m ∷ ns) (suc i) d h = read-tree ns i d (omega arith)

pub tree-got : (ns : List NumberedNode) (i : ℕ) (n : NumberedNode) → slice_get ns i ≡ Some n → tree_at ns i ≡ node_tree n
tree-got [] i n got = cc
tree-got (m ∷ ns) zero n got = cc
tree-got (m ∷ ns) (suc i) n got = tree-got ns i n got

-- the numbers of a node's children are those of its tree's, and below its own
pub node-children : (ns : List NumberedNode) → IsNumbered ns → (i : ℕ) (n : NumberedNode) → i < length ns → n ≡ get_or ns i n
    → (trees_at ns n.children.items ≡ bound_children_of (tree_at ns i)) × All (λ k. k < i) n.children.items
node-children ns numbered i n within is =
    let here = numbered.0 i n (slice_get_read ns (length ns) i n refl within is) in
    (here.0 ∙ ap bound_children_of (sym (tree-read ns i n within is)), here.1)

-- what is a number stays one, and of the same tree
pub kept-below : (old new : List NumberedNode) → KeepsNumbers old new → (ks : List ℕ) → All (λ k. k < length old) ks → All (λ k. k < length new) ks
kept-below old new keeps ks below j d h = (keeps (get_or ks j d) _ (below j d h, refl)).0

each-kept : (old new : List NumberedNode) → KeepsNumbers old new → (ks : List ℕ) → All (λ k. k < length old) ks → map (tree_at new) ks ≡ map (tree_at old) ks
each-kept old new keeps [] below = refl
each-kept old new keeps (k ∷ ks) below =
    let here : tree_at new k ≡ tree_at old k = (keeps k (tree_at old k) (below 0 0 (omega arith), refl)).1 in
    let rest : map (tree_at new) ks ≡ map (tree_at old) ks = each-kept old new keeps ks (λ j d h. below (suc j) d (omega arith)) in
    ap (λ b. b ∷ map (tree_at new) ks) here ∙ ap (λ bs. tree_at old k ∷ bs) rest

pub trees-kept : (old new : List NumberedNode) → KeepsNumbers old new → (ks : List ℕ) → All (λ k. k < length old) ks → trees_at new ks ≡ trees_at old ks
trees-kept old new keeps ks below = ap bounds_from (each-kept old new keeps ks below)

-- ---- one more node

pub tree-append : (ns : List NumberedNode) (m : NumberedNode) (i : ℕ) → i < length ns → tree_at (ns ++ m ∷ []) i ≡ tree_at ns i
tree-append [] m i h = absurd (omega arith)
tree-append (n ∷ ns) m zero h = refl
tree-append (n ∷ ns) m (suc i) h = tree-append ns m i (omega arith)

keeps-append : (ns : List NumberedNode) (m : NumberedNode) → KeepsNumbers ns (ns ++ m ∷ [])
keeps-append ns m i b is = (omega (arith, length-append ns (m ∷ []), is.0), tree-append ns m i is.0 ∙ is.1)

pub keeps-insert : (ns : List NumberedNode) (m : NumberedNode) → KeepsNumbers ns (insert_key equal_numbered ns m)
keeps-insert ns m = cases (list_any (equal_numbered m) ns)
  where
    cases : (there : Bool) → KeepsNumbers ns (if there then ns else ns ++ m ∷ [])
    cases true i b is = is
    cases false i b is = keeps-append ns m i b is

pub got-append : {A : Type 0} (ns : List A) (m : A) (i : ℕ) (n : A) → slice_get (ns ++ m ∷ []) i ≡ Some n → (slice_get ns i ≡ Some n) ⊎ ((i ≡ length ns) × (n ≡ m))
got-append [] m zero n got = inr (refl, cc)
got-append [] m (suc i) n got = cc
got-append (x ∷ ns) m zero n got = inl got
got-append (x ∷ ns) m (suc i) n got = elim (got-append ns m i n got) [
  | inl there ↦ inl there
  | inr last ↦ inr (ap suc last.0, last.1)
]

-- one more node has its children's numbers
pub children-insert : (ns : List NumberedNode) (m : NumberedNode) → HasChildrenBelow ns → All (λ k. k < length ns) m.children.items → trees_at ns m.children.items ≡ bound_children_of (node_tree m)
    → HasChildrenBelow (insert_key equal_numbered ns m)
children-insert ns m was below children = cases (list_any (equal_numbered m) ns)
  where
    cases : (there : Bool) → HasChildrenBelow (if there then ns else ns ++ m ∷ [])
    cases true i n got = was i n got
    cases false i n got = elim (got-append ns m i n got) [
      | inl there ↦
          let before = was i n there in
          let within : i < length ns = slice_get_within ns i n there in
          (trees-kept ns (ns ++ m ∷ []) (keeps-append ns m) n.children.items (λ j d h. omega (arith, before.1 j d h, within)) ∙ before.0, before.1)
      | inr last ↦
          subst (λ x. (trees_at (ns ++ m ∷ []) x.children.items ≡ bound_children_of (node_tree x)) × All (λ k. k < i) x.children.items) (sym last.1)
          (trees-kept ns (ns ++ m ∷ []) (keeps-append ns m) m.children.items below ∙ children, λ j d h. omega (arith, below j d h, last.0))
    ]

-- nodes that are alike without their children, and have the same children, are equal
like-tree : (b c : BoundTree) → equal_bound (head_of b) (head_of c) ≡ true → bound_children_of b ≡ bound_children_of c → b ≡ c
like-tree (scope t) (scope u) like same = (equal_bound-Decides (scope t) (scope u)).0 like
like-tree (scope t) (node u g cs) like same = cc
like-tree (node t f bs) (scope u) like same = cc
like-tree (node t f bs) (node u g cs) like same =
    let head : node t f no_bound ≡ node u g no_bound = (equal_bound-Decides (node t f no_bound) (node u g no_bound)).0 like in
    cc (head, same)

-- the number that a node is found at, or gets, is one of its tree
pub number-insert : (ns : List NumberedNode) (m k : NumberedNode) (r : ℕ) → HasChildrenBelow ns → All (λ j. j < length ns) m.children.items → trees_at ns m.children.items ≡ bound_children_of (node_tree m)
    → r < length (insert_key equal_numbered ns m) → slice_get (insert_key equal_numbered ns m) r ≡ Some k → equal_numbered m k ≡ true → IsNumberOf (insert_key equal_numbered ns m) r (node_tree m)
number-insert ns m k r was below children within got same =
    let all = insert_key equal_numbered ns m in
    let stored = children-insert ns m was below children r k got in
    let lists : Bool = pointwise nat_eq m.children.items k.children.items in
    let heads : Bool = equal_bound (head_of (node_tree m)) (head_of (node_tree k)) in
    let like : heads ≡ true = second_so lists heads same in
    let numbers : m.children.items ≡ k.children.items = same_text m.children.items k.children.items (sym (first_so lists heads same)) in
    let kept : trees_at all m.children.items ≡ trees_at ns m.children.items = trees-kept ns all (keeps-insert ns m) m.children.items below in
    let tree : node_tree m ≡ node_tree k = like-tree (node_tree m) (node_tree k) like (sym children ∙ sym kept ∙ ap (trees_at all) numbers ∙ stored.0) in
    (within, tree-got all r k got ∙ sym tree)

-- ---- which trees have a number

-- the tree of a number is that of a node
has-at : (ns : List NumberedNode) (i : ℕ) (b n : BoundTree) → IsNumberOf ns i b → equal_bound n b ≡ true → has_node n ns ≡ true
has-at [] i b n is same = absurd (omega (arith, is.0))
has-at (m ∷ ns) zero b n is same = or_first _ (has_node n ns) (ap (equal_bound n) is.1 ∙ same)
has-at (m ∷ ns) (suc i) b n is same = or_second (equal_bound n (node_tree m)) _ (has-at ns i b n (omega (arith, is.0), is.1) same)

-- the node at a number has one
pub has-read : (ns : List NumberedNode) (i : ℕ) (n : NumberedNode) → i < length ns → n ≡ get_or ns i n → has_node (node_tree n) ns ≡ true
has-read ns i n within is = has-at ns i (node_tree n) (node_tree n) (within, tree-read ns i n within is) ((equal_bound-Decides (node_tree n) (node_tree n)).1 refl)

has-append : (ns : List NumberedNode) (m : NumberedNode) (n : BoundTree) → has_node n (ns ++ m ∷ []) ≡ (equal_bound n (node_tree m) || has_node n ns)
has-append [] m n = refl
has-append (x ∷ ns) m n = ap (λ r. equal_bound n (node_tree x) || r) (has-append ns m n) ∙ or_swap (equal_bound n (node_tree x)) (equal_bound n (node_tree m)) (has_node n ns)

-- one more tree has one
pub has-insert : (ns : List NumberedNode) (m : NumberedNode) (r : ℕ) → IsNumberOf (insert_key equal_numbered ns m) r (node_tree m) → (n : BoundTree)
    → has_node n (insert_key equal_numbered ns m) ≡ (equal_bound n (node_tree m) || has_node n ns)
has-insert ns m r is n = cases (list_any (equal_numbered m) ns) is
  where
    absorbed : (a b : Bool) → (a ≡ true → b ≡ true) → b ≡ (a || b)
    absorbed true b h = h refl
    absorbed false b h = refl

    cases : (there : Bool) → IsNumberOf (if there then ns else ns ++ m ∷ []) r (node_tree m) → has_node n (if there then ns else ns ++ m ∷ []) ≡ (equal_bound n (node_tree m) || has_node n ns)
    cases true at = absorbed (equal_bound n (node_tree m)) (has_node n ns) (has-at ns r (node_tree m) n at)
    cases false at = has-append ns m n

-- a tree and those below it have one
pub has-below : (b n : BoundTree) (old mid new : Bool) → new ≡ (equal_bound n b || mid) → mid ≡ (occurs_in n (bound_children_of b) || old) → new ≡ (occurs n b || old)
has-below b n old mid new here below =
    here ∙ ap (λ r. equal_bound n b || r) below ∙ sym (or_assoc (equal_bound n b) (occurs_in n (bound_children_of b)) old)
    ∙ ap (λ r. r || old) (sym (reached-children nowhere n b))

-- where at first none had one, the trees that do are nodes of the tree
pub occurs-numbered : (b n : BoundTree) (ns old new : List NumberedNode) → ns ≡ new → old ≡ [] → has_node n new ≡ (occurs n b || has_node n old) → has_node n ns ≡ true → occurs n b ≡ true
occurs-numbered b n ns old new same none nodes there =
    sym (nodes ∙ ap (λ ms. occurs n b || has_node n ms) none ∙ or_false (occurs n b)) ∙ sym (ap (has_node n) same) ∙ there

-- ---- the numbers of children

-- one more child has its number
pub below-next : (old new : List NumberedNode) → KeepsNumbers old new → (ks : List ℕ) (k : ℕ) → All (λ j. j < length old) ks → k < length new → All (λ j. j < length new) (ks ++ k ∷ [])
below-next old new keeps ks k below within = All-append (λ j. j < length new) ks (k ∷ []) (kept-below old new keeps ks below) last
  where
    last : All (λ j. j < length new) (k ∷ [])
    last zero d h = within
    last (suc j) d h = absurd (omega arith)

pub numbers-next : (old new : List NumberedNode) → KeepsNumbers old new → (ks : List ℕ) (k : ℕ) (ts : List BoundExpression) (i : ℕ) (t : BoundExpression) → All (λ j. j < length old) ks
    → tree_at new k ≡ bound_of t → i < length ts → t ≡ get_or ts i t
    → map (tree_at old) ks ++ map bound_of (drop i ts) ≡ map bound_of ts → map (tree_at new) (ks ++ k ∷ []) ++ map bound_of (drop (i + 1) ts) ≡ map bound_of ts
numbers-next old new keeps ks k ts i t below tree h is rest =
    let left = map bound_of (drop (i + 1) ts) in
    ap (λ x. x ++ left) (map-append (tree_at new) ks (k ∷ []) ∙ ap (λ x. x ++ tree_at new k ∷ []) (each-kept old new keeps ks below))
    ∙ append_assoc (map (tree_at old) ks) (tree_at new k ∷ []) left
    ∙ ap (λ b. map (tree_at old) ks ++ b ∷ left) (tree ∙ ap bound_of is)
    ∙ sym (ap (λ x. map (tree_at old) ks ++ x) (at_drop_more (map bound_of) ts i t h)) ∙ rest
