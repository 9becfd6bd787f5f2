-- Where nodes were read from, as they are made.
use Rattle.std.proofs.Common.{◌≡◌, ◌≤◌, ◌⊎◌, inl, inr, ⊎_elim, ℕ, Bool, false, List, [], ◌∷◌, ◌++◌, map, sym, subst, ap, ◌∙◌, refl, arith}
use Rattle.std.specs.Prelude.{max}
use Rattle.std.proofs.Math.Logic.{∥∥₁_map, ∥∥₁_map₂, ∥∥₁_elim}
use Rattle.std.proofs.Math.Bridge.{le_prop}
use Rattle.std.proofs.lemmas.Grind.{merely}
use Rattle.std.proofs.lemmas.Bool.{false≢true}
use Rattle.std.proofs.lemmas.List.{map-append}
use Rattle.vx_fn.specs.Functions.{Function, binary, compares, equal}
use Rattle.vx_source_grammar.specs.Nodes.{height_of, heights_of}
use Rattle.vx_tree.specs.Trees.{Tree, root, call, Trees, no_tree, tree}
use Rattle.vx_tree.specs.Views.{tree_of, trees_from, trees_of}
use Rattle.vx_tree.specs.declared.expression.Expression.{Expression}
use Rattle.std.specs.declared.alloc.Global.{Global}
use Rattle.std.specs.declared.vec.Vec.{Vec}
use Rattle.vx_source_operands.specs.declared.operand.Places.{Places}
use Rattle.vx_source_operands.specs.declared.operand.Places.TheViews.{roll-Places, out-roll-Places}
use Rattle.vx_source_operands.specs.declared.operand.Operand.{Operand}
use Rattle.vx_source_operands.specs.OperandViews.{operand_of, operands_of}
use Rattle.vx_source_operands.specs.PlacedNodes.{start_of, end_of, children_of, repeats, IsSpan, IsAgain, IsPlaced, AreWithin}

-- a place ends no sooner than it begins
pub is_span : (e : Tree) (p : Places) → IsPlaced e p → IsSpan p
is_span root p h = h.0
is_span (call f es) p h = h.0

-- places lie between bytes further apart, too
wider : (may : Bool) (es : Trees) (ps : List Places) (s t a b : ℕ) → a ≤ s → t ≤ b → AreWithin may s t es ps → AreWithin may a b es ps
wider may no_tree [] s t a b l r h = h
wider may no_tree (p ∷ ps) s t a b l r h = h
wider may (tree e es) [] s t a b l r h = h
wider may (tree e es) (p ∷ ps) s t a b l r h = (omega (arith, h.0, l), omega (arith, h.1, r), h.2, wider false es ps s t a b l r h.3)

-- a tree is placed in a wider place with the same children
pub widened : (e : Tree) (p q : Places) → children_of q ≡ children_of p → start_of q ≤ start_of p → end_of p ≤ end_of q → IsPlaced e p → IsPlaced e q
widened root p q same l r h = (omega (arith, l, r, h.0), subst (λ cs. cs ≡ []) (sym same) h.1)
widened (call f es) p q same l r h =
    (omega (arith, l, r, h.0), subst (λ cs. AreWithin (repeats f) (start_of q) (end_of q) es cs) (sym same) (wider (repeats f) es (children_of p) (start_of p) (end_of p) (start_of q) (end_of q) l r h.1))

-- one tree more, and its place, behind those that are there
pub appended : (es : List Tree) (ps : List Places) (e : Tree) (p : Places) (s t : ℕ) → s ≤ start_of p → end_of p ≤ t → IsPlaced e p → AreWithin false s t (trees_from es) ps
    → AreWithin false s t (trees_from (es ++ e ∷ [])) (ps ++ p ∷ [])
appended [] [] e p s t l r h rest = (l, r, inl h, tt)
appended [] (q ∷ qs) e p s t l r h rest = absurd rest
appended (d ∷ ds) [] e p s t l r h rest = absurd rest
appended (d ∷ ds) (q ∷ qs) e p s t l r h rest = (rest.0, rest.1, rest.2, appended ds qs e p s t l r h rest.3)

-- the same of expressions, between bytes further apart
pub more_within : (es all : List Expression) (ps places : List Places) (x : Expression) (p : Places) (s t a b : ℕ) → IsPlaced (tree_of x) p → all ≡ es ++ x ∷ [] → places ≡ ps ++ p ∷ []
    → a ≤ s → t ≤ b → a ≤ start_of p → end_of p ≤ b → AreWithin false s t (trees_of es) ps → AreWithin false a b (trees_of all) places
more_within es all ps places x p s t a b h is are l r m n rest =
    subst (λ qs. AreWithin false a b (trees_of all) qs) (sym are)
    (subst (λ xs. AreWithin false a b (trees_of xs) (ps ++ p ∷ [])) (sym is)
    (subst (λ ts. AreWithin false a b (trees_from ts) (ps ++ p ∷ [])) (sym (map-append tree_of es (x ∷ [])))
    (appended (map tree_of es) ps (tree_of x) p a b m n h (wider false (trees_of es) ps s t a b l r rest))))

-- none of them stands before once more
all_anew : (may : Bool) (es : Trees) (ps : List Places) (s t : ℕ) → AreWithin false s t es ps → AreWithin may s t es ps
all_anew may no_tree [] s t h = h
all_anew may no_tree (p ∷ ps) s t h = h
all_anew may (tree e es) [] s t h = h
all_anew may (tree e es) (p ∷ ps) s t h = (h.0, h.1, ⊎_elim (λ placed. inl placed) (λ again. absurd (false≢true again.0)) h.2, h.3)

-- nodes over some trees, one, two, and two of which the first stands before once more
pub node_placed : (f : Function) (es : Trees) (q : Places) → IsSpan q → AreWithin false (start_of q) (end_of q) es (children_of q) → IsPlaced (call f es) q
node_placed f es q l h = (l, all_anew (repeats f) es (children_of q) (start_of q) (end_of q) h)

pub one_placed : (f : Function) (e : Tree) (p q : Places) → children_of q ≡ p ∷ [] → start_of q ≤ start_of p → end_of p ≤ end_of q → IsPlaced e p → IsPlaced (call f (tree e no_tree)) q
one_placed f e p q is l r h =
    let span = is_span e p h in
    (omega (arith, l, r, span), subst (λ ps. AreWithin (repeats f) (start_of q) (end_of q) (tree e no_tree) ps) (sym is) (l, r, inl h, tt))

pub two_placed : (f : Function) (e d : Tree) (p o q : Places) → children_of q ≡ p ∷ o ∷ [] → start_of q ≤ start_of p → end_of p ≤ end_of q → start_of q ≤ start_of o → end_of o ≤ end_of q
    → IsPlaced e p ⊎ IsAgain (repeats f) p → IsPlaced d o → IsPlaced (call f (tree e (tree d no_tree))) q
two_placed f e d p o q is l r m n h k =
    let span = is_span d o k in
    (omega (arith, m, n, span), subst (λ ps. AreWithin (repeats f) (start_of q) (end_of q) (tree e (tree d no_tree)) ps) (sym is) (l, r, h, (m, n, inl k, tt)))

-- the greatest height, where one tree more stands behind the others
pub heights_more : (es : List Tree) (e : Tree) → heights_of (trees_from (es ++ e ∷ [])) ≡ max (height_of e) (heights_of (trees_from es))
heights_more [] e = refl
heights_more (d ∷ ds) e = let rest = heights_more ds e in omega (arith, rest)

-- what operands hold of their places, as it is kept
pub ordered : (e : Tree) (p : Places) → ∥ IsPlaced e p ∥₁ → start_of p ≤ end_of p
ordered e p h = ∥∥₁_elim h le_prop (is_span e p)

pub root_placed : (p : Places) → start_of p ≤ end_of p → children_of p ≡ [] → ∥ IsPlaced root p ∥₁
root_placed p l is = merely (l, is)

-- a place is made of its bytes and the places of the children
abbrev made : ℕ → ℕ → Vec Places Global → Places
made s t c = roll-Places record { start = s; end = t; children = c }

start_made : (s t : ℕ) (c : Vec Places Global) → start_of (made s t c) ≡ s
start_made s t c = ap (λ x. x.start) (out-roll-Places record { start = s; end = t; children = c })

end_made : (s t : ℕ) (c : Vec Places Global) → end_of (made s t c) ≡ t
end_made s t c = ap (λ x. x.end) (out-roll-Places record { start = s; end = t; children = c })

children_made : (s t : ℕ) (c : Vec Places Global) → children_of (made s t c) ≡ c.items
children_made s t c = ap (λ x. x.children.items) (out-roll-Places record { start = s; end = t; children = c })

pub kept_wider : (e : Tree) (p : Places) (s t : ℕ) (c : Vec Places Global) → c.items ≡ children_of p → s ≤ start_of p → end_of p ≤ t → ∥ IsPlaced e p ∥₁ → ∥ IsPlaced e (made s t c) ∥₁
kept_wider e p s t c same l r h =
    let begins = start_made s t c in
    let ends = end_made s t c in
    ∥∥₁_map h (widened e p (made s t c) (children_made s t c ∙ same) (omega (arith, begins, l)) (omega (arith, ends, r)))

pub kept_more : (es all : List Expression) (ps places : List Places) (x : Expression) (p : Places) (s t a b : ℕ) → ∥ IsPlaced (tree_of x) p ∥₁ → all ≡ es ++ x ∷ [] → places ≡ ps ++ p ∷ []
    → a ≤ s → t ≤ b → a ≤ start_of p → end_of p ≤ b → ∥ AreWithin false s t (trees_of es) ps ∥₁ → ∥ AreWithin false a b (trees_of all) places ∥₁
kept_more es all ps places x p s t a b h is are l r m n rest = ∥∥₁_map₂ h rest (λ placed within. more_within es all ps places x p s t a b placed is are l r m n within)

pub kept_node : (f : Function) (es : Trees) (s t : ℕ) (c : Vec Places Global) → s ≤ t → ∥ AreWithin false s t es c.items ∥₁ → ∥ IsPlaced (call f es) (made s t c) ∥₁
kept_node f es s t c l h =
    let begins = start_made s t c in
    let ends = end_made s t c in
    let within = subst (λ a. ∥ AreWithin false a (end_of (made s t c)) es (children_of (made s t c)) ∥₁) (sym begins)
    (subst (λ b. ∥ AreWithin false s b es (children_of (made s t c)) ∥₁) (sym ends) (subst (λ ps. ∥ AreWithin false s t es ps ∥₁) (sym (children_made s t c)) h)) in
    ∥∥₁_map within (node_placed f es (made s t c) (omega (arith, begins, ends, l)))

pub kept_one : (f : Function) (es : List Expression) (x : Expression) (p : Places) (s t : ℕ) (c : Vec Places Global) → es ≡ x ∷ [] → c.items ≡ p ∷ [] → s ≤ start_of p → end_of p ≤ t → ∥ IsPlaced (tree_of x) p ∥₁
    → ∥ IsPlaced (call f (trees_of es)) (made s t c) ∥₁
kept_one f es x p s t c are is l r h =
    let begins = start_made s t c in
    let ends = end_made s t c in
    subst (λ ys. ∥ IsPlaced (call f (trees_of ys)) (made s t c) ∥₁) (sym are) (∥∥₁_map h (one_placed f (tree_of x) p (made s t c) (children_made s t c ∙ is) (omega (arith, begins, l)) (omega (arith, ends, r))))

pub kept_two : (f : Function) (es : List Expression) (x y : Expression) (p o : Places) (s t : ℕ) (c : Vec Places Global) → es ≡ x ∷ y ∷ [] → c.items ≡ p ∷ o ∷ [] → s ≤ start_of p → end_of p ≤ t → s ≤ start_of o → end_of o ≤ t
    → ∥ IsPlaced (tree_of x) p ∥₁ → ∥ IsPlaced (tree_of y) o ∥₁ → ∥ IsPlaced (call f (trees_of es)) (made s t c) ∥₁
kept_two f es x y p o s t c are is l r m n h k =
    let begins = start_made s t c in
    let ends = end_made s t c in
    subst (λ ys. ∥ IsPlaced (call f (trees_of ys)) (made s t c) ∥₁) (sym are)
    (∥∥₁_map₂ h k (λ first second. two_placed f (tree_of x) (tree_of y) p o (made s t c) (children_made s t c ∙ is) (omega (arith, begins, l)) (omega (arith, ends, r)) (omega (arith, begins, m)) (omega (arith, ends, n)) (inl first) second))

-- a node over two trees, the first of which stands before once more, from these bytes to those
pub kept_again : (es : List Expression) (x y : Expression) (a b : ℕ) (none : Vec Places Global) (o : Places) (s t : ℕ) (c : Vec Places Global) → es ≡ x ∷ y ∷ [] → c.items ≡ made a b none ∷ o ∷ [] → none.items ≡ [] → a ≤ b → s ≤ a → b ≤ t
    → s ≤ start_of o → end_of o ≤ t → ∥ IsPlaced (tree_of y) o ∥₁ → ∥ IsPlaced (call (binary (compares equal)) (trees_of es)) (made s t c) ∥₁
kept_again es x y a b none o s t c are is bare span l r m n h =
    let begins = start_made s t c in
    let ends = end_made s t c in
    let first = start_made a b none in
    let last = end_made a b none in
    subst (λ ys. ∥ IsPlaced (call (binary (compares equal)) (trees_of ys)) (made s t c) ∥₁) (sym are)
    (∥∥₁_map h (λ second. two_placed (binary (compares equal)) (tree_of x) (tree_of y) (made a b none) o (made s t c) (children_made s t c ∙ is) (omega (arith, begins, first, l)) (omega (arith, ends, last, r)) (omega (arith, begins, m)) (omega (arith, ends, n))
    (inr (refl, omega (arith, first, last, span), children_made a b none ∙ bare)) second))

pub counted_one : (es : List Expression) (x : Expression) (height : ℕ) → es ≡ x ∷ [] → height ≡ height_of (tree_of x) → height ≡ heights_of (trees_of es)
counted_one es x height are is = subst (λ ys. height ≡ heights_of (trees_of ys)) (sym are) (omega (arith, is))

pub counted_two : (es : List Expression) (x y : Expression) (m n height : ℕ) → es ≡ x ∷ y ∷ [] → m ≡ height_of (tree_of x) → n ≡ height_of (tree_of y) → height ≡ max n m → height ≡ heights_of (trees_of es)
counted_two es x y m n height are first second is = subst (λ ys. height ≡ heights_of (trees_of ys)) (sym are) (omega (arith, first, second, is))

pub trees_more : (es all : List Expression) (os : List Operand) (o : Operand) → all ≡ es ++ o.tree.value ∷ [] → map tree_of es ≡ operands_of os → map tree_of all ≡ operands_of (os ++ o ∷ [])
trees_more es all os o is h =
    ap (map tree_of) is ∙ (map-append tree_of es (o.tree.value ∷ []) ∙ (ap (λ ts. ts ++ tree_of o.tree.value ∷ []) h ∙ sym (map-append operand_of os (o ∷ []))))

pub counted_more : (es all : List Expression) (x : Expression) (highest more height : ℕ) → all ≡ es ++ x ∷ [] → height ≡ height_of (tree_of x) → highest ≡ heights_of (trees_of es) → more ≡ max height highest
    → more ≡ heights_of (trees_of all)
counted_more es all x highest more height is here before grows =
    subst (λ xs. more ≡ heights_of (trees_of xs)) (sym is)
    (subst (λ ts. more ≡ heights_of (trees_from ts)) (sym (map-append tree_of es (x ∷ [])))
    (let behind = heights_more (map tree_of es) (tree_of x) in omega (arith, here, before, grows, behind)))
