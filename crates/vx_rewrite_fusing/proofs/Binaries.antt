-- Binary nodes by the number of their children.
use Rattle.std.proofs.Common.{◌≡◌, ◌<◌, length, get_or, List, [], ◌∷◌, refl, sym, ap, subst, ◌∙◌, arith, rules, Vec}
use Rattle.std.specs.Prelude.{IsFalse}
use Rattle.std.specs.declared.alloc.Global.{Global}
use Rattle.std.specs.declared.sync.Arc.{Arc}
use Rattle.vx_value.specs.Types.{LogicalType}
use Rattle.vx_value.specs.Views.{type_of}
use Rattle.vx_dtype.specs.declared.dtype.DType.{DType}
use Rattle.vx_fn.specs.Functions.{Operation, and_also, binary}
use Rattle.vx_fn.specs.Views.{function_of, operation_of}
use Rattle.vx_fn.specs.declared.function.ScalarFnRef.{ScalarFnRef}
use Rattle.vx_fn.specs.declared.function.ScalarFnRef.TheVariants.{Binary}
use Rattle.vx_fn.specs.declared.options.Operator.{Operator}
use Rattle.vx_fn.specs.declared.options.Operator.TheVariants.{And}
use Rattle.vx_tree.specs.Trees.{BoundTree, node, BoundTrees, no_bound, bound, unbound}
use Rattle.vx_tree.specs.Nodes.{size_of}
use Rattle.vx_tree.specs.Views.{bound_of, bounds_of}
use Rattle.vx_tree.specs.declared.bound.BoundExpression.{BoundExpression, Scalar, the_lemmas}
use Rattle.vx_rewrite_fusing.specs.Conjuncts.{two_bounds, is_and, IsBinary}
use Rattle.vx_rewrite_fusing.specs.Finding.{IsOther}

-- ---- a binary node of another number of children is neither an And nor a range comparison

no_child : (t : LogicalType) (op : Operation) → IsOther (node t (binary op) no_bound)
no_child t and_also = (refl, refl)
no_child t _ = (refl, refl)

one_child : (t : LogicalType) (op : Operation) (x : BoundTree) → IsOther (node t (binary op) (bound x no_bound))
one_child t and_also x = (refl, refl)
one_child t _ x = (refl, refl)

many_children : (t : LogicalType) (op : Operation) (x y z : BoundTree) (zs : BoundTrees) → IsOther (node t (binary op) (bound x (bound y (bound z zs))))
many_children t and_also x y z zs = (refl, refl)
many_children t _ x y z zs = (refl, refl)

other_number : (t : LogicalType) (op : Operation) (bs : List BoundExpression) → (length bs ≡ 2 → ⊥) → IsOther (node t (binary op) (bounds_of bs))
other_number t op [] h = no_child t op
other_number t op (b ∷ []) h = one_child t op (bound_of b)
other_number t op (a ∷ b ∷ []) h = absurd (h refl)
other_number t op (a ∷ b ∷ c ∷ bs) h = many_children t op (bound_of a) (bound_of b) (bound_of c) (bounds_of bs)

two_items : (t : LogicalType) (op : Operation) (bs : List BoundExpression) (x y : BoundExpression) → length bs ≡ 2 → x ≡ get_or bs 0 x → y ≡ get_or bs 1 y → node t (binary op) (bounds_of bs) ≡ node t (binary op) (two_bounds (bound_of x) (bound_of y))
two_items t op [] x y h e f = absurd (omega arith)
two_items t op (b ∷ []) x y h e f = absurd (omega arith)
two_items t op (a ∷ b ∷ []) x y h e f = rw (e, f) refl
two_items t op (a ∷ b ∷ c ∷ bs) x y h e f = absurd (omega arith)

-- ---- what a binary node stands for

scalar_seen : (t : DType) (f : ScalarFnRef) (children : Arc (Vec BoundExpression Global) Global) → bound_of (Scalar t f children) ≡ node (type_of t) (function_of f) (bounds_of children.value.items)
scalar_seen t f children = search (rules, the_lemmas)

binary_seen : (b : BoundExpression) (t : DType) (f : ScalarFnRef) (children : Arc (Vec BoundExpression Global) Global) (op : Operator) → b ≡ Scalar t f children → f ≡ Binary op → bound_of b ≡ node (type_of t) (binary (operation_of op)) (bounds_of children.value.items)
binary_seen b t f children op e h = ap bound_of e ∙ scalar_seen t f children ∙ ap (λ g. node (type_of t) (function_of g) (bounds_of children.value.items)) h

pub other_children : (b : BoundExpression) (t : DType) (f : ScalarFnRef) (children : Arc (Vec BoundExpression Global) Global) (op : Operator) → b ≡ Scalar t f children → f ≡ Binary op → (length children.value.items ≡ 2 → ⊥) → IsOther (bound_of b)
other_children b t f children op e h n = subst IsOther (sym (binary_seen b t f children op e h)) (other_number (type_of t) (operation_of op) children.value.items n)

pub two_children : (b : BoundExpression) (t : DType) (f : ScalarFnRef) (children : Arc (Vec BoundExpression Global) Global) (op : Operator) (x y : BoundExpression) → b ≡ Scalar t f children → f ≡ Binary op
    → length children.value.items ≡ 2 → x ≡ get_or children.value.items 0 x → y ≡ get_or children.value.items 1 y → IsBinary (operation_of op) (bound_of x) (bound_of y) (bound_of b)
two_children b t f children op x y e h n p q = (type_of t, binary_seen b t f children op e h ∙ two_items (type_of t) (operation_of op) children.value.items x y n p q)

-- ---- a binary node of another operator isn't an And

pub other_operator : (op : Operator) (x y b : BoundTree) → (op ≡ And → ⊥) → IsBinary (operation_of op) x y b → IsFalse (is_and b)
other_operator And x y b n p = absurd (n refl)
other_operator _ x y b n p = ap is_and p.1

-- ---- its children are smaller

pub left_smaller : {op : Operation} {x y b : BoundTree} → IsBinary op x y b → size_of (unbound x) < size_of (unbound b)
left_smaller p = rw p.1 (omega arith)

pub right_smaller : {op : Operation} {x y b : BoundTree} → IsBinary op x y b → size_of (unbound y) < size_of (unbound b)
right_smaller p = rw p.1 (omega arith)
