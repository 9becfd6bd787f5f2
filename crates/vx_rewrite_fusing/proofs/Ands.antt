-- Ands of the same conjuncts keep each other, with the same type.
use Rattle.std.proofs.Common.{◌≡◌, List, [], ◌∷◌, refl, sym, subst, ap, ◌∙◌, Bool, true, false, ◌||◌}
use Rattle.std.specs.Prelude.{Ok}
use Rattle.std.proofs.Math.Bool.{or_assoc, or_comm}
use Rattle.vx_value.specs.Types.{LogicalType, Datum, is_nullable}
use Rattle.vx_dtype.specs.Joins.{Narrower}
use Rattle.vx_fn.specs.Functions.{binary, and_also, truth_type, fn_type}
use Rattle.vx_fn.specs.Rows.{FnType, of_and}
use Rattle.vx_tree.specs.Meaning.{value}
use Rattle.vx_tree.specs.Faults.{HasNoFault}
use Rattle.vx_tree.specs.Trees.{BoundTree, node_type, WellTyped, Over}
use Rattle.vx_rewrite_core.specs.Keeps.{keeps_none, keeps_more}
use Rattle.vx_rewrite_fusing.specs.Conjuncts.{two_bounds, and_node, and_of}
use Rattle.vx_fn.proofs.Rows.{fn_type-found}
use Rattle.vx_fn.proofs.Monotone.{narrower_refl}
use Rattle.vx_rewrite_core.proofs.Keeping.{keeps_node, keeps_trans, keeps_refl}
use Rattle.vx_tree.proofs.Trees.{or_none}
use Rattle.vx_rewrite_fusing.specs.Merging.{KeepsAlike}
use Rattle.vx_fn.proofs.Kleene.{and_comm, and_assoc}

-- ---- keeping with the same type

pub alike : (b u : BoundTree) → WellTyped b → WellTyped u → node_type u ≡ node_type b
    → ((s : LogicalType) → Over b s → Over u s)
    → ((batch : List Datum) → HasNoFault b batch → HasNoFault u batch)
    → ((v : Datum) → value u v ≡ value b v) → KeepsAlike b u
alike b u w x e o n m = (
  record {
    typed_before = w;
    typed_after = x;
    scopes = o;
    type = subst (Narrower (node_type u)) e (narrower_refl (node_type u));
    no_fault = λ s batch p i q. n batch q;
    meaning = λ s batch p i q v j. m v;
  },
  e,
)

pub alike_refl : (b : BoundTree) → WellTyped b → KeepsAlike b b
alike_refl b w = (keeps_refl b w, refl)

pub alike_trans : {b u w : BoundTree} → KeepsAlike b u → KeepsAlike u w → KeepsAlike b w
alike_trans {b = b} {u = u} {w = w} k l = (keeps_trans b u w k.0 l.0, l.1 ∙ k.1)

-- ---- types of an And

abbrev IsTruth : LogicalType → Type 0
IsTruth t = t ≡ truth_type (is_nullable t)

and_types : {a b t : LogicalType} → FnType (binary and_also) (a ∷ b ∷ []) t → IsTruth a × IsTruth b × (t ≡ truth_type (is_nullable a || is_nullable b))
and_types of_and = (refl, refl, refl)

pub record AndParts (t : LogicalType) (l r : BoundTree) : Type 0 where
  pub left : WellTyped l
  pub right : WellTyped r
  pub left_truth : IsTruth (node_type l)
  pub right_truth : IsTruth (node_type r)
  pub type : t ≡ truth_type (is_nullable (node_type l) || is_nullable (node_type r))

pub and_parts_of : (t : LogicalType) (l r : BoundTree) → WellTyped (and_node t l r) → AndParts t l r
and_parts_of t l r w =
    let x = and_types (fn_type-found (binary and_also) (node_type l ∷ node_type r ∷ []) t w.0) in
    record { left = w.2.0; right = w.2.1.0; left_truth = x.0; right_truth = x.1; type = x.2 }

truth_of : (a : LogicalType) → IsTruth a → (b : LogicalType) → IsTruth b → fn_type (binary and_also) (a ∷ b ∷ []) ≡ Ok (truth_type (is_nullable a || is_nullable b))
truth_of a e b h = rw (e, h) refl

pub and_typed : (l r : BoundTree) → WellTyped l → WellTyped r → IsTruth (node_type l) → IsTruth (node_type r) → WellTyped (and_of l r)
and_typed l r w x e h = (truth_of (node_type l) e (node_type r) h, tt, (w, (x, tt)))

-- ---- faults of an And

pub and_quiet : (t : LogicalType) (l r : BoundTree) (batch : List Datum) → HasNoFault (and_node t l r) batch → HasNoFault l batch × HasNoFault r batch
and_quiet t l r batch n =
    let x = or_none _ _ n in
    let y = or_none _ _ x.0 in
    let z = or_none _ _ y.1 in
    (y.0, z.0)

pub quiet_and : (t : LogicalType) (l r : BoundTree) (batch : List Datum) → HasNoFault l batch → HasNoFault r batch → HasNoFault (and_node t l r) batch
quiet_and t l r batch n m = rw (n, m) refl

quiet_of : (l r : BoundTree) (batch : List Datum) → HasNoFault l batch → HasNoFault r batch → HasNoFault (and_of l r) batch
quiet_of l r batch n m = quiet_and (truth_type (is_nullable (node_type l) || is_nullable (node_type r))) l r batch n m

-- ---- congruence, exchange, association

pub and_alike : (t : LogicalType) (l l' r r' : BoundTree) → WellTyped (and_node t l r) → KeepsAlike l l' → KeepsAlike r r' → KeepsAlike (and_node t l r) (and_of l' r')
and_alike t l l' r r' w k h =
    let p = and_parts_of t l r w in
    let x : IsTruth (node_type l') = subst IsTruth (sym k.1) p.left_truth in
    let y : IsTruth (node_type r') = subst IsTruth (sym h.1) p.right_truth in
    let e : truth_type (is_nullable (node_type l') || is_nullable (node_type r')) ≡ t = rw (k.1, h.1) (sym p.type) in (
      keeps_node t (node_type (and_of l' r')) (binary and_also) (two_bounds l r) (two_bounds l' r') w (keeps_more k.0 (keeps_more h.0 keeps_none)) (truth_of (node_type l') x (node_type r') y)
          (subst (Narrower (node_type (and_of l' r'))) e (narrower_refl (node_type (and_of l' r')))),
      e,
    )

-- the same And, typed anew
pub and_again : (t : LogicalType) (l r : BoundTree) → WellTyped (and_node t l r) → KeepsAlike (and_node t l r) (and_of l r)
and_again t l r w = let p = and_parts_of t l r w in and_alike t l l r r w (alike_refl l p.left) (alike_refl r p.right)

pub and_exchange : (t : LogicalType) (l r : BoundTree) → WellTyped (and_node t l r) → KeepsAlike (and_node t l r) (and_of r l)
and_exchange t l r w =
    let p = and_parts_of t l r w in
    alike (and_node t l r) (and_of r l) w (and_typed r l p.right p.left p.right_truth p.left_truth)
    (ap truth_type (or_comm (is_nullable (node_type r)) (is_nullable (node_type l))) ∙ sym p.type)
    (λ s o. (o.1.0, (o.0, tt)))
    (λ batch n. let q = and_quiet t l r batch n in quiet_of r l batch q.1 q.0)
    (λ v. and_comm (value r v) (value l v))

pub and_regroup : (t u : LogicalType) (a b c : BoundTree) → WellTyped (and_node t (and_node u a b) c) → KeepsAlike (and_node t (and_node u a b) c) (and_of a (and_of b c))
and_regroup t u a b c w =
    let p = and_parts_of t (and_node u a b) c w in
    let q = and_parts_of u a b p.left in
    let na = is_nullable (node_type a) in
    let nb = is_nullable (node_type b) in
    let nc = is_nullable (node_type c) in
    let e : is_nullable u ≡ (na || nb) = ap is_nullable q.type in
    alike (and_node t (and_node u a b) c) (and_of a (and_of b c)) w
    (and_typed a (and_of b c) q.left (and_typed b c q.right p.right q.right_truth p.right_truth) q.left_truth refl)
    (ap truth_type (sym (or_assoc na nb nc) ∙ ap (λ n. n || nc) (sym e)) ∙ sym p.type)
    (λ s o. (o.0.0, ((o.0.1.0, (o.1.0, tt)), tt)))
    (λ batch n.
    let x = and_quiet t (and_node u a b) c batch n in
    let y = and_quiet u a b batch x.0 in
    quiet_of a (and_of b c) batch y.0 (quiet_of b c batch y.1 x.1))
    (λ v. sym (and_assoc (value a v) (value b v) (value c v)))

pub and_group : (t u : LogicalType) (a b c : BoundTree) → WellTyped (and_node t a (and_node u b c)) → KeepsAlike (and_node t a (and_node u b c)) (and_of (and_of a b) c)
and_group t u a b c w =
    let p = and_parts_of t a (and_node u b c) w in
    let q = and_parts_of u b c p.right in
    let na = is_nullable (node_type a) in
    let nb = is_nullable (node_type b) in
    let nc = is_nullable (node_type c) in
    let e : is_nullable u ≡ (nb || nc) = ap is_nullable q.type in
    alike (and_node t a (and_node u b c)) (and_of (and_of a b) c) w
    (and_typed (and_of a b) c (and_typed a b p.left q.left p.left_truth q.left_truth) q.right refl q.right_truth)
    (ap truth_type (or_assoc na nb nc ∙ ap (λ n. na || n) (sym e)) ∙ sym p.type)
    (λ s o. ((o.0, (o.1.0.0, tt)), (o.1.0.1.0, tt)))
    (λ batch n.
    let x = and_quiet t a (and_node u b c) batch n in
    let y = and_quiet u b c batch x.1 in
    quiet_of (and_of a b) c batch (quiet_of a b batch x.0 y.0) y.1)
    (λ v. and_assoc (value a v) (value b v) (value c v))

-- an And of a well-typed tree has the type that its children give
pub typed_and : (t : LogicalType) (l r : BoundTree) → WellTyped (and_node t l r) → and_node t l r ≡ and_of l r
typed_and t l r w = ap (λ z. and_node z l r) (and_parts_of t l r w).type
