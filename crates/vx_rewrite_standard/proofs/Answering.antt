-- What the code answers is what the rules give.
use Rattle.std.proofs.Common.{◌≡◌, inl, inr, ◌⊎◌, ◌<◌, ◌-◌, ℕ, ◌∷◌, refl, sym, ap, subst, Bool, true, false, arith}
use Rattle.std.specs.Prelude.{Some, Result, Ok, Err, IsOk, IsTrue}
use Rattle.std.specs.Result.{result_ok}
use Rattle.vx_dtype.specs.declared.error.VortexError.{VortexError}
use Rattle.vx_value.specs.Returns.{ReturnsOrOom}
use Rattle.vx_value.specs.Types.{LogicalType, ty, is_nullable, with_nullability}
use Rattle.vx_fn.specs.Functions.{case_when}
use Rattle.vx_fn.proofs.Rows.{fn_type-found, fn_type-only}
use Rattle.vx_tree.specs.Binding.{node_over}
use Rattle.vx_tree.specs.Trees.{BoundTree, node, BoundTrees, no_bound, bound, node_type, node_types, WellTyped}
use Rattle.vx_tree.specs.Views.{bound_of}
use Rattle.vx_tree.specs.declared.bound.BoundExpression.{BoundExpression}
use Rattle.vx_rewrite_core.proofs.Cases.{CaseTyped, case_typed, others_typed}
use Rattle.vx_rewrite_core.specs.Nodes.{first_two}
use Rattle.vx_rewrite_rule_laws.specs.BranchGiven.{AreBehindPair}

-- ---- the first pair

same_three : {a b : BoundTree × BoundTree × BoundTrees} → Some a ≡ Some b → a ≡ b
same_three e = cc

-- the trees are those of the pair and the rest
pub two_and_rest : (xs : BoundTrees) (p x : BoundTree) (rest : BoundTrees) → Some (p, x, rest) ≡ first_two xs → xs ≡ bound p (bound x rest)
two_and_rest no_bound p x rest e = cc
two_and_rest (bound q no_bound) p x rest e = cc
two_and_rest (bound q (bound y ys)) p x rest e = ap (λ (v : BoundTree × BoundTree × BoundTrees). bound v.0 (bound v.1 v.2)) (sym (same_three e))

pub behind_pair : (t : LogicalType) (pairs : ℕ) (has_else : Bool) (xs : BoundTrees) (p x : BoundTree) (rest : BoundTrees) → WellTyped (node t (case_when pairs has_else) xs) → Some (p, x, rest) ≡ first_two xs → AreBehindPair t pairs has_else rest
behind_pair t pairs has_else xs p x rest w e = (p, x, subst (λ ys. WellTyped (node t (case_when pairs has_else) ys)) (two_and_rest xs p x rest e) w)

-- ---- what typing says of the rest

typed : (t : LogicalType) (pairs : ℕ) (has_else : Bool) (rest : BoundTrees) (a : AreBehindPair t pairs has_else rest) → CaseTyped pairs has_else (node_type a.0) (node_type a.1) (node_types rest) t
typed t pairs has_else rest a = case_typed (fn_type-found (case_when pairs has_else) (node_type a.0 ∷ node_type a.1 ∷ node_types rest) t a.2.0)

made_nullable : (t w : LogicalType) → t ≡ with_nullability true w → IsTrue (is_nullable t)
made_nullable t (ty s n) e = rw e refl

-- a CASE without ELSE is nullable
pub else_or_null : (t : LogicalType) (pairs : ℕ) (has_else : Bool) (rest : BoundTrees) → AreBehindPair t pairs has_else rest → IsTrue has_else ⊎ IsTrue (is_nullable t)
else_or_null t pairs true rest a = inl refl
else_or_null t pairs false rest a = let k = typed t pairs false rest a in inr (made_nullable t k.joined k.type)

-- the CASE of the other pairs has a type
pub others_ok : (t : LogicalType) (pairs : ℕ) (has_else : Bool) (rest : BoundTrees) → 1 < pairs → AreBehindPair t pairs has_else rest → IsOk (node_over (case_when (pairs - 1) has_else) rest)
others_ok t pairs has_else rest h a =
    let k = others_typed pairs has_else (node_types rest) (omega arith) (typed t pairs has_else rest a) in
    rw (fn_type-only k.1) refl

-- an answer that is never refused but for memory
pub some_answer : (r : Result BoundExpression VortexError) (n : Result BoundTree VortexError) → ReturnsOrOom bound_of r n → IsOk n → ReturnsOrOom (λ b. Some (bound_of b)) r (Ok (result_ok n))
some_answer (Ok b) n e k = ap (λ m. Ok (result_ok m)) e
some_answer (Err x) n (inl e) k = inl e
some_answer (Err x) (Ok v) (inr e) k = cc
some_answer (Err x) (Err y) (inr e) k = cc
