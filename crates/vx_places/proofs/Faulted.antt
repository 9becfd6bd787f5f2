-- What faults first is the first fault, and its place leads to a node.
use Rattle.std.proofs.Common.{◌≡◌, ℕ, suc, ◌+◌, ◌<◌, ◌≤◌, List, [], ◌∷◌, ◌++◌, append_assoc, append-nil, length, get_or, drop, Option, Some, None, Result, Ok, Err, refl, sym, ap, subst, ◌∙◌, arith}
use Rattle.std.specs.Prelude.{IsSome, option_and_then}
use Rattle.vx_dtype.specs.declared.error.VortexError.{VortexError}
use Rattle.vx_dtype.proofs.Lists.{drop_next}
use Rattle.vx_value.specs.Columns.{Batch}
use Rattle.vx_value.specs.Types.{Datum}
use Rattle.vx_tree.specs.declared.bound.BoundExpression.{BoundExpression}
use Rattle.vx_tree.specs.Faults.{HasNoFault, first_fault, each_fault}
use Rattle.vx_tree.specs.Nodes.{tree_at, bound_children_of}
use Rattle.vx_tree.specs.Trees.{BoundTree, scope, node, BoundTrees, no_bound, bound, unbound, unbound_each}
use Rattle.vx_tree.specs.Views.{bound_of, bounds_of}
use Rattle.vx_tree.proofs.Children.{bounds_end}
use Rattle.vx_places.specs.Faults.{IsFirstFault, here, below, IsFirstFaultIn, this_one, later_one}
use Rattle.vx_places.specs.Nodes.{node_at}
use Rattle.vx_places.specs.Walked.{own_fault, IsSeen, AreSeen, LeadsToNode, SaysOrFaults}
use Rattle.vx_places.proofs.Places.{at_node}

mutual
  pub faulted : {rows : List Datum} {b : BoundTree} {path : List ℕ} {r : VortexError} → IsFirstFault rows b path r → first_fault b rows ≡ Some r
  faulted (here quiet h) = rw (quiet, h) refl
  faulted (below h) = rw (faulted_in h) refl

  faulted_in : {rows : List Datum} {bs : BoundTrees} {i : ℕ} {path : List ℕ} {r : VortexError} → IsFirstFaultIn rows bs i path r → each_fault bs rows ≡ Some r
  faulted_in (this_one h) = rw (faulted h) refl
  faulted_in (later_one n h) = rw (n, faulted_in h) refl

mutual
  pub leads : {rows : List Datum} {b : BoundTree} {path : List ℕ} {r : VortexError} → IsFirstFault rows b path r → IsSome (node_at path (unbound b))
  leads (here quiet h) = refl
  leads (below h) = leads_in h

  leads_in : {rows : List Datum} {bs : BoundTrees} {i : ℕ} {path : List ℕ} {r : VortexError} → IsFirstFaultIn rows bs i path r → IsSome (option_and_then (node_at path) (tree_at (unbound_each bs) i))
  leads_in (this_one h) = leads h
  leads_in (later_one n h) = leads_in h

-- ---- a node

-- the node faults over its children
pub faults_here : (rows : List Datum) (b : BoundTree) (r : VortexError) → each_fault (bound_children_of b) rows ≡ None → own_fault b rows ≡ Some r → IsFirstFault rows b [] r
faults_here rows (scope t) r quiet h = cc
faults_here rows (node t f bs) r quiet h = here quiet h

-- one of its children does
pub faults_below : (rows : List Datum) (b : BoundTree) (i : ℕ) (rest : List ℕ) (r : VortexError) → IsFirstFaultIn rows (bound_children_of b) i rest r → IsFirstFault rows b (i ∷ rest) r
faults_below rows (scope t) i rest r h = elim h [ ]
faults_below rows (node t f bs) i rest r h = below h

-- where its children are quiet the node is the place of what it is refused with
pub valued_at : {C : Type 0} (Says : C → Type 0) (rows : List Datum) (b : BoundTree) (old new : List ℕ) (r : Result C VortexError) → new ≡ old → each_fault (bound_children_of b) rows ≡ None → SaysOrFaults Says rows b r → LeadsToNode (IsFirstFault rows b) old r new
valued_at Says rows b old new (Ok x) same quiet h = same
valued_at Says rows b old new (Err e) same quiet h = at_node (IsFirstFault rows b) (own_fault b rows ≡ Some e) old new e same (faults_here rows b e quiet) h

-- of what is seen nothing faults
pub seen_quiet : (rows : List Datum) (bs : BoundTrees) (cs : List (Option Batch)) → AreSeen rows bs cs → each_fault bs rows ≡ None
seen_quiet rows no_bound [] h = refl
seen_quiet rows no_bound (c ∷ cs) h = absurd h
seen_quiet rows (bound b bs) [] h = absurd h
seen_quiet rows (bound b bs) (c ∷ cs) h = let first : first_fault b rows ≡ None = h.0.0 in rw (first, seen_quiet rows bs cs h.1) refl

-- ---- one child after another

module _ (es : List BoundExpression) (rows : List Datum) where
  -- a place from that index on is one of all the trees
  abbrev pub Passed : ℕ → Type 0
  Passed i = (k : ℕ) (rest : List ℕ) (r : VortexError) → IsFirstFaultIn rows (bounds_of (drop i es)) k rest r → IsFirstFaultIn rows (bounds_of es) (i + k) rest r

  pub passed_none : Passed 0
  passed_none k rest r h = let n : k ≡ 0 + k = omega arith in subst (λ n. IsFirstFaultIn rows (bounds_of es) n rest r) n h

  pub passed_one : (i : ℕ) (e : BoundExpression) → i < length es → e ≡ get_or es i e → HasNoFault (bound_of e) rows → Passed i → Passed (i + 1)
  passed_one i e lt is quiet h k rest r found =
      let there = subst (λ xs. IsFirstFaultIn rows (bounds_of xs) (suc k) rest r) (sym (drop_next es i e lt is)) (later_one quiet found) in
      let n : i + suc k ≡ (i + 1) + k = omega arith in
      subst (λ n. IsFirstFaultIn rows (bounds_of es) n rest r) n (h (suc k) rest r there)

  pub passed_to : (i : ℕ) (e : BoundExpression) (rest : List ℕ) (r : VortexError) → i < length es → e ≡ get_or es i e → Passed i → IsFirstFault rows (bound_of e) rest r → IsFirstFaultIn rows (bounds_of es) i rest r
  passed_to i e rest r lt is h found =
      let there = subst (λ xs. IsFirstFaultIn rows (bounds_of xs) 0 rest r) (sym (drop_next es i e lt is)) (this_one found) in
      let n : i + 0 ≡ i = omega arith in
      subst (λ n. IsFirstFaultIn rows (bounds_of es) n rest r) n (h 0 rest r there)

  -- what is seen from that index on is seen of all, behind what was seen so far
  abbrev pub SeenTo : ℕ → List (Option Batch) → Type 0
  SeenTo i cs = (more : List (Option Batch)) → AreSeen rows (bounds_of (drop i es)) more → AreSeen rows (bounds_of es) (cs ++ more)

  pub seen_none : (cs : List (Option Batch)) → cs ≡ [] → SeenTo 0 cs
  seen_none cs none more h = subst (λ xs. AreSeen rows (bounds_of es) (xs ++ more)) (sym none) h

  pub seen_one : (i : ℕ) (e : BoundExpression) (cs new : List (Option Batch)) (c : Option Batch) → i < length es → e ≡ get_or es i e → new ≡ cs ++ c ∷ [] → IsSeen rows (bound_of e) c → SeenTo i cs → SeenTo (i + 1) new
  seen_one i e cs new c lt is put seen h more found =
      let there = subst (λ xs. AreSeen rows (bounds_of xs) (c ∷ more)) (sym (drop_next es i e lt is)) (seen, found) in
      subst (AreSeen rows (bounds_of es)) (sym (ap (λ xs. xs ++ more) put ∙ append_assoc cs (c ∷ []) more)) (h (c ∷ more) there)

  pub seen_all : (i : ℕ) (cs : List (Option Batch)) → length es ≤ i → SeenTo i cs → AreSeen rows (bounds_of es) cs
  seen_all i cs all h =
      let none : AreSeen rows (bounds_of (drop i es)) [] = subst (λ bs. AreSeen rows bs []) (sym (bounds_end es i all)) tt in
      subst (AreSeen rows (bounds_of es)) (append-nil cs) (h [] none)
