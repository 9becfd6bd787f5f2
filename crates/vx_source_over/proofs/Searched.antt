-- `in` over literals, settled: the scalars that stand in one list, the one that doesn't, and the operand.
use Rattle.std.proofs.Common.{◌≡◌, ℕ, ◌+◌, ◌<◌, ◌≤◌, List, [], ◌∷◌, length, get_or, drop, drop_of_length-le, Result, Ok, Err, refl, sym, ap, subst, ◌∙◌, arith, true, false}
use Rattle.std.specs.Borrow.{Bor}
use Rattle.std.specs.Prelude.{Option, Some, None, IfErr, IfOk, IfSome, option_map, option_and_then, if◌then◌else◌}
use Rattle.vx_dtype.proofs.Lists.{drop_next}
use Rattle.vx_value.specs.Columns.{Constant}
use Rattle.vx_value.specs.Joins.{same_base}
use Rattle.vx_value.specs.Types.{LogicalType}
use Rattle.vx_fn.specs.Functions.{Function, list_contains, literal}
use Rattle.vx_tree.specs.Trees.{Tree, call, Trees, no_tree, tree}
use Rattle.vx_source_grammar.specs.Listing.{listed, scalar_at, scalars_in}
use Rattle.vx_source_operands.specs.ListViews.{lent_scalars}
use Rattle.vx_source_operands.proofs.Gathering.{onto, scalars_from}
use Rattle.vx_source_over.specs.declared.error.OverError.{OverError}
use Rattle.vx_source_over.specs.declared.error.OverError.TheVariants.{OutOfMemory}
use Rattle.vx_source_over.specs.declared.nodes.Settled.{Settled}
use Rattle.vx_source_over.specs.Peers.{is_in}
use Rattle.vx_source_over.specs.Reading.{Refuses, Settles}
use Rattle.vx_source_over.specs.Settling.{Refusal, misfit, when_settled, contained, list_around, list_from, list_or_misfit, node_with, odd_one}
use Rattle.vx_source_over.specs.Views.{settled_tree, settled_trees, IsTyped, EachTyped}
use Rattle.vx_source_over.proofs.Steps.{refuses_all, refuses_any}

-- ---- the scalars

-- those of the first tree and of the others
pub first_scalar : (x : Settled) (xs : List Settled) (c : Bor Constant) (made : List (Bor Constant)) → Some c.now ≡ scalar_at (settled_tree x) → made ≡ c ∷ [] → scalars_in (settled_trees (x ∷ xs)) ≡ onto (lent_scalars made) (scalars_from settled_tree xs 0)
first_scalar x xs c made here is =
    ap (option_and_then (λ c. option_map (λ cs. c ∷ cs) (scalars_in (settled_trees xs)))) (sym here) ∙ ap (λ ys. onto (lent_scalars ys) (scalars_in (settled_trees xs))) (sym is)

pub no_first_scalar : (x : Settled) (xs : List Settled) → None ≡ scalar_at (settled_tree x) → None ≡ scalars_in (settled_trees (x ∷ xs))
no_first_scalar x xs here = ap (option_and_then (λ c. option_map (λ cs. c ∷ cs) (scalars_in (settled_trees xs)))) here

-- ---- the first of another type

module _ (c : Constant) (xs : List (Bor Constant)) where
  abbrev pub odd_from : ℕ → Constant
  odd_from i = odd_one c (lent_scalars (drop i xs))

  step : (i : ℕ) (x : Bor Constant) → i < length xs → x ≡ get_or xs i x → odd_from i ≡ (if same_base c.type x.now.type then odd_from (i + 1) else x.now)
  step i x lt is = ap (λ ys. odd_one c (lent_scalars ys)) (drop_next xs i x lt is)

  pub odd_next : (i : ℕ) (x : Bor Constant) → i < length xs → x ≡ get_or xs i x → same_base c.type x.now.type ≡ true → odd_one c (lent_scalars xs) ≡ odd_from i → odd_one c (lent_scalars xs) ≡ odd_from (i + 1)
  odd_next i x lt is same so_far = so_far ∙ step i x lt is ∙ ap (λ b. if b then odd_from (i + 1) else x.now) same

  pub odd_found : (i : ℕ) (x : Bor Constant) → i < length xs → x ≡ get_or xs i x → same_base c.type x.now.type ≡ false → odd_one c (lent_scalars xs) ≡ odd_from i → x.now ≡ odd_one c (lent_scalars xs)
  odd_found i x lt is other so_far = sym (so_far ∙ step i x lt is ∙ ap (λ b. if b then odd_from (i + 1) else x.now) other)

  pub odd_end : (i : ℕ) → length xs ≤ i → odd_one c (lent_scalars xs) ≡ odd_from i → c ≡ odd_one c (lent_scalars xs)
  odd_end i h so_far = sym (so_far ∙ ap (λ ys. odd_one c (lent_scalars ys)) (drop_of_length-le xs h))

-- ---- their list

pub none_listed : (xs : List (Bor Constant)) → length xs < 1 → list_from (Some (lent_scalars xs)) ≡ Ok None
none_listed [] h = refl
none_listed (x ∷ xs) h = absurd (omega arith)

pub all_listed : (xs : List (Bor Constant)) (l : Constant) → 0 < length xs → Some l ≡ listed (lent_scalars xs) → list_from (Some (lent_scalars xs)) ≡ Ok (Some l)
all_listed [] l lt is = absurd (omega arith)
all_listed (x ∷ xs) l lt is = ap (list_or_misfit x.now (lent_scalars xs)) (sym is)

abbrev refused_as : Constant → LogicalType → Result (Option Constant) Refusal
refused_as c t = Err (misfit c t)

pub odd_refused : (xs rest : List (Bor Constant)) (x : Bor Constant) (c : Constant) (t : LogicalType) → c ≡ odd_one x.now (lent_scalars rest) → t ≡ x.now.type → None ≡ listed (lent_scalars xs)
    → 0 < length xs → x ≡ get_or xs 0 x → rest ≡ drop 1 xs → list_from (Some (lent_scalars xs)) ≡ Err (misfit c t)
odd_refused [] rest x c t odd same none lt is those = absurd (omega arith)
odd_refused (y ∷ xs) rest x c t odd same none lt is those =
    ap (list_or_misfit y.now (lent_scalars xs)) (sym none) ∙ ap (λ (b : Bor Constant). refused_as (odd_one b.now (lent_scalars xs)) b.now.type) (sym is)
    ∙ ap (λ ys. refused_as (odd_one x.now (lent_scalars ys)) x.now.type) (sym those) ∙ ap (λ b. refused_as b x.now.type) (sym odd) ∙ ap (refused_as c) (sym same)

-- ---- the list around the operand

pub too_few : (below : List Settled) → length below < 2 → list_around (settled_trees below) ≡ Ok None
too_few [] h = refl
too_few (a ∷ []) h = refl
too_few (a ∷ b ∷ below) h = absurd (omega arith)

pub around_first : (below xs : List Settled) (x : Settled) (o : Option (List Constant)) → o ≡ scalars_in (settled_trees (x ∷ xs)) → 1 < length below → x ≡ get_or below 0 x → xs ≡ drop 2 below
    → list_around (settled_trees below) ≡ list_from o
around_first [] xs x o here lt is those = absurd (omega arith)
around_first (a ∷ []) xs x o here lt is those = absurd (omega arith)
around_first (a ∷ b ∷ below) xs x o here lt is those =
    ap (λ y. list_from (scalars_in (settled_trees (y ∷ below)))) (sym is) ∙ ap (λ ys. list_from (scalars_in (settled_trees (x ∷ ys)))) (sym those) ∙ ap list_from (sym here)

pub if_some : {A : Type 0} (r : Result (Option A) OverError) (P : Type 0) → P → IfOk r (λ l. IfSome l (λ _. P))
if_some (Ok (Some l)) P h = h
if_some (Ok None) P h = tt
if_some (Err e) P h = tt

-- ---- the operand

pub second_contained : (f : Function) (below : List Settled) (x : Settled) (c : Constant) → 1 < length below → x ≡ get_or below 1 x
    → contained f (settled_trees below) (Some c) ≡ call list_contains (tree (call (literal c.type c.value) no_tree) (tree (settled_tree x) no_tree))
second_contained f [] x c lt is = absurd (omega arith)
second_contained f (a ∷ []) x c lt is = absurd (omega arith)
second_contained f (a ∷ b ∷ below) x c lt is = ap (λ y. call list_contains (tree (call (literal c.type c.value) no_tree) (tree (settled_tree y) no_tree))) (sym is)

pub contained_node : (f : Function) (below both : List Settled) (l x : Settled) (c : Constant) (r : Result Settled OverError) → 1 < length below → x ≡ get_or below 1 x → both ≡ l ∷ x ∷ []
    → settled_tree l ≡ call (literal c.type c.value) no_tree → IfOk r (λ made. settled_tree made ≡ call list_contains (settled_trees both)) → IfOk r (λ made. settled_tree made ≡ contained f (settled_trees below) (Some c))
contained_node f below both l x c (Ok made) lt is pair leaf node =
    node ∙ ap (λ ys. call list_contains (settled_trees ys)) pair ∙ ap (λ t. call list_contains (tree t (tree (settled_tree x) no_tree))) leaf ∙ sym (second_contained f below x c lt is)
contained_node f below both l x c (Err e) lt is pair leaf node = tt

pub second_typed : (s : LogicalType) (below : List Settled) (x : Settled) → 1 < length below → x ≡ get_or below 1 x → EachTyped s below → IsTyped s x
second_typed s [] x lt is h = absurd (omega arith)
second_typed s (a ∷ []) x lt is h = absurd (omega arith)
second_typed s (a ∷ b ∷ below) x lt is h = subst (IsTyped s) (sym is) h.1.0

-- ---- the node

not_contained : (f : Function) (ts : Trees) → contained f ts None ≡ call f ts
not_contained f no_tree = refl
not_contained f (tree l no_tree) = refl
not_contained f (tree l (tree e ls)) = refl

module _ (f : Function) (d : Option Tree) (ts : Trees) where
  in_node : is_in f d ≡ true → node_with f d ts ≡ when_settled (λ l. Ok (contained f ts l)) (list_around ts)
  in_node h = ap (λ b. if b then when_settled (λ l. Ok (contained f ts l)) (list_around ts) else Ok (call f ts)) h

  pub plain_node : is_in f d ≡ false → node_with f d ts ≡ Ok (call f ts)
  plain_node h = ap (λ b. if b then when_settled (λ l. Ok (contained f ts l)) (list_around ts) else Ok (call f ts)) h

  pub list_refused : (error : OverError) → is_in f d ≡ true → Refuses error (list_around ts) → Refuses error (node_with f d ts)
  list_refused error h = refuses_all error (list_around ts) (node_with f d ts) (λ r q. in_node h ∙ ap (when_settled (λ l. Ok (contained f ts l))) q)

  pub list_node : (c : Constant) → is_in f d ≡ true → list_around ts ≡ Ok (Some c) → node_with f d ts ≡ Ok (contained f ts (Some c))
  list_node c h q = in_node h ∙ ap (when_settled (λ l. Ok (contained f ts l))) q

  pub unlisted_node : is_in f d ≡ true → list_around ts ≡ Ok None → node_with f d ts ≡ Ok (call f ts)
  unlisted_node h q = in_node h ∙ ap (when_settled (λ l. Ok (contained f ts l))) q ∙ ap (λ t. Ok t) (not_contained f ts)

-- what the call gave is the tree, or memory ran out
pub gives_tree : (r : Result Settled OverError) (t : Tree) (said : Result Tree Refusal) → IfOk r (λ x. settled_tree x ≡ t) → IfErr r (λ e. e ≡ OutOfMemory) → said ≡ Ok t → Settles settled_tree r said
gives_tree (Ok x) t said is memory h = h ∙ ap (λ y. Ok y) (sym is)
gives_tree (Err e) t said is memory h = refuses_any e said memory
