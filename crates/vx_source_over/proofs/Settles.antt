-- The steps by which a tree is settled.
use Rattle.std.proofs.Common.{◌≡◌, ℕ, suc, ◌+◌, ◌<◌, ◌≤◌, List, [], ◌∷◌, ◌++◌, length, get_or, drop, drop_of_length-le, Result, Ok, Err, refl, sym, ap, subst, ◌∙◌, arith, Bool, true, false, ◌&&◌}
use Rattle.std.specs.Borrow.{Bor}
use Rattle.vx_dtype.specs.declared.dtype.DType.{DType}
use Rattle.vx_value.specs.Views.{type_of}
use Rattle.std.specs.Prelude.{Option, Some, None, IfSome, option_map, ◌||◌, not, if◌then◌else◌}
use Rattle.std.specs.Option.{is_some}
use Rattle.vx_dtype.proofs.Lists.{drop_next}
use Rattle.vx_value.specs.Columns.{Constant}
use Rattle.vx_value.specs.Types.{LogicalType}
use Rattle.vx_fn.specs.Functions.{Function}
use Rattle.std.proofs.Common.{Vec}
use Rattle.std.specs.declared.alloc.Global.{Global}
use Rattle.std.specs.declared.sync.Arc.{Arc}
use Rattle.vx_fn.specs.declared.function.ScalarFnRef.{ScalarFnRef}
use Rattle.vx_fn.specs.Views.{function_of}
use Rattle.vx_tree.specs.declared.expression.Expression as Unbound
use Rattle.vx_tree.specs.declared.expression.Expression.{Expression}
use Rattle.vx_tree.proofs.Held.{tree_of-Scalar}
use Rattle.vx_tree.specs.Trees.{Tree, root, call, Trees, no_tree, tree}
use Rattle.vx_tree.specs.Views.{tree_of, trees_of}
use Rattle.vx_source_over.specs.declared.error.OverError.{OverError}
use Rattle.vx_source_over.specs.declared.nodes.Settled.{Settled}
use Rattle.vx_source_over.specs.Peers.{is_peer, has_type_of_peers, open_scalar, child_at, is_open, are_open}
use Rattle.vx_source_over.specs.Reading.{Refuses}
use Rattle.vx_source_over.specs.Settling.{Refusal, when_settled, unless, first_or, first_wish, literal_as, node_with, node_of, settled, owned, rest, wished}
use Rattle.vx_source_over.specs.Views.{settled_tree, settled_trees, own_trees, none_of, first_own, said_of, wish_of, IsTyped, AreTyped, EachTyped}
use Rattle.vx_source_over.proofs.Steps.{refuses_all, settled_parts, own_after, own_after-push, own_after-end, own_refused, rest_after, rest_after-push, rest_after-end, rest_refused}

-- what is said of a child that may be a peer with a type of its own
abbrev pub own_said : LogicalType → Function → ℕ → Tree → Option Tree → Result (Option Tree) Refusal
own_said s f i e d = if is_peer f i then unless (is_open e (child_at d i)) (settled s e (child_at d i)) else Ok None

-- a peer, and another child
pub peer_said : (s : LogicalType) (f : Function) (i : ℕ) (e : Tree) (d c : Option Tree) → is_peer f i ≡ true → c ≡ child_at d i → own_said s f i e d ≡ unless (is_open e c) (settled s e c)
peer_said s f i e d c p q = ap (λ b. if b then unless (is_open e (child_at d i)) (settled s e (child_at d i)) else Ok None) p ∙ ap (λ x. unless (is_open e x) (settled s e x)) (sym q)

pub other_said : (s : LogicalType) (f : Function) (i : ℕ) (e : Tree) (d : Option Tree) → is_peer f i ≡ false → own_said s f i e d ≡ Ok None
other_said s f i e d p = ap (λ b. if b then unless (is_open e (child_at d i)) (settled s e (child_at d i)) else Ok None) p

next_index : (i : ℕ) → suc i ≡ i + 1
next_index i = omega arith

-- ---- the children one after another

module _ (s : LogicalType) (f : Function) (d : Option Tree) (es : List Expression) where
  -- those with a type of their own, from that index on
  abbrev pub own_from : ℕ → Result (List (Option Tree)) Refusal
  own_from i = owned s f i (trees_of (drop i es)) d

  own_step : (i : ℕ) (e : Expression) → i < length es → e ≡ get_or es i e → own_from i ≡ when_settled (λ t. when_settled (λ ts. Ok (t ∷ ts)) (own_from (i + 1))) (own_said s f i (tree_of e) d)
  own_step i e lt is =
      ap (λ xs. owned s f i (trees_of xs) d) (drop_next es i e lt is)
      ∙ ap (λ k. when_settled (λ t. when_settled (λ ts. Ok (t ∷ ts)) (owned s f k (trees_of (drop (i + 1) es)) d)) (own_said s f i (tree_of e) d)) (next_index i)

  pub own_next : (made new : List (Option Settled)) (i : ℕ) (e : Expression) (x : Option Settled) (all : Result (List (Option Tree)) Refusal) → i < length es → e ≡ get_or es i e
      → new ≡ made ++ x ∷ [] → own_said s f i (tree_of e) d ≡ Ok (option_map settled_tree x) → all ≡ own_after made (own_from i) → all ≡ own_after new (own_from (i + 1))
  own_next made new i e x all lt is pushed said so_far =
      so_far ∙ ap (own_after made) (own_step i e lt is ∙ ap (when_settled (λ t. when_settled (λ ts. Ok (t ∷ ts)) (own_from (i + 1)))) said)
      ∙ sym (own_after-push made x (own_from (i + 1))) ∙ ap (λ xs. own_after xs (own_from (i + 1))) (sym pushed)

  pub own_stops : (made : List (Option Settled)) (i : ℕ) (e : Expression) (error : OverError) (all : Result (List (Option Tree)) Refusal) → i < length es → e ≡ get_or es i e
      → Refuses error (own_said s f i (tree_of e) d) → all ≡ own_after made (own_from i) → Refuses error all
  own_stops made i e error all lt is h so_far =
      refuses_all error (own_said s f i (tree_of e) d) all
      (λ r q. so_far ∙ own_refused made (own_from i) r (own_step i e lt is ∙ ap (when_settled (λ t. when_settled (λ ts. Ok (t ∷ ts)) (own_from (i + 1)))) q)) h

  pub own_end : (made : List (Option Settled)) (i : ℕ) (all : Result (List (Option Tree)) Refusal) → length es ≤ i → all ≡ own_after made (own_from i) → all ≡ Ok (own_trees made)
  own_end made i all h so_far = so_far ∙ rw (drop_of_length-le es h) (own_after-end made)

module _ (s : LogicalType) (w : Option LogicalType) (f : Function) (d : Option Tree) (es : List Expression) where
  -- all that is left from that index on
  abbrev pub rest_from : ℕ → List (Option Settled) → Result Trees Refusal
  rest_from i own = rest s w f i (trees_of (drop i es)) d (own_trees own)

  -- what is said of the child
  abbrev pub rest_said : ℕ → Expression → List (Option Settled) → Result Tree Refusal
  rest_said i e own = first_or (own_trees own) (said_of s (is_peer f i) w (tree_of e) (child_at d i))

  behind : (own : List (Option Settled)) → drop 1 (own_trees own) ≡ own_trees (drop 1 own)
  behind [] = refl
  behind (x ∷ own) = refl

  rest_step : (i : ℕ) (e : Expression) (own : List (Option Settled)) → i < length es → e ≡ get_or es i e
      → rest_from i own ≡ when_settled (λ t. when_settled (λ ts. Ok (tree t ts)) (rest_from (i + 1) (drop 1 own))) (rest_said i e own)
  rest_step i e own lt is =
      ap (λ xs. rest s w f i (trees_of xs) d (own_trees own)) (drop_next es i e lt is)
      ∙ ap (λ k. when_settled (λ t. when_settled (λ ts. Ok (tree t ts)) (rest s w f k (trees_of (drop (i + 1) es)) d (drop 1 (own_trees own)))) (rest_said i e own)) (next_index i)
      ∙ ap (λ xs. when_settled (λ t. when_settled (λ ts. Ok (tree t ts)) (rest s w f (i + 1) (trees_of (drop (i + 1) es)) d xs)) (rest_said i e own)) (behind own)

  pub rest_next : (made new : List Settled) (i : ℕ) (e : Expression) (own left : List (Option Settled)) (x : Settled) (all : Result Trees Refusal) → i < length es → e ≡ get_or es i e
      → left ≡ drop 1 own → new ≡ made ++ x ∷ [] → rest_said i e own ≡ Ok (settled_tree x) → all ≡ rest_after made (rest_from i own) → all ≡ rest_after new (rest_from (i + 1) left)
  rest_next made new i e own left x all lt is next pushed said so_far =
      so_far ∙ ap (rest_after made) (rest_step i e own lt is ∙ ap (when_settled (λ t. when_settled (λ ts. Ok (tree t ts)) (rest_from (i + 1) (drop 1 own)))) said)
      ∙ sym (rest_after-push made x (rest_from (i + 1) (drop 1 own))) ∙ ap (λ xs. rest_after xs (rest_from (i + 1) (drop 1 own))) (sym pushed)
      ∙ ap (λ xs. rest_after new (rest_from (i + 1) xs)) (sym next)

  pub rest_stops : (made : List Settled) (i : ℕ) (e : Expression) (own : List (Option Settled)) (error : OverError) (all : Result Trees Refusal) → i < length es → e ≡ get_or es i e
      → Refuses error (rest_said i e own) → all ≡ rest_after made (rest_from i own) → Refuses error all
  rest_stops made i e own error all lt is h so_far =
      refuses_all error (rest_said i e own) all
      (λ r q. so_far ∙ rest_refused made (rest_from i own) r (rest_step i e own lt is ∙ ap (when_settled (λ t. when_settled (λ ts. Ok (tree t ts)) (rest_from (i + 1) (drop 1 own)))) q)) h

  pub rest_end : (made : List Settled) (i : ℕ) (own : List (Option Settled)) (all : Result Trees Refusal) → length es ≤ i → all ≡ rest_after made (rest_from i own) → all ≡ Ok (settled_trees made)
  rest_end made i own all h so_far = so_far ∙ rw (drop_of_length-le es h) (rest_after-end made)

-- what is said of a child that isn't settled, of which that is known
pub child_said : (s : LogicalType) (w v : Option LogicalType) (f : Function) (i : ℕ) (p : Bool) (e : Tree) (d c : Option Tree) → p ≡ is_peer f i → c ≡ child_at d i → v ≡ w → said_of s p v e c ≡ said_of s (is_peer f i) w e (child_at d i)
child_said s w v f i p e d c h q same = ap (λ b. said_of s b v e c) h ∙ ap (λ x. said_of s (is_peer f i) v e x) q ∙ ap (λ x. said_of s (is_peer f i) x e (child_at d i)) same

-- the child that is settled already, and one that isn't
pub said_first : (own : List (Option Settled)) (x : Settled) (said : Result Tree Refusal) → Some x ≡ first_own own → first_or (own_trees own) said ≡ Ok (settled_tree x)
said_first [] x said h = cc
said_first (None ∷ own) x said h = cc
said_first (Some y ∷ own) x said h = let q : y ≡ x = cc in ap (λ z. Ok (settled_tree z)) q

pub said_then : (own : List (Option Settled)) (said : Result Tree Refusal) → None ≡ first_own own → first_or (own_trees own) said ≡ said
said_then [] said h = refl
said_then (None ∷ own) said h = refl
said_then (Some y ∷ own) said h = cc

-- ---- types of the children one after another

pub typed_push : (s : LogicalType) (made : List (Option Settled)) (x : Option Settled) → AreTyped s made → AreTyped s (x ∷ []) → AreTyped s (made ++ x ∷ [])
typed_push s [] x h k = k
typed_push s (None ∷ made) x h k = typed_push s made x h k
typed_push s (Some y ∷ made) x h k = (h.0, typed_push s made x h.1 k)

pub one_typed : (s : LogicalType) (x : Option Settled) → IfSome x (IsTyped s) → AreTyped s (x ∷ [])
one_typed s None h = tt
one_typed s (Some y) h = (h, tt)

-- the wish that is lent
pub lent_wish : (r : Option (Bor DType)) (held wish : Option DType) → option_map (λ t. t.now) r ≡ held → held ≡ wish → wish_of r ≡ option_map type_of wish
lent_wish None held wish h is = ap (option_map type_of) (h ∙ is)
lent_wish (Some t) held wish h is = ap (option_map type_of) (h ∙ is)

pub each_typed_push : (s : LogicalType) (made : List Settled) (x : Settled) → EachTyped s made → IsTyped s x → EachTyped s (made ++ x ∷ [])
each_typed_push s [] x h k = (k, tt)
each_typed_push s (y ∷ made) x h k = (h.0, each_typed_push s made x h.1 k)

pub typed_first : (s : LogicalType) (own : List (Option Settled)) (x : Settled) → AreTyped s own → Some x ≡ first_own own → IsTyped s x
typed_first s [] x h k = cc
typed_first s (None ∷ own) x h k = cc
typed_first s (Some y ∷ own) x h k = let q : y ≡ x = cc in subst (IsTyped s) q h.0

pub typed_behind : (s : LogicalType) (own : List (Option Settled)) → AreTyped s own → AreTyped s (drop 1 own)
typed_behind s [] h = h
typed_behind s (None ∷ own) h = h
typed_behind s (Some y ∷ own) h = h.1

-- ---- a tree with or without a type of its own

-- it is settled, or waits
pub settled_so : (b : Bool) (x : Result Tree Refusal) (t : Tree) → unless b x ≡ Ok (Some t) → (b ≡ false) × (x ≡ Ok t)
settled_so true x t h = cc
settled_so false (Ok u) t h = (refl, cc)
settled_so false (Err r) t h = cc

pub waits : (b : Bool) (x : Result Tree Refusal) → unless b x ≡ Ok None → b ≡ true
waits true x h = refl
waits false (Ok u) h = cc
waits false (Err r) h = cc

pub refused_so : (b : Bool) (x : Result Tree Refusal) (r : Refusal) → unless b x ≡ Err r → (b ≡ false) × (x ≡ Err r)
refused_so true x r h = cc
refused_so false (Ok u) r h = cc
refused_so false (Err q) r h = (refl, cc)

-- what is said of a child that is no peer
abbrev pub alone_said : LogicalType → Tree → Option Tree → Result Tree Refusal
alone_said s e d = if is_open e d then wished s None e d else settled s e d

pub alone_settled : (s : LogicalType) (e : Tree) (d : Option Tree) (t : Tree) → unless (is_open e d) (settled s e d) ≡ Ok (Some t) → alone_said s e d ≡ Ok t
alone_settled s e d t h = let q = settled_so (is_open e d) (settled s e d) t h in rw q.0 q.1

pub alone_waits : (s : LogicalType) (e : Tree) (d : Option Tree) → unless (is_open e d) (settled s e d) ≡ Ok None → alone_said s e d ≡ wished s None e d
alone_waits s e d h = rw (waits (is_open e d) (settled s e d) h) refl

pub alone_refused : (s : LogicalType) (e : Tree) (d : Option Tree) (error : OverError) → Refuses error (unless (is_open e d) (settled s e d)) → Refuses error (alone_said s e d)
alone_refused s e d error h = refuses_all error (unless (is_open e d) (settled s e d)) (alone_said s e d) (λ r k. let q = refused_so (is_open e d) (settled s e d) r k in rw q.0 q.1) h

-- ---- a node

pub none_there : {A : Type 0} (o : Option A) → is_some o ≡ false → o ≡ None
none_there None h = refl
none_there (Some x) h = cc

abbrev ok_own : List (Option Tree) → Result (List (Option Tree)) Refusal
ok_own ts = Ok ts

the_own : (t u : List (Option Tree)) → ok_own t ≡ Ok u → t ≡ u
the_own t u h = cc

-- peers that are all open are those of which none is settled

pub open_none : (s : LogicalType) (f : Function) (i : ℕ) (es : Trees) (d : Option Tree) (own : List (Option Tree)) → owned s f i es d ≡ Ok own → none_of own ≡ are_open f i es d
open_none s f i no_tree d own h = ap none_of (sym (the_own [] own h))
open_none s f i (tree e es) d own h =
    let one = settled_parts _ (own_said s f i e d) own h in
    let more = settled_parts _ (owned s f (suc i) es d) own one.2 in
    let is : one.0 ∷ more.0 ≡ own = the_own (one.0 ∷ more.0) own more.2 in
    ap none_of (sym is) ∙ go (is_peer f i) (is_open e (child_at d i)) (settled s e (child_at d i)) one.0 more.0 one.1 (open_none s f (suc i) es d more.0 more.1)
  where
    go : (p b : Bool) (said : Result Tree Refusal) (t : Option Tree) (ts : List (Option Tree)) → (if p then unless b said else Ok None) ≡ Ok t → none_of ts ≡ are_open f (suc i) es d → none_of (t ∷ ts) ≡ ((not p || b) && are_open f (suc i) es d)
    go false b said None ts k e = e
    go false b said (Some t) ts k e = cc
    go true true said None ts k e = e
    go true true said (Some t) ts k e = cc
    go true false (Ok u) None ts k e = cc
    go true false (Ok u) (Some t) ts k e = refl
    go true false (Err r) None ts k e = cc
    go true false (Err r) (Some t) ts k e = cc

-- peers one of which is refused aren't all open
pub refused_open : (s : LogicalType) (f : Function) (i : ℕ) (es : Trees) (d : Option Tree) (r : Refusal) → owned s f i es d ≡ Err r → are_open f i es d ≡ false
refused_open s f i no_tree d r h = cc
refused_open s f i (tree e es) d r h = go (is_peer f i) (is_open e (child_at d i)) (settled s e (child_at d i)) (owned s f (suc i) es d) (λ q k. refused_open s f (suc i) es d q k) h
  where
    go : (p b : Bool) (said : Result Tree Refusal) (more : Result (List (Option Tree)) Refusal) → ((q : Refusal) → more ≡ Err q → are_open f (suc i) es d ≡ false)
        → when_settled (λ t. when_settled (λ ts. Ok (t ∷ ts)) more) (if p then unless b said else Ok None) ≡ Err r → ((not p || b) && are_open f (suc i) es d) ≡ false
    go false b said (Ok ts) k e = cc
    go false b said (Err q) k e = k q refl
    go true true said (Ok ts) k e = cc
    go true true said (Err q) k e = k q refl
    go true false said more k e = refl

closed_node : (f : Function) (es : Trees) (d : Option Tree) → open_scalar f d ≡ None → (has_type_of_peers f && are_open f 0 es d) ≡ false → is_open (call f es) d ≡ false
closed_node f es d bare h = rw bare h

module _ (s : LogicalType) (f : Function) (es : Trees) (d : Option Tree) (e : Tree) (node : e ≡ call f es) where
  abbrev own_of : Result (Option Tree) Refusal
  own_of = unless (is_open e d) (settled s e d)

  -- a literal without a type waits
  pub literal_waits : is_some (open_scalar f d) ≡ true → own_of ≡ Ok None
  literal_waits h =
      let waits_here : is_open (call f es) d ≡ true = rw h refl in
      ap (λ n. unless (is_open n d) (settled s n d)) node ∙ ap (λ b. unless b (settled s (call f es) d)) waits_here

  -- so does a node whose peers all wait
  pub node_waits : (own : List (Option Tree)) → open_scalar f d ≡ None → owned s f 0 es d ≡ Ok own → (has_type_of_peers f && none_of own) ≡ true → own_of ≡ Ok None
  node_waits own bare said h =
      let open_so : (has_type_of_peers f && are_open f 0 es d) ≡ true = rw (← open_none s f 0 es d own said) h in
      let waits_here : is_open (call f es) d ≡ true = rw bare open_so in
      ap (λ n. unless (is_open n d) (settled s n d)) node ∙ ap (λ b. unless b (settled s (call f es) d)) waits_here

  own_is : is_open (call f es) d ≡ false → own_of ≡ unless false (settled s (call f es) d)
  own_is h = ap (λ n. unless (is_open n d) (settled s n d)) node ∙ ap (λ b. unless b (settled s (call f es) d)) h

  -- a peer is refused
  pub peer_refused : (error : OverError) → open_scalar f d ≡ None → Refuses error (owned s f 0 es d) → Refuses error own_of
  peer_refused error bare h =
      refuses_all error (owned s f 0 es d) own_of
      (λ r k.
      let b : (has_type_of_peers f && are_open f 0 es d) ≡ false = not_both (has_type_of_peers f) _ (refused_open s f 0 es d r k) in
      own_is (closed_node f es d bare b) ∙ ap (λ x. unless false (when_settled (λ own. when_settled (node_with f d) (rest s (first_wish s f own) f 0 es d own)) x)) k) h
    where
      not_both : (a b : Bool) → b ≡ false → (a && b) ≡ false
      not_both true b h = h
      not_both false b h = refl

  -- the others are settled over its peers
  over_peers : (own : List (Option Tree)) → open_scalar f d ≡ None → owned s f 0 es d ≡ Ok own → (has_type_of_peers f && none_of own) ≡ false
      → own_of ≡ unless false (when_settled (node_with f d) (rest s (first_wish s f own) f 0 es d own))
  over_peers own bare said h =
      let b : (has_type_of_peers f && are_open f 0 es d) ≡ false = rw (← open_none s f 0 es d own said) h in
      own_is (closed_node f es d bare b) ∙ ap (λ x. unless false (when_settled (λ own. when_settled (node_with f d) (rest s (first_wish s f own) f 0 es d own)) x)) said

  pub rest_is_refused : (own : List (Option Tree)) (w : Option LogicalType) (error : OverError) → open_scalar f d ≡ None → owned s f 0 es d ≡ Ok own → (has_type_of_peers f && none_of own) ≡ false → w ≡ first_wish s f own
      → Refuses error (rest s w f 0 es d own) → Refuses error own_of
  rest_is_refused own w error bare said h wish k =
      refuses_all error (rest s w f 0 es d own) own_of
      (λ r q. over_peers own bare said h ∙ ap (λ x. unless false (when_settled (node_with f d) (rest s x f 0 es d own))) (sym wish) ∙ ap (λ x. unless false (when_settled (node_with f d) x)) q) k

  over_rest : (own : List (Option Tree)) (w : Option LogicalType) (ts : Trees) → open_scalar f d ≡ None → owned s f 0 es d ≡ Ok own → (has_type_of_peers f && none_of own) ≡ false → w ≡ first_wish s f own
      → rest s w f 0 es d own ≡ Ok ts → own_of ≡ unless false (node_with f d ts)
  over_rest own w ts bare said h wish k =
      over_peers own bare said h ∙ ap (λ x. unless false (when_settled (node_with f d) (rest s x f 0 es d own))) (sym wish) ∙ ap (λ x. unless false (when_settled (node_with f d) x)) k

  -- the node itself is refused, or settled
  pub node_refused : (own : List (Option Tree)) (w : Option LogicalType) (ts : Trees) (error : OverError) → open_scalar f d ≡ None → owned s f 0 es d ≡ Ok own → (has_type_of_peers f && none_of own) ≡ false → w ≡ first_wish s f own
      → rest s w f 0 es d own ≡ Ok ts → Refuses error (node_with f d ts) → Refuses error own_of
  node_refused own w ts error bare said h wish k refused = refuses_all error (node_with f d ts) own_of (λ r q. over_rest own w ts bare said h wish k ∙ ap (unless false) q) refused

  pub node_settled : (own : List (Option Tree)) (w : Option LogicalType) (ts : Trees) (t : Tree) → open_scalar f d ≡ None → owned s f 0 es d ≡ Ok own → (has_type_of_peers f && none_of own) ≡ false → w ≡ first_wish s f own
      → rest s w f 0 es d own ≡ Ok ts → node_with f d ts ≡ Ok t → own_of ≡ Ok (Some t)
  node_settled own w ts t bare said h wish k is = over_rest own w ts bare said h wish k ∙ ap (unless false) is

  -- ---- a tree without a type of its own

  pub literal_refused : (w : Option LogicalType) (v : Constant) (error : OverError) → Some v ≡ open_scalar f d → Refuses error (literal_as w v) → Refuses error (wished s w e d)
  literal_refused w v error h k =
      refuses_all error (literal_as w v) (wished s w e d)
      (λ r q. ap (λ n. wished s w n d) node ∙ ap (λ x. node_of f es d w x (rest s w f 0 es d [])) (sym h) ∙ ap (when_settled (λ g. Ok (call g es))) q) k

  pub literal_settled : (w : Option LogicalType) (v : Constant) (g : Function) (t : Tree) → Some v ≡ open_scalar f d → literal_as w v ≡ Ok g → t ≡ call g es → wished s w e d ≡ Ok t
  literal_settled w v g t h q is =
      ap (λ n. wished s w n d) node ∙ ap (λ x. node_of f es d w x (rest s w f 0 es d [])) (sym h) ∙ ap (when_settled (λ g. Ok (call g es))) q ∙ ap (λ x. Ok x) (sym is)

  wish_over : (w : Option LogicalType) → open_scalar f d ≡ None → wished s w e d ≡ when_settled (node_with f d) (rest s w f 0 es d [])
  wish_over w bare = ap (λ n. wished s w n d) node ∙ ap (λ x. node_of f es d w x (rest s w f 0 es d [])) bare

  pub wish_refused : (w : Option LogicalType) (error : OverError) → open_scalar f d ≡ None → Refuses error (rest s w f 0 es d []) → Refuses error (wished s w e d)
  wish_refused w error bare k = refuses_all error (rest s w f 0 es d []) (wished s w e d) (λ r q. wish_over w bare ∙ ap (when_settled (node_with f d)) q) k

  pub wish_settled : (w : Option LogicalType) (ts : Trees) → open_scalar f d ≡ None → rest s w f 0 es d [] ≡ Ok ts → wished s w e d ≡ node_with f d ts
  wish_settled w ts bare q = wish_over w bare ∙ ap (when_settled (node_with f d)) q

-- a function node over the children that it holds
pub seen_call : (e : Expression) (f : ScalarFnRef) (all : Arc (Vec Expression Global) Global) (children : List Expression) → e ≡ Unbound.Scalar f all → children ≡ all.value.items → tree_of e ≡ call (function_of f) (trees_of children)
seen_call e f all children is those = rw (is, tree_of-Scalar f all, ← those) refl

-- the scope's row
pub root_own : (s : LogicalType) (e : Tree) (d : Option Tree) (t : Tree) → e ≡ root → t ≡ root → unless (is_open e d) (settled s e d) ≡ Ok (Some t)
root_own s e d t h k = ap (λ n. unless (is_open n d) (settled s n d)) h ∙ ap (λ x. Ok (Some x)) (sym k)

pub root_wished : (s : LogicalType) (w : Option LogicalType) (e : Tree) (d : Option Tree) (t : Tree) → e ≡ root → t ≡ root → wished s w e d ≡ Ok t
root_wished s w e d t h k = ap (λ n. wished s w n d) h ∙ ap (λ x. Ok x) (sym k)
