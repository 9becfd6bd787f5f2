-- Settling changes nothing but the types of literals that were written without one, and what their values are as those of the types.
use Rattle.std.proofs.Common.{◌≡◌, ◌∙◌, ℕ, suc, List, [], ◌∷◌, drop, Result, Ok, Err, refl, ap, subst, Bool, true, false}
use Rattle.std.specs.Prelude.{Option, Some, None, option_and_then, ◌||◌, ◌&&◌, if◌then◌else◌}
use Rattle.std.specs.Option.{is_some}
use Rattle.vx_dtype.specs.declared.float_type.FloatType.TheVariants.{F64}
use Rattle.vx_value.specs.Columns.{Constant, constant}
use Rattle.vx_value.specs.Fits.{fits, Fits}
use Rattle.vx_value.specs.Types.{Name, Atomic, truth, number, floating, decimals, date, timestamp, text, octets, LogicalType, ty, atomic, Datum, null, bool, int, float, utf8, bytes, list_of, struct_of, is_null_datum, with_nullability}
use Rattle.vx_fn.specs.Functions.{Function, literal}
use Rattle.vx_tree.specs.Trees.{Tree, root, call, Trees, no_tree, tree}
use Rattle.vx_source_types.specs.Literals.{fitting, plain_type, plain_of, plain_literal, in_range, names_left, point_literal, typed_of, typed_literal}
use Rattle.vx_source_types.specs.Tokens.{is_whole}
use Rattle.vx_source_types.specs.Untyped.{has_texts, point_read, typed_value}
use Rattle.vx_source_types.specs.ValueReading.{Drafted, drafted, pointed}
use Rattle.vx_source_types.specs.declared.expectation.Expected.{Expected}
use Rattle.vx_source_over.specs.Peers.{is_peer, has_type_of_peers, open_scalar, is_in, child_at, is_open, are_open}
use Rattle.vx_source_over.specs.Settling.{Refusal, when_settled, read_as, fitted, as_alone, literal_as, unless, first_or, first_wish, list_around, contained, node_with, node_of, settled, owned, rest, wished, written, written_as}
use Rattle.vx_source_over.specs.Laws.{IsValueAs, value_before, IsRetyped, same_root, other_type, same_node, in_one_list, AreRetyped, no_more, one_more, TypesAloneChange, OtherValuesStay}
use Rattle.vx_source_over.proofs.Steps.{settled_parts}

abbrev ok_tree : Tree → Result Tree Refusal
ok_tree t = Ok t

abbrev ok_trees : Trees → Result Trees Refusal
ok_trees ts = Ok ts

abbrev ok_own : List (Option Tree) → Result (List (Option Tree)) Refusal
ok_own ts = Ok ts

abbrev ok_function : Function → Result Function Refusal
ok_function g = Ok g

the_tree : (t u : Tree) → ok_tree t ≡ Ok u → t ≡ u
the_tree t u h = cc

the_trees : (t u : Trees) → ok_trees t ≡ Ok u → t ≡ u
the_trees t u h = cc

the_own : (t u : List (Option Tree)) → ok_own t ≡ Ok u → t ≡ u
the_own t u h = cc

the_function : (t u : Function) → ok_function t ≡ Ok u → u ≡ t
the_function t u h = cc

-- ---- a literal

-- the function is a literal of what that scalar's value is as one of its type
abbrev IsLiteral : Constant → Function → Type 0
IsLiteral c g = (t : LogicalType) × (w : Datum) × (g ≡ literal t w) × IsValueAs c t w

fitting_is : (t : LogicalType) (w : Datum) (c : Constant) → fitting t w ≡ Some c → (c ≡ constant t w) × Fits w t
fitting_is t w c h = go (fits w t) refl h
  where
    go : (b : Bool) → fits w t ≡ b → (if b then Some (constant t w) else None) ≡ Some c → (c ≡ constant t w) × Fits w t
    go true q h = (cc, q)
    go false q h = cc

typed_of_is : (t : LogicalType) (left : Option (List Name)) (o : Option Datum) (c : Constant) → typed_of t left o ≡ Some c → (w : Datum) × (o ≡ Some w) × (fitting t w ≡ Some c)
typed_of_is t (Some []) (Some w) c h = (w, refl, h)
typed_of_is t (Some []) None c h = cc
typed_of_is t (Some (a ∷ names)) o c h = cc
typed_of_is t None o c h = cc

point_is : (t : LogicalType) (o : Option Datum) (c : Constant) → option_and_then (fitting t) o ≡ Some c → (w : Datum) × (o ≡ Some w) × (fitting t w ≡ Some c)
point_is t (Some w) c h = (w, refl, h)
point_is t None c h = cc

-- a literal with the type behind it has the value that the type makes of what was written
typed_is : (d : Drafted) (t : LogicalType) (c : Constant) → typed_literal d t ≡ Some c → (w : Datum) × (value_before d t ≡ Some w) × (fitting t w ≡ Some c)
typed_is (drafted v names) t c h = typed_of_is t (names_left v t names) (typed_value v t) c h
typed_is (pointed s) t c h = point_is t (point_read s t) c h

fitted_is : (t : LogicalType) (b : Constant) (g : Function) → fitted t b ≡ Ok g → IsLiteral b g
fitted_is t b g h = go (typed_literal (written b) t) refl h
  where
    go : (o : Option Constant) → typed_literal (written b) t ≡ o → read_as t b o ≡ Ok g → IsLiteral b g
    go (Some c) q k =
        let p = typed_is (written b) t c q in
        let f = fitting_is t p.0 c p.2 in
        (t, p.0, the_function (literal c.type c.value) g k ∙ ap (λ (x : Constant). literal x.type x.value) f.0, (p.1, f.1))
    go None q k = cc

abbrev ok_type : LogicalType → Result LogicalType Expected
ok_type t = Ok t

the_type : (t u : LogicalType) → ok_type t ≡ Ok u → t ≡ u
the_type t u h = cc

-- a value is that value of the type that it has alone
alone_stays : (v : Datum) (t : LogicalType) → plain_type v ≡ Ok t → typed_value v t ≡ Some v
alone_stays null t h = cc
alone_stays (bool b) t h = subst (λ u. typed_value (bool b) u ≡ Some (bool b)) (the_type _ t h) refl
alone_stays (int i) t h = subst (λ u. typed_value (int i) u ≡ Some (int i)) (the_type _ t h) refl
alone_stays (float x) t h = subst (λ u. typed_value (float x) u ≡ Some (float x)) (the_type _ t h) refl
alone_stays (utf8 s) t h = subst (λ u. typed_value (utf8 s) u ≡ Some (utf8 s)) (the_type _ t h) refl
alone_stays (bytes bs) t h = subst (λ u. typed_value (bytes bs) u ≡ Some (bytes bs)) (the_type _ t h) refl
alone_stays (list_of vs) t h = cc
alone_stays (struct_of vs) t h = cc

plain_is : (v : Datum) (r : Result LogicalType Expected) (g : Function) → plain_type v ≡ r → as_alone (plain_of v r) ≡ Ok g → (t : LogicalType) × (g ≡ literal t v) × (typed_value v t ≡ Some v) × Fits v t
plain_is v (Err x) g p h = cc
plain_is v (Ok t) g p h = go (fits v t) refl h
  where
    go : (b : Bool) → fits v t ≡ b → as_alone (in_range (if b then Some (constant t v) else None)) ≡ Ok g → (u : LogicalType) × (g ≡ literal u v) × (typed_value v u ≡ Some v) × Fits v u
    go true q k = (t, the_function (literal t v) g k, alone_stays v t p, q)
    go false q k = cc

alone_is : (d : Drafted) (g : Function) → as_alone (plain_literal d) ≡ Ok g → (t : LogicalType) × (w : Datum) × (g ≡ literal t w) × (value_before d t ≡ Some w) × Fits w t
alone_is (drafted v names) g h = let p = plain_is v (plain_type v) g refl h in (p.0, v, p.1, p.2, p.3)
alone_is (pointed s) g h = whole (is_whole s) h
  where
    f64 : LogicalType
    f64 = ty (atomic (floating F64)) false

    go : (o : Option Constant) → point_literal s f64 ≡ o → as_alone (in_range o) ≡ Ok g → (t : LogicalType) × (w : Datum) × (g ≡ literal t w) × (point_read s t ≡ Some w) × Fits w t
    go (Some c) q k =
        let p = typed_is (pointed s) f64 c q in
        let f = fitting_is f64 p.0 c p.2 in
        (f64, p.0, the_function (literal c.type c.value) g k ∙ ap (λ (x : Constant). literal x.type x.value) f.0, p.1, f.1)
    go None q k = cc

    whole : (b : Bool) → as_alone (in_range (if b then None else point_literal s f64)) ≡ Ok g → (t : LogicalType) × (w : Datum) × (g ≡ literal t w) × (point_read s t ≡ Some w) × Fits w t
    whole true k = cc
    whole false k = go (point_literal s f64) refl k

literal_is : (w : Option LogicalType) (c : Constant) (g : Function) → literal_as w c ≡ Ok g → IsLiteral c g
literal_is (Some t) c g h = fitted_is (with_nullability (is_null_datum c.value) t) c g h
literal_is None c g h = let p = alone_is (written c) g h in (p.0, p.1, p.2, (p.3, p.4))

no_literal : (o : Option Constant) (b : Bool) → (is_some o || b) ≡ false → o ≡ None
no_literal None b h = refl
no_literal (Some v) b h = cc

-- ---- a child

-- each child that is settled already is so
abbrev AreOwn : ℕ → Trees → Option Tree → List (Option Tree) → Type 0
AreOwn i no_tree d own = Unit {0}
AreOwn i (tree e es) d [] = Unit {0}
AreOwn i (tree e es) d (None ∷ own) = AreOwn (suc i) es d own
AreOwn i (tree e es) d (Some t ∷ own) = IsRetyped e (child_at d i) t × AreOwn (suc i) es d own

nothing_own : (i : ℕ) (es : Trees) (d : Option Tree) → AreOwn i es d []
nothing_own i no_tree d = tt
nothing_own i (tree e es) d = tt

own_behind : (i : ℕ) (e : Tree) (es : Trees) (d : Option Tree) (own : List (Option Tree)) → AreOwn i (tree e es) d own → AreOwn (suc i) es d (drop 1 own)
own_behind i e es d [] h = nothing_own (suc i) es d
own_behind i e es d (None ∷ own) h = h
own_behind i e es d (Some t ∷ own) h = h.1

own_so : (p b : Bool) (said : Result Tree Refusal) (t : Tree) → (if p then unless b said else Ok None) ≡ Ok (Some t) → (b ≡ false) × (said ≡ Ok t)
own_so false b said t h = cc
own_so true true said t h = cc
own_so true false (Ok u) t h = (refl, cc)
own_so true false (Err r) t h = cc

module _ (s : LogicalType) (w : Option LogicalType) (e : Tree) (c : Option Tree) (P : Tree → Type 0) (peer : (t : Tree) → wished s w e c ≡ Ok t → P t) (alone : (t : Tree) → wished s None e c ≡ Ok t → P t)
    (own : (t : Tree) → is_open e c ≡ false → settled s e c ≡ Ok t → P t) where
  said_so : (p b : Bool) (t : Tree) → is_open e c ≡ b → (if p then wished s w e c else (if b then wished s None e c else settled s e c)) ≡ Ok t → P t
  said_so true b t q h = peer t h
  said_so false true t q h = alone t h
  said_so false false t q h = own t q h

module _ (i : ℕ) (e : Tree) (es : Trees) (d : Option Tree) (said : Result Tree Refusal) (k : (t : Tree) → said ≡ Ok t → IsRetyped e (child_at d i) t) where
  first_so : (own : List (Option Tree)) (t : Tree) → AreOwn i (tree e es) d own → first_or own said ≡ Ok t → IsRetyped e (child_at d i) t
  first_so [] t a h = k t h
  first_so (None ∷ own) t a h = k t h
  first_so (Some u ∷ own) t a h = subst (IsRetyped e (child_at d i)) (the_tree u t h) a.0

put_own : (i : ℕ) (e : Tree) (es : Trees) (d : Option Tree) (x : Option Tree) (own : List (Option Tree)) → ((t : Tree) → x ≡ Some t → IsRetyped e (child_at d i) t) → AreOwn (suc i) es d own → AreOwn i (tree e es) d (x ∷ own)
put_own i e es d None own k h = h
put_own i e es d (Some t) own k h = (k t refl, h)

-- the node over what is below it, or for `in` over literals a search in their list
node_retyped : (f : Function) (es ts : Trees) (d : Option Tree) (t : Tree) → open_scalar f d ≡ None → AreRetyped 0 es d ts → node_with f d ts ≡ Ok t → IsRetyped (call f es) d t
node_retyped f es ts d t bare below h = go (is_in f d) refl h
  where
    go : (b : Bool) → is_in f d ≡ b → (if b then when_settled (λ l. Ok (contained f ts l)) (list_around ts) else Ok (call f ts)) ≡ Ok t → IsRetyped (call f es) d t
    go true q k = in_one_list q below h
    go false q k = subst (IsRetyped (call f es) d) (the_tree (call f ts) t k) (same_node bare q below)

module _ (s : LogicalType) (w : Option LogicalType) (f : Function) (es : Trees) (d : Option Tree) (t : Tree) (below : Result Trees Refusal) (k : (ts : Trees) → below ≡ Ok ts → AreRetyped 0 es d ts) where
  node_so : (o : Option Constant) → open_scalar f d ≡ o → node_of f es d w o below ≡ Ok t → IsRetyped (call f es) d t
  node_so (Some v) q h =
      let p = settled_parts _ (literal_as w v) t h in
      let g = literal_is w v p.0 p.1 in
      let is : call (literal g.0 g.1) es ≡ t = cc (p.2, g.2) in
      subst (IsRetyped (call f es) d) is (other_type q g.3)
  node_so None q h = let p = settled_parts (node_with f d) below t h in node_retyped f es p.0 d t q (k p.0 p.1) p.2

-- ---- trees

mutual
  settled_retyped : (s : LogicalType) (e : Tree) (d : Option Tree) (t : Tree) → is_open e d ≡ false → settled s e d ≡ Ok t → IsRetyped e d t
  settled_retyped s root d t o h = subst (IsRetyped root d) (the_tree root t h) same_root
  settled_retyped s (call f es) d t o h =
      let own = settled_parts _ (owned s f 0 es d) t h in
      let below = settled_parts _ (rest s (first_wish s f own.0) f 0 es d own.0) t own.2 in
      node_retyped f es below.0 d t (no_literal (open_scalar f d) (has_type_of_peers f && are_open f 0 es d) o)
      (rest_retyped s (first_wish s f own.0) f 0 es d own.0 below.0 (owned_retyped s f 0 es d own.0 own.1) below.1) below.2

  owned_retyped : (s : LogicalType) (f : Function) (i : ℕ) (es : Trees) (d : Option Tree) (own : List (Option Tree)) → owned s f i es d ≡ Ok own → AreOwn i es d own
  owned_retyped s f i no_tree d own h = tt
  owned_retyped s f i (tree e es) d own h =
      let one = settled_parts _ (if is_peer f i then unless (is_open e (child_at d i)) (settled s e (child_at d i)) else Ok None) own h in
      let more = settled_parts _ (owned s f (suc i) es d) own one.2 in
      subst (AreOwn i (tree e es) d) (the_own (one.0 ∷ more.0) own more.2)
      (put_own i e es d one.0 more.0
      (λ t q. let p = own_so (is_peer f i) (is_open e (child_at d i)) (settled s e (child_at d i)) t (subst (λ x. (if is_peer f i then unless (is_open e (child_at d i)) (settled s e (child_at d i)) else Ok None) ≡ Ok x) q one.1) in
      settled_retyped s e (child_at d i) t p.0 p.1)
      (owned_retyped s f (suc i) es d more.0 more.1))

  rest_retyped : (s : LogicalType) (w : Option LogicalType) (f : Function) (i : ℕ) (es : Trees) (d : Option Tree) (own : List (Option Tree)) (ts : Trees) → AreOwn i es d own → rest s w f i es d own ≡ Ok ts → AreRetyped i es d ts
  rest_retyped s w f i no_tree d own ts a h = subst (AreRetyped i no_tree d) (the_trees no_tree ts h) no_more
  rest_retyped s w f i (tree e es) d own ts a h =
      let c = child_at d i in
      let said : Result Tree Refusal = if is_peer f i then wished s w e c else (if is_open e c then wished s None e c else settled s e c) in
      let one = settled_parts _ (first_or own said) ts h in
      let more = settled_parts _ (rest s w f (suc i) es d (drop 1 own)) ts one.2 in
      subst (AreRetyped i (tree e es) d) (the_trees (tree one.0 more.0) ts more.2)
      (one_more
      (first_so i e es d said (λ t q. said_so s w e c (IsRetyped e c) (λ t p. wished_retyped s w e c t p) (λ t p. wished_retyped s None e c t p) (λ t o p. settled_retyped s e c t o p) (is_peer f i) (is_open e c) t refl q) own one.0 a one.1)
      (rest_retyped s w f (suc i) es d (drop 1 own) more.0 (own_behind i e es d own a) more.1))

  wished_retyped : (s : LogicalType) (w : Option LogicalType) (e : Tree) (d : Option Tree) (t : Tree) → wished s w e d ≡ Ok t → IsRetyped e d t
  wished_retyped s w root d t h = subst (IsRetyped root d) (the_tree root t h) same_root
  wished_retyped s w (call f es) d t h = node_so s w f es d t (rest s w f 0 es d []) (λ ts q. rest_retyped s w f 0 es d [] ts (nothing_own 0 es d) q) (open_scalar f d) refl h

pub types_alone_change : TypesAloneChange
types_alone_change s e d t h = go (is_open e (Some d)) refl h
  where
    go : (b : Bool) → is_open e (Some d) ≡ b → (if b then wished s None e (Some d) else settled s e (Some d)) ≡ Ok t → IsRetyped e (Some d) t
    go true q h = wished_retyped s None e (Some d) t h
    go false q h = settled_retyped s e (Some d) t q h

-- ---- values of other types

stays_as : (v w : Datum) (o : Option Datum) → o ≡ Some v → o ≡ Some w → w ≡ v
stays_as v w o h k = cc

-- of a type whose values are no texts before it
same_before : (v : Datum) (a : Atomic) (n : Bool) → has_texts (ty (atomic a) n) ≡ false → typed_value v (ty (atomic a) n) ≡ Some v
same_before v (floating f) n h = cc
same_before v (decimals p k) n h = cc
same_before v date n h = cc
same_before v (timestamp u z) n h = cc
same_before null truth n h = refl
same_before (bool b) truth n h = refl
same_before (int i) truth n h = refl
same_before (float x) truth n h = refl
same_before (utf8 s) truth n h = refl
same_before (bytes bs) truth n h = refl
same_before (list_of vs) truth n h = refl
same_before (struct_of vs) truth n h = refl
same_before null (number p) n h = refl
same_before (bool b) (number p) n h = refl
same_before (int i) (number p) n h = refl
same_before (float x) (number p) n h = refl
same_before (utf8 s) (number p) n h = refl
same_before (bytes bs) (number p) n h = refl
same_before (list_of vs) (number p) n h = refl
same_before (struct_of vs) (number p) n h = refl
same_before null text n h = refl
same_before (bool b) text n h = refl
same_before (int i) text n h = refl
same_before (float x) text n h = refl
same_before (utf8 s) text n h = refl
same_before (bytes bs) text n h = refl
same_before (list_of vs) text n h = refl
same_before (struct_of vs) text n h = refl
same_before null octets n h = refl
same_before (bool b) octets n h = refl
same_before (int i) octets n h = refl
same_before (float x) octets n h = refl
same_before (utf8 s) octets n h = refl
same_before (bytes bs) octets n h = refl
same_before (list_of vs) octets n h = refl
same_before (struct_of vs) octets n h = refl

-- a number with a point is none of these
no_point : (s : List ℕ) (a : Atomic) (n : Bool) → has_texts (ty (atomic a) n) ≡ false → point_read s (ty (atomic a) n) ≡ None
no_point s (floating f) n h = cc
no_point s (decimals p k) n h = cc
no_point s date n h = cc
no_point s (timestamp u z) n h = cc
no_point s truth n h = refl
no_point s (number p) n h = refl
no_point s text n h = refl
no_point s octets n h = refl

none_as : (w : Datum) (o : Option Datum) → o ≡ None → o ≡ Some w → ⊥
none_as w o h k = cc

its_value : (t : LogicalType) (v x : Datum) (names : List Name) → written_as t v ≡ drafted x names → x ≡ v
its_value (ty (atomic text) true) (utf8 s) x names e = cc
its_value t v x names e = cc

-- what was written of a scalar is its value, or a number with a point
written_so : (c : Constant) (w : Datum) (a : Atomic) (n : Bool) → has_texts (ty (atomic a) n) ≡ false → value_before (written c) (ty (atomic a) n) ≡ Some w → w ≡ c.value
written_so c w a n h q = go (written c) refl q
  where
    go : (d : Drafted) → written c ≡ d → value_before d (ty (atomic a) n) ≡ Some w → w ≡ c.value
    go (pointed s) e q = absurd (none_as w _ (no_point s a n h) q)
    go (drafted v names) e q = stays_as v w _ (same_before v a n h) q ∙ its_value c.type c.value v names e

pub other_values_stay : OtherValuesStay
other_values_stay c w a n h is = written_so c w a n h is.0
