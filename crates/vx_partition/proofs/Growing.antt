-- One more piece goes behind the others of its annotation, or begins a group behind the others.
use Rattle.std.proofs.Common.{◌≡◌, ℕ, Bool, true, false, List, [], ◌∷◌, ◌++◌, length, map, refl, sym, ap, subst, ◌∙◌, true≢false}
use Rattle.std.specs.Prelude.{if◌then◌else◌, ◌||◌, not, cond}
use Rattle.std.specs.Cmp.{IsEquivalence}
use Rattle.std.specs.List.{list_any, filter, position_or_len}
use Rattle.std.proofs.lemmas.Bool.{or_parts}
use Rattle.std.proofs.lemmas.List.{append-nil}
use Rattle.std.proofs.lemmas.Map.Steps.{list_any_congr}
use Rattle.vx_tree.specs.Trees.{BoundTree}
use Rattle.vx_partition_laws.specs.Pieces.{Piece, Group, pieces_of, others, annotations_of, grouped}
use Rattle.vx_partition_laws.proofs.Places.{pieces_of-equal}
use Rattle.vx_partition.specs.Collecting.{collected, SameGroups}

module _ {A : Type 0} (eq : A → A → Bool) where
  -- one more piece of groups
  abbrev pub add_piece : List (Group A) → A → BoundTree → List (Group A)
  add_piece [] a b = (a, b ∷ []) ∷ []
  add_piece (g ∷ gs) a b = if eq a g.0 then (g.0, g.1 ++ b ∷ []) ∷ gs else g ∷ add_piece gs a b

  -- one more annotation, where it isn't there yet
  abbrev put : List A → A → List A
  put [] a = a ∷ []
  put (k ∷ ks) a = if eq a k then k ∷ ks else k ∷ put ks a

  -- no annotation is equal to a later one
  abbrev pub Apart : List A → Type 0
  Apart [] = Unit {0}
  Apart (k ∷ ks) = (list_any (eq k) ks ≡ false) × Apart ks

  abbrev pub group_len : List (Group A) → A → ℕ
  group_len [] a = 0
  group_len (g ∷ gs) a = if eq a g.0 then length g.1 else group_len gs a

  module _ (laws : IsEquivalence eq) where
    -- ---- annotations

    turned : (a b : A) (t : Bool) → eq a b ≡ t → eq b a ≡ t
    turned a b t e = laws.symm b a ∙ e

    any-filter : (p : A → Bool) (k : A) (ks : List A) → list_any (eq k) ks ≡ false → list_any (eq k) (filter p ks) ≡ false
    any-filter p k [] e = refl
    any-filter p k (c ∷ ks) e = let q = or_parts _ _ e in go (p c) q.0 (any-filter p k ks q.1)
      where
        go : (t : Bool) → eq k c ≡ false → list_any (eq k) (filter p ks) ≡ false → list_any (eq k) (cond t (c ∷ filter p ks) (filter p ks)) ≡ false
        go true h r = rw (h, r) refl
        go false h r = r

    apart-filter : (p : A → Bool) (ks : List A) → Apart ks → Apart (filter p ks)
    apart-filter p [] h = tt
    apart-filter p (c ∷ ks) h = go (p c) (apart-filter p ks h.1)
      where
        go : (t : Bool) → Apart (filter p ks) → Apart (cond t (c ∷ filter p ks) (filter p ks))
        go true r = (any-filter p c ks h.0, r)
        go false r = r

    any-others : (a : A) (ks : List A) → list_any (eq a) (others eq a ks) ≡ false
    any-others a [] = refl
    any-others a (c ∷ ks) = go (eq a c) refl (any-others a ks)
      where
        go : (t : Bool) → eq a c ≡ t → list_any (eq a) (others eq a ks) ≡ false → list_any (eq a) (cond (not t) (c ∷ others eq a ks) (others eq a ks)) ≡ false
        go true e r = r
        go false e r = rw (e, r) refl

    pub annotations-apart : (xs : List (Piece A)) → Apart (annotations_of eq xs)
    annotations-apart [] = tt
    annotations-apart (x ∷ xs) = (any-others x.0 (annotations_of eq xs), apart-filter (λ b. not (eq x.0 b)) (annotations_of eq xs) (annotations-apart xs))

    -- those that are left out don't count for what isn't equal to them
    pub any-left : (a x : A) (ks : List A) → eq a x ≡ false → list_any (eq a) (others eq x ks) ≡ list_any (eq a) ks
    any-left a x [] e = refl
    any-left a x (c ∷ ks) e = go (eq x c) refl (any-left a x ks e)
      where
        apart : eq x c ≡ true → eq a c ≡ false
        apart q = turned c a false (sym (laws.congr x c a q) ∙ turned a x false e)

        go : (t : Bool) → eq x c ≡ t → list_any (eq a) (others eq x ks) ≡ list_any (eq a) ks → list_any (eq a) (cond (not t) (c ∷ others eq x ks) (others eq x ks)) ≡ (eq a c || list_any (eq a) ks)
        go true q r = rw (apart q) r
        go false q r = ap (λ b. eq a c || b) r

    absent : (xs : List (Piece A)) (a : A) → list_any (eq a) (annotations_of eq xs) ≡ false → pieces_of eq xs a ≡ []
    absent [] a e = refl
    absent (x ∷ xs) a e =
        let q = or_parts (eq a x.0) (list_any (eq a) (others eq x.0 (annotations_of eq xs))) e in
        rw q.0 (absent xs a (sym (any-left a x.0 (annotations_of eq xs) q.0) ∙ q.1))

    others-put-equal : (k a : A) (ks : List A) → eq k a ≡ true → others eq k (put ks a) ≡ others eq k ks
    others-put-equal k a [] e = rw e refl
    others-put-equal k a (c ∷ ks) e = go (eq a c) (others-put-equal k a ks e)
      where
        go : (t : Bool) → others eq k (put ks a) ≡ others eq k ks → others eq k (if t then c ∷ ks else c ∷ put ks a) ≡ others eq k (c ∷ ks)
        go true r = refl
        go false r = ap (λ l. cond (not (eq k c)) (c ∷ l) l) r

    others-put-other : (k a : A) (ks : List A) → eq k a ≡ false → others eq k (put ks a) ≡ put (others eq k ks) a
    others-put-other k a [] e = rw e refl
    others-put-other k a (c ∷ ks) e = go (eq a c) (eq k c) refl refl (others-put-other k a ks e)
      where
        go : (t u : Bool) → eq a c ≡ t → eq k c ≡ u → others eq k (put ks a) ≡ put (others eq k ks) a → others eq k (if t then c ∷ ks else c ∷ put ks a) ≡ put (cond (not u) (c ∷ others eq k ks) (others eq k ks)) a
        go true true p q r = absurd (true≢false (sym (turned a c true p) ∙ laws.congr c k a (turned k c true q) ∙ e))
        go true false p q r = rw (q, p) refl
        go false true p q r = rw q r
        go false false p q r = rw (q, p) (ap (λ l. c ∷ l) r)

    annotations-put : (xs : List (Piece A)) (a : A) (b : BoundTree) → annotations_of eq (xs ++ (a, b) ∷ []) ≡ put (annotations_of eq xs) a
    annotations-put [] a b = refl
    annotations-put (x ∷ xs) a b = ap (λ ks. x.0 ∷ others eq x.0 ks) (annotations-put xs a b) ∙ go (eq a x.0) refl
      where
        go : (t : Bool) → eq a x.0 ≡ t → x.0 ∷ others eq x.0 (put (annotations_of eq xs) a) ≡ (if t then x.0 ∷ others eq x.0 (annotations_of eq xs) else x.0 ∷ put (others eq x.0 (annotations_of eq xs)) a)
        go true e = ap (λ l. x.0 ∷ l) (others-put-equal x.0 a (annotations_of eq xs) (turned a x.0 true e))
        go false e = ap (λ l. x.0 ∷ l) (others-put-other x.0 a (annotations_of eq xs) (turned a x.0 false e))

    -- ---- pieces

    pieces-put : (xs : List (Piece A)) (a c : A) (b : BoundTree) → pieces_of eq (xs ++ (a, b) ∷ []) c ≡ pieces_of eq xs c ++ (if eq c a then b ∷ [] else [])
    pieces-put [] a c b = refl
    pieces-put (x ∷ xs) a c b = go (eq c x.0) (pieces-put xs a c b)
      where
        go : (t : Bool) → pieces_of eq (xs ++ (a, b) ∷ []) c ≡ pieces_of eq xs c ++ (if eq c a then b ∷ [] else [])
            → (if t then x.1 ∷ pieces_of eq (xs ++ (a, b) ∷ []) c else pieces_of eq (xs ++ (a, b) ∷ []) c) ≡ (if t then x.1 ∷ pieces_of eq xs c else pieces_of eq xs c) ++ (if eq c a then b ∷ [] else [])
        go true r = ap (λ l. x.1 ∷ l) r
        go false r = r

    pieces-own : (xs : List (Piece A)) (a c : A) (b : BoundTree) → eq c a ≡ true → pieces_of eq (xs ++ (a, b) ∷ []) c ≡ pieces_of eq xs c ++ b ∷ []
    pieces-own xs a c b e = pieces-put xs a c b ∙ ap (λ t. pieces_of eq xs c ++ (if t then b ∷ [] else [])) e

    pieces-other : (xs : List (Piece A)) (a c : A) (b : BoundTree) → eq c a ≡ false → pieces_of eq (xs ++ (a, b) ∷ []) c ≡ pieces_of eq xs c
    pieces-other xs a c b e = pieces-put xs a c b ∙ ap (λ t. pieces_of eq xs c ++ (if t then b ∷ [] else [])) e ∙ append-nil (pieces_of eq xs c)

    grouped-other : (xs : List (Piece A)) (a : A) (b : BoundTree) (ks : List A) → list_any (eq a) ks ≡ false → grouped eq xs ks ≡ grouped eq (xs ++ (a, b) ∷ []) ks
    grouped-other xs a b [] e = refl
    grouped-other xs a b (k ∷ ks) e =
        let q = or_parts _ _ e in
        rw (pieces-other xs a k b (turned a k false q.0), grouped-other xs a b ks q.1) refl

    put-grouped : (xs : List (Piece A)) (a : A) (b : BoundTree) (ks : List A) → Apart ks → (list_any (eq a) ks ≡ false → pieces_of eq xs a ≡ []) → add_piece (grouped eq xs ks) a b ≡ grouped eq (xs ++ (a, b) ∷ []) (put ks a)
    put-grouped xs a b [] h none = rw (pieces-own xs a a b (laws.refl a), none refl) refl
    put-grouped xs a b (k ∷ ks) h none = go (eq a k) refl (λ e. put-grouped xs a b ks h.1 (λ n. none (rw (e, n) refl)))
      where
        go : (t : Bool) → eq a k ≡ t → (eq a k ≡ false → add_piece (grouped eq xs ks) a b ≡ grouped eq (xs ++ (a, b) ∷ []) (put ks a)) → (if t then (k, pieces_of eq xs k ++ b ∷ []) ∷ grouped eq xs ks else (k, pieces_of eq xs k) ∷ add_piece (grouped eq xs ks) a b) ≡ grouped eq (xs ++ (a, b) ∷ []) (if t then k ∷ ks else k ∷ put ks a)
        go true e r = rw (pieces-own xs a k b (turned a k true e), grouped-other xs a b ks (list_any_congr laws a k ks e ∙ h.0)) refl
        go false e r = rw (pieces-other xs a k b (turned a k false e), r e) refl

    -- the groups of one more piece
    pub collected-put : (xs : List (Piece A)) (a : A) (b : BoundTree) → add_piece (collected eq xs) a b ≡ collected eq (xs ++ (a, b) ∷ [])
    collected-put xs a b =
        put-grouped xs a b (annotations_of eq xs) (annotations-apart xs) (absent xs a) ∙ ap (grouped eq (xs ++ (a, b) ∷ [])) (sym (annotations-put xs a b))

    -- ---- groups under equal annotations

    same_key : (a b g h : A) → eq a b ≡ true → eq g h ≡ true → eq a g ≡ eq b h
    same_key a b g h p q = laws.congr a b g p ∙ laws.symm b g ∙ laws.congr g h b q ∙ laws.symm h b

    same-put : (gs hs : List (Group A)) (a c : A) (b : BoundTree) → eq a c ≡ true → SameGroups eq gs hs → SameGroups eq (add_piece gs a b) (add_piece hs c b)
    same-put [] [] a c b e s = (e, refl, tt)
    same-put [] (h ∷ hs) a c b e s = absurd s
    same-put (g ∷ gs) [] a c b e s = absurd s
    same-put (g ∷ gs) (h ∷ hs) a c b e s = go (eq a g.0) (eq c h.0) (same_key a c g.0 h.0 e s.0) (same-put gs hs a c b e s.2)
      where
        go : (t u : Bool) → t ≡ u → SameGroups eq (add_piece gs a b) (add_piece hs c b) → SameGroups eq (if t then (g.0, g.1 ++ b ∷ []) ∷ gs else g ∷ add_piece gs a b) (if u then (h.0, h.1 ++ b ∷ []) ∷ hs else h ∷ add_piece hs c b)
        go true true q r = (s.0, ap (λ l. l ++ b ∷ []) s.1, s.2)
        go true false q r = absurd (true≢false q)
        go false true q r = absurd (true≢false (sym q))
        go false false q r = (s.0, s.1, r)

    -- one more piece behind others
    pub grows : (xs : List (Piece A)) (gs new : List (Group A)) (a c : A) (b : BoundTree) → SameGroups eq gs (collected eq xs) → eq a c ≡ true → new ≡ add_piece gs c b → SameGroups eq new (collected eq (xs ++ (a, b) ∷ []))
    grows xs gs new a c b s e is =
        rw is (subst (SameGroups eq (add_piece gs c b)) (collected-put xs a b) (same-put gs (collected eq xs) c a b (turned a c true e) s))

    -- ---- places

    len-same : (gs hs : List (Group A)) (a : A) → SameGroups eq gs hs → group_len gs a ≡ group_len hs a
    len-same [] [] a s = refl
    len-same [] (h ∷ hs) a s = absurd s
    len-same (g ∷ gs) [] a s = absurd s
    len-same (g ∷ gs) (h ∷ hs) a s = rw (same_key a a g.0 h.0 (laws.refl a) s.0, s.1, len-same gs hs a s.2) refl

    len-grouped : (xs : List (Piece A)) (a : A) (ks : List A) → (list_any (eq a) ks ≡ false → pieces_of eq xs a ≡ []) → group_len (grouped eq xs ks) a ≡ length (pieces_of eq xs a)
    len-grouped xs a [] none = rw (none refl) refl
    len-grouped xs a (k ∷ ks) none = go (eq a k) refl (λ e. len-grouped xs a ks (λ n. none (rw (e, n) refl)))
      where
        go : (t : Bool) → eq a k ≡ t → (eq a k ≡ false → group_len (grouped eq xs ks) a ≡ length (pieces_of eq xs a)) → (if t then length (pieces_of eq xs k) else group_len (grouped eq xs ks) a) ≡ length (pieces_of eq xs a)
        go true e r = ap length (sym (pieces_of-equal eq laws xs a k e))
        go false e r = r e

    -- how many pieces of the annotation there are
    pub len-collected : (xs : List (Piece A)) (gs : List (Group A)) (a : A) → SameGroups eq gs (collected eq xs) → group_len gs a ≡ length (pieces_of eq xs a)
    len-collected xs gs a s = len-same gs (collected eq xs) a s ∙ len-grouped xs a (annotations_of eq xs) (absent xs a)

    abbrev keys : List (Group A) → List A
    keys gs = map (λ g. g.0) gs

    place-same : (gs hs : List (Group A)) (a : A) → SameGroups eq gs hs → position_or_len (eq a) (keys gs) ≡ position_or_len (eq a) (keys hs)
    place-same [] [] a s = refl
    place-same [] (h ∷ hs) a s = absurd s
    place-same (g ∷ gs) [] a s = absurd s
    place-same (g ∷ gs) (h ∷ hs) a s = rw (same_key a a g.0 h.0 (laws.refl a) s.0, place-same gs hs a s.2) refl

    keys-grouped : (xs : List (Piece A)) (ks : List A) → keys (grouped eq xs ks) ≡ ks
    keys-grouped xs [] = refl
    keys-grouped xs (k ∷ ks) = ap (λ l. k ∷ l) (keys-grouped xs ks)

    -- where the annotation's group stands
    pub place-collected : (xs : List (Piece A)) (gs : List (Group A)) (a : A) → SameGroups eq gs (collected eq xs) → position_or_len (eq a) (map (λ g. g.0) gs) ≡ position_or_len (eq a) (annotations_of eq xs)
    place-collected xs gs a s = place-same gs (collected eq xs) a s ∙ ap (position_or_len (eq a)) (keys-grouped xs (annotations_of eq xs))
