-- Where a piece stands among those of its annotation, and that it is found there by name.
use Rattle.std.proofs.Common.{◌≡◌, ℕ, zero, suc, ◌+◌, ◌<◌, ◌^◌, Bool, true, false, List, [], ◌∷◌, ◌++◌, length, map, Option, Some, None, refl, sym, ap, subst, ◌∙◌, arith, true≢false, inl, inr}
use Rattle.std.specs.Prelude.{codes, if◌then◌else◌, not}
use Rattle.std.specs.Fmt.{decimal}
use Rattle.std.specs.Cmp.{IsEquivalence}
use Rattle.std.specs.List.{list_any}
use Rattle.std.specs.Str.{bytes_eq}
use Rattle.std.proofs.Math.Bool.{or-true}
use Rattle.std.proofs.lemmas.List.{append_cancel_left}
use Rattle.std.proofs.lemmas.Fmt.{decimal_injective}
use Rattle.vx_value.specs.Types.{Name}
use Rattle.vx_dtype.specs.Lists.{IsIn}
use Rattle.vx_dtype.proofs.NameTests.{own_name, other_name}
use Rattle.vx_dtype.proofs.Lists.{in_the_middle}
use Rattle.vx_tree.specs.Trees.{BoundTree, BoundTrees}
use Rattle.vx_tree.specs.Views.{bounds_from}
use Rattle.vx_partition_laws.specs.Items.{tree_named}
use Rattle.vx_partition_laws.specs.Pieces.{Piece, Group, pieces_of, others, annotations_of, grouped}
use Rattle.vx_partition_laws.specs.Partitions.{piece_name, piece_names, Distinct, IsShared, AllShort, partition, partitions, partition_names}

-- ---- names

piece_name_injective : (t : List ℕ) (i j : ℕ) → i < 2 ^ 64 → j < 2 ^ 64 → piece_name t i ≡ piece_name t j → i ≡ j
piece_name_injective t i j h k e = decimal_injective i j h k (append_cancel_left (t ++ codes "_") (decimal i) (decimal j) e)

-- ---- places

-- the tree at that index
abbrev place : ℕ → List BoundTree → Option BoundTree
place i [] = None
place zero (n ∷ ns) = Some n
place (suc i) (n ∷ ns) = place i ns

place_within : (i : ℕ) (xs : List BoundTree) (n : BoundTree) → place i xs ≡ Some n → i < length xs
place_within i [] n e = cc
place_within zero (x ∷ xs) n e = omega arith
place_within (suc i) (x ∷ xs) n e = omega (arith, place_within i xs n e)

-- the piece of an index has the name of that index
named-piece : (t : List ℕ) (j i k : ℕ) (ps : List BoundTree) (p : BoundTree) → j + length ps < 2 ^ 64 → k ≡ j + i → place i ps ≡ Some p → tree_named (piece_name t k) (piece_names t j ps) (bounds_from ps) ≡ Some p
named-piece t j i k [] p h e is = cc
named-piece t j zero k (q ∷ ps) p h e is =
    let here : k ≡ j = omega arith in
    let test : bytes_eq (piece_name t k) (piece_name t j) ≡ true = ap (λ x. bytes_eq (piece_name t x) (piece_name t j)) here ∙ own_name (piece_name t j) in
    ap (λ b. if b then Some q else tree_named (piece_name t k) (piece_names t (j + 1) ps) (bounds_from ps)) test ∙ is
named-piece t j (suc i) k (q ∷ ps) p h e is =
    let apart : k ≡ j → ⊥ = λ s. omega arith in
    let small = place_within i ps p is in
    let test = other_name (piece_name t k) (piece_name t j) (λ s. apart (piece_name_injective t k j (omega arith) (omega arith) s)) in
    ap (λ b. if b then Some q else tree_named (piece_name t k) (piece_names t (j + 1) ps) (bounds_from ps)) test ∙ named-piece t (j + 1) i k ps p (omega arith) (omega arith) is

-- ---- pieces of an annotation

module _ {A : Type 0} (eq : A → A → Bool) (laws : IsEquivalence eq) where
  -- a piece stands behind the earlier ones with its annotation
  piece-place : (before : List (Piece A)) (a : A) (b : BoundTree) (after : List (Piece A)) → place (length (pieces_of eq before a)) (pieces_of eq (before ++ ((a, b) ∷ after)) a) ≡ Some b
  piece-place [] a b after = ap (λ t. place 0 (if t then b ∷ pieces_of eq after a else pieces_of eq after a)) (laws.refl a)
  piece-place (x ∷ before) a b after = go (eq a x.0) (pieces_of eq before a) (pieces_of eq (before ++ ((a, b) ∷ after)) a) (piece-place before a b after)
    where
      go : (t : Bool) (some more : List BoundTree) → place (length some) more ≡ Some b → place (length (if t then x.1 ∷ some else some)) (if t then x.1 ∷ more else more) ≡ Some b
      go true some more e = e
      go false some more e = e

  -- equal annotations have the same pieces
  pub pieces_of-equal : (xs : List (Piece A)) (a c : A) → eq a c ≡ true → pieces_of eq xs a ≡ pieces_of eq xs c
  pieces_of-equal [] a c e = refl
  pieces_of-equal (x ∷ xs) a c e = rw (laws.congr a c x.0 e, pieces_of-equal xs a c e) refl

  -- removing an annotation leaves those that aren't equal to it
  others-in : (a : A) (cs : List A) (c : A) → eq a c ≡ false → IsIn c cs → IsIn c (others eq a cs)
  others-in a [] c e i = i
  others-in a (d ∷ cs) c e (inl s) = at_first (eq a d) (ap (eq a) (sym s) ∙ e)
    where
      at_first : (t : Bool) → t ≡ false → IsIn c (if not t then d ∷ others eq a cs else others eq a cs)
      at_first true q = cc
      at_first false q = inl s
  others-in a (d ∷ cs) c e (inr i) = at_later (eq a d) (others-in a cs c e i)
    where
      at_later : (t : Bool) → IsIn c (others eq a cs) → IsIn c (if not t then d ∷ others eq a cs else others eq a cs)
      at_later true j = j
      at_later false j = inr j

  -- the annotation of a piece is equal to one of the annotations
  pub annotation-found : (xs : List (Piece A)) (x : Piece A) → IsIn x xs → (c : A) × IsIn c (annotations_of eq xs) × (eq x.0 c ≡ true)
  annotation-found [] x i = absurd i
  annotation-found (y ∷ xs) x (inl s) = (y.0, inl refl, ap (λ z. eq z.0 y.0) s ∙ laws.refl y.0)
  annotation-found (y ∷ xs) x (inr i) = let r = annotation-found xs x i in go (eq y.0 r.0) refl r.1 r.2
    where
      go : {c : A} (t : Bool) → eq y.0 c ≡ t → IsIn c (annotations_of eq xs) → eq x.0 c ≡ true → (d : A) × IsIn d (annotations_of eq (y ∷ xs)) × (eq x.0 d ≡ true)
      go {c = c} true e j q = (y.0, inl refl, laws.congr x.0 c y.0 q ∙ laws.symm c y.0 ∙ e)
      go {c = c} false e j q = (c, inr (others-in y.0 (annotations_of eq xs) c e j), q)

  module _ (text name : A → List ℕ) (same_text : IsShared eq text) (same_names : IsShared eq name) (of : A → List BoundTree) where
    abbrev groups_of : List A → List (Group A)
    groups_of = map (λ a. (a, of a))

    -- the partition of an annotation goes by its name
    record FoundGroup (a : A) (names : List Name) (bs : BoundTrees) : Type 0 where
      key : A
      alike : eq a key ≡ true
      short : length (of key) < 2 ^ 64
      found : tree_named (name a) names bs ≡ Some (partition text (key, of key))

    name-among : (c : A) (cs : List A) → IsIn c cs → list_any (bytes_eq (name c)) (partition_names name (groups_of cs)) ≡ true
    name-among c [] i = absurd i
    name-among c (d ∷ cs) (inl s) = rw (ap (λ z. bytes_eq (name z) (name d)) s ∙ own_name (name d)) refl
    name-among c (d ∷ cs) (inr i) = rw (name-among c cs i) (or-true (bytes_eq (name c) (name d)))

    -- where a name stands among those behind h, an annotation of that name isn't called as h is
    called-otherwise : (h a c : A) (cs : List A) → eq a c ≡ true → IsIn c cs → list_any (bytes_eq (name h)) (partition_names name (groups_of cs)) ≡ false → bytes_eq (name a) (name h) ≡ false
    called-otherwise h a c cs e i d =
        other_name (name a) (name h) (λ s. true≢false (sym (name-among c cs i) ∙ ap (λ n. list_any (bytes_eq n) (partition_names name (groups_of cs))) (sym (same_names a c e) ∙ s) ∙ d))

    found-first : (a h : A) (cs : List A) → AllShort (groups_of (h ∷ cs)) → eq a h ≡ true → FoundGroup a (partition_names name (groups_of (h ∷ cs))) (partitions text (groups_of (h ∷ cs)))
    found-first a h cs short e = record {
      key = h;
      alike = e;
      short = short.0;
      found = rw (ap (λ n. bytes_eq n (name h)) (same_names a h e) ∙ own_name (name h)) refl;
    }

    found-later : (a h : A) (cs : List A) → bytes_eq (name a) (name h) ≡ false → FoundGroup a (partition_names name (groups_of cs)) (partitions text (groups_of cs))
        → FoundGroup a (partition_names name (groups_of (h ∷ cs))) (partitions text (groups_of (h ∷ cs)))
    found-later a h cs apart f = record {
      key = f.key;
      alike = f.alike;
      short = f.short;
      found = rw apart f.found;
    }

    group-found : (cs : List A) (a c : A) → Distinct (partition_names name (groups_of cs)) → AllShort (groups_of cs) → IsIn c cs → eq a c ≡ true
        → FoundGroup a (partition_names name (groups_of cs)) (partitions text (groups_of cs))
    group-found [] a c d short i e = absurd i
    group-found (h ∷ cs) a c d short (inl s) e = found-first a h cs short (ap (eq a) (sym s) ∙ e)
    group-found (h ∷ cs) a c d short (inr i) e = found-later a h cs (called-otherwise h a c cs e i d.0) (group-found cs a c d.1 short.1 i e)

  -- a piece is found by its name in the partition of its annotation's name
  pub record Found (text name : A → List ℕ) (xs : List (Piece A)) (a : A) (i : ℕ) (b : BoundTree) : Type 0 where
    pub key : A
    pub partition_found : tree_named (name a) (partition_names name (grouped eq xs (annotations_of eq xs))) (partitions text (grouped eq xs (annotations_of eq xs))) ≡ Some (partition text (key, pieces_of eq xs key))
    pub piece_found : tree_named (piece_name (text a) i) (piece_names (text key) 0 (pieces_of eq xs key)) (bounds_from (pieces_of eq xs key)) ≡ Some b

  pub piece-found : (text name : A → List ℕ) → IsShared eq text → IsShared eq name → (before after : List (Piece A)) (a : A) (b : BoundTree) (xs : List (Piece A)) → before ++ ((a, b) ∷ after) ≡ xs
      → Distinct (partition_names name (grouped eq xs (annotations_of eq xs))) → AllShort (grouped eq xs (annotations_of eq xs)) → Found text name xs a (length (pieces_of eq before a)) b
  piece-found text name same_text same_names before after a b xs is differ short =
      let i : ℕ = length (pieces_of eq before a) in
      let among : IsIn (a, b) xs = subst (IsIn (a, b)) is (in_the_middle before (a, b) after) in
      let known = annotation-found xs (a, b) among in
      let f = group-found text name same_text same_names (pieces_of eq xs) (annotations_of eq xs) a known.0 differ short known.1 known.2 in
      let at : place i (pieces_of eq xs f.key) ≡ Some b =
      ap (place i) (sym (pieces_of-equal xs a f.key f.alike)) ∙ (ap (λ ys. place i (pieces_of eq ys a)) (sym is) ∙ piece-place before a b after) in
      record {
        key = f.key;
        partition_found = f.found;
        piece_found = ap (λ t. tree_named (piece_name t i) (piece_names (text f.key) 0 (pieces_of eq xs f.key)) (bounds_from (pieces_of eq xs f.key))) (same_text a f.key f.alike)
            ∙ named-piece (text f.key) 0 i i (pieces_of eq xs f.key) b (omega (arith, f.short)) (omega arith) at;
      }
