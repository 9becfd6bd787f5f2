-- The holes of all partitions, by the places of their groups and of the pieces in these.
use Rattle.std.proofs.Common.{◌≡◌, ℕ, zero, suc, ◌+◌, Bool, true, false, List, [], ◌∷◌, ◌++◌, length, map, Option, Some, slice_get, refl, sym, ap, subst, ◌∙◌, true≢false, arith, inl, inr}
use Rattle.std.specs.Prelude.{if◌then◌else◌, ◌||◌, not, cond}
use Rattle.std.specs.Cmp.{IsEquivalence}
use Rattle.std.specs.List.{list_any, filter, position_or_len}
use Rattle.std.specs.Str.{bytes_eq}
use Rattle.std.proofs.lemmas.Bool.{or_parts}
use Rattle.std.proofs.lemmas.Slice.Eq.{bytes_eq-Decides}
use Rattle.vx_value.specs.Types.{Name, LogicalType}
use Rattle.vx_dtype.specs.Lists.{IsIn}
use Rattle.vx_tree.specs.Trees.{BoundTree, scope, node_type}
use Rattle.vx_tree.specs.Views.{bounds_from}
use Rattle.vx_partition_laws.specs.Items.{item_of, tree_named}
use Rattle.vx_partition_laws.specs.Pieces.{Piece, Group, pieces_of, others, annotations_of}
use Rattle.vx_partition_laws.specs.Partitions.{piece_name, piece_names, Distinct, IsShared, AllShort, partition, partitions, partition_names, partitioned_type}
use Rattle.vx_partition_laws.proofs.Places.{annotation-found, piece-found, pieces_of-equal}
use Rattle.vx_partition_laws.proofs.Taken.{item-type}
use Rattle.vx_partition.specs.Collecting.{collected}
use Rattle.vx_partition.specs.Packing.{typed_item, holes_of, all_holes, all_names, hole_at}
use Rattle.vx_partition.proofs.Growing.{any-left}
use Rattle.vx_partition.proofs.Holed.{IsTable}

pub same_name : (n : Name) → bytes_eq n n ≡ true
same_name n = (bytes_eq-Decides n n).1 refl

pub other_name : (m n : Name) → (m ≡ n → ⊥) → bytes_eq m n ≡ false
other_name m n h = by (bytes_eq m n) (λ e. h ((bytes_eq-Decides m n).0 e))
  where
    by : (b : Bool) → (b ≡ true → ⊥) → b ≡ false
    by true k = absurd (k refl)
    by false k = refl

-- ---- the place of an annotation among those of its tree's pieces

module _ {A : Type 0} (eq : A → A → Bool) (laws : IsEquivalence eq) where
  -- the first of these is equal to a
  abbrev Begins : A → List A → Type 0
  Begins a [] = ⊥
  Begins a (k ∷ ks) = eq a k ≡ true

  filter_append : (p : A → Bool) (xs ys : List A) → filter p (xs ++ ys) ≡ filter p xs ++ filter p ys
  filter_append p [] ys = refl
  filter_append p (x ∷ xs) ys = go (p x) (filter_append p xs ys)
    where
      go : (t : Bool) → filter p (xs ++ ys) ≡ filter p xs ++ filter p ys → cond t (x ∷ filter p (xs ++ ys)) (filter p (xs ++ ys)) ≡ cond t (x ∷ filter p xs) (filter p xs) ++ filter p ys
      go true e = ap (λ l. x ∷ l) e
      go false e = e

  begins_still : (a x : A) (ks : List A) → eq a x ≡ false → Begins a ks → Begins a (others eq x ks)
  begins_still a x [] e b = b
  begins_still a x (k ∷ ks) e b = go (eq x k) refl
    where
      go : (t : Bool) → eq x k ≡ t → Begins a (cond (not t) (k ∷ others eq x ks) (others eq x ks))
      go true q = absurd (true≢false (sym (laws.congr a k x b ∙ laws.symm k x ∙ q) ∙ e))
      go false q = b

  -- the annotations of more pieces go behind; those that were none of them begin with the next
  record Behind (a : A) (ks all : List A) : Type 0 where
    tail : List A
    whole : all ≡ ks ++ tail
    next : list_any (eq a) ks ≡ false → Begins a tail

  behind : (before after : List (Piece A)) (a : A) (b : BoundTree) → Behind a (annotations_of eq before) (annotations_of eq (before ++ ((a, b) ∷ after)))
  behind [] after a b = record {
    tail = annotations_of eq ((a, b) ∷ after);
    whole = refl;
    next = λ e. laws.refl a;
  }
  behind (x ∷ before) after a b =
      let r = behind before after a b in
      let ks = annotations_of eq before in
      record {
        tail = others eq x.0 r.tail;
        whole = ap (λ l. x.0 ∷ others eq x.0 l) r.whole ∙ ap (λ l. x.0 ∷ l) (filter_append (λ c. not (eq x.0 c)) ks r.tail);
        next = λ e. let q = or_parts (eq a x.0) (list_any (eq a) (others eq x.0 ks)) e in
            begins_still a x.0 r.tail q.0 (r.next (sym (any-left eq laws a x.0 ks q.0) ∙ q.1));
      }

  place_behind : (a : A) (ks tail : List A) → (list_any (eq a) ks ≡ false → Begins a tail) → position_or_len (eq a) (ks ++ tail) ≡ position_or_len (eq a) ks
  place_behind a [] [] h = refl
  place_behind a [] (t ∷ tail) h = ap (λ c. cond (not c) (1 + position_or_len (eq a) tail) 0) (h refl)
  place_behind a (k ∷ ks) tail h = go (eq a k) h (place_behind a ks tail)
    where
      go : (t : Bool) → ((t || list_any (eq a) ks) ≡ false → Begins a tail) → ((list_any (eq a) ks ≡ false → Begins a tail) → position_or_len (eq a) (ks ++ tail) ≡ position_or_len (eq a) ks)
          → cond (not t) (1 + position_or_len (eq a) (ks ++ tail)) 0 ≡ cond (not t) (1 + position_or_len (eq a) ks) 0
      go true h r = refl
      go false h r = ap (λ n. 1 + n) (r h)

  -- a piece's annotation has the same place among all as among those so far
  same_place : (before after : List (Piece A)) (a : A) (b : BoundTree) → position_or_len (eq a) (annotations_of eq (before ++ ((a, b) ∷ after))) ≡ position_or_len (eq a) (annotations_of eq before)
  same_place before after a b =
      let r = behind before after a b in
      ap (position_or_len (eq a)) r.whole ∙ place_behind a (annotations_of eq before) r.tail r.next

  -- a piece stands behind the earlier ones with its annotation
  piece_there : (before after : List (Piece A)) (a : A) (b : BoundTree) → slice_get (pieces_of eq (before ++ ((a, b) ∷ after)) a) (length (pieces_of eq before a)) ≡ Some b
  piece_there [] after a b = ap (λ t. slice_get (if t then b ∷ pieces_of eq after a else pieces_of eq after a) 0) (laws.refl a)
  piece_there (x ∷ before) after a b = go (eq a x.0) (pieces_of eq before a) (pieces_of eq (before ++ ((a, b) ∷ after)) a) (piece_there before after a b)
    where
      go : (t : Bool) (some more : List BoundTree) → slice_get more (length some) ≡ Some b → slice_get (if t then x.1 ∷ more else more) (length (if t then x.1 ∷ some else some)) ≡ Some b
      go true some more e = e
      go false some more e = e

in_the_middle : {X : Type 0} (before : List X) (x : X) (after : List X) → IsIn x (before ++ (x ∷ after))
in_the_middle [] x after = inl refl
in_the_middle (y ∷ before) x after = inr (in_the_middle before x after)

-- ---- the hole at a place

hole_of : (from : BoundTree) (text : List ℕ) (j i k : ℕ) (ps : List BoundTree) (b : BoundTree) → k ≡ j + i → slice_get ps i ≡ Some b
    → slice_get (holes_of from (piece_names text j ps) (bounds_from ps)) i ≡ Some (typed_item (node_type b) (piece_name text k) from)
hole_of from text j i k [] b e is = cc
hole_of from text j zero k (p ∷ ps) b e is =
    let q : p ≡ b = cc in
    let here : j ≡ k = omega arith in
    rw (q, here) refl
hole_of from text j (suc i) k (p ∷ ps) b e is = hole_of from text (j + 1) i k ps b (omega arith) is

next_hole : (hs : List BoundTree) (holes : List (List BoundTree)) (g i : ℕ) → hole_at (hs ∷ holes) (1 + g) i ≡ hole_at holes g i
next_hole hs holes g i = let e : 1 + g ≡ suc g = omega arith in ap (λ n. hole_at (hs ∷ holes) n i) e

module _ {A : Type 0} (text name : A → List ℕ) where
  -- the holes of these groups
  abbrev pub group_holes : LogicalType → List (Group A) → List (List BoundTree)
  group_holes s gs = all_holes (scope s) (partition_names name gs) (all_names text gs) (partitions text gs)

  abbrev own_holes : LogicalType → Group A → List BoundTree
  own_holes s g = holes_of (typed_item (node_type (partition text g)) (name g.0) (scope s)) (piece_names (text g.0) 0 g.1) (bounds_from g.1)

module _ {A : Type 0} (eq : A → A → Bool) (laws : IsEquivalence eq) (text name : A → List ℕ) (same_text : IsShared eq text) (same_names : IsShared eq name) where
  -- ---- the group of an annotation, by place and by name

  record Placed (s : LogicalType) (of : A → List BoundTree) (cs : List A) (a : A) : Type 0 where
    key : A
    alike : eq a key ≡ true
    holes_are : (i : ℕ) → hole_at (group_holes text name s (map (λ c. (c, of c)) cs)) (position_or_len (eq a) cs) i ≡ slice_get (own_holes text name s (key, of key)) i
    found : tree_named (name a) (partition_names name (map (λ c. (c, of c)) cs)) (partitions text (map (λ c. (c, of c)) cs)) ≡ Some (partition text (key, of key))

  name_among : (of : A → List BoundTree) (c : A) (cs : List A) → IsIn c cs → list_any (bytes_eq (name c)) (partition_names name (map (λ c. (c, of c)) cs)) ≡ true
  name_among of c [] i = absurd i
  name_among of c (d ∷ cs) (inl s) = rw (ap (λ z. bytes_eq (name z) (name d)) s ∙ same_name (name d)) refl
  name_among of c (d ∷ cs) (inr i) = rw (name_among of c cs i) (or_right (bytes_eq (name c) (name d)))
    where
      or_right : (t : Bool) → (t || true) ≡ true
      or_right true = refl
      or_right false = refl

  placed_first : (s : LogicalType) (of : A → List BoundTree) (h : A) (cs : List A) (a : A) → eq a h ≡ true → Placed s of (h ∷ cs) a
  placed_first s of h cs a q = record {
    key = h;
    alike = q;
    holes_are = λ i. ap (λ t. hole_at (group_holes text name s (map (λ c. (c, of c)) (h ∷ cs))) (cond (not t) (1 + position_or_len (eq a) cs) 0) i) q;
    found = ap (λ t. if t then Some (partition text (h, of h)) else tree_named (name a) (partition_names name (map (λ c. (c, of c)) cs)) (partitions text (map (λ c. (c, of c)) cs))) (ap (λ n. bytes_eq n (name h)) (same_names a h q) ∙ same_name (name h));
  }

  placed_later : (s : LogicalType) (of : A → List BoundTree) (h : A) (cs : List A) (a : A) → eq a h ≡ false → bytes_eq (name a) (name h) ≡ false → Placed s of cs a → Placed s of (h ∷ cs) a
  placed_later s of h cs a q apart r = record {
    key = r.key;
    alike = r.alike;
    holes_are = λ i. ap (λ t. hole_at (group_holes text name s (map (λ c. (c, of c)) (h ∷ cs))) (cond (not t) (1 + position_or_len (eq a) cs) 0) i) q
        ∙ next_hole (own_holes text name s (h, of h)) (group_holes text name s (map (λ c. (c, of c)) cs)) (position_or_len (eq a) cs) i ∙ r.holes_are i;
    found = ap (λ t. if t then Some (partition text (h, of h)) else tree_named (name a) (partition_names name (map (λ c. (c, of c)) cs)) (partitions text (map (λ c. (c, of c)) cs))) apart ∙ r.found;
  }

  called_otherwise : (of : A → List BoundTree) (h a c : A) (cs : List A) → eq a c ≡ true → IsIn c cs → list_any (bytes_eq (name h)) (partition_names name (map (λ c. (c, of c)) cs)) ≡ false → bytes_eq (name a) (name h) ≡ false
  called_otherwise of h a c cs e i d =
      other_name (name a) (name h) (λ same. true≢false (sym (name_among of c cs i) ∙ ap (λ n. list_any (bytes_eq n) (partition_names name (map (λ c. (c, of c)) cs))) (sym (same_names a c e) ∙ same) ∙ d))

  placed : (s : LogicalType) (of : A → List BoundTree) (cs : List A) (a c : A) → Distinct (partition_names name (map (λ c. (c, of c)) cs)) → IsIn c cs → eq a c ≡ true → Placed s of cs a
  placed s of [] a c d i e = absurd i
  placed s of (h ∷ cs) a c d i e = go (eq a h) refl (λ j. placed s of cs a c d.1 j e)
    where
      still_in : eq a h ≡ false → IsIn c (h ∷ cs) → IsIn c cs
      still_in q (inl s) = absurd (true≢false (sym e ∙ ap (eq a) s ∙ q))
      still_in q (inr j) = j

      go : (t : Bool) → eq a h ≡ t → (IsIn c cs → Placed s of cs a) → Placed s of (h ∷ cs) a
      go true q r = placed_first s of h cs a q
      go false q r = let j = still_in q i in placed_later s of h cs a q (called_otherwise of h a c cs e j d.0) (r j)

  -- ---- the table

  some_equal : (x y : BoundTree) → Some x ≡ Some y → x ≡ y
  some_equal x y e = cc

  -- over the partitions of the pieces each hole stands at its place
  pub holes_are_table : (only : BoundTree → Option A) (xs : List (Piece A)) → Distinct (partition_names name (collected eq xs)) → AllShort (collected eq xs)
      → IsTable eq text name only (partitioned_type text name (collected eq xs)) (group_holes text name (partitioned_type text name (collected eq xs)) (collected eq xs)) xs
  holes_are_table only xs differ short = λ before after a b is.
      let s = partitioned_type text name (collected eq xs) in
      let i : ℕ = length (pieces_of eq before a) in
      let known = annotation-found eq laws xs (a, b) (subst (IsIn (a, b)) is (in_the_middle before (a, b) after)) in
      let p = placed s (pieces_of eq xs) (annotations_of eq xs) a known.0 differ known.1 known.2 in
      let f = piece-found eq laws text name same_text same_names before after a b xs is differ short in
      let there : slice_get (pieces_of eq xs p.key) i ≡ Some b =
      ap (λ ps. slice_get ps i) (sym (pieces_of-equal eq laws xs a p.key p.alike)) ∙ ap (λ ys. slice_get (pieces_of eq ys a) i) (sym is) ∙ piece_there eq laws before after a b in
      let inner = item_of (name a) (scope s) in
      let same : partition text (f.key, pieces_of eq xs f.key) ≡ partition text (p.key, pieces_of eq xs p.key) = some_equal _ _ (sym f.partition_found ∙ p.found) in
      let inner_type : node_type inner ≡ node_type (partition text (f.key, pieces_of eq xs f.key)) =
      item-type (name a) (partition_names name (collected eq xs)) (partitions text (collected eq xs)) (partition text (f.key, pieces_of eq xs f.key)) (scope s) refl f.partition_found in
      let outer_type : node_type (item_of (piece_name (text a) i) inner) ≡ node_type b =
      item-type (piece_name (text a) i) (piece_names (text f.key) 0 (pieces_of eq xs f.key)) (bounds_from (pieces_of eq xs f.key)) b inner inner_type f.piece_found in
      let place : position_or_len (eq a) (annotations_of eq before) ≡ position_or_len (eq a) (annotations_of eq xs) = sym (same_place eq laws before after a b) ∙ ap (λ ys. position_or_len (eq a) (annotations_of eq ys)) is in
      let from = typed_item (node_type (partition text (p.key, pieces_of eq xs p.key))) (name p.key) (scope s) in
      let from_is : from ≡ inner = ap (λ n. typed_item (node_type (partition text (p.key, pieces_of eq xs p.key))) n (scope s)) (sym (same_names a p.key p.alike))
      ∙ ap (λ t. typed_item t (name a) (scope s)) (ap node_type (sym same) ∙ sym inner_type) in
      ap (λ g. hole_at (group_holes text name s (collected eq xs)) g i) place ∙ p.holes_are i
      ∙ hole_of from (text p.key) 0 i i (pieces_of eq xs p.key) b (omega arith) there
      ∙ ap (λ u. Some (typed_item (node_type b) (piece_name (text p.key) i) u)) from_is
      ∙ ap (λ t. Some (typed_item (node_type b) (piece_name t i) inner)) (sym (same_text a p.key p.alike))
      ∙ ap (λ t. Some (typed_item t (piece_name (text a) i) inner)) (sym outer_type)
