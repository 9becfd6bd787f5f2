-- The tree with holes has, over its partitions, the type, the meaning and the faults of the tree that was split.
use Rattle.std.proofs.Common.{◌≡◌, ℕ, Bool, List, [], ◌∷◌, ◌++◌, length, sym, Option, Some, None, refl, ap, ◌∙◌, map, inl, inr, true, false}
use Rattle.std.specs.Prelude.{◌⊎◌, IsTrue, is_some}
use Rattle.std.specs.Cmp.{IsEquivalence}
use Rattle.std.proofs.lemmas.List.{append_assoc, append-nil}
use Rattle.vx_value.specs.Types.{LogicalType, Datum}
use Rattle.vx_fn.specs.Functions.{Function, fn_type}
use Rattle.vx_fn.specs.Faults.{node_fault}
use Rattle.vx_tree.specs.Meaning.{value, values}
use Rattle.vx_tree.specs.Faults.{HasNoFault, each_fault}
use Rattle.vx_tree.specs.Trees.{BoundTree, scope, node, BoundTrees, no_bound, bound, node_type, node_types, WellTyped, EachWellTyped, Over, EachOver}
use Rattle.vx_tree.specs.Views.{bounds_from}
use Rattle.vx_tree.proofs.Children.{first_quiet, rest_quiet, children_quiet}
use Rattle.vx_tree.proofs.Trees.{or_none}
use Rattle.vx_partition_laws.specs.Items.{item_of, struct_type, joined}
use Rattle.vx_partition_laws.specs.Pieces.{Piece, Group, piece_or, pieces, each_pieces, Covered, EachCovered, pieces_of, annotations_of, grouped, groups}
use Rattle.vx_partition_laws.specs.Partitions.{piece_name, piece_names, Distinct, IsShared, AllShort, partition, partitions, partition_names, partitioned_type}
use Rattle.vx_partition_laws.specs.Holes.{hole, hole_or, with_holes, each_with_holes}
use Rattle.vx_partition_laws.specs.Recombining.{SplitsRecombine}
use Rattle.vx_partition_laws.proofs.Taken.{item-type, item-typed, item-value}
use Rattle.vx_partition_laws.proofs.Places.{piece-found}
use Rattle.vx_partition_laws.proofs.EachPiece.{EachPiece, each_first, each_second, grouped_each, ungrouped_each, pieces_have}
use Rattle.vx_partition_laws.proofs.Packing.{all_typed, all_over, all_quiet, quiet_all}

map_through : {A B C : Type 0} (f : B → C) (h : A → B) (g : A → C) (xs : List A) → ((x : A) → f (h x) ≡ g x) → map f (map h xs) ≡ map g xs
map_through f h g [] e = refl
map_through f h g (x ∷ xs) e = rw (e x, map_through f h g xs e) refl

-- ---- the main induction

module _ {A : Type 0} (eq : A → A → Bool) (laws : IsEquivalence eq) (text name : A → List ℕ) (same_text : IsShared eq text) (same_names : IsShared eq name)
    (only : BoundTree → Option A) (xs : List (Piece A)) (differ : Distinct (partition_names name (grouped eq xs (annotations_of eq xs)))) (short : AllShort (grouped eq xs (annotations_of eq xs))) where
  abbrev all : List (Group A)
  all = grouped eq xs (annotations_of eq xs)

  abbrev row : Datum → Datum
  row = joined (partitions text all)

  abbrev over_all : LogicalType
  over_all = partitioned_type text name all

  -- u stands for b, where C says that b is covered by these pieces
  record Stands (C : Type 0) (ps : List (Piece A)) (b u : BoundTree) : Type 0 where
    type : node_type u ≡ node_type b
    typed : WellTyped b → WellTyped u
    over : C → Over u over_all
    value_is : C → (v : Datum) → value u (row v) ≡ value b v
    quiet : C → (batch : List Datum) → HasNoFault b batch → HasNoFault u (map row batch)
    loud : C → (batch : List Datum) → EachPiece (λ p. HasNoFault p batch) ps → HasNoFault u (map row batch) → HasNoFault b batch

  record StandEach (C : Type 0) (ps : List (Piece A)) (bs us : BoundTrees) : Type 0 where
    types : node_types us ≡ node_types bs
    each_typed : EachWellTyped bs → EachWellTyped us
    each_over : C → EachOver us over_all
    values_are : C → (v : Datum) → values us (row v) ≡ values bs v
    each_quiet : C → (batch : List Datum) → each_fault bs batch ≡ None → each_fault us (map row batch) ≡ None
    each_loud : C → (batch : List Datum) → EachPiece (λ p. HasNoFault p batch) ps → each_fault us (map row batch) ≡ None → each_fault bs batch ≡ None

  hole_stands : (C : Type 0) (before after : List (Piece A)) (a : A) (b : BoundTree) → before ++ ((a, b) ∷ after) ≡ xs → Stands C ((a, b) ∷ []) b (hole over_all (text a) (name a) (length (pieces_of eq before a)))
  hole_stands C before after a b is =
      let f = piece-found eq laws text name same_text same_names before after a b xs is differ short in
      let i : ℕ = length (pieces_of eq before a) in
      let outer = partition text (f.key, pieces_of eq xs f.key) in
      let names = piece_names (text f.key) 0 (pieces_of eq xs f.key) in
      let parts = bounds_from (pieces_of eq xs f.key) in
      let inner_type : node_type (item_of (name a) (scope over_all)) ≡ struct_type names parts = item-type (name a) (partition_names name all) (partitions text all) outer (scope over_all) refl f.partition_found in
      let inner_typed = item-typed (name a) (partition_names name all) (partitions text all) outer (scope over_all) refl f.partition_found tt in
      record {
        type = item-type (piece_name (text a) i) names parts b (item_of (name a) (scope over_all)) inner_type f.piece_found;
        typed = λ w. item-typed (piece_name (text a) i) names parts b (item_of (name a) (scope over_all)) inner_type f.piece_found inner_typed;
        over = λ c. ((refl, tt), tt);
        value_is = λ c v. item-value (piece_name (text a) i) names parts b (item_of (name a) (scope over_all)) inner_type f.piece_found v (row v)
            (item-value (name a) (partition_names name all) (partitions text all) outer (scope over_all) refl f.partition_found v (row v) refl);
        quiet = λ c batch n. refl;
        loud = λ c batch p n. p.0;
      }

  -- where one cover gives another
  stand_so : (C D : Type 0) {ps : List (Piece A)} {b u : BoundTree} → (D → C) → Stands C ps b u → Stands D ps b u
  stand_so C D so k = record {
    type = k.type;
    typed = k.typed;
    over = λ d. k.over (so d);
    value_is = λ d. k.value_is (so d);
    quiet = λ d. k.quiet (so d);
    loud = λ d. k.loud (so d);
  }

  stand_at : (o : Option A) (P : Type 0) (before after : List (Piece A)) (b u : BoundTree) (below : List (Piece A)) → before ++ (piece_or o b below ++ after) ≡ xs
      → (before ++ (below ++ after) ≡ xs → Stands P below b u) → Stands (IsTrue (is_some o) ⊎ P) (piece_or o b below) b (hole_or eq text name only over_all o before u)
  stand_at None P before after b u below is k = stand_so P (IsTrue false ⊎ P) (λ c. elim c [ inl none ↦ absurd cc | inr p ↦ p ]) (k is)
  stand_at (Some a) P before after b u below is k = hole_stands (IsTrue true ⊎ P) before after a b is

  scope_stands : (t : LogicalType) → Stands ⊥ [] (scope t) (scope t)
  scope_stands t = record {
    type = refl;
    typed = λ w. w;
    over = λ c. absurd c;
    value_is = λ c. absurd c;
    quiet = λ c. absurd c;
    loud = λ c. absurd c;
  }

  node_stands : (C : Type 0) (ps : List (Piece A)) (t : LogicalType) (f : Function) (bs us : BoundTrees) → StandEach C ps bs us → Stands C ps (node t f bs) (node t f us)
  node_stands C ps t f bs us k = record {
    type = refl;
    typed = λ w. (ap (fn_type f) k.types ∙ w.0, w.1, k.each_typed w.2);
    over = λ c. k.each_over c;
    value_is = λ c v. rw (k.types, k.values_are c v) refl;
    quiet = λ c batch n.
        let q = or_none _ _ n in
        let rows : map (values us) (map row batch) ≡ map (values bs) batch = map_through (values us) row (values bs) batch (k.values_are c) in
        rw (k.each_quiet c batch q.0, k.types, rows) q.1;
    loud = λ c batch p n.
        let q = or_none _ _ n in
        let rows : map (values us) (map row batch) ≡ map (values bs) batch = map_through (values us) row (values bs) batch (k.values_are c) in
        let own : node_fault f (node_types bs) (map (values bs) batch) ≡ None = rw (← k.types, ← rows) q.1 in
        rw (k.each_loud c batch p q.0) own;
  }

  mutual
    stands : (before after : List (Piece A)) (b : BoundTree) → before ++ (pieces only b ++ after) ≡ xs → Stands (Covered only b) (pieces only b) b (with_holes eq text name only over_all before b)
    stands before after (scope t) is =
        stand_so (IsTrue (is_some (only (scope t))) ⊎ ⊥) (IsTrue (is_some (only (scope t)))) (λ c. inl c)
        (stand_at (only (scope t)) ⊥ before after (scope t) (scope t) [] is (λ e. scope_stands t))
    stands before after (node t f bs) is =
        stand_at (only (node t f bs)) (EachCovered only bs) before after (node t f bs) (node t f (each_with_holes eq text name only over_all before bs)) (each_pieces only bs) is
        (λ e. node_stands (EachCovered only bs) (each_pieces only bs) t f bs (each_with_holes eq text name only over_all before bs) (stand_each before after bs e))

    stand_each : (before after : List (Piece A)) (bs : BoundTrees) → before ++ (each_pieces only bs ++ after) ≡ xs → StandEach (EachCovered only bs) (each_pieces only bs) bs (each_with_holes eq text name only over_all before bs)
    stand_each before after no_bound is = record {
      types = refl;
      each_typed = λ w. w;
      each_over = λ c. tt;
      values_are = λ c v. refl;
      each_quiet = λ c batch n. refl;
      each_loud = λ c batch p n. refl;
    }
    stand_each before after (bound b bs) is =
        let whole : before ++ (pieces only b ++ (each_pieces only bs ++ after)) ≡ xs = ap (λ ys. before ++ ys) (sym (append_assoc (pieces only b) (each_pieces only bs) after)) ∙ is in
        let one = stands before (each_pieces only bs ++ after) b whole in
        let more = stand_each (before ++ pieces only b) after bs (append_assoc before (pieces only b) (each_pieces only bs ++ after) ∙ whole) in
        record {
          types = rw (one.type, more.types) refl;
          each_typed = λ w. (one.typed w.0, more.each_typed w.1);
          each_over = λ c. (one.over c.0, more.each_over c.1);
          values_are = λ c v. rw (one.value_is c.0 v, more.values_are c.1 v) refl;
          each_quiet = λ c batch n. let q = or_none _ _ n in let x = one.quiet c.0 batch q.0 in rw (x, more.each_quiet c.1 batch q.1) refl;
          each_loud = λ c batch p n.
              let q = or_none _ _ n in
              let x = one.loud c.0 batch (each_first (λ p. HasNoFault p batch) (pieces only b) (each_pieces only bs) p) q.0 in
              rw (x, more.each_loud c.1 batch (each_second (λ p. HasNoFault p batch) (pieces only b) (each_pieces only bs) p) q.1) refl;
        }

-- ---- the whole

module _ {A : Type 0} (eq : A → A → Bool) (laws : IsEquivalence eq) where
  pub splits_recombine : SplitsRecombine eq
  splits_recombine text name same_text same_names only b w differ short =
      let all = groups eq only b in
      let xs = pieces only b in
      let s = stands eq laws text name same_text same_names only xs differ short [] [] b (append-nil xs) in
      let typed_pieces = pieces_have WellTyped only EachWellTyped (λ t f bs p. p.2) (λ c bs p. p.0) (λ c bs p. p.1) b w in
      let over_pieces : (t : LogicalType) → Over b t → EachPiece (λ c. Over c t) (pieces only b) = λ t. pieces_have (λ c. Over c t) only (λ bs. EachOver bs t) (λ u f bs p. p) (λ c bs p. p.0) (λ c bs p. p.1) b in
      let quiet_pieces : (batch : List Datum) → HasNoFault b batch → EachPiece (λ c. HasNoFault c batch) (pieces only b) =
      λ batch. pieces_have (λ c. HasNoFault c batch) only (λ bs. each_fault bs batch ≡ None) (λ u f bs p. children_quiet u f bs batch p) (λ c bs p. first_quiet c bs batch p) (λ c bs p. rest_quiet c bs batch p) b in
      record {
        partitions_typed = all_typed text all (grouped_each WellTyped eq xs (annotations_of eq xs) typed_pieces);
        root_typed = s.typed w;
        same_type = s.type;
        over_partitions = s.over;
        recombines = λ c. record {
          scopes = λ t o. all_over text t all (grouped_each (λ p. Over p t) eq xs (annotations_of eq xs) (over_pieces t o));
          no_part_faults = λ t batch o i n. all_quiet text batch all (grouped_each (λ p. HasNoFault p batch) eq xs (annotations_of eq xs) (quiet_pieces batch n));
          no_fault = λ t batch o i n. s.quiet c batch n;
          meaning = λ t batch o i n v j. s.value_is c v;
        };
        no_other_fault = λ c batch n m. s.loud c batch (ungrouped_each (λ p. HasNoFault p batch) eq laws xs (quiet_all text batch all n)) m;
      }
