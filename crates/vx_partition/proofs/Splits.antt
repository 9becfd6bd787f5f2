-- What is put together from the groups of a tree's pieces is the tree's split.
use Rattle.std.proofs.Common.{◌≡◌, ℕ, suc, ◌<◌, ◌^◌, Bool, true, List, [], ◌∷◌, length, map, Option, Some, None, Ok, Err, refl, sym, ap, subst, ◌∙◌, true≢false, append-nil, inl, arith, Vec}
use Rattle.std.specs.Prelude.{IsTrue, is_some, Result, IfOk, IfErr}
use Rattle.std.specs.Cmp.{IsEquivalence}
use Rattle.std.specs.Cmp.Lexicographic.{pointwise}
use Rattle.std.specs.HashMap.{HashMap}
use Rattle.std.specs.HashSet.{HashSet}
use Rattle.std.proofs.lemmas.Bool.{eqb-true}
use Rattle.std.proofs.lemmas.List.{length-map}
use Rattle.vx_dtype.specs.declared.error.VortexError.{VortexError}
use Rattle.vx_dtype.specs.declared.error.VortexError.TheVariants.{OutOfMemory}
use Rattle.vx_value.specs.Returns.{ReturnsOrOom}
use Rattle.vx_value.specs.Types.{Name}
use Rattle.vx_tree.specs.Trees.{BoundTree, scope, BoundTrees, WellTyped}
use Rattle.vx_tree.specs.Views.{bound_of, bounds_of}
use Rattle.vx_tree.specs.declared.bound.BoundExpression.{BoundExpression}
use Rattle.vx_tree.specs.declared.exact.ExactBoundExpr.{ExactBoundExpr}
use Rattle.vx_rewrite_analysis.specs.Covers as test
use Rattle.vx_rewrite_analysis.specs.Keys.{entry_at}
use Rattle.vx_partition_laws.specs.Holes.{recombination}
use Rattle.vx_partition_laws.specs.Items.{struct_type}
use Rattle.vx_partition_laws.specs.Partitions.{Distinct, IsShared, AllShort, partition, partitions, partition_names, partitioned_type}
use Rattle.vx_partition_laws.specs.Pieces.{Piece, Group, Covered, pieces, annotations_of, grouped, groups}
use Rattle.vx_partition_laws.specs.Recombining.{SplitsRecombine}
use Rattle.vx_partition_laws.proofs.Covering.{covered_by_more}
use Rattle.vx_partition.specs.declared.mark.Mark.{Mark}
use Rattle.vx_partition.specs.Collecting.{SameGroups, marks_of}
use Rattle.vx_partition.specs.Filling.{filled}
use Rattle.vx_partition.specs.Only.{only_annotation, only_item, only_key}
use Rattle.vx_partition.specs.Packing.{all_holes, all_names}
use Rattle.vx_partition.specs.Partitioned.{first_taken, free_names, EquallyMany}
use Rattle.vx_partition.specs.Splitting.{IsSplitBy, IsSplitByPieces}
use Rattle.vx_partition.proofs.FreeNames.{free_differ, unless_none}
use Rattle.vx_partition.proofs.Grouping.{seen}
use Rattle.vx_partition.proofs.Holed.{tree_filled}
use Rattle.vx_partition.proofs.Tables.{group_holes, holes_are_table}

-- ---- groups under equal annotations

module _ {A : Type 0} (eq : A → A → Bool) where
  names_alike : (name : A → Name) → IsShared eq name → (gs hs : List (Group A)) → SameGroups eq gs hs → partition_names name gs ≡ partition_names name hs
  names_alike name same [] [] s = refl
  names_alike name same [] (h ∷ hs) s = absurd s
  names_alike name same (g ∷ gs) [] s = absurd s
  names_alike name same (g ∷ gs) (h ∷ hs) s = rw (same g.0 h.0 s.0, names_alike name same gs hs s.2) refl

  -- their names are free, or refused, alike
  pub names_same : (name : A → Name) → IsShared eq name → (gs hs : List (Group A)) → SameGroups eq gs hs → free_names (partition_names name gs) ≡ free_names (partition_names name hs)
  names_same name same gs hs s = ap free_names (names_alike name same gs hs s)

  partition_alike : (text : A → List ℕ) → IsShared eq text → (g h : Group A) → eq g.0 h.0 ≡ true → g.1 ≡ h.1 → partition text g ≡ partition text h
  partition_alike text same g h e s = rw (same g.0 h.0 e, s) refl

  partitions_alike : (text : A → List ℕ) → IsShared eq text → (gs hs : List (Group A)) → SameGroups eq gs hs → partitions text gs ≡ partitions text hs
  partitions_alike text same [] [] s = refl
  partitions_alike text same [] (h ∷ hs) s = absurd s
  partitions_alike text same (g ∷ gs) [] s = absurd s
  partitions_alike text same (g ∷ gs) (h ∷ hs) s = rw (partition_alike text same g h s.0 s.1, partitions_alike text same gs hs s.2) refl

  own_names_alike : (text : A → List ℕ) → IsShared eq text → (gs hs : List (Group A)) → SameGroups eq gs hs → all_names text gs ≡ all_names text hs
  own_names_alike text same [] [] s = refl
  own_names_alike text same [] (h ∷ hs) s = absurd s
  own_names_alike text same (g ∷ gs) [] s = absurd s
  own_names_alike text same (g ∷ gs) (h ∷ hs) s = rw (same g.0 h.0 s.0, s.1, own_names_alike text same gs hs s.2) refl

  keys_alike : (xs : List (Piece A)) (gs : List (Group A)) (cs : List A) → SameGroups eq gs (grouped eq xs cs) → pointwise eq (map (λ g. g.0) gs) cs ≡ true
  keys_alike xs [] [] s = refl
  keys_alike xs [] (c ∷ cs) s = absurd s
  keys_alike xs (g ∷ gs) [] s = absurd s
  keys_alike xs (g ∷ gs) (c ∷ cs) s = rw (s.0, keys_alike xs gs cs s.2) refl

  short_alike : (gs hs : List (Group A)) → SameGroups eq gs hs → AllShort gs → AllShort hs
  short_alike [] [] s h = tt
  short_alike [] (k ∷ hs) s h = absurd s
  short_alike (g ∷ gs) [] s h = absurd s
  short_alike (g ∷ gs) (k ∷ hs) s h = (subst (λ bs. length bs < 2 ^ 64) s.1 h.0, short_alike gs hs s.2 h.1)

-- indices of pieces fit, since they stand in a Vec
pub all_short : {A Z : Type 0} (es : List (A × Vec BoundExpression Z)) → AllShort (seen es)
all_short [] = tt
all_short (e ∷ es) = (let n = length-map e.1.items bound_of in omega (arith, n, e.1.ok.0, e.1.small), all_short es)

-- ---- the test of covered trees

module _ {A S Z : Type 0} (m : HashMap ExactBoundExpr (HashSet A S) Z) where
  single_has : (o : Option (HashSet A S)) → IsTrue (test.is_single o) → IsTrue (is_some (only_key o))
  single_has None h = absurd (true≢false (sym h))
  single_has (Some s) h = one s.keys (eqb-true (length s.keys) 1 h)
    where
      one : (ks : List A) → length ks ≡ 1 → IsTrue (is_some (only_item ks))
      one [] e = absurd (omega arith)
      one (a ∷ []) e = refl
      one (a ∷ b ∷ ks) e = absurd (omega arith)

  -- what the test of the map covers is covered by pieces
  pub covered_pieces : (b : BoundTree) → test.Covered (test.has_single m) b → Covered (only_annotation m) b
  covered_pieces b h = covered_by_more (test.has_single m) (λ c. is_some (only_annotation m c)) (λ c. single_has (entry_at c m)) b h

-- ---- the split

module _ {A : Type 0} (eq : A → A → Bool) (laws : IsEquivalence eq) (splits : SplitsRecombine eq) (text name : A → List ℕ) (same_text : IsShared eq text) (same_names : IsShared eq name)
    (only : BoundTree → Option A) (b : BoundTree) (gs : List (Group A)) (same : SameGroups eq gs (groups eq only b)) where
  module _ (names : List Name) (given : free_names (partition_names name gs) ≡ Ok names) where
    abbrev all : List (Group A)
    all = groups eq only b

    known : (first_taken [] (partition_names name gs) ≡ None) × (names ≡ partition_names name gs)
    known = unless_none (first_taken [] (partition_names name gs)) (partition_names name gs) names given

    named : names ≡ partition_names name all
    named = known.1 ∙ names_alike eq name same_names gs all same

    differ : Distinct (partition_names name all)
    differ = free_differ [] (partition_names name all) (ap (first_taken []) (sym (names_alike eq name same_names gs all same)) ∙ known.0)

    pub filled_so : AllShort gs → (marks rest : List Mark) (u : BoundTree) → marks ≡ marks_of eq only [] b
        → filled (all_holes (scope (struct_type names (partitions text gs))) names (all_names text gs) (partitions text gs)) b marks ≡ (u, rest) → u ≡ recombination eq text name only b
    filled_so short marks rest u is made =
        let xs = pieces only b in
        let holes_same : all_holes (scope (struct_type names (partitions text gs))) names (all_names text gs) (partitions text gs) ≡ group_holes text name (partitioned_type text name all) all =
        rw (named, partitions_alike eq text same_text gs all same, own_names_alike eq text same_text gs all same) refl in
        let table = holes_are_table eq laws text name same_text same_names only xs differ (short_alike eq gs all same short) in
        let own = tree_filled eq text name only (partitioned_type text name all) (group_holes text name (partitioned_type text name all) all) xs table [] [] b [] (append-nil xs) in
        ap (λ r. r.0) (sym made ∙ ap (λ hs. filled hs b marks) holes_same
        ∙ ap (filled (group_holes text name (partitioned_type text name all) all) b) (is ∙ sym (append-nil (marks_of eq only [] b))) ∙ own)

    pub split_so : WellTyped b → AllShort gs → (keys : List A) (parts : BoundTrees) (root : BoundTree) → keys ≡ map (λ g. g.0) gs → parts ≡ partitions text gs → root ≡ recombination eq text name only b
        → IsSplitByPieces eq text name only b names parts keys root
    split_so w short keys parts r keys_are parts_are root_is =
        let split = splits text name same_text same_names only b w differ (short_alike eq gs all same short) in
        let parts_of : parts ≡ partitions text all = parts_are ∙ partitions_alike eq text same_text gs all same in
        record {
          named = sym (names_same eq name same_names gs all same) ∙ given;
          packed = parts_of;
          annotated = ap (λ ks. pointwise eq ks (annotations_of eq (pieces only b))) keys_are ∙ keys_alike eq (pieces only b) gs (annotations_of eq (pieces only b)) same;
          holed = root_is;
          partitioned = rw (named, parts_of, root_is) record {
            partitions_typed = split.partitions_typed;
            root_typed = split.root_typed;
            same_type = split.same_type;
            over_partitions = λ c. split.over_partitions c;
            recombines = λ c. split.recombines c;
            no_other_fault = λ c. split.no_other_fault c;
          };
        }

    -- so is a call's answer that was put together from them
    pub answered : {P : Type 0} (r : Result P VortexError) (names_of : P → List Name) (keys_of : P → List A) (parts_of : P → BoundTrees) (root_of : P → BoundTree) (marks : List Mark) → WellTyped b → AllShort gs → marks ≡ marks_of eq only [] b
        → IfOk r (λ p. names_of p ≡ names) → IfOk r (λ p. keys_of p ≡ map (λ g. g.0) gs) → IfOk r (λ p. parts_of p ≡ partitions text gs)
        → IfOk r (λ p. (rest : List Mark) × (filled (all_holes (scope (struct_type names (partitions text gs))) names (all_names text gs) (partitions text gs)) b marks ≡ (root_of p, rest)))
        → IfOk r (λ p. IsSplitByPieces eq text name only b (names_of p) (parts_of p) (keys_of p) (root_of p))
    answered (Ok p) names_of keys_of parts_of root_of marks w short is n k q h =
        subst (λ ns. IsSplitByPieces eq text name only b ns (parts_of p) (keys_of p) (root_of p)) (sym n)
        (split_so w short (keys_of p) (parts_of p) (root_of p) k q (filled_so short marks h.0 (root_of p) is h.1))
    answered (Err y) names_of keys_of parts_of root_of marks w short is n k q h = tt

-- a split by the pieces of a map is one by the map
module _ {A S Z : Type 0} (eq : A → A → Bool) (text name : A → List ℕ) (m : HashMap ExactBoundExpr (HashSet A S) Z) (b : BoundTree) where
  pub split_by_map : (names : List Name) (parts : BoundTrees) (keys : List A) (root : BoundTree) → IsSplitByPieces eq text name (only_annotation m) b names parts keys root → IsSplitBy eq text name m b names parts keys root
  split_by_map names parts keys root s =
      let p = s.partitioned in
      record {
        named = s.named;
        packed = s.packed;
        annotated = s.annotated;
        holed = s.holed;
        partitioned = record {
          partitions_typed = p.partitions_typed;
          root_typed = p.root_typed;
          same_type = p.same_type;
          over_partitions = λ c. p.over_partitions (covered_pieces m b c);
          recombines = λ c. p.recombines (covered_pieces m b c);
          no_other_fault = λ c. p.no_other_fault (covered_pieces m b c);
        };
      }

-- as many partitions as groups, and as many lists of piece names
pub parts_count : {A : Type 0} (text : A → List ℕ) (gs : List (Group A)) (ps : List BoundExpression) → bounds_of ps ≡ partitions text gs → length ps ≡ length gs
parts_count text [] [] e = refl
parts_count text [] (p ∷ ps) e = cc
parts_count text (g ∷ gs) [] e = cc
parts_count text (g ∷ gs) (p ∷ ps) e = let q : bounds_of ps ≡ partitions text gs = cc in ap suc (parts_count text gs ps q)

pub own_count : {A : Type 0} (text : A → List ℕ) (gs : List (Group A)) → length (all_names text gs) ≡ length gs
own_count text [] = refl
own_count text (g ∷ gs) = ap suc (own_count text gs)

-- as many names as groups
names_count : {A : Type 0} (name : A → Name) (gs : List (Group A)) → length (partition_names name gs) ≡ length gs
names_count name [] = refl
names_count name (g ∷ gs) = ap suc (names_count name gs)

pub named_count : {A : Type 0} (name : A → Name) (gs : List (Group A)) (names : List Name) → free_names (partition_names name gs) ≡ Ok names → length names ≡ length gs
named_count name gs names e = ap length (unless_none (first_taken [] (partition_names name gs)) (partition_names name gs) names e).1 ∙ names_count name gs

-- the names that were free, or memory ran out
pub names_answered : {P : Type 0} (r : Result P VortexError) (names_of : P → List Name) (names : List Name) (said : Result (List Name) VortexError) → said ≡ Ok names
    → IfOk r (λ p. names_of p ≡ names) → IfErr r (λ y. y ≡ OutOfMemory) → ReturnsOrOom names_of r said
names_answered (Ok p) names_of names said e n m = e ∙ ap (λ ns. Ok ns) (sym n)
names_answered (Err y) names_of names said e n m = inl m

-- names, annotations and partitions are as many as the groups
pub equally_many : {A : Type 0} (text : A → List ℕ) (gs : List (Group A)) (names : List Name) (keys : List A) (ps : List BoundExpression) → length names ≡ length gs → keys ≡ map (λ g. g.0) gs → bounds_of ps ≡ partitions text gs → EquallyMany names keys ps
equally_many text gs names keys ps n k p =
    let count = parts_count text gs ps p in (n ∙ sym count, ap length k ∙ length-map gs (λ g. g.0) ∙ sym count)
