-- What is evaluated of a tree that keeps another has the other's meaning.
use Rattle.std.proofs.Common.{◌≡◌, List, map, None, Result, Ok, Err, sym, ap, ◌∙◌, inl, inr}
use Rattle.std.specs.Prelude.{MatchResult}
use Rattle.std.proofs.lemmas.Simd.{map-map}
use Rattle.vx_dtype.specs.declared.error.VortexError.{VortexError}
use Rattle.vx_dtype.specs.declared.error.VortexError.TheVariants.{OutOfMemory}
use Rattle.vx_dtype.specs.Returns.{ReturnsOrOom}
use Rattle.vx_value.specs.Columns.{Batch, batch}
use Rattle.vx_value.specs.Types.{Name, Datum}
use Rattle.vx_value.specs.Fits.{IsBatch}
use Rattle.vx_dtype.specs.Lists.{IsIn}
use Rattle.vx_dtype.proofs.Lists.{map_same}
use Rattle.vx_tree.specs.Faults.{HasNoFault, each_fault}
use Rattle.vx_tree.specs.Meaning.{mean, value}
use Rattle.vx_tree.specs.Trees.{BoundTree, BoundTrees, WellTyped, Over, unbound, node_type}
use Rattle.vx_tree.proofs.Meant.{mean-unbound}
use Rattle.vx_eval.specs.Evaluation.{evaluation}
use Rattle.vx_rewrite_core.specs.Keeps.{Keeps}
use Rattle.vx_partition_laws.specs.Items.{struct_type, joined}
use Rattle.vx_partition_laws.specs.Recombining.{Recombines}
use Rattle.vx_query_split.specs.Sources.{IsMeantBy}
use Rattle.vx_query_split.specs.Splits.{split_evaluation}

-- what is answered where nothing faults
quiet_answer : (e : List Datum) (c : Batch) (r : Result Batch VortexError) → ReturnsOrOom (λ x. x) r (Ok c) → c.rows ≡ e → MatchResult r (λ x. x.rows ≡ e) (λ y. y ≡ OutOfMemory)
quiet_answer e c (Ok x) a same = let is : c ≡ x = cc in rw (← is) same
quiet_answer e c (Err y) (inl m) same = m
quiet_answer e c (Err y) (inr q) same = cc

module _ (b u : BoundTree) (c : Batch) (k : Keeps b u) (o : Over b c.type) (fit : IsBatch c.type c.rows) (quiet : HasNoFault b c.rows) where
  meaning_kept : (v : Datum) → IsIn v c.rows → value u v ≡ mean (unbound b) c.type v
  meaning_kept v i = k.meaning c.type c.rows o fit quiet v i ∙ sym (mean-unbound b c.type v k.typed_before o)

  -- the tree whole
  pub whole_means : (r : Result Batch VortexError) → ReturnsOrOom (λ x. x) r (evaluation u c) → IsMeantBy (unbound b) c r
  whole_means r a =
      let still : HasNoFault u c.rows = k.no_fault c.type c.rows o fit quiet in
      let over = k.scopes c.type o in
      quiet_answer (map (mean (unbound b) c.type) c.rows) (batch (node_type u) (map (mean (unbound u) c.type) c.rows)) r (rw still at a)
      (map_same (mean (unbound u) c.type) (mean (unbound b) c.type) c.rows (λ v i. mean-unbound u c.type v k.typed_after over ∙ meaning_kept v i))

  -- the tree split
  pub split_means : (names : List Name) (parts : BoundTrees) (root : BoundTree) (r : Result Batch VortexError) → WellTyped root → Over root (struct_type names parts) → Recombines parts root u
      → ReturnsOrOom (λ x. x) r (split_evaluation names parts root c) → IsMeantBy (unbound b) c r
  split_means names parts root r w ro re a =
      let still : HasNoFault u c.rows = k.no_fault c.type c.rows o fit quiet in
      let over = k.scopes c.type o in
      let no_part : each_fault parts c.rows ≡ None = re.no_part_faults c.type c.rows over fit still in
      let no_root : HasNoFault root (map (joined parts) c.rows) = re.no_fault c.type c.rows over fit still in
      let s = struct_type names parts in
      quiet_answer (map (mean (unbound b) c.type) c.rows) (batch (node_type root) (map (mean (unbound root) s) (map (joined parts) c.rows))) r (rw (no_part, no_root) at a)
      (map-map (mean (unbound root) s) (joined parts) c.rows
      ∙ map_same (λ v. mean (unbound root) s (joined parts v)) (mean (unbound b) c.type) c.rows (λ v i. mean-unbound root s (joined parts v) w ro ∙ re.meaning c.type c.rows over fit still v i ∙ meaning_kept v i))
