-- What a planned tree gives over what was read is what its source means on the batch.
use Rattle.std.proofs.Common.{◌≡◌, ◌≢◌, ◌⊎◌, inl, inr, Bool, true, false, List, map, Option, Some, None, Result, Ok, Err, refl, sym, ap, ◌∙◌, subst}
use Rattle.std.specs.Prelude.{MatchResult, not}
use Rattle.vx_dtype.specs.Returns.{ReturnsOrOom}
use Rattle.vx_dtype.specs.declared.error.VortexError.{VortexError}
use Rattle.vx_dtype.specs.declared.error.VortexError.TheVariants.{OutOfMemory, ScopeMismatch}
use Rattle.vx_value.specs.Columns.{Batch, batch}
use Rattle.vx_value.specs.Equality.{equal_type}
use Rattle.vx_value.specs.Deciding.{equal_type-Decides}
use Rattle.vx_value.specs.Fits.{IsBatch}
use Rattle.vx_value.specs.Paths.{Path, minimal_paths}
use Rattle.vx_value.specs.Types.{LogicalType, Datum}
use Rattle.vx_dtype.proofs.Lists.{map_same}
use Rattle.vx_tree.proofs.Meant.{mean-unbound}
use Rattle.vx_tree.specs.Faults.{HasNoFault, first_fault, each_fault}
use Rattle.vx_tree.specs.Meaning.{mean}
use Rattle.vx_tree.specs.Trees.{BoundTree, node_type, unbound, WellTyped, Over}
use Rattle.vx_rewrite_core.proofs.Keeping.{keeps_refl}
use Rattle.vx_rewrite_paths.proofs.Fixing.{minimal_paths-fix}
use Rattle.vx_partition_laws.specs.Items.{struct_type, joined}
use Rattle.vx_eval.specs.Columns.{unless_fault}
use Rattle.vx_eval.specs.Evaluation.{evaluation}
use Rattle.vx_query_split.proofs.Meant.{whole_means, split_means}
use Rattle.vx_query_split.specs.Division.{Parts}
use Rattle.vx_query_split.specs.Sources.{IsMeantBy}
use Rattle.vx_query_split.specs.Splits.{fault_or, joined_column}
use Rattle.vx_scan.proofs.Faulting.{normal_trees-alike}
use Rattle.vx_projection.specs.Kept.{kept, kept_batch}
use Rattle.vx_projection.proofs.Keeping.{kept_rows-fit}
use Rattle.vx_query_split.proofs.Divided.{Sound}
use Rattle.vx_scan.specs.Plans.{IsPlan}
use Rattle.vx_scan.specs.Scans.{planned_evaluation, HasTypeOf, KeepsMeaning, Scanned}
use Rattle.vx_scan.proofs.Opened.{sound_of, root_type_of}
use Rattle.vx_scan.proofs.Reading.{read-agrees}

-- ---- answers

-- an answer of these rows is one of equal rows
moved : (e f : List Datum) (r : Result Batch VortexError) → e ≡ f → MatchResult r (λ x. x.rows ≡ e) (λ y. y ≡ OutOfMemory) → MatchResult r (λ x. x.rows ≡ f) (λ y. y ≡ OutOfMemory)
moved e f (Ok x) q h = h ∙ q
moved e f (Err y) q h = h

answered : (e : List Datum) (r : Result Batch VortexError) → MatchResult r (λ x. x.rows ≡ e) (λ y. y ≡ OutOfMemory) → MatchResult r (λ x. Unit {0}) (λ y. y ≡ OutOfMemory)
answered e (Ok x) h = tt
answered e (Err y) h = h

-- where there is an answer there was no fault
no_fault_in : {A : Type 0} (o : Option VortexError) (a x : A) → unless_fault o a ≡ Ok x → o ≡ None
no_fault_in None a x e = refl
no_fault_in (Some fault) a x e = cc

no_fault_before : {A : Type 0} (o : Option VortexError) (answer : Result A VortexError) (x : A) → fault_or o answer ≡ Ok x → (o ≡ None) × (answer ≡ Ok x)
no_fault_before None answer x e = (refl, e)
no_fault_before (Some fault) answer x e = cc

type_in : (o : Option VortexError) (b x : Batch) → unless_fault o b ≡ Ok x → x.type ≡ b.type
type_in None b x e = let is : b ≡ x = cc in ap (λ (c : Batch). c.type) (sym is)
type_in (Some fault) b x e = cc

-- ---- a planned tree over what was read

module _ (u : BoundTree) (ps : List Path) (c : Batch) (w : WellTyped u) (o : Over u c.type) (fit : IsBatch c.type c.rows) where
  -- what was read has the tree's faults on the batch, and its meaning
  pub record ReadAlike : Type 0 where
    pub fits : IsBatch c.type (kept_batch (minimal_paths ps) c).rows
    pub faults : first_fault u c.rows ≡ first_fault u (kept_batch (minimal_paths ps) c).rows
    pub meaning : HasNoFault u c.rows → map (mean (unbound u) c.type) c.rows ≡ map (mean (unbound u) c.type) (kept_batch (minimal_paths ps) c).rows

  -- what is evaluated over it, by a split that there may be
  evaluated_means : (split : Option Parts) (r : Result Batch VortexError) → ((p : Parts) → split ≡ Some p → Sound u p) → ReadAlike → HasNoFault u c.rows
      → ReturnsOrOom (λ x. x) r (planned_evaluation split u (kept_batch (minimal_paths ps) c)) → MatchResult r (λ x. x.rows ≡ map (mean (unbound u) c.type) c.rows) (λ y. y ≡ OutOfMemory)
  evaluated_means None r good alike quiet a =
      let read = kept_batch (minimal_paths ps) c in
      let still : HasNoFault u read.rows = sym alike.faults ∙ quiet in
      moved (map (mean (unbound u) c.type) read.rows) (map (mean (unbound u) c.type) c.rows) r (sym (alike.meaning quiet)) (whole_means u u read (keeps_refl u w) o alike.fits still r a)
  evaluated_means (Some p) r good alike quiet a =
      let read = kept_batch (minimal_paths ps) c in
      let still : HasNoFault u read.rows = sym alike.faults ∙ quiet in
      let s = good p refl in
      moved (map (mean (unbound u) c.type) read.rows) (map (mean (unbound u) c.type) c.rows) r (sym (alike.meaning quiet))
      (split_means u u read (keeps_refl u w) o alike.fits still p.names p.partitions p.root r s.root_typed s.root_over s.recombines a)

  evaluated_quiet : (split : Option Parts) (r : Result Batch VortexError) → ((p : Parts) → split ≡ Some p → Sound u p) → ReadAlike
      → ReturnsOrOom (λ x. x) r (planned_evaluation split u (kept_batch (minimal_paths ps) c)) → MatchResult r (λ x. HasNoFault u c.rows) (λ y. Unit {0})
  evaluated_quiet split (Err y) good alike a = tt
  evaluated_quiet None (Ok x) good alike a =
      let read = kept_batch (minimal_paths ps) c in
      alike.faults ∙ no_fault_in (first_fault u read.rows) (batch (node_type u) (map (mean (unbound u) c.type) read.rows)) x a
  evaluated_quiet (Some p) (Ok x) good alike a =
      let read = kept_batch (minimal_paths ps) c in
      let s = good p refl in
      let parts = no_fault_before (each_fault p.partitions read.rows) (evaluation p.root (joined_column p.names p.partitions read.rows)) x a in
      let root : HasNoFault p.root (map (joined p.partitions) read.rows) =
      no_fault_in (first_fault p.root (map (joined p.partitions) read.rows)) (batch (node_type p.root) (map (mean (unbound p.root) (struct_type p.names p.partitions)) (map (joined p.partitions) read.rows))) x parts.1 in
      alike.faults ∙ s.no_other_fault read.rows parts.0 root

-- what is evaluated has the tree's type
evaluated_typed : (u : BoundTree) (split : Option Parts) (r : Result Batch VortexError) (read : Batch) → ((p : Parts) → split ≡ Some p → node_type p.root ≡ node_type u)
    → ReturnsOrOom (λ x. x) r (planned_evaluation split u read) → HasTypeOf u r
evaluated_typed u split (Err y) read root a = tt
evaluated_typed u None (Ok x) read root a = type_in (first_fault u read.rows) _ x a
evaluated_typed u (Some p) (Ok x) read root a =
    let parts = no_fault_before (each_fault p.partitions read.rows) (evaluation p.root (joined_column p.names p.partitions read.rows)) x a in
    type_in (first_fault p.root (map (joined p.partitions) read.rows)) _ x parts.1 ∙ root p refl

-- ---- a plan

read_alike : (s : LogicalType) (u : BoundTree) (ps : List Path) (split : Option Parts) (c : Batch) (plan : IsPlan s u ps split) (o : Over u c.type) (fit : IsBatch c.type c.rows) → ReadAlike u ps c plan.well_typed o fit
read_alike s u ps split c plan o fit =
    let fits = kept_rows-fit (minimal_paths ps) c.type c.rows fit in
    let agree = read-agrees u ps c.type c.rows plan.referenced plan.well_typed o fit in
    let faults = normal_trees-alike u plan.well_typed plan.normal c.type c.rows (map (kept (minimal_paths ps) c.type) c.rows) o fit fits agree in
    record {
      fits = fits;
      faults = faults;
      meaning = λ quiet. minimal_paths-fix u plan.well_typed c.type c.rows (map (kept (minimal_paths ps) c.type) c.rows) o fit quiet fits (sym faults ∙ quiet) agree;
    }

-- for each source of the tree the answer has its meaning
source_means : (u : BoundTree) (c : Batch) (r : Result Batch VortexError) → WellTyped u → Over u c.type → IsBatch c.type c.rows
    → (HasNoFault u c.rows → MatchResult r (λ x. x.rows ≡ map (mean (unbound u) c.type) c.rows) (λ y. y ≡ OutOfMemory)) → KeepsMeaning u c r
source_means u c r w o fit means = λ e b is k quiet.
    let rows : map (mean (unbound u) c.type) c.rows ≡ map (mean (unbound b) c.type) c.rows =
    map_same (mean (unbound u) c.type) (mean (unbound b) c.type) c.rows (λ v i. mean-unbound u c.type v w o ∙ k.meaning c.type c.rows is.over fit quiet v i ∙ sym (mean-unbound b c.type v is.well_typed is.over)) in
    subst (λ d. IsMeantBy d c r) is.source (moved _ _ r rows (means (k.no_fault c.type c.rows is.over fit quiet)))

-- a scan that read the plan's paths and evaluated the tree over them
pub scanned : (s : LogicalType) (u : BoundTree) (ps : List Path) (split : Option Parts) (c : Batch) (r : Result Batch VortexError) → IsPlan s u ps split → c.type ≡ s → IsBatch c.type c.rows
    → ReturnsOrOom (λ x. x) r (planned_evaluation split u (kept_batch (minimal_paths ps) c)) → Scanned s u ps split c r
scanned s u ps split c r plan same fit a =
    let o : Over u c.type = subst (Over u) (sym same) plan.over in
    let alike = read_alike s u ps split c plan o fit in
    let good = sound_of plan.divided in
    let means = λ (quiet : HasNoFault u c.rows). evaluated_means u ps c plan.well_typed o fit split r good alike quiet a in
    record {
      mismatch = λ other. absurd (other same);
      evaluated = λ e. a;
      meaning = λ e. source_means u c r plan.well_typed o fit means;
      faults = λ e. (λ quiet. answered _ r (means quiet), evaluated_quiet u ps c plan.well_typed o fit split r good alike a);
      typed = λ e. evaluated_typed u split r (kept_batch (minimal_paths ps) c) (root_type_of plan.divided) a;
    }

-- one that memory ran out of
pub unread : (s : LogicalType) (u : BoundTree) (ps : List Path) (split : Option Parts) (c : Batch) → IsPlan s u ps split → c.type ≡ s → IsBatch c.type c.rows → Scanned s u ps split c (Err OutOfMemory)
unread s u ps split c plan same fit = scanned s u ps split c (Err OutOfMemory) plan same fit (inl refl)

-- and one of a batch of another type
pub mismatched : (s : LogicalType) (u : BoundTree) (ps : List Path) (split : Option Parts) (c : Batch) → c.type ≢ s → Scanned s u ps split c (Err ScopeMismatch)
mismatched s u ps split c other = record { mismatch = λ e. refl; evaluated = λ e. absurd (other e); meaning = λ e. absurd (other e); faults = λ e. absurd (other e); typed = λ e. absurd (other e) }

-- ---- steps of the code

pub differs : (d s : LogicalType) (r : Bool) → r ≡ not (equal_type d s) → r ≡ true → d ≢ s
differs d s r e t same = go (equal_type d s) e t ((equal_type-Decides d s).1 same)
  where
    go : (b : Bool) → r ≡ not b → r ≡ true → b ≡ true → ⊥
    go true e t q = let x : true ≡ false = sym t ∙ e in cc
    go false e t q = cc

pub agrees : (d s : LogicalType) (r : Bool) → r ≡ not (equal_type d s) → r ≡ false → d ≡ s
agrees d s r e f = (equal_type-Decides d s).0 (go (equal_type d s) e f)
  where
    go : (b : Bool) → r ≡ not b → r ≡ false → b ≡ true
    go true e f = refl
    go false e f = let x : false ≡ true = sym f ∙ e in cc

pub only_memory : (y : VortexError) (x : Batch) → (y ≡ OutOfMemory) ⊎ (Ok x ≡ Err y) → y ≡ OutOfMemory
only_memory y x (inl m) = m
only_memory y x (inr q) = cc

-- what was read is what is kept
pub read_so : (c b : Batch) (ps qs : List Path) → ps ≡ qs → ReturnsOrOom (λ x. x) (Ok b) (Ok (kept_batch (minimal_paths ps) c)) → kept_batch (minimal_paths qs) c ≡ b
read_so c b ps qs e a = subst (λ xs. kept_batch (minimal_paths xs) c ≡ b) e (one (kept_batch (minimal_paths ps) c) b a)
  where
    one : (x y : Batch) → ReturnsOrOom (λ z. z) (Ok y) (Ok x) → x ≡ y
    one x y q = cc

-- the tree is over the type of what was read
pub over_read : (u : BoundTree) (s : LogicalType) (c b : Batch) (ps : List Path) → Over u s → c.type ≡ s → kept_batch (minimal_paths ps) c ≡ b → Over u b.type
over_read u s c b ps o same read = subst (Over u) (sym same ∙ ap (λ (x : Batch). x.type) read) o
