-- What a selection of rows gives is what it promises, whichever way it ends.
use Rattle.std.proofs.Common.{◌≡◌, ◌≢◌, Bool, true, false, List, [], ◌∷◌, length, map, replicate, Result, Ok, Err, IfOk, IfErr, refl, sym, ap, ◌∙◌, subst, inl, inr}
use Rattle.std.specs.Prelude.{MatchResult}
use Rattle.vx_dtype.specs.Lists.{IsIn}
use Rattle.vx_dtype.specs.declared.error.VortexError.{VortexError}
use Rattle.vx_dtype.specs.declared.error.VortexError.TheVariants.{OutOfMemory, ScopeMismatch, NotBool}
use Rattle.vx_value.specs.Columns.{Batch}
use Rattle.vx_value.specs.Fits.{IsBatch}
use Rattle.vx_value.specs.Types.{LogicalType, Datum}
use Rattle.vx_fn.specs.Functions.{is_truth}
use Rattle.vx_fn.specs.Values.{is_true}
use Rattle.vx_tree.proofs.Meant.{mean-unbound}
use Rattle.vx_tree.specs.Faults.{HasNoFault}
use Rattle.vx_tree.specs.Meaning.{mean}
use Rattle.vx_tree.specs.Trees.{Tree, BoundTree, node_type, unbound, WellTyped, Over}
use Rattle.vx_rewrite_core.specs.Keeps.{Keeps}
use Rattle.vx_query_split.specs.Sources.{IsBound}
use Rattle.vx_scan.specs.Scans.{IsRefusedWhere, KeepsMeaning}
use Rattle.vx_prune_tree.specs.Stats.{Facts, Describes}
use Rattle.vx_prune_tree.specs.Verdicts.{IsTrueVerdict, VerdictHolds, verdict_in}
use Rattle.vx_prune_tree.specs.declared.verdicts.Verdict.{Verdict}
use Rattle.vx_prune_tree.specs.declared.verdicts.Verdict.TheVariants.{NoRow, EveryRow, Unknown}
use Rattle.vx_prune.specs.Selected.{true_of, Selected, SelectsRows}

both_ways : (b : Bool) → b ≡ true → b ≡ false → ⊥
both_ways true t f = cc
both_ways false t f = cc

-- ---- masks

all_alike : {A : Type 0} (f : A → Bool) (b : Bool) (xs : List A) → ((x : A) → IsIn x xs → f x ≡ b) → map f xs ≡ replicate (length xs) b
all_alike f b [] h = refl
all_alike f b (x ∷ xs) h = subst (λ c. c ∷ map f xs ≡ b ∷ replicate (length xs) b) (sym (h x (inl refl))) (ap (λ bs. b ∷ bs) (all_alike f b xs (λ y i. h y (inr i))))

map_twice : {A B C : Type 0} (f : A → B) (g : B → C) (xs : List A) → map g (map f xs) ≡ map (λ x. g (f x)) xs
map_twice f g [] = refl
map_twice f g (x ∷ xs) = ap (λ ys. g (f x) ∷ ys) (map_twice f g xs)

-- memory alone refuses
answered : (r : Result (List Bool) VortexError) → IfErr r (λ e. e ≡ OutOfMemory) → MatchResult r (λ m. Unit {0}) (λ y. y ≡ OutOfMemory)
answered (Ok m) h = tt
answered (Err e) h = h

given : (r : Result (List Bool) VortexError) (bits : List Bool) → IfOk r (λ m. m ≡ bits) → IfErr r (λ e. e ≡ OutOfMemory) → MatchResult r (λ m. m ≡ bits) (λ y. y ≡ OutOfMemory)
given (Ok m) bits ok err = ok
given (Err e) bits ok err = err

-- ---- sources

-- in each row of a batch on which the source doesn't fault the tree that keeps it means what the source does
source_means : (u b : BoundTree) (e : Tree) (c : Batch) → WellTyped u → Over u c.type → IsBatch c.type c.rows → IsBound e c.type b → Keeps b u → HasNoFault b c.rows
    → HasNoFault u c.rows × ((v : Datum) → IsIn v c.rows → mean (unbound u) c.type v ≡ mean e c.type v)
source_means u b e c w o fit is k quiet = (
  k.no_fault c.type c.rows is.over fit quiet,
  λ v i. mean-unbound u c.type v w o ∙ k.meaning c.type c.rows is.over fit quiet v i ∙ sym (mean-unbound b c.type v is.well_typed is.over) ∙ ap (λ d. mean d c.type v) is.source,
)

module _ (s : LogicalType) (u : BoundTree) (facts : Facts) (c : Batch) where
  -- ---- refusals

  pub mismatched : c.type ≢ s → Selected s u facts c (Err ScopeMismatch)
  mismatched other = record {
    mismatch = λ e. refl;
    not_bool = λ e. absurd (other e);
    rows = λ e. absurd (other e);
    faults = λ e. absurd (other e);
    sure = λ e. absurd (other e);
  }

  pub no_truth : c.type ≡ s → is_truth (node_type u) ≡ false → Selected s u facts c (Err NotBool)
  no_truth same f = record {
    mismatch = λ other. absurd (other same);
    not_bool = λ e g. refl;
    rows = λ e t. absurd (both_ways (is_truth (node_type u)) t f);
    faults = λ e t. absurd (both_ways (is_truth (node_type u)) t f);
    sure = λ e t. absurd (both_ways (is_truth (node_type u)) t f);
  }

  -- ---- a verdict that is sure

  -- the tree is alike in each row
  abbrev IsAlike : Bool → Type 0
  IsAlike b = Describes facts c.type c.rows → HasNoFault u c.rows → (v : Datum) → IsIn v c.rows → is_true (mean (unbound u) c.type v) ≡ b

  alike_selects : (b : Bool) (r : Result (List Bool) VortexError) → WellTyped u → Over u c.type → IsBatch c.type c.rows → IsAlike b → IfOk r (λ m. m ≡ replicate facts.rows b) → IfErr r (λ e. e ≡ OutOfMemory)
      → Describes facts c.type c.rows → SelectsRows u c r
  alike_selects b r w o fit alike ok err d = λ e source is k quiet.
      let (still, means) = source_means u source e c w o fit is k quiet in
      let bits : replicate facts.rows b ≡ true_of e c =
      ap (λ k. replicate k b) (sym d.count) ∙ sym (all_alike (λ v. is_true (mean e c.type v)) b c.rows (λ v i. ap is_true (sym (means v i)) ∙ alike d still v i)) in
      subst (λ bs. MatchResult r (λ m. m ≡ bs) (λ y. y ≡ OutOfMemory)) bits (given r (replicate facts.rows b) ok err)

  sure_selected : (b : Bool) (r : Result (List Bool) VortexError) → WellTyped u → Over u c.type → c.type ≡ s → is_truth (node_type u) ≡ true → IsBatch c.type c.rows → verdict_in facts u ≢ Unknown → IsAlike b
      → IfOk r (λ m. m ≡ replicate facts.rows b) → IfErr r (λ e. e ≡ OutOfMemory) → Selected s u facts c r
  sure_selected b r w o same t fit sure alike ok err = record {
    mismatch = λ other. absurd (other same);
    not_bool = λ e f. absurd (both_ways (is_truth (node_type u)) t f);
    rows = λ e t d. alike_selects b r w o fit alike ok err d;
    faults = λ e t. (λ quiet. answered r err, λ unknown. absurd (sure unknown));
    sure = λ e t k. answered r err;
  }

  pub no_row_selected : (v : Verdict) (r : Result (List Bool) VortexError) → WellTyped u → Over u c.type → c.type ≡ s → is_truth (node_type u) ≡ true → IsBatch c.type c.rows → v ≡ NoRow → v ≡ verdict_in facts u → VerdictHolds facts u v
      → IfOk r (λ m. m ≡ replicate facts.rows false) → IfErr r (λ e. e ≡ OutOfMemory) → Selected s u facts c r
  no_row_selected v r w o same t fit is exact holds ok err =
      let sure : verdict_in facts u ≢ Unknown = λ unknown. let x : NoRow ≡ Unknown = sym is ∙ exact ∙ unknown in cc in
      let alike : IsAlike false = λ d quiet. subst (IsTrueVerdict u c.type c.rows) is (holds c.type c.rows o fit d quiet) in
      sure_selected false r w o same t fit sure alike ok err

  pub every_row_selected : (v : Verdict) (r : Result (List Bool) VortexError) → WellTyped u → Over u c.type → c.type ≡ s → is_truth (node_type u) ≡ true → IsBatch c.type c.rows → v ≡ EveryRow → v ≡ verdict_in facts u → VerdictHolds facts u v
      → IfOk r (λ m. m ≡ replicate facts.rows true) → IfErr r (λ e. e ≡ OutOfMemory) → Selected s u facts c r
  every_row_selected v r w o same t fit is exact holds ok err =
      let sure : verdict_in facts u ≢ Unknown = λ unknown. let x : EveryRow ≡ Unknown = sym is ∙ exact ∙ unknown in cc in
      let alike : IsAlike true = λ d quiet. subst (IsTrueVerdict u c.type c.rows) is (holds c.type c.rows o fit d quiet) in
      sure_selected true r w o same t fit sure alike ok err

  -- ---- one that isn't

  selects_read : (x : Batch) (r : Result (List Bool) VortexError) → KeepsMeaning u c (Ok x) → IfOk r (λ m. m ≡ map is_true x.rows) → IfErr r (λ e. e ≡ OutOfMemory) → SelectsRows u c r
  selects_read x r means ok err = λ e b is k quiet.
      let rows : x.rows ≡ map (mean e c.type) c.rows = means e b is k quiet in
      let bits : map is_true x.rows ≡ true_of e c = ap (map is_true) rows ∙ map_twice (mean e c.type) is_true c.rows in
      subst (λ bs. MatchResult r (λ m. m ≡ bs) (λ y. y ≡ OutOfMemory)) bits (given r (map is_true x.rows) ok err)

  quiet_where : (r : Result (List Bool) VortexError) → HasNoFault u c.rows → MatchResult r (λ m. HasNoFault u c.rows) (λ y. Unit {0})
  quiet_where (Ok m) quiet = quiet
  quiet_where (Err e) quiet = tt

  pub read_selected : (v : Verdict) (x : Batch) (r : Result (List Bool) VortexError) → c.type ≡ s → is_truth (node_type u) ≡ true → v ≡ Unknown → v ≡ verdict_in facts u → KeepsMeaning u c (Ok x) → IsRefusedWhere u c (Ok x)
      → IfOk r (λ m. m ≡ map is_true x.rows) → IfErr r (λ e. e ≡ OutOfMemory) → Selected s u facts c r
  read_selected v x r same t is exact means refused ok err = record {
    mismatch = λ other. absurd (other same);
    not_bool = λ e f. absurd (both_ways (is_truth (node_type u)) t f);
    rows = λ e t d. selects_read x r means ok err;
    faults = λ e t. (λ quiet. answered r err, λ unknown. quiet_where r refused.1);
    sure = λ e t k. absurd (k (sym exact ∙ is));
  }

  pub unread_selected : (v : Verdict) (y : VortexError) → c.type ≡ s → is_truth (node_type u) ≡ true → v ≡ Unknown → v ≡ verdict_in facts u → KeepsMeaning u c (Err y) → IsRefusedWhere u c (Err y) → Selected s u facts c (Err y)
  unread_selected v y same t is exact means refused = record {
    mismatch = λ other. absurd (other same);
    not_bool = λ e f. absurd (both_ways (is_truth (node_type u)) t f);
    rows = λ e t d source b is k quiet. means source b is k quiet;
    faults = λ e t. (λ quiet. refused.0 quiet, λ unknown. tt);
    sure = λ e t k. absurd (k (sym exact ∙ is));
  }
