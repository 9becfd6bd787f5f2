-- Trees and the pages that show them.
use Rattle.std.specs.Prelude.{◌≡◌, ℕ, List, Option, None, Some, Result, Ok, map}
use Rattle.std.proofs.Common.{sym, ap, subst, ◌∙◌}
use Rattle.vx_dtype.specs.Returns.{ReturnsOrOom}
use Rattle.vx_dtype.specs.declared.error.VortexError.{VortexError}
use Rattle.vx_value.specs.Columns.{Batch, batch}
use Rattle.vx_value.specs.Types.{LogicalType}
use Rattle.vx_tree.specs.Binding.{binding}
use Rattle.vx_tree.specs.Faults.{first_fault}
use Rattle.vx_tree.specs.Meaning.{mean}
use Rattle.vx_tree.specs.Trees.{Tree, BoundTree, node_type, on_ok, typed, unbound}
use Rattle.vx_eval.specs.Columns.{unless_fault}
use Rattle.vx_eval.specs.Evaluation.{evaluation}
use Rattle.vx_run.specs.Branches.{branches}
use Rattle.vx_run.specs.Coalesce.{coalesce}
use Rattle.vx_run.specs.Fused.{fused}
use Rattle.vx_run.specs.Kleene.{kleene}
use Rattle.vx_run.specs.Pages.{lines, page_of, page_text}
use Rattle.vx_run.specs.Scan.{scan}
use Rattle.vx_run.specs.declared.row.Row.TheVariants.{Fused, Branches, Scan}
use Rattle.vx_run.proofs.Branching.{filled}
use Rattle.vx_run.proofs.Fusing.{range}
use Rattle.vx_run.proofs.Scanned.{both, bound_both}

-- the lines of a bound tree are those of its source
pub shown : {A : Type 0} (view : A → List ℕ) (e : Tree) (b : BoundTree) (c : Batch) (s : LogicalType) (r : Result A VortexError) →
    s ≡ c.type → typed e s ≡ Ok (node_type b) → unbound b ≡ e → ReturnsOrOom view r (Ok (lines (unbound b) c (node_type b))) → ReturnsOrOom view r (page_text e c)
shown view e b c s r over given same says =
    subst (ReturnsOrOom view r) (ap (λ d. Ok (lines d c (node_type b))) same ∙ sym (ap (λ u. on_ok (λ t. Ok (lines e c t)) (typed e u)) (sym over) ∙ ap (on_ok (λ t. Ok (lines e c t))) given)) says

-- what evaluation gives has the tree's type, and its source's meaning in each row
pub evaluated : (b : BoundTree) (c d : Batch) → evaluation b c ≡ Ok d → d ≡ batch (node_type b) (map (mean (unbound b) c.type) c.rows)
evaluated b c d e = go (first_fault b c.rows) e
  where
    go : (f : Option VortexError) → unless_fault f (batch (node_type b) (map (mean (unbound b) c.type) c.rows)) ≡ Ok d → d ≡ batch (node_type b) (map (mean (unbound b) c.type) c.rows)
    go None e = cc
    go (Some x) e = cc

-- the batch is the one that was made
pub same_batch : (c d : Batch) → ReturnsOrOom (λ x. x) (Ok c) (Ok d) → c ≡ d
same_batch c d given = cc

-- the lines of a tree over a batch are those of the same tree and batch
same_lines : {A : Type 0} (view : A → List ℕ) (b u : BoundTree) (c d : Batch) (r : Result A VortexError) → b ≡ u → c ≡ d → ReturnsOrOom view r (Ok (lines (unbound b) c (node_type b))) → ReturnsOrOom view r (Ok (lines (unbound u) d (node_type u)))
same_lines view b u c d r tree rows says =
    subst (λ t. ReturnsOrOom view r (Ok (lines (unbound t) d (node_type t)))) tree (subst (λ k. ReturnsOrOom view r (Ok (lines (unbound b) k (node_type b)))) rows says)

-- the lines of the tree of `fused` are its page
pub fused_shown : {A : Type 0} (view : A → List ℕ) (b : BoundTree) (c : Batch) (r : Result A VortexError) → c ≡ kleene.batch → binding fused.source fused.batch.type ≡ Ok b
    → ReturnsOrOom view r (Ok (lines (unbound b) c (node_type b))) → ReturnsOrOom view r (Ok (page_of Fused))
fused_shown view b c r rows is says = let found : b ≡ range = cc in same_lines view b range c kleene.batch r found rows says

-- and those of the tree of `branches` its page
pub branches_shown : {A : Type 0} (view : A → List ℕ) (b : BoundTree) (c : Batch) (r : Result A VortexError) → c ≡ coalesce.batch → binding branches.source branches.batch.type ≡ Ok b
    → ReturnsOrOom view r (Ok (lines (unbound b) c (node_type b))) → ReturnsOrOom view r (Ok (page_of Branches))
branches_shown view b c r rows is says = let found : b ≡ filled = cc in same_lines view b filled c coalesce.batch r found rows says

-- and those of the tree of `scan` its page
pub scan_shown : {A : Type 0} (view : A → List ℕ) (b : BoundTree) (c : Batch) (r : Result A VortexError) → c ≡ scan.batch → binding scan.source scan.batch.type ≡ Ok b
    → ReturnsOrOom view r (Ok (lines (unbound b) c (node_type b))) → ReturnsOrOom view r (Ok (page_of Scan))
scan_shown view b c r rows is says = let found : b ≡ both = sym (bound_both b is) in same_lines view b both c scan.batch r found rows says
