-- The page of a row: an expression's text, its type, its result over a batch, and its tree text.
use Rattle.std.specs.Prelude.{ℕ, List, [], ◌++◌, Result, Ok, Err, map, codes}
use Rattle.vx_dtype.specs.declared.error.VortexError.{VortexError}
use Rattle.vx_value.specs.Columns.{Batch}
use Rattle.vx_dtype.specs.Texts.{type_text}
use Rattle.vx_value.specs.Types.{LogicalType}
use Rattle.vx_value.specs.ValueTexts.{column_text}
use Rattle.vx_tree.specs.Trees.{Tree, on_ok, typed}
use Rattle.vx_tree.specs.Meaning.{mean}
use Rattle.vx_tree.specs.Texts.{sql}
use Rattle.vx_tree.specs.TreeTexts.{tree_text}
use Rattle.vx_run.specs.Kleene.{kleene}
use Rattle.vx_run.specs.Coalesce.{coalesce}
use Rattle.vx_run.specs.Cases.{cases}
use Rattle.vx_run.specs.Fused.{fused}
use Rattle.vx_run.specs.Branches.{branches}
use Rattle.vx_run.specs.Scan.{scan}
use Rattle.vx_run.specs.Samples.{Sample}
use Rattle.vx_run.specs.declared.row.Row.{Row}
use Rattle.vx_run.specs.declared.row.Row.TheVariants.{Kleene, Coalesce, Cases, Fused, Branches, Scan}

-- the lines of a text, a type, a column and a tree text
abbrev pub lines_of : List ℕ → List ℕ → List ℕ → List ℕ → List ℕ
lines_of text dtype column tree =
    codes "text: " ++ (text ++ (codes "\ntype: " ++ (dtype ++ (codes "\nresult: " ++ (column ++ (codes "\ntree:\n" ++ (tree ++ codes "\n")))))))

-- the lines of an expression of type t: its text, the type, its meaning at each row of the batch, and its tree text
abbrev pub lines : Tree → Batch → LogicalType → List ℕ
lines e c t = lines_of (sql e) (type_text t) (column_text (map (mean e c.type) c.rows) t) (tree_text e)

-- the lines of an expression, or the refusal that typing gives it over the batch's type
abbrev pub page_text : Tree → Batch → Result (List ℕ) VortexError
page_text e c = on_ok (λ t. Ok (lines e c t)) (typed e c.type)

-- what a row shows
abbrev pub sample_of : Row → Sample
sample_of Kleene = kleene
sample_of Coalesce = coalesce
sample_of Cases = cases
sample_of Fused = fused
sample_of Branches = branches
sample_of Scan = scan

-- the text, none where there is a refusal
abbrev pub or_nothing : Result (List ℕ) VortexError → List ℕ
or_nothing (Ok text) = text
or_nothing (Err refusal) = []

-- the row's page
abbrev pub page_of : Row → List ℕ
page_of row = or_nothing (page_text (sample_of row).source (sample_of row).batch)
