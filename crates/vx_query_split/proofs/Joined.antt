-- The partitions' columns joined are the column of the structs that their values make.
use Rattle.std.proofs.Common.{◌≡◌, ℕ, ◌<◌, List, ◌∷◌, map, length, get_or, suc, inl, inr, ◌⊎◌, refl, ap, ◌∙◌, eq-eqb, true, false, Option, Some, None, Ok, Err}
use Rattle.std.proofs.lemmas.List.{length-map, get_or-map}
use Rattle.vx_dtype.specs.declared.error.VortexError.{VortexError}
use Rattle.vx_dtype.specs.declared.error.VortexError.TheVariants.{OutOfMemory}
use Rattle.vx_value.specs.Columns.{Batch}
use Rattle.vx_value.specs.StructColumns.{rows_in, types_in, all_long, row_at, struct_rows, struct_column}
use Rattle.vx_value.proofs.StructRows.{struct_rows-each}
use Rattle.vx_value.specs.Types.{Name, null}
use Rattle.vx_tree.specs.declared.bound.BoundExpression.{BoundExpression}
use Rattle.vx_tree.specs.Faults.{each_fault}
use Rattle.vx_tree.specs.Meaning.{mean, value, values}
use Rattle.vx_tree.specs.Trees.{BoundTree, BoundTrees, no_bound, bound, unbound, node_type, node_types, EachWellTyped, EachOver}
use Rattle.vx_tree.specs.Views.{bounds_of}
use Rattle.vx_tree.proofs.Meant.{mean-unbound}
use Rattle.vx_tree.proofs.Nodes.{length-node_types}
use Rattle.vx_eval.specs.Columns.{unless_fault}
use Rattle.vx_eval.specs.Evaluation.{evaluation}
use Rattle.vx_partition_laws.specs.Items.{joined}
use Rattle.vx_query_split.specs.Splits.{part_columns, part_answers, joined_column, split_evaluation}

types-columns : (bs : BoundTrees) (c : Batch) → types_in (part_columns bs c) ≡ node_types bs
types-columns no_bound c = refl
types-columns (bound b bs) c = ap (λ ts. node_type b ∷ ts) (types-columns bs c)

long-columns : (bs : BoundTrees) (c : Batch) → all_long (length c.rows) (part_columns bs c) ≡ true
long-columns no_bound c = refl
long-columns (bound b bs) c = rw (eq-eqb (length (map (mean (unbound b) c.type) c.rows)) (length c.rows) (length-map c.rows (mean (unbound b) c.type)), long-columns bs c) refl

row-columns : (bs : BoundTrees) (c : Batch) (k : ℕ) → EachWellTyped bs → EachOver bs c.type → k < length c.rows → row_at k (rows_in (part_columns bs c)) ≡ values bs (get_or c.rows k null)
row-columns no_bound c k w o lt = refl
row-columns (bound b bs) c k w o lt =
    let v = get_or c.rows k null in
    let one : get_or (map (mean (unbound b) c.type) c.rows) k null ≡ value b v = get_or-map (mean (unbound b) c.type) c.rows k null null lt ∙ mean-unbound b c.type v w.0 o.0 in
    ap (λ d. d ∷ row_at k (rows_in (part_columns bs c))) one ∙ ap (λ row. value b v ∷ row) (row-columns bs c k w.1 o.1 lt)

-- the structs of the columns' rows are those of the partitions' values
joined-rows : (bs : BoundTrees) (c : Batch) → EachWellTyped bs → EachOver bs c.type → struct_rows (length c.rows) (rows_in (part_columns bs c)) ≡ map (joined bs) c.rows
joined-rows bs c w o = struct_rows-each (values bs) (rows_in (part_columns bs c)) c.rows null (λ k lt. row-columns bs c k w o lt)

-- the partitions' columns, joined
pub columns_joined : (names : List Name) (bs : BoundTrees) (c : Batch) → EachWellTyped bs → EachOver bs c.type → struct_column names (part_columns bs c) (length c.rows) false ≡ Ok (joined_column names bs c.rows)
columns_joined names bs c w o = rw (long-columns bs c, types-columns bs c, joined-rows bs c w o) refl

-- what columns for all partitions say
pub record HaveColumns (bs : BoundTrees) (c : Batch) (cs : List Batch) : Type 0 where
  pub quiet : each_fault bs c.rows ≡ None
  pub are : cs ≡ part_columns bs c

pub have_columns : (bs : BoundTrees) (c : Batch) (cs : List Batch) → part_answers bs c ≡ Ok cs → HaveColumns bs c cs
have_columns bs c cs e = go (each_fault bs c.rows) refl e
  where
    go : (o : Option VortexError) → each_fault bs c.rows ≡ o → unless_fault o (part_columns bs c) ≡ Ok cs → HaveColumns bs c cs
    go None q e = record { quiet = q; are = cc }
    go (Some fault) q e = cc

-- where some partition faults
pub has_fault : (bs : BoundTrees) (c : Batch) (y : VortexError) → part_answers bs c ≡ Err y → each_fault bs c.rows ≡ Some y
has_fault bs c y e = go (each_fault bs c.rows) refl e
  where
    go : (o : Option VortexError) → each_fault bs c.rows ≡ o → unless_fault o (part_columns bs c) ≡ Err y → each_fault bs c.rows ≡ Some y
    go None q e = cc
    go (Some fault) q e = cc

length-columns : (bs : BoundTrees) (c : Batch) → length (part_columns bs c) ≡ length (node_types bs)
length-columns no_bound c = refl
length-columns (bound b bs) c = ap suc (length-columns bs c)

pub as_many : (es : List BoundExpression) (c : Batch) (cs : List Batch) → part_answers (bounds_of es) c ≡ Ok cs → length cs ≡ length es
as_many es c cs e = ap length (have_columns (bounds_of es) c cs e).are ∙ length-columns (bounds_of es) c ∙ length-node_types es

-- ---- the columns that were made, joined

module _ (names : List Name) (bs : BoundTrees) (c : Batch) (cs : List Batch) (w : EachWellTyped bs) (o : EachOver bs c.type) (made : part_answers bs c ≡ Ok cs) where
  joined_so : struct_column names cs (length c.rows) false ≡ Ok (joined_column names bs c.rows)
  joined_so = ap (λ xs. struct_column names xs (length c.rows) false) (have_columns bs c cs made).are ∙ columns_joined names bs c w o

  -- joining them is refused for memory alone
  pub joins : (e : VortexError) → (e ≡ OutOfMemory) ⊎ (struct_column names cs (length c.rows) false ≡ Err e) → e ≡ OutOfMemory
  joins e (inl m) = m
  joins e (inr q) = let p = joined_so in cc

  pub is_joined : (j : Batch) → struct_column names cs (length c.rows) false ≡ Ok j → j ≡ joined_column names bs c.rows
  is_joined j q = let p = joined_so in cc

  -- what the root gives over them is what the split gives
  pub root_answers : (root : BoundTree) (j : Batch) → struct_column names cs (length c.rows) false ≡ Ok j → evaluation root j ≡ split_evaluation names bs root c
  root_answers root j q = rw (is_joined j q, (have_columns bs c cs made).quiet) refl

pub part_faults : (names : List Name) (bs : BoundTrees) (root : BoundTree) (c : Batch) (y : VortexError) → part_answers bs c ≡ Err y → split_evaluation names bs root c ≡ Err y
part_faults names bs root c y e = rw (has_fault bs c y e) refl
