-- Partitions evaluated one after another.
use Rattle.std.proofs.Common.{◌≡◌, ℕ, ◌+◌, ◌<◌, ◌≤◌, List, [], ◌∷◌, ◌++◌, map, length, get_or, drop, drop_of_length-le, append_assoc, append-nil, Option, Some, None, Result, Ok, Err, refl, sym, ap, ◌∙◌}
use Rattle.std.specs.Option.{option_or}
use Rattle.vx_dtype.specs.declared.error.VortexError.{VortexError}
use Rattle.vx_value.specs.Columns.{Batch, batch}
use Rattle.vx_tree.specs.declared.bound.BoundExpression.{BoundExpression}
use Rattle.vx_tree.specs.Faults.{first_fault, each_fault}
use Rattle.vx_tree.specs.Trees.{BoundTree, BoundTrees, bound, on_ok, node_type, unbound}
use Rattle.vx_tree.specs.Meaning.{mean}
use Rattle.vx_tree.specs.Views.{bound_of, bounds_of}
use Rattle.vx_eval.specs.Columns.{unless_fault}
use Rattle.vx_eval.specs.Evaluation.{evaluation}
use Rattle.vx_query_split.specs.Splits.{part_columns, part_answers}
use Rattle.vx_tree.proofs.Children.{bounds_next}

abbrev ok_columns : List Batch → Result (List Batch) VortexError
ok_columns cs = Ok cs

-- columns in front of others, unless these are refused
abbrev pub behind : List Batch → Result (List Batch) VortexError → Result (List Batch) VortexError
behind made rest = on_ok (λ cs. Ok (made ++ cs)) rest

abbrev put : Batch → Result (List Batch) VortexError → Result (List Batch) VortexError
put c rest = on_ok (λ cs. Ok (c ∷ cs)) rest

unfolded : (b : BoundTree) (bs : BoundTrees) (c : Batch) → part_answers (bound b bs) c ≡ on_ok (λ x. put x (part_answers bs c)) (evaluation b c)
unfolded b bs c = go (first_fault b c.rows) (each_fault bs c.rows)
  where
    go : (o p : Option VortexError) → unless_fault (option_or o p) (part_columns (bound b bs) c) ≡ on_ok (λ x. put x (unless_fault p (part_columns bs c))) (unless_fault o (batch (node_type b) (map (mean (unbound b) c.type) c.rows)))
    go None None = refl
    go None (Some fault) = refl
    go (Some fault) p = refl

behind_push : (made : List Batch) (x : Batch) (rest : Result (List Batch) VortexError) → behind (made ++ x ∷ []) rest ≡ behind made (put x rest)
behind_push made x (Ok cs) = ap ok_columns (append_assoc made (x ∷ []) cs)
behind_push made x (Err e) = refl

-- one more has its column
pub next_column : (es : List BoundExpression) (c : Batch) (made new : List Batch) (i : ℕ) (e : BoundExpression) (x : Batch) (all : Result (List Batch) VortexError)
    → i < length es → e ≡ get_or es i e → new ≡ made ++ x ∷ [] → evaluation (bound_of e) c ≡ Ok x
    → all ≡ behind made (part_answers (bounds_of (drop i es)) c) → all ≡ behind new (part_answers (bounds_of (drop (i + 1) es)) c)
next_column es c made new i e x all h is pushed has so_far =
    let rest = part_answers (bounds_of (drop (i + 1) es)) c in
    so_far ∙ ap (behind made) (ap (λ bs. part_answers bs c) (bounds_next es i e h is) ∙ unfolded (bound_of e) (bounds_of (drop (i + 1) es)) c ∙ ap (on_ok (λ y. put y rest)) has)
    ∙ sym (behind_push made x rest) ∙ ap (λ cs. behind cs rest) (sym pushed)

-- one faults
pub faults_at : (es : List BoundExpression) (c : Batch) (made : List Batch) (i : ℕ) (e : BoundExpression) (r : VortexError) (all : Result (List Batch) VortexError)
    → i < length es → e ≡ get_or es i e → evaluation (bound_of e) c ≡ Err r
    → all ≡ behind made (part_answers (bounds_of (drop i es)) c) → all ≡ Err r
faults_at es c made i e r all h is faults so_far =
    let rest = part_answers (bounds_of (drop (i + 1) es)) c in
    so_far ∙ ap (behind made) (ap (λ bs. part_answers bs c) (bounds_next es i e h is) ∙ unfolded (bound_of e) (bounds_of (drop (i + 1) es)) c ∙ ap (on_ok (λ y. put y rest)) faults)

-- each has its column
pub all_columns : (es : List BoundExpression) (c : Batch) (made : List Batch) (i : ℕ) (all : Result (List Batch) VortexError) → length es ≤ i
    → all ≡ behind made (part_answers (bounds_of (drop i es)) c) → all ≡ Ok made
all_columns es c made i all h so_far = so_far ∙ rw (drop_of_length-le es h) (ap ok_columns (append-nil made))
