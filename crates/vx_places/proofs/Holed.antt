-- A node over holes faults where the node does over its children, and gives its values.
use Rattle.std.proofs.Common.{◌≡◌, ◌⊎◌, inl, inr, ℕ, suc, ◌+◌, ◌<◌, ◌≤◌, ◌^◌, Bool, true, false, List, [], ◌∷◌, ◌++◌, append-nil, length, get_or, drop, drop_of_length-le, map, eq-eqb, refl, sym, ap, subst, ◌∙◌, arith, Option, Some, None, Result, Ok, Err}
use Rattle.std.specs.Prelude.{MatchResult, if◌then◌else◌}
use Rattle.std.specs.Fmt.{decimal}
use Rattle.std.specs.Option.{option_or}
use Rattle.std.specs.Str.{bytes_eq}
use Rattle.std.proofs.lemmas.Fmt.{decimal_injective}
use Rattle.std.proofs.lemmas.List.{length-map, get_or-map}
use Rattle.std.proofs.lemmas.List.FromFn.{length-map-range_with_len, map-range_with_len_more}
use Rattle.vx_dtype.proofs.NameTests.{own_name, other_name}
use Rattle.vx_dtype.specs.Returns.{ReturnsOrOom}
use Rattle.vx_dtype.specs.declared.error.VortexError.{VortexError}
use Rattle.vx_dtype.specs.declared.error.VortexError.TheVariants.{OutOfMemory}
use Rattle.vx_value.proofs.StructRows.{struct_rows-each}
use Rattle.vx_value.specs.Columns.{Batch, batch}
use Rattle.vx_value.specs.Fields.{field_type, field_value, fields_named, data_of}
use Rattle.vx_value.specs.StructColumns.{rows_in, types_in, all_long, row_at, struct_rows, struct_column}
use Rattle.vx_value.specs.Types.{Name, LogicalType, ty, struct, Fields, field, Datum, null, struct_of, Data, datum}
use Rattle.vx_fn.specs.Faults.{node_fault}
use Rattle.vx_fn.specs.Functions.{Function, get_item, found, fn_type}
use Rattle.vx_fn.specs.Values.{fn_value}
use Rattle.vx_tree.specs.Faults.{HasNoFault, first_fault, each_fault}
use Rattle.vx_tree.specs.Meaning.{value, values}
use Rattle.vx_tree.specs.Nodes.{bound_children_of}
use Rattle.vx_tree.specs.Trees.{BoundTree, scope, node, BoundTrees, no_bound, bound, node_type, node_types, WellTyped, EachWellTyped, Over, EachOver}
use Rattle.vx_tree.specs.Views.{bound_of, bounds_of}
use Rattle.vx_tree.specs.declared.bound.BoundExpression.{BoundExpression}
use Rattle.vx_tree.proofs.Bindings.{before, before_push, before_nothing}
use Rattle.vx_tree.proofs.Trees.{or_none}
use Rattle.vx_dtype.proofs.Lists.{drop_next}
use Rattle.vx_eval.specs.Evaluation.{evaluation}
use Rattle.vx_places.specs.Holes.{names_from, indexed_type, structs_of, hole, holes}
use Rattle.vx_places.specs.Walked.{own_fault, column_of, columns_of, IsSeen, AreSeen, SaysOrFaults}
use Rattle.vx_places.proofs.Evaluated.{applied}

-- ---- indices as names

abbrev ok_name : Name → Result Name VortexError
ok_name a = Ok a

pub names_count : (n : ℕ) → length (names_from 0 n) ≡ n
names_count n = length-map-range_with_len decimal 0 n

-- one more index is a name
pub names_more : (old new : List Name) (i : ℕ) (a : Name) → old ≡ names_from 0 i → new ≡ old ++ a ∷ [] → ok_name (decimal i) ≡ ok_name a → new ≡ names_from 0 (i + 1)
names_more old new i a so_far put named =
    let same : decimal i ≡ a = cc in
    put ∙ ap (λ xs. xs ++ a ∷ []) so_far ∙ ap (λ x. names_from 0 i ++ x ∷ []) (sym same) ∙ sym (map-range_with_len_more decimal 0 i i (omega arith))

apart : (i j : ℕ) → j < i → i < 2 ^ 64 → bytes_eq (decimal i) (decimal j) ≡ false
apart i j less small = other_name (decimal i) (decimal j) (λ e. let same = decimal_injective i j small (omega arith) e in absurd (omega (arith, same)))

-- each type is found by its index, from that one on
abbrev Stands : Fields → ℕ → List LogicalType → Type 0
Stands fs i [] = Unit {0}
Stands fs i (t ∷ ts) = (field_type (decimal i) fs ≡ Some t) × Stands fs (i + 1) ts

stands_behind : (j : ℕ) (u : LogicalType) (fs : Fields) (i : ℕ) (ts : List LogicalType) → j < i → i + length ts ≤ 2 ^ 64 → Stands fs i ts → Stands (field (decimal j) u fs) i ts
stands_behind j u fs i [] less small h = tt
stands_behind j u fs i (t ∷ ts) less small h =
    let other = apart i j less (omega arith) in
    (ap (λ b. if b then Some u else field_type (decimal i) fs) other ∙ h.0, stands_behind j u fs (i + 1) ts (omega arith) (omega arith) h.1)

stands : (i : ℕ) (ts : List LogicalType) → i + length ts ≤ 2 ^ 64 → Stands (fields_named (names_from i (length ts)) ts) i ts
stands i [] small = tt
stands i (t ∷ ts) small =
    let rest = fields_named (names_from (i + 1) (length ts)) ts in
    (ap (λ b. if b then Some t else field_type (decimal i) rest) (own_name (decimal i)), stands_behind i t rest (i + 1) ts (omega arith) (omega arith) (stands (i + 1) ts (omega arith)))

-- each value is found by its index, from that one on
abbrev Holds : Fields → Data → ℕ → List Datum → Type 0
Holds fs ds i [] = Unit {0}
Holds fs ds i (v ∷ vs) = (field_value (decimal i) fs ds ≡ v) × Holds fs ds (i + 1) vs

holds_behind : (j : ℕ) (u : LogicalType) (w : Datum) (fs : Fields) (ds : Data) (i : ℕ) (vs : List Datum) → j < i → i + length vs ≤ 2 ^ 64 → Holds fs ds i vs → Holds (field (decimal j) u fs) (datum w ds) i vs
holds_behind j u w fs ds i [] less small h = tt
holds_behind j u w fs ds i (v ∷ vs) less small h =
    let other = apart i j less (omega arith) in
    (ap (λ b. if b then w else field_value (decimal i) fs ds) other ∙ h.0, holds_behind j u w fs ds (i + 1) vs (omega arith) (omega arith) h.1)

holds : (i : ℕ) (ts : List LogicalType) (vs : List Datum) → length vs ≡ length ts → i + length ts ≤ 2 ^ 64 → Holds (fields_named (names_from i (length ts)) ts) (data_of vs) i vs
holds i ts [] many small = tt
holds i [] (v ∷ vs) many small = absurd (omega arith)
holds i (t ∷ ts) (v ∷ vs) many small =
    let fs = fields_named (names_from (i + 1) (length ts)) ts in
    let ds = data_of vs in (
      ap (λ b. if b then v else field_value (decimal i) fs ds) (own_name (decimal i)),
      holds_behind i t v fs ds (i + 1) vs (omega arith) (omega arith) (holds (i + 1) ts vs (omega arith) (omega arith)),
    )

-- ---- holes

found_ok : (a : Name) (t : LogicalType) → found a false (Some t) ≡ Ok t
found_ok a (ty s true) = refl
found_ok a (ty s false) = refl

holes_types : (s : LogicalType) (i : ℕ) (ts : List LogicalType) → node_types (holes s (names_from i (length ts)) ts) ≡ ts
holes_types s i [] = refl
holes_types s i (t ∷ ts) = ap (λ us. t ∷ us) (holes_types s (i + 1) ts)

holes_typed : (fs : Fields) (i : ℕ) (ts : List LogicalType) → Stands fs i ts → EachWellTyped (holes (ty (struct fs) false) (names_from i (length ts)) ts)
holes_typed fs i [] h = tt
holes_typed fs i (t ∷ ts) h = ((ap (found (decimal i) false) h.0 ∙ found_ok (decimal i) t, tt, (tt, tt)), holes_typed fs (i + 1) ts h.1)

holes_over : (s : LogicalType) (i : ℕ) (ts : List LogicalType) → EachOver (holes s (names_from i (length ts)) ts) s
holes_over s i [] = tt
holes_over s i (t ∷ ts) = ((refl, tt), holes_over s (i + 1) ts)

holes_quiet : (s : LogicalType) (i : ℕ) (ts : List LogicalType) (rows : List Datum) → each_fault (holes s (names_from i (length ts)) ts) rows ≡ None
holes_quiet s i [] rows = refl
holes_quiet s i (t ∷ ts) rows = holes_quiet s (i + 1) ts rows

holes_values : (fs : Fields) (ds : Data) (i : ℕ) (ts : List LogicalType) (vs : List Datum) → length vs ≡ length ts → Holds fs ds i vs → values (holes (ty (struct fs) false) (names_from i (length ts)) ts) (struct_of ds) ≡ vs
holes_values fs ds i [] [] many h = refl
holes_values fs ds i [] (v ∷ vs) many h = absurd (omega arith)
holes_values fs ds i (t ∷ ts) [] many h = absurd (omega arith)
holes_values fs ds i (t ∷ ts) (v ∷ vs) many h =
    let rest : values (holes (ty (struct fs) false) (names_from (i + 1) (length ts)) ts) (struct_of ds) ≡ vs = holes_values fs ds (i + 1) ts vs (omega arith) h.1 in
    let first : field_value (decimal i) fs ds ≡ v = h.0 in
    ap (λ w. w ∷ values (holes (ty (struct fs) false) (names_from (i + 1) (length ts)) ts) (struct_of ds)) first ∙ ap (λ ws. v ∷ ws) rest

values_long : (bs : BoundTrees) (v : Datum) → length (values bs v) ≡ length (node_types bs)
values_long no_bound v = refl
values_long (bound b bs) v = ap suc (values_long bs v)

-- ---- holes, one after another

abbrev ok_bound : BoundTree → Result BoundTree VortexError
ok_bound b = Ok b

no_holes : (s : LogicalType) (names : List Name) → holes s names [] ≡ no_bound
no_holes s [] = refl
no_holes s (a ∷ names) = refl

module _ (s : LogicalType) (names : List Name) (es : List BoundExpression) where
  -- the holes from that index on
  abbrev pub holes_from : ℕ → BoundTrees
  holes_from i = holes s (drop i names) (node_types (bounds_of (drop i es)))

  pub hole_put : (i : ℕ) (a : Name) (e : BoundExpression) (made new : List BoundExpression) (x : BoundExpression) (all : BoundTrees) → i < length names → a ≡ get_or names i a → i < length es → e ≡ get_or es i e →
      new ≡ made ++ x ∷ [] → ok_bound (hole s a (node_type (bound_of e))) ≡ ok_bound (bound_of x) → before made (holes_from i) ≡ all → before new (holes_from (i + 1)) ≡ all
  hole_put i a e made new x all lt is less at put given so_far =
      let rest = holes_from (i + 1) in
      let same : bound_of x ≡ hole s a (node_type (bound_of e)) = cc in
      let step : holes_from i ≡ bound (hole s a (node_type (bound_of e))) rest =
      ap (λ ns. holes s ns (node_types (bounds_of (drop i es)))) (drop_next names i a lt is) ∙ ap (λ xs. holes s (a ∷ drop (i + 1) names) (node_types (bounds_of xs))) (drop_next es i e less at) in
      ap (λ xs. before xs rest) put ∙ before_push made x rest ∙ ap (λ b. before made (bound b rest)) same ∙ sym (ap (before made) step) ∙ so_far

  pub holes_end : (i : ℕ) (made : List BoundExpression) (all : BoundTrees) → length es ≤ i → before made (holes_from i) ≡ all → all ≡ bounds_of made
  holes_end i made all end so_far =
      let none : holes_from i ≡ no_bound = ap (λ xs. holes s (drop i names) (node_types (bounds_of xs))) (drop_of_length-le es end) ∙ no_holes s (drop i names) in
      sym so_far ∙ ap (before made) none ∙ before_nothing made

-- ---- a node over the holes for its children

-- the holes for these trees
abbrev pub holes_for : BoundTrees → BoundTrees
holes_for bs = holes (indexed_type (node_types bs)) (names_from 0 (length (node_types bs))) (node_types bs)

-- the struct of their values at a row
abbrev struct_for : BoundTrees → Datum → Datum
struct_for bs v = struct_of (data_of (values bs v))

module _ (bs : BoundTrees) (small : length (node_types bs) ≤ 2 ^ 64) where
  same_types : node_types (holes_for bs) ≡ node_types bs
  same_types = holes_types (indexed_type (node_types bs)) 0 (node_types bs)

  same_values : (v : Datum) → values (holes_for bs) ((struct_for bs) v) ≡ values bs v
  same_values v = holes_values _ (data_of (values bs v)) 0 (node_types bs) (values bs v) (values_long bs v) (holds 0 (node_types bs) (values bs v) (values_long bs v) (omega arith))

  same_rows : (rows : List Datum) → map (values (holes_for bs)) (map (struct_for bs) rows) ≡ map (values bs) rows
  same_rows [] = refl
  same_rows (v ∷ rows) = ap (λ w. w ∷ map (values (holes_for bs)) (map (struct_for bs) rows)) (same_values v) ∙ ap (λ ws. values bs v ∷ ws) (same_rows rows)

  module _ (t : LogicalType) (f : Function) where
    same_value : (v : Datum) → value (node t f (holes_for bs)) ((struct_for bs) v) ≡ value (node t f bs) v
    same_value v = ap (λ us. fn_value f us (values (holes_for bs) ((struct_for bs) v))) same_types ∙ ap (fn_value f (node_types bs)) (same_values v)

    same_column : (rows : List Datum) → map (value (node t f (holes_for bs))) (map (struct_for bs) rows) ≡ map (value (node t f bs)) rows
    same_column [] = refl
    same_column (v ∷ rows) = ap (λ w. w ∷ map (value (node t f (holes_for bs))) (map (struct_for bs) rows)) (same_value v) ∙ ap (λ ws. value (node t f bs) v ∷ ws) (same_column rows)

    same_fault : (rows : List Datum) → own_fault (node t f (holes_for bs)) (map (struct_for bs) rows) ≡ own_fault (node t f bs) rows
    same_fault rows = ap (λ us. node_fault f us (map (values (holes_for bs)) (map (struct_for bs) rows))) same_types ∙ ap (node_fault f (node_types bs)) (same_rows rows)

    pub over_typed : WellTyped (node t f bs) → WellTyped (node t f (holes_for bs))
    over_typed w = (ap (fn_type f) same_types ∙ w.0, w.1, holes_typed _ 0 (node_types bs) (stands 0 (node_types bs) (omega arith)))

    pub over_over : Over (node t f (holes_for bs)) (indexed_type (node_types bs))
    over_over = holes_over (indexed_type (node_types bs)) 0 (node_types bs)

    seen_over : (rows : List Datum) (out : Batch) → each_fault bs rows ≡ None → IsSeen (map (struct_for bs) rows) (node t f (holes_for bs)) (Some out) → IsSeen rows (node t f bs) (Some out)
    seen_over rows out quiet seen =
        let own : own_fault (node t f bs) rows ≡ None = sym (same_fault rows) ∙ (or_none _ _ seen.0).1 in
        (rw (quiet, own) refl, seen.1 ∙ ap (batch t) (same_column rows))

    -- what the node gives over structs of its children's values is seen of the node over its children
    pub over_holes : (rows : List Datum) (r : Result Batch VortexError) → WellTyped (node t f bs) → each_fault bs rows ≡ None → ReturnsOrOom (λ x. x) r (evaluation (node t f (holes_for bs)) (structs_of bs rows)) →
        SaysOrFaults (λ x. IsSeen rows (node t f bs) (Some x)) rows (node t f bs) r
    over_holes rows r w quiet says = go r (applied (node t f (holes_for bs)) (structs_of bs rows) r (over_typed w) over_over (holes_quiet (indexed_type (node_types bs)) 0 (node_types bs) (map (struct_for bs) rows)) says)
      where
        go : (r : Result Batch VortexError) → SaysOrFaults (λ x. IsSeen (map (struct_for bs) rows) (node t f (holes_for bs)) (Some x)) (map (struct_for bs) rows) (node t f (holes_for bs)) r →
            SaysOrFaults (λ x. IsSeen rows (node t f bs) (Some x)) rows (node t f bs) r
        go (Ok out) h = seen_over rows out quiet h
        go (Err e) (inl m) = inl m
        go (Err e) (inr q) = inr (sym (same_fault rows) ∙ q)

-- ---- the node that is made

pub is_holed : (b n : BoundTree) (f : Function) (names : List Name) (s : LogicalType) → names ≡ names_from 0 (length (node_types (bound_children_of b))) → s ≡ indexed_type (node_types (bound_children_of b)) →
    ok_bound (node (node_type b) f (holes s names (node_types (bound_children_of b)))) ≡ ok_bound n → n ≡ node (node_type b) f (holes_for (bound_children_of b))
is_holed b n f names s named typed given =
    let ts = node_types (bound_children_of b) in
    let same : n ≡ node (node_type b) f (holes s names ts) = cc in
    same ∙ ap (λ x. node (node_type b) f (holes s x ts)) named ∙ ap (λ u. node (node_type b) f (holes u (names_from 0 (length ts)) ts)) typed

module _ (b n : BoundTree) (f : Function) (small : length (node_types (bound_children_of b)) ≤ 2 ^ 64) (whole : b ≡ node (node_type b) f (bound_children_of b)) (is : n ≡ node (node_type b) f (holes_for (bound_children_of b))) (w : WellTyped b) where
  whole_typed : WellTyped (node (node_type b) f (bound_children_of b))
  whole_typed = subst WellTyped whole w

  pub holed_typed : WellTyped n
  holed_typed = subst WellTyped (sym is) (over_typed (bound_children_of b) small (node_type b) f whole_typed)

  pub holed_says : (rows : List Datum) (structs : Batch) (r : Result Batch VortexError) → structs ≡ structs_of (bound_children_of b) rows → each_fault (bound_children_of b) rows ≡ None → (Over n structs.type → ReturnsOrOom (λ x. x) r (evaluation n structs)) →
      SaysOrFaults (λ x. IsSeen rows b (Some x)) rows b r
  holed_says rows structs r are quiet meaning =
      let bs = bound_children_of b in
      let t = node_type b in
      let all_over : Over (node t f (holes_for bs)) structs.type = subst (λ (y : Batch). Over (node t f (holes_for bs)) y.type) (sym are) (over_over bs small t f) in
      let over : Over n structs.type = subst (λ x. Over x structs.type) (sym is) all_over in
      let says : ReturnsOrOom (λ x. x) r (evaluation (node t f (holes_for bs)) structs) = subst (λ x. ReturnsOrOom (λ x. x) r (evaluation x structs)) is (meaning over) in
      let of_structs : ReturnsOrOom (λ x. x) r (evaluation (node t f (holes_for bs)) (structs_of bs rows)) = subst (λ y. ReturnsOrOom (λ x. x) r (evaluation (node t f (holes_for bs)) y)) are says in
      subst (λ x. SaysOrFaults (λ y. IsSeen rows x (Some y)) rows x r) (sym whole) (over_holes bs small t f rows r whole_typed quiet of_structs)

-- ---- the columns of children, joined

types_of_columns : (bs : BoundTrees) (rows : List Datum) → types_in (columns_of bs rows) ≡ node_types bs
types_of_columns no_bound rows = refl
types_of_columns (bound b bs) rows = ap (λ ts. node_type b ∷ ts) (types_of_columns bs rows)

columns_long : (bs : BoundTrees) (rows : List Datum) → all_long (length rows) (columns_of bs rows) ≡ true
columns_long no_bound rows = refl
columns_long (bound b bs) rows = rw (eq-eqb (length (map (value b) rows)) (length rows) (length-map rows (value b)), columns_long bs rows) refl

row_of_columns : (bs : BoundTrees) (rows : List Datum) (k : ℕ) → k < length rows → row_at k (rows_in (columns_of bs rows)) ≡ values bs (get_or rows k null)
row_of_columns no_bound rows k lt = refl
row_of_columns (bound b bs) rows k lt =
    ap (λ d. d ∷ row_at k (rows_in (columns_of bs rows))) (get_or-map (value b) rows k null null lt) ∙ ap (λ row. value b (get_or rows k null) ∷ row) (row_of_columns bs rows k lt)

pub count_of_columns : (bs : BoundTrees) (rows : List Datum) → length (columns_of bs rows) ≡ length (node_types bs)
count_of_columns no_bound rows = refl
count_of_columns (bound b bs) rows = ap suc (count_of_columns bs rows)

-- joined they are the structs of the children's values
columns_joined : (bs : BoundTrees) (rows : List Datum) → struct_column (names_from 0 (length (node_types bs))) (columns_of bs rows) (length rows) false ≡ Ok (structs_of bs rows)
columns_joined bs rows =
    let structs : struct_rows (length rows) (rows_in (columns_of bs rows)) ≡ map (λ v. struct_of (data_of (values bs v))) rows =
    struct_rows-each (values bs) (rows_in (columns_of bs rows)) rows null (λ k lt. row_of_columns bs rows k lt) in
    rw (columns_long bs rows, types_of_columns bs rows, structs) refl

pub joined : (bs : BoundTrees) (rows : List Datum) (names : List Name) (cs : List Batch) (n : ℕ) (r : Result Batch VortexError) → names ≡ names_from 0 (length (node_types bs)) → cs ≡ columns_of bs rows → n ≡ length rows →
    ReturnsOrOom (λ x. x) r (struct_column names cs n false) → MatchResult r (λ x. x ≡ structs_of bs rows) (λ e. e ≡ OutOfMemory)
joined bs rows names cs n r named are long says = go r (rw (named, are, long, columns_joined bs rows) at says)
  where
    go : (r : Result Batch VortexError) → ReturnsOrOom (λ x. x) r (Ok (structs_of bs rows)) → MatchResult r (λ x. x ≡ structs_of bs rows) (λ e. e ≡ OutOfMemory)
    go (Ok x) h = cc
    go (Err e) (inl m) = m
    go (Err e) (inr q) = cc

-- where no child is left all columns are there
pub columns_end : (rows : List Datum) (bs : BoundTrees) (columns all : List Batch) (rest : List (Option Batch)) → length rest ≡ 0 → AreSeen rows bs rest → columns ++ columns_of bs rows ≡ all → columns ≡ all
columns_end rows no_bound columns all rest none h made = sym (append-nil columns) ∙ made
columns_end rows (bound b bs) columns all [] none h made = absurd h
columns_end rows (bound b bs) columns all (c ∷ rest) none h made = absurd (omega arith)
