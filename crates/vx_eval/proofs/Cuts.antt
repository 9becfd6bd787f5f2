-- Batches that are cut in two, under trees in which no node looks across rows: what evaluation by blocks rests on.
use Rattle.std.proofs.Common.{◌≡◌, ◌∙◌, ◌≤◌, ◌<◌, ℕ, zero, suc, ◌+◌, ◌-◌, List, [], ◌∷◌, ◌++◌, append_assoc, map, length, get_or, refl, sym, ap, arith, Option, Some, None, Ok, Bool, true, false, take, drop}
use Rattle.std.specs.Prelude.{not, cond, position}
use Rattle.std.specs.List.{between, list_any, position_or_len, prefix_len}
use Rattle.std.specs.Option.{option_or, option_map}
use Rattle.std.proofs.lemmas.Bool.{or_parts, or_from, ltb-false, le-ltb}
use Rattle.std.proofs.lemmas.List.{map-append, take_all, take-append-drop, take-map, drop-map, append_cancel_right}
use Rattle.std.proofs.lemmas.List.Edits.{split_between}
use Rattle.std.proofs.lemmas.List.Folds.{list_any-append}
use Rattle.vx_dtype.specs.declared.error.VortexError.{VortexError}
use Rattle.vx_dtype.specs.declared.error.VortexError.TheVariants.{CastNull, BadFill}
use Rattle.vx_value.specs.Types.{LogicalType, Datum, is_null_datum}
use Rattle.vx_fn.specs.Faults.{node_fault, has_fault, row_fault, misfits, fill_of, is_bad_fill, when}
use Rattle.vx_fn.specs.Functions.{Function, binary, computes, cast, fill_null, literal}
use Rattle.vx_fn.proofs.Fills.{none_differ}
use Rattle.vx_tree.specs.declared.bound.BoundExpression.{BoundExpression}
use Rattle.vx_tree.specs.Views.{bounds_of}
use Rattle.vx_tree.specs.Faults.{first_fault, each_fault}
use Rattle.vx_tree.specs.Meaning.{value, values}
use Rattle.vx_tree.specs.Trees.{BoundTree, scope, node, BoundTrees, no_bound, bound, node_types}
use Rattle.vx_tree.proofs.Trees.{or_none}
use Rattle.vx_eval.specs.Across.{is_across, looks_across, some_across}
use Rattle.vx_value.specs.declared.value.Value.{Value}
use Rattle.vx_value.specs.Views.{value_of}
use Rattle.vx_eval.specs.Columns.{values_of, unless_fault}
use Rattle.vx_eval.specs.Evaluation.{tree_answer}

-- ---- fills

pub not_two : (f : Function) (bs : List BoundExpression) → f ≡ fill_null → (length bs ≡ 2 → ⊥) → true ≡ is_across f (bounds_of bs)
not_two f [] is apart = rw is refl
not_two f (a ∷ []) is apart = rw is refl
not_two f (a ∷ b ∷ []) is apart = absurd (apart refl)
not_two f (a ∷ b ∷ d ∷ bs) is apart = rw is refl

-- ---- tests that no row passes

cond_none : {A : Type 0} (b : Bool) (x : A) → cond b (Some x) None ≡ None → b ≡ false
cond_none true x e = cc
cond_none false x e = refl

passed_over : {A : Type 0} (p : A → Bool) (xs ys : List A) → length xs ≤ position_or_len p xs → length ys ≤ position_or_len p ys → length (xs ++ ys) ≤ position_or_len p (xs ++ ys)
passed_over p [] ys h k = k
passed_over p (x ∷ xs) ys h k = go (p x) (λ shorter. passed_over p xs ys shorter k) h
  where
    go : (b : Bool) → (length xs ≤ position_or_len p xs → length (xs ++ ys) ≤ position_or_len p (xs ++ ys)) → length (x ∷ xs) ≤ cond (not b) (1 + prefix_len (λ y. not (p y)) xs) 0 →
        length (x ∷ (xs ++ ys)) ≤ cond (not b) (1 + prefix_len (λ y. not (p y)) (xs ++ ys)) 0
    go true rest h = absurd (omega arith)
    go false rest h =
        let shorter : length xs ≤ position_or_len p xs = omega arith in
        let longer : length (xs ++ ys) ≤ position_or_len p (xs ++ ys) = rest shorter in
        omega arith

no_position : {A : Type 0} (p : A → Bool) (xs ys : List A) → position p xs ≡ None → position p ys ≡ None → position p (xs ++ ys) ≡ None
no_position p xs ys e f =
    let first : length xs ≤ position_or_len p xs = ltb-false _ _ (cond_none _ _ e) in
    let second : length ys ≤ position_or_len p ys = ltb-false _ _ (cond_none _ _ f) in
    rw (le-ltb _ _ (passed_over p xs ys first second)) refl

-- ---- the faults of one node

none_mapped : {A B : Type 0} (g : A → B) (o : Option A) → option_map g o ≡ None → o ≡ None
none_mapped g None e = refl
none_mapped g (Some a) e = cc

no_row_faults : {A : Type 0} (p : A → Bool) (fault : List A → ℕ → VortexError) (xs ys : List A) → option_map (fault xs) (position p xs) ≡ None → option_map (fault ys) (position p ys) ≡ None → option_map (fault (xs ++ ys)) (position p (xs ++ ys)) ≡ None
no_row_faults p fault xs ys e f = ap (option_map (fault (xs ++ ys))) (no_position p xs ys (none_mapped (fault xs) _ e) (none_mapped (fault ys) _ f))

-- ---- a fill by a literal

when_none : (b : Bool) (fault : VortexError) → when b fault ≡ None → b ≡ false
when_none true fault e = cc
when_none false fault e = refl

-- the fills of rows of an input and a literal
filled_by : (a : BoundTree) (u w : LogicalType) (v : Datum) (cs : BoundTrees) (batch : List Datum) →
    map fill_of (map (values (bound a (bound (node u (literal w v) cs) no_bound))) batch) ≡ map (λ (x : Datum). v) batch
filled_by a u w v cs [] = refl
filled_by a u w v cs (x ∷ batch) = ap (λ l. v ∷ l) (filled_by a u w v cs batch)

no_bad_fill : (ts : List LogicalType) (v : Datum) (xs ys : List Datum) → is_bad_fill ts (map (λ (x : Datum). v) xs) ≡ false → is_bad_fill ts (map (λ (x : Datum). v) ys) ≡ false → is_bad_fill ts (map (λ (x : Datum). v) (xs ++ ys)) ≡ false
no_bad_fill ts v xs ys e f =
    let before = or_parts _ _ e in
    let filled_before = or_parts _ _ before.0 in
    let null_behind = or_parts _ _ (or_parts _ _ f).0 in
    let no_null : list_any is_null_datum (map (λ (x : Datum). v) (xs ++ ys)) ≡ false =
    ap (list_any is_null_datum) (map-append (λ (x : Datum). v) xs ys) ∙ list_any-append is_null_datum (map (λ (x : Datum). v) xs) (map (λ (x : Datum). v) ys) ∙ or_from _ _ filled_before.1 null_behind.1 in
    or_from _ _ (or_from _ _ filled_before.0 no_null) (none_differ v (xs ++ ys))

-- ---- the faults of a tree

never : {P : Type 0} → true ≡ false → P
never e = cc

node_cut : (f : Function) (bs : BoundTrees) (ts : List LogicalType) (xs ys : List Datum) → is_across f bs ≡ false →
    node_fault f ts (map (values bs) xs) ≡ None → node_fault f ts (map (values bs) ys) ≡ None → node_fault f ts (map (values bs) (xs ++ ys)) ≡ None
node_cut (binary (computes a)) bs ts xs ys apart e f =
    ap (node_fault (binary (computes a)) ts) (map-append (values bs) xs ys) ∙ no_row_faults (has_fault a ts) (λ rows n. row_fault a (get_or rows n []) n) (map (values bs) xs) (map (values bs) ys) e f
node_cut (cast t) bs ts xs ys apart e f = ap (node_fault (cast t) ts) (map-append (values bs) xs ys) ∙ no_row_faults (misfits t) (λ rows. CastNull) (map (values bs) xs) (map (values bs) ys) e f
node_cut fill_null (bound a (bound (node u (literal w v) cs) no_bound)) ts xs ys apart e f =
    let filled = filled_by a u w v cs in
    let quiet = λ (batch : List Datum) (h : when (is_bad_fill ts (map fill_of (map (values (bound a (bound (node u (literal w v) cs) no_bound))) batch))) BadFill ≡ None). ap (is_bad_fill ts) (sym (filled batch)) ∙ when_none _ BadFill h in
    ap (λ b. when b BadFill) (ap (is_bad_fill ts) (filled (xs ++ ys)) ∙ no_bad_fill ts v xs ys (quiet xs e) (quiet ys f))
node_cut fill_null (bound a (bound (node u _ cs) no_bound)) ts xs ys apart e f = never apart
node_cut fill_null (bound a (bound (scope u) no_bound)) ts xs ys apart e f = never apart
node_cut fill_null (bound a (bound b (bound d bs))) ts xs ys apart e f = never apart
node_cut fill_null (bound a no_bound) ts xs ys apart e f = never apart
node_cut fill_null no_bound ts xs ys apart e f = never apart
node_cut _ bs ts xs ys apart e f = refl

none_or : {A : Type 0} (o p : Option A) → o ≡ None → p ≡ None → option_or o p ≡ None
none_or o p e f = rw (e, f) refl

mutual
  fault_cut : (b : BoundTree) (xs ys : List Datum) → looks_across b ≡ false → first_fault b xs ≡ None → first_fault b ys ≡ None → first_fault b (xs ++ ys) ≡ None
  fault_cut (scope t) xs ys apart e f = refl
  fault_cut (node t f bs) xs ys apart e g =
      let alone = or_parts _ _ apart in
      let before = or_none _ _ e in
      let behind = or_none _ _ g in
      none_or _ _ (each_cut bs xs ys alone.1 before.0 behind.0) (node_cut f bs (node_types bs) xs ys alone.0 before.1 behind.1)

  each_cut : (bs : BoundTrees) (xs ys : List Datum) → some_across bs ≡ false → each_fault bs xs ≡ None → each_fault bs ys ≡ None → each_fault bs (xs ++ ys) ≡ None
  each_cut no_bound xs ys apart e f = refl
  each_cut (bound b bs) xs ys apart e f =
      let alone = or_parts _ _ apart in
      let before = or_none _ _ e in
      let behind = or_none _ _ f in
      none_or _ _ (fault_cut b xs ys alone.0 before.0 behind.0) (each_cut bs xs ys alone.1 before.1 behind.1)

-- ---- the answers of a tree

-- what an answer with rows says
record Answered (b : BoundTree) (batch out : List Datum) : Type 0 where
  quiet : first_fault b batch ≡ None
  are : map (value b) batch ≡ out

answered : (b : BoundTree) (batch out : List Datum) → tree_answer b batch ≡ Ok out → Answered b batch out
answered b batch out e = go (first_fault b batch) refl e
  where
    go : (o : Option VortexError) → first_fault b batch ≡ o → unless_fault o (map (value b) batch) ≡ Ok out → Answered b batch out
    go None q e = record { quiet = q; are = cc }
    go (Some fault) q e = cc

pub answer_cut : (b : BoundTree) (xs ys before behind : List Datum) → looks_across b ≡ false → tree_answer b xs ≡ Ok before → tree_answer b ys ≡ Ok behind → tree_answer b (xs ++ ys) ≡ Ok (before ++ behind)
answer_cut b xs ys before behind apart e f =
    let x = answered b xs before e in
    let y = answered b ys behind f in
    ap (λ o. unless_fault o (map (value b) (xs ++ ys))) (fault_cut b xs ys apart x.quiet y.quiet)
    ∙ ap Ok (map-append (value b) xs ys ∙ ap (λ l. l ++ map (value b) ys) x.are ∙ ap (λ l. before ++ l) y.are)

-- ---- blocks, one after another

-- what a tree gives over the first n rows, if there are any
pub record Told (b : BoundTree) (rows : List Datum) (n : ℕ) (made : List Datum) : Type 0 where
  pub within : n ≤ length rows
  pub none : n ≡ 0 → made ≡ []
  pub answer : 0 < n → tree_answer b (take n rows) ≡ Ok made

-- what the rows between two places stand for
pub values_between : (from to : ℕ) (rows : List Value) → between from to (values_of rows) ≡ values_of (between from to rows)
values_between from to rows = ap (take (to - from)) (drop-map value_of from rows) ∙ take-map value_of (to - from) (drop from rows)

-- the rows before a place, and those from there on before another one
cut_at : (rows : List Datum) (from to : ℕ) → from ≤ to → take to rows ≡ take from rows ++ between from to rows
cut_at rows from to in_order =
    append_cancel_right (take to rows) (take from rows ++ between from to rows) (drop to rows)
    (take-append-drop to rows ∙ split_between rows from to in_order ∙ sym (append_assoc (take from rows) (between from to rows) (drop to rows)))

pub told_more : (b : BoundTree) (rows made new out : List Datum) (from to : ℕ) → looks_across b ≡ false → from < to → to ≤ length rows →
    Told b rows from made → tree_answer b (between from to rows) ≡ Ok out → new ≡ made ++ out → Told b rows to new
told_more b rows made new out from to apart further within so_far here behind = record {
  within = within;
  none = λ e. absurd (omega arith);
  answer = λ lt. ap (tree_answer b) (cut_at rows from to (omega arith)) ∙ go from refl ∙ ap Ok (sym behind);
}
  where
    go : (n : ℕ) → from ≡ n → tree_answer b (take from rows ++ (between from to rows)) ≡ Ok (made ++ out)
    go zero e =
        ap (λ k. tree_answer b (take k rows ++ (between from to rows))) e ∙ here ∙ ap (λ l. Ok (l ++ out)) (sym (so_far.none e))
    go (suc n) e =
        answer_cut b (take from rows) (between from to rows) made out apart (so_far.answer (omega arith)) here

pub told_all : (b : BoundTree) (rows made : List Datum) (n : ℕ) → 0 < length rows → length rows ≤ n → Told b rows n made → tree_answer b rows ≡ Ok made
told_all b rows made n some ended so_far = ap (tree_answer b) (sym (take_all n rows ended)) ∙ so_far.answer (omega arith)
