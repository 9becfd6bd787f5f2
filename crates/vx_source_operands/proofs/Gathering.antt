-- The scalars of some trees, and the union of their types, as far as the loops have come.
use Rattle.std.proofs.Common.{◌≡◌, ◌≢◌, ℕ, ◌+◌, ◌<◌, ◌≤◌, List, [], ◌∷◌, ◌++◌, length, get_or, drop, drop_of_length-le, map, refl, sym, ap, ◌∙◌, append_assoc, arith, Vec}
use Rattle.std.proofs.lemmas.List.{append-nil, map-append}
use Rattle.std.specs.Borrow.{Bor}
use Rattle.std.specs.Option.{is_some}
use Rattle.std.specs.Prelude.{Option, Some, None, option_map, option_and_then, true, false}
use Rattle.vx_dtype.proofs.Lists.{drop_next}
use Rattle.vx_value.specs.Columns.{Constant}
use Rattle.vx_value.specs.Joins.{union, union_all, union_of}
use Rattle.vx_value.specs.Types.{LogicalType, ty, list, Datum, list_of}
use Rattle.std.specs.declared.alloc.Global.{Global}
use Rattle.std.specs.declared.sync.Arc.{Arc}
use Rattle.vx_value.specs.Fields.{data_of}
use Rattle.vx_fn.specs.Functions.{Function, literal}
use Rattle.vx_fn.specs.Views.{function_of}
use Rattle.vx_fn.specs.declared.function.ScalarFnRef.{ScalarFnRef}
use Rattle.vx_tree.specs.declared.expression.Expression as Unbound
use Rattle.vx_tree.specs.declared.expression.Expression.{Expression}
use Rattle.vx_tree.proofs.Held.{tree_of-Scalar}
use Rattle.vx_tree.specs.Trees.{Tree, call, Trees, no_tree, tree}
use Rattle.vx_tree.specs.Views.{tree_of, trees_from, trees_of}
use Rattle.vx_source_types.specs.Literals.{fitting}
use Rattle.vx_source_grammar.specs.Listing.{listed, scalar_at, scalars_in, types_in, values_in}
use Rattle.vx_source_operands.specs.ListViews.{lent_scalars}

-- the scalars before those of the rest
abbrev pub onto : List Constant → Option (List Constant) → Option (List Constant)
onto made rest = option_map (λ cs. made ++ cs) rest

onto_push : (made : List Constant) (c : Constant) (rest : Option (List Constant)) → onto (made ++ c ∷ []) rest ≡ onto made (option_map (λ cs. c ∷ cs) rest)
onto_push made c (Some cs) = ap (λ xs. Some xs) (append_assoc made (c ∷ []) cs)
onto_push made c None = refl

lent_push : (made : List (Bor Constant)) (c : Bor Constant) → lent_scalars (made ++ c ∷ []) ≡ lent_scalars made ++ c.now ∷ []
lent_push made c = map-append (λ (b : Bor Constant). b.now) made (c ∷ [])

module _ {A : Type 0} (view : A → Tree) (xs : List A) where
  -- the scalars of the trees from that index on
  abbrev pub scalars_from : ℕ → Option (List Constant)
  scalars_from i = scalars_in (trees_from (map view (drop i xs)))

  step : (i : ℕ) (x : A) → i < length xs → x ≡ get_or xs i x → scalars_from i ≡ option_and_then (λ c. option_map (λ cs. c ∷ cs) (scalars_from (i + 1))) (scalar_at (view x))
  step i x lt is = ap (λ ys. scalars_in (trees_from (map view ys))) (drop_next xs i x lt is)

  pub scalars_next : (made new : List (Bor Constant)) (i : ℕ) (x : A) (c : Bor Constant) (all : Option (List Constant)) → i < length xs → x ≡ get_or xs i x → Some c.now ≡ scalar_at (view x) → new ≡ made ++ c ∷ []
      → all ≡ onto (lent_scalars made) (scalars_from i) → all ≡ onto (lent_scalars new) (scalars_from (i + 1))
  scalars_next made new i x c all lt is here pushed so_far =
      so_far ∙ ap (onto (lent_scalars made)) (step i x lt is ∙ ap (option_and_then (λ c. option_map (λ cs. c ∷ cs) (scalars_from (i + 1)))) (sym here))
      ∙ sym (onto_push (lent_scalars made) c.now (scalars_from (i + 1))) ∙ ap (λ ys. onto ys (scalars_from (i + 1))) (sym (lent_push made c) ∙ ap lent_scalars (sym pushed))

  pub scalars_none : (made : List (Bor Constant)) (i : ℕ) (x : A) (all : Option (List Constant)) → i < length xs → x ≡ get_or xs i x → None ≡ scalar_at (view x) → all ≡ onto (lent_scalars made) (scalars_from i) → None ≡ all
  scalars_none made i x all lt is here so_far = sym (so_far ∙ ap (onto (lent_scalars made)) (step i x lt is ∙ ap (option_and_then (λ c. option_map (λ cs. c ∷ cs) (scalars_from (i + 1)))) (sym here)))

  pub scalars_end : (made : List (Bor Constant)) (i : ℕ) (all : Option (List Constant)) → length xs ≤ i → all ≡ onto (lent_scalars made) (scalars_from i) → Some (lent_scalars made) ≡ all
  scalars_end made i all h so_far = sym (so_far ∙ ap (λ ys. onto (lent_scalars made) (scalars_in (trees_from (map view ys)))) (drop_of_length-le xs h) ∙ ap (λ ys. Some ys) (append-nil (lent_scalars made)))

  -- whether all are literals
  pub literal_next : (i : ℕ) (x : A) (all : Option (List Constant)) → i < length xs → x ≡ get_or xs i x → is_some (scalar_at (view x)) ≡ true → is_some all ≡ is_some (scalars_from i) → is_some all ≡ is_some (scalars_from (i + 1))
  literal_next i x all lt is here so_far = so_far ∙ ap is_some (step i x lt is) ∙ go (scalar_at (view x)) (scalars_from (i + 1)) here
    where
      go : (o : Option Constant) (rest : Option (List Constant)) → is_some o ≡ true → is_some (option_and_then (λ c. option_map (λ cs. c ∷ cs) rest) o) ≡ is_some rest
      go None rest h = cc
      go (Some c) None h = refl
      go (Some c) (Some cs) h = refl

  pub literal_none : (i : ℕ) (x : A) (all : Option (List Constant)) → i < length xs → x ≡ get_or xs i x → is_some (scalar_at (view x)) ≡ false → is_some all ≡ is_some (scalars_from i) → false ≡ is_some all
  literal_none i x all lt is here so_far = sym (so_far ∙ ap is_some (step i x lt is) ∙ go (scalar_at (view x)) (scalars_from (i + 1)) here)
    where
      go : (o : Option Constant) (rest : Option (List Constant)) → is_some o ≡ false → is_some (option_and_then (λ c. option_map (λ cs. c ∷ cs) rest) o) ≡ false
      go None rest h = refl
      go (Some c) rest h = cc

  pub literals_end : (i : ℕ) (all : Option (List Constant)) → length xs ≤ i → is_some all ≡ is_some (scalars_from i) → true ≡ is_some all
  literals_end i all h so_far = sym (so_far ∙ ap (λ ys. is_some (scalars_in (trees_from (map view ys)))) (drop_of_length-le xs h))

-- ---- types and values of scalars that are lent

module _ (xs : List (Bor Constant)) where
  abbrev pub types_from : ℕ → List LogicalType
  types_from i = types_in (lent_scalars (drop i xs))

  abbrev pub values_from : ℕ → List Datum
  values_from i = values_in (lent_scalars (drop i xs))

  types_step : (i : ℕ) (x : Bor Constant) → i < length xs → x ≡ get_or xs i x → types_from i ≡ x.now.type ∷ types_from (i + 1)
  types_step i x lt is = ap (λ ys. types_in (lent_scalars ys)) (drop_next xs i x lt is)

  pub union_next : (t w : LogicalType) (i : ℕ) (x : Bor Constant) (all : Option LogicalType) → i < length xs → x ≡ get_or xs i x → Some w ≡ union t x.now.type → all ≡ union_all t (types_from i) → all ≡ union_all w (types_from (i + 1))
  union_next t w i x all lt is here so_far = so_far ∙ ap (union_all t) (types_step i x lt is) ∙ ap (option_and_then (λ u. union_all u (types_from (i + 1)))) (sym here)

  pub union_none : (t : LogicalType) (i : ℕ) (x : Bor Constant) (all : Option LogicalType) → i < length xs → x ≡ get_or xs i x → None ≡ union t x.now.type → all ≡ union_all t (types_from i) → None ≡ all
  union_none t i x all lt is here so_far = sym (so_far ∙ ap (union_all t) (types_step i x lt is) ∙ ap (option_and_then (λ u. union_all u (types_from (i + 1)))) (sym here))

  pub union_end : (t : LogicalType) (i : ℕ) (all : Option LogicalType) → length xs ≤ i → all ≡ union_all t (types_from i) → Some t ≡ all
  union_end t i all h so_far = sym (so_far ∙ ap (λ ys. union_all t (types_in (lent_scalars ys))) (drop_of_length-le xs h))

  pub values_next : (made new : List Datum) (i : ℕ) (x : Bor Constant) (all : List Datum) → i < length xs → x ≡ get_or xs i x → new ≡ made ++ x.now.value ∷ [] → all ≡ made ++ values_from i → all ≡ new ++ values_from (i + 1)
  values_next made new i x all lt is pushed so_far =
      so_far ∙ ap (λ ys. made ++ values_in (lent_scalars ys)) (drop_next xs i x lt is) ∙ sym (append_assoc made (x.now.value ∷ []) (values_from (i + 1))) ∙ ap (λ ys. ys ++ values_from (i + 1)) (sym pushed)

  pub values_end : (made : List Datum) (i : ℕ) (all : List Datum) → length xs ≤ i → all ≡ made ++ values_from i → made ≡ all
  values_end made i all h so_far = sym (so_far ∙ ap (λ ys. made ++ values_in (lent_scalars ys)) (drop_of_length-le xs h) ∙ append-nil made)

-- the list of the values, of elements of the union of the types
pub listed_is : (cs : List Constant) (t : LogicalType) (vs : List Datum) → Some t ≡ union_of (types_in cs) → vs ≡ values_in cs → fitting (ty (list t) false) (list_of (data_of vs)) ≡ listed cs
listed_is cs t vs joined same =
    ap (λ ws. fitting (ty (list t) false) (list_of (data_of ws))) same ∙ ap (option_and_then (λ u. fitting (ty (list u) false) (list_of (data_of (values_in cs))))) joined

-- ---- the scalar of a literal

with_children : (f : Function) (e : Tree) (es : Trees) → scalar_at (call f (tree e es)) ≡ None
with_children (literal t v) e es = refl
with_children f e es = refl

pub seen_leaf : (e : Expression) (f : ScalarFnRef) (all : Arc (Vec Expression Global) Global) (o : Option Constant) → e ≡ Unbound.Scalar f all → length all.value.items ≡ 0 → o ≡ scalar_at (call (function_of f) no_tree) → o ≡ scalar_at (tree_of e)
seen_leaf e f all o is none h = h ∙ sym (ap (λ x. scalar_at (tree_of x)) is ∙ ap scalar_at (tree_of-Scalar f all) ∙ go all.value.items none)
  where
    go : (es : List Expression) → length es ≡ 0 → scalar_at (call (function_of f) (trees_of es)) ≡ scalar_at (call (function_of f) no_tree)
    go [] h = refl
    go (x ∷ es) h = absurd (omega arith)

pub seen_node : (e : Expression) (f : ScalarFnRef) (all : Arc (Vec Expression Global) Global) → e ≡ Unbound.Scalar f all → length all.value.items ≢ 0 → None ≡ scalar_at (tree_of e)
seen_node e f all is some = sym (ap (λ x. scalar_at (tree_of x)) is ∙ ap scalar_at (tree_of-Scalar f all) ∙ go all.value.items some)
  where
    go : (es : List Expression) → length es ≢ 0 → scalar_at (call (function_of f) (trees_of es)) ≡ None
    go [] h = absurd (h refl)
    go (x ∷ es) h = with_children (function_of f) (tree_of x) (trees_of es)
