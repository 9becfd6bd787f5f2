-- The nodes bound so far, and then the rest.
use Rattle.std.proofs.Common.{◌≡◌, ℕ, ◌+◌, ◌<◌, ◌≤◌, List, [], ◌∷◌, ◌++◌, length, get_or, drop, drop-cons, drop_of_length-le, map, add-one, Result, Ok, Err, refl, sym, ap, ◌∙◌}
use Rattle.vx_dtype.specs.declared.error.VortexError.{VortexError}
use Rattle.vx_dtype.proofs.Lists.{in_front, in_front-push, in_front-all}
use Rattle.vx_value.specs.Types.{LogicalType}
use Rattle.vx_tree.specs.declared.bound.BoundExpression.{BoundExpression}
use Rattle.vx_tree.specs.Trees.{Tree, BoundTree, BoundTrees, no_bound, bound, on_ok, WellTyped, EachWellTyped}
use Rattle.vx_tree.specs.Binding.{binding, each_binding}
use Rattle.vx_tree.specs.Views.{trees_from, bound_of, bounds_of}

abbrev ok_bounds : BoundTrees → Result BoundTrees VortexError
ok_bounds bs = Ok bs

abbrev pub put : BoundTree → Result BoundTrees VortexError → Result BoundTrees VortexError
put b rest = on_ok (λ bs. Ok (bound b bs)) rest

abbrev put_bound : BoundExpression → BoundTrees → BoundTrees
put_bound b bs = bound (bound_of b) bs

abbrev pub before : List BoundExpression → BoundTrees → BoundTrees
before = in_front put_bound

abbrev pub after : List BoundExpression → Result BoundTrees VortexError → Result BoundTrees VortexError
after made rest = on_ok (λ bs. Ok (before made bs)) rest

pub before_push : (made : List BoundExpression) (b : BoundExpression) (bs : BoundTrees) → before (made ++ b ∷ []) bs ≡ before made (bound (bound_of b) bs)
before_push made b bs = in_front-push put_bound made b bs

pub before_nothing : (made : List BoundExpression) → before made no_bound ≡ bounds_of made
before_nothing made = in_front-all put_bound no_bound bounds_of refl (λ x xs. refl) made

pub after_push : (made : List BoundExpression) (b : BoundExpression) (rest : Result BoundTrees VortexError) → after (made ++ b ∷ []) rest ≡ after made (put (bound_of b) rest)
after_push made b (Ok bs) = ap ok_bounds (before_push made b bs)
after_push made b (Err e) = refl

module _ {A : Type 0} (view : A → Tree) (es : List A) (s : LogicalType) where
  -- the trees from that index on, bound
  abbrev pub rest_of : ℕ → Result BoundTrees VortexError
  rest_of i = each_binding (trees_from (map view (drop i es))) s

  step : (i : ℕ) (e : A) → i < length es → e ≡ get_or es i e → rest_of i ≡ on_ok (λ b. put b (rest_of (i + 1))) (binding (view e) s)
  step i e h is = rw (add-one, drop-cons es i e h, ← is)

  -- one more is bound
  pub next : (made new : List BoundExpression) (i : ℕ) (e : A) (b : BoundExpression) (all : Result BoundTrees VortexError) → i < length es → e ≡ get_or es i e
      → new ≡ made ++ b ∷ [] → binding (view e) s ≡ Ok (bound_of b) → all ≡ after made (rest_of i) → all ≡ after new (rest_of (i + 1))
  next made new i e b all h is pushed bound_to so_far =
      let rest = rest_of (i + 1) in
      so_far ∙ ap (after made) (step i e h is ∙ ap (on_ok (λ x. put x rest)) bound_to) ∙ sym (after_push made b rest) ∙ ap (λ bs. after bs rest) (sym pushed)

  -- one is refused
  pub stops : (made : List BoundExpression) (i : ℕ) (e : A) (r : VortexError) (all : Result BoundTrees VortexError) → i < length es → e ≡ get_or es i e → binding (view e) s ≡ Err r
      → all ≡ after made (rest_of i) → all ≡ Err r
  stops made i e r all h is refused so_far = so_far ∙ ap (after made) (step i e h is ∙ ap (on_ok (λ x. put x (rest_of (i + 1)))) refused)

  -- all are bound
  pub end : (made : List BoundExpression) (i : ℕ) (all : Result BoundTrees VortexError) → length es ≤ i → all ≡ after made (rest_of i) → all ≡ Ok (bounds_of made)
  end made i all h so_far = so_far ∙ rw (drop_of_length-le es h) (ap ok_bounds (before_nothing made))

pub well_typed_push : (made new : List BoundExpression) (b : BoundExpression) → new ≡ made ++ b ∷ [] → EachWellTyped (bounds_of made) → WellTyped (bound_of b) → EachWellTyped (bounds_of new)
well_typed_push made new b pushed w v = rw pushed (go made w)
  where
    go : (xs : List BoundExpression) → EachWellTyped (bounds_of xs) → EachWellTyped (bounds_of (xs ++ b ∷ []))
    go [] u = (v, tt)
    go (x ∷ xs) u = (u.0, go xs u.1)
