-- What collects give: those of trees refuse for memory alone, and those of bound trees keep types, scopes and sources.
use Rattle.std.proofs.Common.{◌≡◌, ℕ, zero, suc, List, [], ◌∷◌, length, map, Some, Result, Ok, Err, refl, sym, ap, subst, ◌∙◌, ⊎_elim, IfOk}
use Rattle.std.proofs.lemmas.List.{length-map}
use Rattle.std.proofs.lemmas.Option.{slice_get-map}
use Rattle.std.specs.Prelude.{Option, None, IfSome, IfErr, MatchResult, option_map, slice_get}
use Rattle.vx_dtype.specs.declared.error.VortexError.{VortexError}
use Rattle.vx_dtype.specs.declared.error.VortexError.TheVariants.{OutOfMemory}
use Rattle.vx_dtype.specs.Returns.{ReturnsOrOom}
use Rattle.vx_value.specs.Types.{LogicalType}
use Rattle.vx_fn.specs.Functions.{Function, Operation, binary, HasFittingLiteral, Typing, fn_type}
use Rattle.vx_tree.specs.declared.expression.Expression.{Expression}
use Rattle.vx_tree.specs.declared.bound.BoundExpression.{BoundExpression}
use Rattle.vx_tree.specs.Trees.{Tree, call, BoundTree, node, BoundTrees, unbound, node_types, on_ok, WellTyped, EachWellTyped, Over, EachOver}
use Rattle.vx_tree.specs.Views.{bounds_from, trees_from, tree_of, bound_of}
use Rattle.vx_build.specs.Rounds.{round, rounds, collected}
use Rattle.vx_build.specs.Collects.{paired_trees, paired_bounds, CollectsTrees, CollectsBound}
use Rattle.vx_tree.proofs.Built.{Kept, kept}
use Rattle.vx_build.proofs.Rounding.{found, then_ok, on_round, on_rounds}

-- ---- one join

typed_node : (f : Function) (bs : BoundTrees) → HasFittingLiteral f → EachWellTyped bs → (t : Typing) → fn_type f (node_types bs) ≡ t → IfOk (on_ok (λ u. Ok (node u f bs)) t) WellTyped
typed_node f bs fits w (Ok u) h = (h, fits, w)
typed_node f bs fits w (Err e) h = tt

paired_typed : (op : Operation) (x y z : BoundTree) → paired_bounds op x y ≡ Ok z → WellTyped x → WellTyped y → WellTyped z
paired_typed op x y z h v w =
    let bs : BoundTrees = bounds_from (x ∷ y ∷ []) in
    found WellTyped (paired_bounds op x y) z h (typed_node (binary op) bs tt (v, (w, tt)) (fn_type (binary op) (node_types bs)) refl)

paired_kept : (op : Operation) (x y z : BoundTree) → paired_bounds op x y ≡ Ok z → Kept (binary op) (bounds_from (x ∷ y ∷ [])) z
paired_kept op x y z h =
    let bs : BoundTrees = bounds_from (x ∷ y ∷ []) in
    found (Kept (binary op) bs) (paired_bounds op x y) z h (kept (binary op) bs (fn_type (binary op) (node_types bs)))

-- ---- one round

abbrev EachTyped : List BoundTree → Type 0
EachTyped bs = EachWellTyped (bounds_from bs)

round_typed : (op : Operation) (xs ys : List BoundTree) → round (paired_bounds op) xs ≡ Ok ys → EachTyped xs → EachTyped ys
round_typed op xs ys h =
    found (λ ys. EachTyped xs → EachTyped ys) (round (paired_bounds op) xs) ys h
    (on_round (paired_bounds op) (λ xs ys. EachTyped xs → EachTyped ys) (λ w. w) (λ x w. w) (λ x y z rest zs j k w. (paired_typed op x y z j w.0 w.1.0, k w.1.1)) xs)

abbrev AllOver : LogicalType → List BoundTree → Type 0
AllOver s bs = EachOver (bounds_from bs) s

round_over : (op : Operation) (s : LogicalType) (xs ys : List BoundTree) → round (paired_bounds op) xs ≡ Ok ys → AllOver s xs → AllOver s ys
round_over op s xs ys h =
    found (λ ys. AllOver s xs → AllOver s ys) (round (paired_bounds op) xs) ys h
    (on_round (paired_bounds op) (λ xs ys. AllOver s xs → AllOver s ys) (λ w. w) (λ x w. w) (λ x y z rest zs j k w. ((paired_kept op x y z j).0 s (w.0, (w.1.0, tt)), k w.1.1)) xs)

abbrev RoundSources : Operation → List BoundTree → List BoundTree → Type 0
RoundSources op xs ys = round (paired_trees op) (map unbound xs) ≡ Ok (map unbound ys)

abbrev put_tree : Tree → List Tree → Result (List Tree) VortexError
put_tree e es = Ok (e ∷ es)

pair_sources : (op : Operation) (x y z : BoundTree) (rest zs : List BoundTree) → paired_bounds op x y ≡ Ok z → RoundSources op rest zs → RoundSources op (x ∷ y ∷ rest) (z ∷ zs)
pair_sources op x y z rest zs j k =
    let both : Tree = call (binary op) (trees_from (unbound x ∷ unbound y ∷ [])) in
    ap (on_ok (put_tree both)) k ∙ ap (λ e. put_tree e (map unbound zs)) (sym (paired_kept op x y z j).1)

round_sources : (op : Operation) (xs ys : List BoundTree) → round (paired_bounds op) xs ≡ Ok ys → RoundSources op xs ys
round_sources op xs ys h = found (RoundSources op xs) (round (paired_bounds op) xs) ys h (on_round (paired_bounds op) (RoundSources op) refl (λ x. refl) (pair_sources op) xs)

-- ---- all rounds

abbrev RoundsSources : Operation → ℕ → List BoundTree → List BoundTree → Type 0
RoundsSources op n xs ys = rounds (paired_trees op) n (map unbound xs) ≡ Ok (map unbound ys)

rounds_sources : (op : Operation) (n : ℕ) (xs : List BoundTree) → IfOk (rounds (paired_bounds op) n xs) (RoundsSources op n xs)
rounds_sources op zero xs = refl
rounds_sources op (suc n) xs =
    then_ok (RoundsSources op (suc n) xs) (rounds (paired_bounds op) n) (round (paired_bounds op) xs) (λ ys h.
    subst (λ q. IfOk (rounds (paired_bounds op) n ys) (λ zs. on_ok (rounds (paired_trees op) n) q ≡ Ok (map unbound zs))) (sym (round_sources op xs ys h)) (rounds_sources op n ys))

abbrev first_bound : List BoundTree → Result (Option BoundTree) VortexError
first_bound xs = Ok (slice_get xs 0)

abbrev first_tree : List Tree → Result (Option Tree) VortexError
first_tree xs = Ok (slice_get xs 0)

first_typed : (left : List BoundTree) → EachTyped left → IfSome (slice_get left 0) WellTyped
first_typed [] w = tt
first_typed (x ∷ left) w = w.0

first_over : (s : LogicalType) (left : List BoundTree) → AllOver s left → IfSome (slice_get left 0) (λ b. Over b s)
first_over s [] w = tt
first_over s (x ∷ left) w = w.0

collected_typed : (op : Operation) (bs : List BoundTree) → EachTyped bs → IfOk (collected (paired_bounds op) bs) (λ a. IfSome a WellTyped)
collected_typed op bs w =
    let all = on_rounds (paired_bounds op) EachTyped (round_typed op) (length bs) bs w in
    then_ok (λ a. IfSome a WellTyped) first_bound (rounds (paired_bounds op) (length bs) bs) (λ left is. first_typed left (found EachTyped (rounds (paired_bounds op) (length bs) bs) left is all))

collected_over : (op : Operation) (s : LogicalType) (bs : List BoundTree) → AllOver s bs → IfOk (collected (paired_bounds op) bs) (λ a. IfSome a (λ b. Over b s))
collected_over op s bs w =
    let all = on_rounds (paired_bounds op) (AllOver s) (round_over op s) (length bs) bs w in
    then_ok (λ a. IfSome a (λ b. Over b s)) first_bound (rounds (paired_bounds op) (length bs) bs) (λ left is. first_over s left (found (AllOver s) (rounds (paired_bounds op) (length bs) bs) left is all))

abbrev SourceCollected : Operation → List BoundTree → Option BoundTree → Type 0
SourceCollected op bs a = collected (paired_trees op) (map unbound bs) ≡ Ok (option_map unbound a)

collected_sources : (op : Operation) (bs : List BoundTree) → IfOk (collected (paired_bounds op) bs) (SourceCollected op bs)
collected_sources op bs =
    then_ok (SourceCollected op bs) first_bound (rounds (paired_bounds op) (length bs) bs) (λ left is.
    ap (λ n. on_ok first_tree (rounds (paired_trees op) n (map unbound bs))) (length-map bs unbound)
    ∙ ap (on_ok first_tree) (found (RoundsSources op (length bs) bs) (rounds (paired_bounds op) (length bs) bs) left is (rounds_sources op (length bs) bs))
    ∙ ap (λ o. Ok o) (slice_get-map unbound left 0))

-- ---- what a call gave

at_view : (P : BoundTree → Type 0) (o : Option BoundExpression) → IfSome (option_map bound_of o) P → IfSome o (λ b. P (bound_of b))
at_view P None h = tt
at_view P (Some b) h = h

source_at_view : (o : Option BoundExpression) → option_map unbound (option_map bound_of o) ≡ option_map (λ b. unbound (bound_of b)) o
source_at_view None = refl
source_at_view (Some b) = refl

pub collects_bound : (op : Operation) (bs : List BoundTree) (r : Result (Option BoundExpression) VortexError) → ReturnsOrOom (option_map bound_of) r (collected (paired_bounds op) bs) → CollectsBound op bs r
collects_bound op bs (Ok o) h =
    let said = collected (paired_bounds op) bs in
    let a : Option BoundTree = option_map bound_of o in
    record {
      left = h;
      well_typed = λ w. at_view WellTyped o (found (λ x. IfSome x WellTyped) said a h (collected_typed op bs w));
      over = λ s w. at_view (λ b. Over b s) o (found (λ x. IfSome x (λ b. Over b s)) said a h (collected_over op s bs w));
      source = found (SourceCollected op bs) said a h (collected_sources op bs) ∙ ap (λ x. Ok x) (source_at_view o);
    }
collects_bound op bs (Err e) h = record { left = h; well_typed = λ w. tt; over = λ s w. tt; source = tt }

-- ---- trees can always be paired

round_answers : (op : Operation) (xs : List Tree) → (ys : List Tree) × (round (paired_trees op) xs ≡ Ok ys)
round_answers op [] = ([], refl)
round_answers op (x ∷ []) = (x ∷ [], refl)
round_answers op (x ∷ y ∷ rest) =
    let both : Tree = call (binary op) (trees_from (x ∷ y ∷ [])) in
    let r = round_answers op rest in
    (both ∷ r.0, ap (on_ok (put_tree both)) r.1)

rounds_answer : (op : Operation) (n : ℕ) (xs : List Tree) → (ys : List Tree) × (rounds (paired_trees op) n xs ≡ Ok ys)
rounds_answer op zero xs = (xs, refl)
rounds_answer op (suc n) xs =
    let r = round_answers op xs in
    let s = rounds_answer op n r.0 in
    (s.0, ap (on_ok (rounds (paired_trees op) n)) r.1 ∙ s.1)

no_refusal : {A B : Type 0} (view : A → B) (said : Result B VortexError) (x : B) (r : Result A VortexError) → said ≡ Ok x → ReturnsOrOom view r said → IfErr r (λ e. e ≡ OutOfMemory)
no_refusal view said x (Ok y) is h = tt
no_refusal {A} {B} view said x (Err e) is h = ⊎_elim (λ m. m) (λ q. subst (λ (s : Result B VortexError). MatchResult s (λ y. Unit {0}) (λ d. e ≡ OutOfMemory)) (sym is ∙ q) tt) h

pub collects_trees : (op : Operation) (es : List Tree) (r : Result (Option Expression) VortexError) → ReturnsOrOom (option_map tree_of) r (collected (paired_trees op) es) → CollectsTrees op es r
collects_trees op es r h =
    let left = rounds_answer op (length es) es in
    record { left = h; memory_alone = no_refusal (option_map tree_of) (collected (paired_trees op) es) (slice_get left.0 0) r (ap (on_ok first_tree) left.1) h }
