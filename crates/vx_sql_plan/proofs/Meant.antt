-- What is pushed and what is left mean the tree.
use Rattle.std.proofs.Common.{◌≡◌, Bool, true, false, ◌&&◌, List, [], ◌∷◌, ◌++◌, Option, Some, None, refl, sym, ap, ◌∙◌, map, filter}
use Rattle.std.specs.List.{list_all}
use Rattle.std.proofs.lemmas.List.{map-append}
use Rattle.std.proofs.lemmas.List.Elements.{filter-append}
use Rattle.vx_value.specs.Types.{LogicalType, Datum, bool}
use Rattle.vx_fn.specs.Values.{is_true, kleene_and}
use Rattle.vx_tree.specs.Meaning.{value}
use Rattle.vx_tree.specs.Trees.{BoundTree}
use Rattle.vx_rewrite_fusing.specs.Conjuncts.{and_node, conjoined, conjuncts}
use Rattle.vx_sql_plan.specs.Laws.{value_left, conjunction, SelectsAlike, MeansAlike}
use Rattle.vx_sql_plan.specs.Pushdown.{is_pushed, without}
use Rattle.vx_sql_plan.proofs.Induction.{IsAlone, by_ands, kept_alone, dropped_alone, none_left, all_left}
use Rattle.vx_sql_plan.proofs.Kleene.{true_and, true_left, true_right, true_before, true_behind, as_truth, exchange, conjunction-append}
use Rattle.vx_fn.proofs.Kleene.{and_comm}

-- ---- which rows are selected

abbrev Selects : (BoundTree → Bool) → Datum → BoundTree → Type 0
Selects p v b = is_true (value b v) ≡ (list_all (λ c. is_true (value c v)) (filter p (conjuncts b)) && is_true (value_left (without p b) v))

list_all-append : (q : BoundTree → Bool) (xs ys : List BoundTree) → list_all q (xs ++ ys) ≡ (list_all q xs && list_all q ys)
list_all-append q [] ys = refl
list_all-append q (x ∷ xs) ys = ap (λ t. q x && t) (list_all-append q xs ys) ∙ regroup (q x) (list_all q xs) (list_all q ys) where
  regroup : (a b c : Bool) → (a && (b && c)) ≡ ((a && b) && c)
  regroup true b c = refl
  regroup false b c = refl

crossed : (a b c d : Bool) → ((a && b) && (c && d)) ≡ ((a && c) && (b && d))
crossed true true c d = refl
crossed true false true d = refl
crossed true false false d = refl
crossed false b c d = refl

alone_true : (a : Bool) → a ≡ ((a && true) && true)
alone_true true = refl
alone_true false = refl

true_left_of : (a b : Option BoundTree) (v : Datum) → is_true (value_left (conjoined a b) v) ≡ (is_true (value_left a v) && is_true (value_left b v))
true_left_of None b v = refl
true_left_of (Some l) None v = behind (is_true (value l v)) where
  behind : (a : Bool) → a ≡ (a && true)
  behind true = refl
  behind false = refl
true_left_of (Some l) (Some r) v = true_and (value l v) (value r v)

selects : (p : BoundTree → Bool) (v : Datum) (b : BoundTree) → Selects p v b
selects p v = by_ands (Selects p v) both alone where
  q : BoundTree → Bool
  q c = is_true (value c v)

  both : (t : LogicalType) (l r : BoundTree) → Selects p v l → Selects p v r → Selects p v (and_node t l r)
  both t l r h k =
      let cl = filter p (conjuncts l) in
      let cr = filter p (conjuncts r) in
      let whole = filter-append p (conjuncts l) (conjuncts r) in
      true_and (value l v) (value r v)
      ∙ ap (λ x. x && is_true (value r v)) h
      ∙ ap (λ x. (list_all (λ c. is_true (value c v)) cl && is_true (value_left (without p l) v)) && x) k
      ∙ crossed (list_all (λ c. is_true (value c v)) cl) (is_true (value_left (without p l) v)) (list_all (λ c. is_true (value c v)) cr) (is_true (value_left (without p r) v))
      ∙ ap (λ x. x && (is_true (value_left (without p l) v) && is_true (value_left (without p r) v))) (sym (list_all-append (λ c. is_true (value c v)) cl cr) ∙ ap (list_all (λ c. is_true (value c v))) (sym whole))
      ∙ ap (λ x. list_all (λ c. is_true (value c v)) (filter p (conjuncts l ++ conjuncts r)) && x) (sym (true_left_of (without p l) (without p r) v))

  alone : (b : BoundTree) → IsAlone b → Selects p v b
  alone b h = by (p b) refl where
    by : (t : Bool) → p b ≡ t → Selects p v b
    by true e =
        alone_true (is_true (value b v))
        ∙ ap (λ cs. list_all (λ c. is_true (value c v)) cs && true) (sym (kept_alone p b h e))
        ∙ ap (λ o. list_all (λ c. is_true (value c v)) (filter p (conjuncts b)) && is_true (value_left o v)) (sym (none_left p b h e))
    by false e =
        ap (λ cs. list_all (λ c. is_true (value c v)) cs && is_true (value b v)) (sym (dropped_alone p b h e))
        ∙ ap (λ o. list_all (λ c. is_true (value c v)) (filter p (conjuncts b)) && is_true (value_left o v)) (sym (all_left p b h e))

pub selects_alike : SelectsAlike
selects_alike d b v = selects (is_pushed d) v b

-- ---- the value

abbrev values_of : List BoundTree → Datum → List Datum
values_of bs v = map (λ c. value c v) bs

abbrev Means : (BoundTree → Bool) → Datum → BoundTree → Type 0
Means p v b = kleene_and (bool true) (value b v) ≡ kleene_and (conjunction (values_of (filter p (conjuncts b)) v)) (value_left (without p b) v)

value_left_of : (x : Datum) (a b : Option BoundTree) (v : Datum) → kleene_and x (value_left (conjoined a b) v) ≡ kleene_and x (kleene_and (value_left a v) (value_left b v))
value_left_of x None b v = sym (true_right x (value_left b v))
value_left_of x (Some l) None v = sym (true_right x (value l v)) ∙ ap (kleene_and x) (and_comm (bool true) (value l v))
value_left_of x (Some l) (Some r) v = refl

conjunction_of : (p : BoundTree → Bool) (xs ys : List BoundTree) (v : Datum)
    → conjunction (values_of (filter p (xs ++ ys)) v) ≡ kleene_and (conjunction (values_of (filter p xs) v)) (conjunction (values_of (filter p ys) v))
conjunction_of p xs ys v =
    ap (λ cs. conjunction (values_of cs v)) (filter-append p xs ys)
    ∙ ap conjunction (map-append (λ c. value c v) (filter p xs) (filter p ys))
    ∙ conjunction-append (values_of (filter p xs) v) (values_of (filter p ys) v)

means : (p : BoundTree → Bool) (v : Datum) (b : BoundTree) → Means p v b
means p v = by_ands (Means p v) both alone where
  both : (t : LogicalType) (l r : BoundTree) → Means p v l → Means p v r → Means p v (and_node t l r)
  both t l r h k =
      let a = value l v in
      let b = value r v in
      let pl = conjunction (values_of (filter p (conjuncts l)) v) in
      let pr = conjunction (values_of (filter p (conjuncts r)) v) in
      let rl = value_left (without p l) v in
      let rr = value_left (without p r) v in
      true_before a b
      ∙ sym (true_left a b) ∙ sym (true_right (kleene_and (bool true) a) b)
      ∙ ap (λ x. kleene_and x (kleene_and (bool true) b)) h
      ∙ ap (kleene_and (kleene_and pl rl)) k
      ∙ exchange pl rl pr rr
      ∙ ap (λ x. kleene_and x (kleene_and rl rr)) (sym (conjunction_of p (conjuncts l) (conjuncts r) v))
      ∙ sym (value_left_of (conjunction (values_of (filter p (conjuncts l ++ conjuncts r)) v)) (without p l) (without p r) v)

  alone : (b : BoundTree) → IsAlone b → Means p v b
  alone b h = by (p b) refl where
    by : (t : Bool) → p b ≡ t → Means p v b
    by true e =
        sym (true_behind (value b v))
        ∙ ap (λ cs. kleene_and (conjunction (values_of cs v)) (bool true)) (sym (kept_alone p b h e))
        ∙ ap (λ o. kleene_and (conjunction (values_of (filter p (conjuncts b)) v)) (value_left o v)) (sym (none_left p b h e))
    by false e =
        ap (λ cs. kleene_and (conjunction (values_of cs v)) (value b v)) (sym (dropped_alone p b h e))
        ∙ ap (λ o. kleene_and (conjunction (values_of (filter p (conjuncts b)) v)) (value_left o v)) (sym (all_left p b h e))

pub means_alike : MeansAlike
means_alike d b v f = sym (as_truth (value b v) f) ∙ means (is_pushed d) v b
