-- What is left has the other conjuncts, no other fault, and a type.
use Rattle.std.proofs.Common.{◌≡◌, Bool, true, false, not, ◌||◌, List, [], ◌∷◌, ◌++◌, Option, Some, None, refl, sym, ap, subst, ◌∙◌, filter, append-nil}
use Rattle.std.specs.List.{AllByRecursion}
use Rattle.std.proofs.lemmas.List.Elements.{filter-append}
use Rattle.vx_value.specs.Types.{LogicalType, Datum, is_nullable}
use Rattle.vx_fn.specs.Functions.{truth_type}
use Rattle.vx_tree.specs.Faults.{HasNoFault}
use Rattle.vx_tree.specs.Trees.{BoundTree, node_type, WellTyped, Over}
use Rattle.vx_rewrite_fusing.specs.Conjuncts.{and_node, conjoined, conjuncts, conjuncts_left}
use Rattle.vx_rewrite_fusing.proofs.Ands.{and_parts_of, and_typed, and_quiet, quiet_and}
use Rattle.vx_sql_plan.specs.Laws.{IfLeft, OthersAreLeft, NoOtherFault, StaysTyped, StaysOver}
use Rattle.vx_sql_plan.specs.Pushdown.{is_pushed, without}
use Rattle.vx_sql_plan.proofs.Induction.{IsAlone, by_ands, kept_alone, dropped_alone, none_left, all_left}

-- ---- conjuncts

conjuncts_of_both : (a b : Option BoundTree) → conjuncts_left (conjoined a b) ≡ conjuncts_left a ++ conjuncts_left b
conjuncts_of_both None b = refl
conjuncts_of_both (Some l) None = sym (append-nil (conjuncts l))
conjuncts_of_both (Some l) (Some r) = refl

abbrev Rest : (BoundTree → Bool) → BoundTree → Type 0
Rest p b = conjuncts_left (without p b) ≡ filter (λ c. not (p c)) (conjuncts b)

rest : (p : BoundTree → Bool) (b : BoundTree) → Rest p b
rest p = by_ands (Rest p) both alone where
  both : (t : LogicalType) (l r : BoundTree) → Rest p l → Rest p r → Rest p (and_node t l r)
  both t l r h k =
      conjuncts_of_both (without p l) (without p r)
      ∙ ap (λ x. x ++ conjuncts_left (without p r)) h
      ∙ ap (λ x. filter (λ c. not (p c)) (conjuncts l) ++ x) k
      ∙ sym (filter-append (λ c. not (p c)) (conjuncts l) (conjuncts r))

  alone : (b : BoundTree) → IsAlone b → Rest p b
  alone b h = by (p b) refl where
    by : (t : Bool) → p b ≡ t → Rest p b
    by true e = ap conjuncts_left (none_left p b h e) ∙ sym (dropped_alone (λ c. not (p c)) b h (ap not e))
    by false e = ap conjuncts_left (all_left p b h e) ∙ h.conjuncts ∙ sym (kept_alone (λ c. not (p c)) b h (ap not e))

pub others_left : OthersAreLeft
others_left d b = rest (is_pushed d) b

-- ---- faults

all-append : (P : BoundTree → Type 0) (xs ys : List BoundTree) → AllByRecursion P xs → AllByRecursion P ys → AllByRecursion P (xs ++ ys)
all-append P [] ys h k = k
all-append P (x ∷ xs) ys h k = (h.0, all-append P xs ys h.1 k)

quiet_both : (batch : List Datum) (a b : Option BoundTree) → IfLeft (λ r. HasNoFault r batch) a → IfLeft (λ r. HasNoFault r batch) b → IfLeft (λ r. HasNoFault r batch) (conjoined a b)
quiet_both batch None b h k = k
quiet_both batch (Some l) None h k = h
quiet_both batch (Some l) (Some r) h k = quiet_and (truth_type (is_nullable (node_type l) || is_nullable (node_type r))) l r batch h k

abbrev Quiet : (BoundTree → Bool) → List Datum → BoundTree → Type 0
Quiet p batch b = HasNoFault b batch → AllByRecursion (λ c. HasNoFault c batch) (filter p (conjuncts b)) × IfLeft (λ r. HasNoFault r batch) (without p b)

quiet : (p : BoundTree → Bool) (batch : List Datum) (b : BoundTree) → Quiet p batch b
quiet p batch = by_ands (Quiet p batch) both alone where
  both : (t : LogicalType) (l r : BoundTree) → Quiet p batch l → Quiet p batch r → Quiet p batch (and_node t l r)
  both t l r h k n =
      let q = and_quiet t l r batch n in
      let x = h q.0 in
      let y = k q.1 in (
        subst (AllByRecursion (λ c. HasNoFault c batch)) (sym (filter-append p (conjuncts l) (conjuncts r))) (all-append (λ c. HasNoFault c batch) (filter p (conjuncts l)) (filter p (conjuncts r)) x.0 y.0),
        quiet_both batch (without p l) (without p r) x.1 y.1,
      )

  alone : (b : BoundTree) → IsAlone b → Quiet p batch b
  alone b h n = by (p b) refl where
    by : (t : Bool) → p b ≡ t → AllByRecursion (λ c. HasNoFault c batch) (filter p (conjuncts b)) × IfLeft (λ r. HasNoFault r batch) (without p b)
    by true e = (
      subst (AllByRecursion (λ c. HasNoFault c batch)) (sym (kept_alone p b h e)) (n, tt),
      subst (IfLeft (λ r. HasNoFault r batch)) (sym (none_left p b h e)) tt,
    )
    by false e = (
      subst (AllByRecursion (λ c. HasNoFault c batch)) (sym (dropped_alone p b h e)) tt,
      subst (IfLeft (λ r. HasNoFault r batch)) (sym (all_left p b h e)) n,
    )

pub none_faults : NoOtherFault
none_faults d b batch n = quiet (is_pushed d) batch b n

-- ---- types

abbrev IsTruth : LogicalType → Type 0
IsTruth t = t ≡ truth_type (is_nullable t)

-- well typed, and a truth value
abbrev IsTypedTruth : BoundTree → Type 0
IsTypedTruth b = WellTyped b × IsTruth (node_type b)

typed_both : (a b : Option BoundTree) → IfLeft IsTypedTruth a → IfLeft IsTypedTruth b → IfLeft IsTypedTruth (conjoined a b)
typed_both None b h k = k
typed_both (Some l) None h k = h
typed_both (Some l) (Some r) h k = (and_typed l r h.0 k.0 h.1 k.1, refl)

abbrev StaysTruth : (BoundTree → Bool) → BoundTree → Type 0
StaysTruth p b = IsTypedTruth b → IfLeft IsTypedTruth (without p b)

stays_truth : (p : BoundTree → Bool) (b : BoundTree) → StaysTruth p b
stays_truth p = by_ands (StaysTruth p) both alone where
  both : (t : LogicalType) (l r : BoundTree) → StaysTruth p l → StaysTruth p r → StaysTruth p (and_node t l r)
  both t l r h k (w, e) =
      let parts = and_parts_of t l r w in typed_both (without p l) (without p r) (h (parts.left, parts.left_truth)) (k (parts.right, parts.right_truth))

  alone : (b : BoundTree) → IsAlone b → StaysTruth p b
  alone b h w = by (p b) refl where
    by : (t : Bool) → p b ≡ t → IfLeft IsTypedTruth (without p b)
    by true e = subst (IfLeft IsTypedTruth) (sym (none_left p b h e)) tt
    by false e = subst (IfLeft IsTypedTruth) (sym (all_left p b h e)) w

weaker : (o : Option BoundTree) → IfLeft IsTypedTruth o → IfLeft WellTyped o
weaker None h = tt
weaker (Some r) h = h.0

abbrev Stays : (BoundTree → Bool) → BoundTree → Type 0
Stays p b = WellTyped b → IfLeft WellTyped (without p b)

stays : (p : BoundTree → Bool) (b : BoundTree) → Stays p b
stays p = by_ands (Stays p) both alone where
  both : (t : LogicalType) (l r : BoundTree) → Stays p l → Stays p r → Stays p (and_node t l r)
  both t l r h k w =
      let parts = and_parts_of t l r w in weaker (without p (and_node t l r)) (stays_truth p (and_node t l r) (w, ap (λ u. u) parts.type ∙ ap truth_type (ap is_nullable (sym parts.type))))

  alone : (b : BoundTree) → IsAlone b → Stays p b
  alone b h w = by (p b) refl where
    by : (t : Bool) → p b ≡ t → IfLeft WellTyped (without p b)
    by true e = subst (IfLeft WellTyped) (sym (none_left p b h e)) tt
    by false e = subst (IfLeft WellTyped) (sym (all_left p b h e)) w

pub typed_stays : StaysTyped
typed_stays d b w = stays (is_pushed d) b w

-- ---- the scope

over_both : (s : LogicalType) (a b : Option BoundTree) → IfLeft (λ r. Over r s) a → IfLeft (λ r. Over r s) b → IfLeft (λ r. Over r s) (conjoined a b)
over_both s None b h k = k
over_both s (Some l) None h k = h
over_both s (Some l) (Some r) h k = (h, (k, tt))

abbrev StaysIn : (BoundTree → Bool) → LogicalType → BoundTree → Type 0
StaysIn p s b = Over b s → IfLeft (λ r. Over r s) (without p b)

stays_in : (p : BoundTree → Bool) (s : LogicalType) (b : BoundTree) → StaysIn p s b
stays_in p s = by_ands (StaysIn p s) both alone where
  both : (t : LogicalType) (l r : BoundTree) → StaysIn p s l → StaysIn p s r → StaysIn p s (and_node t l r)
  both t l r h k o = over_both s (without p l) (without p r) (h o.0) (k o.1.0)

  alone : (b : BoundTree) → IsAlone b → StaysIn p s b
  alone b h o = by (p b) refl where
    by : (t : Bool) → p b ≡ t → IfLeft (λ r. Over r s) (without p b)
    by true e = subst (IfLeft (λ r. Over r s)) (sym (none_left p b h e)) tt
    by false e = subst (IfLeft (λ r. Over r s)) (sym (all_left p b h e)) o

pub over_stays : StaysOver
over_stays d b s o = stays_in (is_pushed d) s b o
