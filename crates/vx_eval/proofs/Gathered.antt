-- A set of elements, made from the first element on.
use Rattle.std.proofs.Common.{◌≡◌, ℕ, ◌+◌, ◌<◌, ◌≤◌, List, [], ◌∷◌, length, Result, subst, get_or, drop, drop-cons, drop_of_length-le, add-one, cond, refl, sym, ap, ◌∙◌, ◌||◌, Bool, true, false}
use Rattle.std.specs.Borrow.{Bor}
use Rattle.std.specs.HashSet.{HashSet, contains}
use Rattle.std.proofs.Math.ListN.{replicate}
use Rattle.std.proofs.lemmas.List.{get_or-replicate, length-replicate}
use Rattle.vx_dtype.specs.declared.error.VortexError.{VortexError}
use Rattle.vx_value.specs.declared.value.Value.{Value}
use Rattle.vx_value.specs.Types.{LogicalType, Datum, null}
use Rattle.vx_value.specs.Equality.{equal_datum}
use Rattle.vx_value.specs.Views.{value_of, data_view}
use Rattle.vx_fn.specs.Values as values
use Rattle.vx_fn.specs.Functions.{Function}
use Rattle.vx_eval.specs.declared.rows.Rows.{Rows}
use Rattle.vx_eval.specs.Columns.{Evaluates}
use Rattle.vx_eval.specs.Elements.{same_lent, HasElements}

turned : (e old rest : Bool) → (cond e true old || rest) ≡ (old || (e || rest))
turned true true rest = refl
turned true false rest = refl
turned false true rest = refl
turned false false rest = refl

or_false : (b : Bool) → (b || false) ≡ b
or_false true = refl
or_false false = refl

module _ {S : Type 0} where
  -- the elements before the i-th are in the set
  abbrev pub HasFirst : ℕ → HashSet (Bor Value) S → List Value → Type 0
  HasFirst i set items = (q : Bor Value) → (contains same_lent set q || values.has_element (data_view (drop i items)) (value_of q.now)) ≡ values.has_element (data_view items) (value_of q.now)

  pub one_more : (i : ℕ) (old new : HashSet (Bor Value) S) (items : List Value) (x : Value) → i < length items → x ≡ get_or items i x
      → ((q : Bor Value) → contains same_lent new q ≡ cond (equal_datum (value_of x) (value_of q.now)) true (contains same_lent old q)) → HasFirst i old items → HasFirst (i + 1) new items
  one_more i old new items x lt at put had q =
      let rest = values.has_element (data_view (drop (i + 1) items)) (value_of q.now) in
      let left : drop i items ≡ x ∷ drop (i + 1) items = rw (drop-cons items i x lt, ← at, add-one) in
      let told : values.has_element (data_view (drop i items)) (value_of q.now) ≡ (equal_datum (value_of x) (value_of q.now) || rest) = ap (λ l. values.has_element (data_view l) (value_of q.now)) left in
      ap (λ b. b || rest) (put q) ∙ turned (equal_datum (value_of x) (value_of q.now)) (contains same_lent old q) rest ∙ ap (λ b. contains same_lent old q || b) (sym told) ∙ had q

  pub all_in : (i : ℕ) (set : HashSet (Bor Value) S) (items : List Value) → length items ≤ i → HasFirst i set items → HasElements set (data_view items)
  all_in i set items all had q =
      let none : values.has_element (data_view (drop i items)) (value_of q.now) ≡ false = ap (λ l. values.has_element (data_view l) (value_of q.now)) (drop_of_length-le items all) in
      sym (or_false (contains same_lent set q)) ∙ ap (λ b. contains same_lent set q || b) (sym none) ∙ had q

-- one list in all rows
pub repeated_first : (f : Function) (ts : List LogicalType) (n m : ℕ) (x c : List Datum) (d : Datum) (r : Result Rows VortexError) → x ≡ replicate m d → length x ≡ n →
    Evaluates f ts n (replicate n d ∷ c ∷ []) r → Evaluates f ts n (x ∷ c ∷ []) r
repeated_first f ts n m x c d r is long h =
    let many : m ≡ n = sym (length-replicate m d) ∙ ap length (sym is) ∙ long in
    let same : replicate n d ≡ x = ap (λ k. replicate k d) (sym many) ∙ sym is in
    subst (λ y. Evaluates f ts n (y ∷ c ∷ []) r) same h

-- what is told of one list is told of it at each row
pub contained_at : (n i : ℕ) (list v d e : Datum) → i < n → list ≡ e → d ≡ values.contained e v → d ≡ values.contained (get_or (replicate n list) i null) v
contained_at n i list v d e lt same told = told ∙ ap (λ w. values.contained w v) (sym (get_or-replicate n i list null lt ∙ same))
