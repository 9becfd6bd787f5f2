-- Scaffolding, as for types: proofs that the tests of `Equality` decide `≡`, and that what is equal is hashed alike, which laws cite.
use Rattle.std.specs.Prelude.{◌≡◌, ◌==◌, List, refl}
use Rattle.std.specs.Bool.{Decides}
use Rattle.std.specs.Cmp.{IsEquivalence, booleans_Decides}
use Rattle.std.specs.Hash.{Alike, same_Alike}
use Rattle.std.proofs.Common.{ap, sym}
use Rattle.std.proofs.lemmas.Slice.Eq.{bytes_eq-Decides, slice_eq-Decides}
use Rattle.std.proofs.lemmas.Bool.Decides.{Decides-eqb, Decides-and, Decides-like}
use Rattle.vx_value.specs.Deciding.{apart, itself, equivalence_of, equal_type-Decides, equal_datum-Decides}
use Rattle.vx_floats.specs.declared.arithmetic.Arithmetic.{Arithmetic}
use Rattle.vx_floats.specs.declared.arithmetic.Arithmetic.TheVariants.{Sum, Difference, Product, Quotient, Remainder}
use Rattle.vx_value.specs.Types.{Name}
use Rattle.vx_fn.specs.declared.options.FieldSelection.{FieldSelection}
use Rattle.vx_fn.specs.declared.options.FieldSelection.TheVariants.{Include, Exclude}
use Rattle.vx_fn.specs.Equality.{operation_index, equal_names, equal_selection, equal_function, function_fed}
use Rattle.vx_fn.specs.Functions.{Comparison, equal, not_equal, greater, greater_or_equal, less, less_or_equal, Operation, compares, and_also, or_else, computes, Function, case_when, get_item, literal, pack, select, fill_null, zip, binary, logical_not, between, like, is_null, is_not_null, mask, cast, starts_with, byte_length, list_contains}

-- comparisons of one place are one
comparison_inj : (c d : Comparison) → operation_index (compares c) ≡ operation_index (compares d) → c ≡ d
comparison_inj equal equal e = refl
comparison_inj not_equal not_equal e = refl
comparison_inj greater greater e = refl
comparison_inj greater_or_equal greater_or_equal e = refl
comparison_inj less less e = refl
comparison_inj less_or_equal less_or_equal e = refl
comparison_inj _ _ e = cc

-- so is arithmetic of one place
arithmetic_inj : (a b : Arithmetic) → operation_index (computes a) ≡ operation_index (computes b) → a ≡ b
arithmetic_inj Sum Sum e = refl
arithmetic_inj Difference Difference e = refl
arithmetic_inj Product Product e = refl
arithmetic_inj Quotient Quotient e = refl
arithmetic_inj Remainder Remainder e = refl
arithmetic_inj _ _ e = cc

-- a comparison and arithmetic have other places
kinds_apart : (a : Arithmetic) (c : Comparison) → operation_index (compares c) ≡ operation_index (computes a) → ⊥
kinds_apart Sum equal e = cc
kinds_apart Difference equal e = cc
kinds_apart Product equal e = cc
kinds_apart Quotient equal e = cc
kinds_apart Remainder equal e = cc
kinds_apart _ _ e = cc

-- operations of one place are one
operation_inj : (c d : Operation) → operation_index c ≡ operation_index d → c ≡ d
operation_inj (compares c) (compares d) e = ap compares (comparison_inj c d e)
operation_inj (computes a) (computes b) e = ap computes (arithmetic_inj a b e)
operation_inj and_also and_also e = refl
operation_inj or_else or_else e = refl
operation_inj (compares c) (computes a) e = absurd (kinds_apart a c e)
operation_inj (computes a) (compares c) e = absurd (kinds_apart a c (sym e))
operation_inj (compares equal) _ e = cc
operation_inj (compares not_equal) _ e = cc
operation_inj (compares greater) _ e = cc
operation_inj (compares greater_or_equal) _ e = cc
operation_inj (compares less) _ e = cc
operation_inj (compares less_or_equal) _ e = cc
operation_inj _ (compares equal) e = cc
operation_inj _ (compares not_equal) e = cc
operation_inj _ (compares greater) e = cc
operation_inj _ (compares greater_or_equal) e = cc
operation_inj _ (compares less) e = cc
operation_inj _ (compares less_or_equal) e = cc
operation_inj (computes Sum) _ e = cc
operation_inj (computes Difference) _ e = cc
operation_inj (computes Product) _ e = cc
operation_inj (computes Quotient) _ e = cc
operation_inj (computes Remainder) _ e = cc
operation_inj _ (computes Sum) e = cc
operation_inj _ (computes Difference) e = cc
operation_inj _ (computes Product) e = cc
operation_inj _ (computes Quotient) e = cc
operation_inj _ (computes Remainder) e = cc
operation_inj _ _ e = cc

-- the test of places decides `≡` of operations
pub operation-Decides : (c d : Operation) → Decides (operation_index c == operation_index d) (c ≡ d)
operation-Decides c d = Decides-like _ (operation_inj c d) (λ e. ap operation_index e) (Decides-eqb _ _)

-- it decides `≡` of lists of names
pub equal_names-Decides : (ns ms : List Name) → Decides (equal_names ns ms) (ns ≡ ms)
equal_names-Decides ns ms = slice_eq-Decides bytes_eq-Decides ns ms _ refl

-- it decides `≡` of selections
pub equal_selection-Decides : (s r : FieldSelection) → Decides (equal_selection s r) (s ≡ r)
equal_selection-Decides (Include ns) (Include ms) = Decides-like _ (λ e. ap Include e) (λ e. cc) (equal_names-Decides ns ms)
equal_selection-Decides (Exclude ns) (Exclude ms) = Decides-like _ (λ e. ap Exclude e) (λ e. cc) (equal_names-Decides ns ms)
equal_selection-Decides _ _ = apart (λ e. cc)

-- it decides `≡` of functions
pub equal_function-Decides : (f g : Function) → Decides (equal_function f g) (f ≡ g)
equal_function-Decides (case_when k e) (case_when l f) = Decides-like _ (λ p. cc) (λ p. (cc, cc)) (Decides-and _ _ (Decides-eqb k l) (booleans_Decides e f))
equal_function-Decides (get_item a) (get_item b) = Decides-like _ (λ p. ap get_item p) (λ p. cc) (bytes_eq-Decides a b)
equal_function-Decides (literal t v) (literal u w) = Decides-like _ (λ p. cc) (λ p. (cc, cc)) (Decides-and _ _ (equal_type-Decides t u) (equal_datum-Decides v w))
equal_function-Decides (pack ns n) (pack ms m) = Decides-like _ (λ p. cc) (λ p. (cc, cc)) (Decides-and _ _ (equal_names-Decides ns ms) (booleans_Decides n m))
equal_function-Decides (select s) (select r) = Decides-like _ (λ p. ap select p) (λ p. cc) (equal_selection-Decides s r)
equal_function-Decides fill_null fill_null = itself
equal_function-Decides zip zip = itself
equal_function-Decides (binary c) (binary d) = Decides-like _ (λ p. ap binary p) (λ p. cc) (operation-Decides c d)
equal_function-Decides logical_not logical_not = itself
equal_function-Decides (between k l) (between m n) = Decides-like _ (λ p. cc) (λ p. (cc, cc)) (Decides-and _ _ (booleans_Decides k m) (booleans_Decides l n))
equal_function-Decides (like k l) (like m n) = Decides-like _ (λ p. cc) (λ p. (cc, cc)) (Decides-and _ _ (booleans_Decides k m) (booleans_Decides l n))
equal_function-Decides is_null is_null = itself
equal_function-Decides is_not_null is_not_null = itself
equal_function-Decides mask mask = itself
equal_function-Decides (cast t) (cast u) = Decides-like _ (λ p. ap cast p) (λ p. cc) (equal_type-Decides t u)
equal_function-Decides starts_with starts_with = itself
equal_function-Decides byte_length byte_length = itself
equal_function-Decides list_contains list_contains = itself
equal_function-Decides _ _ = apart (λ p. cc)

-- so it is an equivalence
pub equal_function_equiv : IsEquivalence equal_function
equal_function_equiv = equivalence_of equal_function-Decides

-- equal functions feed the same
pub function_alike : Alike equal_function function_fed
function_alike = same_Alike function_fed equal_function-Decides
