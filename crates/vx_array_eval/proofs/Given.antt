-- What functions give that have a fast way.
use Rattle.std.proofs.Common.{◌≡◌, ℕ, ◌<◌, List, [], ◌∷◌, suc, length, get_or, refl, sym, ap, ◌∙◌, arith, map, Ok, Err, Result, Option, Some, None, Bool, true, false, rules}
use Rattle.std.proofs.Math.ListN.{replicate}
use Rattle.std.specs.List.{list_any}
use Rattle.std.proofs.lemmas.List.{get_or-replicate, length-replicate}
use Rattle.std.proofs.lemmas.List.FromFn.{get_or-map-range_with_len}
use Rattle.vx_dtype.specs.declared.dtype.PType.{PType}
use Rattle.vx_dtype.specs.declared.float_type.FloatType.{FloatType}
use Rattle.vx_dtype.specs.declared.dtype.DType.{DType, the_lemmas as the_types}
use Rattle.vx_dtype.specs.declared.dtype.Nullability.{Nullability}
use Rattle.vx_value.specs.StructColumns.{struct_rows}
use Rattle.vx_value.specs.Types.{Name, LogicalType, ty, Shape, atomic, number, floating, Datum, null, is_null_datum}
use Rattle.vx_value.specs.Views.{admits_null, type_of}
use Rattle.vx_fn.specs.Faults.{differs, has_fault, is_bad_fill, some_differ}
use Rattle.vx_floats.specs.declared.arithmetic.Arithmetic.{Arithmetic}
use Rattle.vx_fn.specs.Functions.{Function, Operation, compares, and_also, or_else, computes, binary, between, case_when, fill_null, like, literal, logical_not, is_atomic, is_null, is_not_null, mask, pack, zip, starts_with, byte_length, list_contains}
use Rattle.vx_fn.specs.Values.{begun, bound_comparison, compared, contained, counted_bytes, kleene_and, kleene_or, kleene_not, liked, computed}
use Rattle.vx_fn.specs.Views.{function_of}
use Rattle.vx_array_loops.specs.declared.comparison.Comparison.{Comparison as Asked}
use Rattle.vx_array.specs.declared.lanes.Lanes.{Lanes}
use Rattle.vx_array.specs.Rows.{lanes_rows, lanes_each}
use Rattle.vx_array_kernels.specs.Asked.{asked}
use Rattle.vx_array_kernels.specs.Choices.{case_rows, chosen_rows, filled_rows, masked_rows}
use Rattle.vx_array_kernels.specs.Found.{Finds}
use Rattle.vx_array_kernels.specs.Results.{FindsResults}
use Rattle.vx_array_kernels.specs.declared.pair.Pair.{Pair}
use Rattle.vx_array_kernels.specs.Truths.{both_rows, null_told, value_told}
use Rattle.vx_eval.specs.Columns.{rows_of, node_answer}
use Rattle.vx_eval.proofs.Filled.{each_same, given, each_of, same_rows}
use Rattle.vx_eval.proofs.FirstRows.{arithmetic_quiet, fill_quiet, none_any, none_differ}
use Rattle.vx_array_eval.specs.declared.node.Node.{Node}
use Rattle.vx_array_eval.specs.Nodes.{FindsAnswer, answer_of, types_of}

-- a literal
pub literal_given : (t : LogicalType) (v : Datum) (ts : List LogicalType) (n : ℕ) (cs : List (List Datum)) (rows : List Datum) → rows ≡ replicate n v → node_answer (literal t v) ts (rows_of n cs) ≡ Ok rows
literal_given t v ts n cs rows is = given (literal t v) ts n cs rows refl (is ∙ sym (same_rows v n))

-- structs of the children's rows
pub pack_given : (names : List Name) (b : Bool) (ts : List LogicalType) (n : ℕ) (cs : List (List Datum)) (rows : List Datum) → rows ≡ struct_rows n cs → node_answer (pack names b) ts (rows_of n cs) ≡ Ok rows
pack_given names b ts n cs rows is = given (pack names b) ts n cs rows refl is

-- And, Or and the six comparisons
pub and_given : (op : Operation) (ts : List LogicalType) (n : ℕ) (l r rows : List Datum) → op ≡ and_also → rows ≡ both_rows n kleene_and l r → node_answer (binary op) ts (rows_of n (l ∷ r ∷ [])) ≡ Ok rows
and_given op ts n l r rows of is = rw of (given (binary and_also) ts n (l ∷ r ∷ []) rows refl is)

pub or_given : (op : Operation) (ts : List LogicalType) (n : ℕ) (l r rows : List Datum) → op ≡ or_else → rows ≡ both_rows n kleene_or l r → node_answer (binary op) ts (rows_of n (l ∷ r ∷ [])) ≡ Ok rows
or_given op ts n l r rows of is = rw of (given (binary or_else) ts n (l ∷ r ∷ []) rows refl is)

pub compared_given : (op : Operation) (c : Asked) (ts : List LogicalType) (n : ℕ) (l r rows : List Datum) → op ≡ compares (asked c) → rows ≡ both_rows n (compared (asked c)) l r → node_answer (binary op) ts (rows_of n (l ∷ r ∷ [])) ≡ Ok rows
compared_given op c ts n l r rows of is = rw of (given (binary (compares (asked c))) ts n (l ∷ r ∷ []) rows refl is)

-- a test by two bounds
pub between_given : (a b : Bool) (lower upper : Asked) (ts : List LogicalType) (n : ℕ) (vs ls us above below rows : List Datum) → asked lower ≡ bound_comparison a → asked upper ≡ bound_comparison b → above ≡ both_rows n (compared (asked lower)) ls vs → below ≡ both_rows n (compared (asked upper)) vs us → rows ≡ both_rows n kleene_and above below →
    node_answer (between a b) ts (rows_of n (vs ∷ ls ∷ us ∷ [])) ≡ Ok rows
between_given a b lower upper ts n vs ls us above below rows first second left right is =
    given (between a b) ts n (vs ∷ ls ∷ us ∷ []) rows refl
    (is ∙ each_same n (λ k. kleene_and (get_or above k null) (get_or below k null)) (λ k. kleene_and (compared (bound_comparison a) (get_or ls k null) (get_or vs k null)) (compared (bound_comparison b) (get_or vs k null) (get_or us k null)))
    (λ k lt.
    ap (λ d. kleene_and d (get_or below k null)) (at (compared (asked lower)) ls vs above left k lt ∙ ap (λ c. compared c (get_or ls k null) (get_or vs k null)) first)
    ∙ ap (kleene_and (compared (bound_comparison a) (get_or ls k null) (get_or vs k null))) (at (compared (asked upper)) vs us below right k lt ∙ ap (λ c. compared c (get_or vs k null) (get_or us k null)) second)))
  where
    at : (f : Datum → Datum → Datum) (xs ys out : List Datum) → out ≡ both_rows n f xs ys → (k : ℕ) → k < n → get_or out k null ≡ f (get_or xs k null) (get_or ys k null)
    at f xs ys out made k lt = ap (λ l. get_or l k null) made ∙ get_or-map-range_with_len (λ k. f (get_or xs k null) (get_or ys k null)) 0 n k k null lt (omega arith)

-- whether texts are like patterns
pub like_given : (negated ci : Bool) (ts : List LogicalType) (n : ℕ) (l r rows : List Datum) → rows ≡ both_rows n (liked negated ci) l r → node_answer (like negated ci) ts (rows_of n (l ∷ r ∷ [])) ≡ Ok rows
like_given negated ci ts n l r rows is = given (like negated ci) ts n (l ∷ r ∷ []) rows refl is

-- whether texts begin with others
pub begun_given : (ts : List LogicalType) (n : ℕ) (l r rows : List Datum) → rows ≡ both_rows n begun l r → node_answer starts_with ts (rows_of n (l ∷ r ∷ [])) ≡ Ok rows
begun_given ts n l r rows is = given starts_with ts n (l ∷ r ∷ []) rows refl is

-- whether values are among the elements of lists
pub contained_given : (ts : List LogicalType) (n : ℕ) (l r rows : List Datum) → rows ≡ both_rows n contained l r → node_answer list_contains ts (rows_of n (l ∷ r ∷ [])) ≡ Ok rows
contained_given ts n l r rows is = given list_contains ts n (l ∷ r ∷ []) rows refl is

-- choices
pub case_given : (pairs : ℕ) (has_else : Bool) (ts : List LogicalType) (n : ℕ) (cs : List (List Datum)) (rows : List Datum) → rows ≡ case_rows n cs → node_answer (case_when pairs has_else) ts (rows_of n cs) ≡ Ok rows
case_given pairs has_else ts n cs rows is = given (case_when pairs has_else) ts n cs rows refl is

pub zip_given : (ts : List LogicalType) (n : ℕ) (v w m rows : List Datum) → rows ≡ chosen_rows n m v w → node_answer zip ts (rows_of n (v ∷ w ∷ m ∷ [])) ≡ Ok rows
zip_given ts n v w m rows is = given zip ts n (v ∷ w ∷ m ∷ []) rows refl is

pub mask_given : (ts : List LogicalType) (n : ℕ) (v m rows : List Datum) → rows ≡ masked_rows n v m → node_answer mask ts (rows_of n (v ∷ m ∷ [])) ≡ Ok rows
mask_given ts n v m rows is = given mask ts n (v ∷ m ∷ []) rows refl is

-- arithmetic without a fault
pub computed_given : (a : Arithmetic) (s : Shape) (m : Bool) (ts : List LogicalType) (n : ℕ) (l r rows : List Datum) → rows ≡ both_rows n (computed a) l r → ((m : Bool) (k : ℕ) → k < n → has_fault a (ty s m ∷ []) (get_or l k null ∷ get_or r k null ∷ []) ≡ false) →
    node_answer (binary (computes a)) (ty s m ∷ ts) (rows_of n (l ∷ r ∷ [])) ≡ Ok rows
computed_given a s m ts n l r rows is quiet = given (binary (computes a)) (ty s m ∷ ts) n (l ∷ r ∷ []) rows (arithmetic_quiet a (ty s m) ts n l r (quiet m)) is

-- one value in place of the nulls
pub fill_given : (t : LogicalType) (ts : List LogicalType) (n m : ℕ) (x f rows : List Datum) (d : Datum) → is_atomic t ≡ true → f ≡ replicate m d → length f ≡ n → is_null_datum d ≡ false → differs d d ≡ false → rows ≡ filled_rows n x f →
    node_answer fill_null (t ∷ ts) (rows_of n (x ∷ f ∷ [])) ≡ Ok rows
fill_given t ts n m x f rows d filled one long some same is = given fill_null (t ∷ ts) n (x ∷ f ∷ []) rows (fill_quiet (t ∷ ts) n x f long good) is
  where
    at : (k : ℕ) → k < length f → get_or f k null ≡ d
    at k lt = ap (λ l. get_or l k null) one ∙ get_or-replicate m k d null (omega (arith, ap length one, length-replicate m d))

    no_null : list_any is_null_datum f ≡ false
    no_null = none_any is_null_datum null f (λ k lt. ap is_null_datum (at k lt) ∙ some)

    alike : some_differ f ≡ false
    alike = none_differ f (λ k lt. ap (λ v. differs v (get_or f (suc k) null)) (at 0 (omega arith)) ∙ ap (differs d) (at (suc k) lt) ∙ same)

    good : is_bad_fill (t ∷ ts) f ≡ false
    good = rw (filled, no_null, alike) refl

-- functions of one child
pub not_given : (ts : List LogicalType) (n : ℕ) (c rows : List Datum) → length c ≡ n → rows ≡ map kleene_not c → node_answer logical_not ts (rows_of n (c ∷ [])) ≡ Ok rows
not_given ts n c rows long is = given logical_not ts n (c ∷ []) rows refl (is ∙ sym (each_of kleene_not c n long))

pub null_given : (ts : List LogicalType) (n : ℕ) (c rows : List Datum) → length c ≡ n → rows ≡ map null_told c → node_answer is_null ts (rows_of n (c ∷ [])) ≡ Ok rows
null_given ts n c rows long is = given is_null ts n (c ∷ []) rows refl (is ∙ sym (each_of null_told c n long))

pub value_given : (ts : List LogicalType) (n : ℕ) (c rows : List Datum) → length c ≡ n → rows ≡ map value_told c → node_answer is_not_null ts (rows_of n (c ∷ [])) ≡ Ok rows
value_given ts n c rows long is = given is_not_null ts n (c ∷ []) rows refl (is ∙ sym (each_of value_told c n long))

pub length_given : (ts : List LogicalType) (n : ℕ) (c rows : List Datum) → length c ≡ n → rows ≡ map counted_bytes c → node_answer byte_length ts (rows_of n (c ∷ [])) ≡ Ok rows
length_given ts n c rows long is = given byte_length ts n (c ∷ []) rows refl (is ∙ sym (each_of counted_bytes c n long))

-- the same of a node whose function and columns are known by equations
pub at_node : (node : Node) (g : Function) (cs : List (List Datum)) (n : ℕ) (rows : List Datum) → function_of node.function.now ≡ g → lanes_each node.below.now ≡ cs → n ≡ node.count → node_answer g (types_of node) (rows_of n cs) ≡ Ok rows → answer_of node ≡ Ok rows
at_node node g cs n rows of are counted is =
    ap (λ f. node_answer f (types_of node) (rows_of node.count (lanes_each node.below.now))) of ∙ ap (λ c. node_answer g (types_of node) (rows_of node.count c)) are ∙ ap (λ k. node_answer g (types_of node) (rows_of k cs)) (sym counted) ∙ is

-- ---- lists of one, of two and of three

pub one_of : (below : List Lanes) (x : Lanes) → length below ≡ 1 → x ≡ get_or below 0 x → lanes_each below ≡ lanes_rows x ∷ []
one_of [] x long is = absurd (omega arith)
one_of (y ∷ []) x long is = ap (λ z. lanes_rows z ∷ []) (sym is)
one_of (y ∷ z ∷ xs) x long is = absurd (omega arith)

pub two_of : (below : List Lanes) (x y : Lanes) → length below ≡ 2 → x ≡ get_or below 0 x → y ≡ get_or below 1 y → lanes_each below ≡ lanes_rows x ∷ lanes_rows y ∷ []
two_of [] x y long is at = absurd (omega arith)
two_of (a ∷ []) x y long is at = absurd (omega arith)
two_of (a ∷ b ∷ []) x y long is at = ap (λ z. lanes_rows z ∷ lanes_rows b ∷ []) (sym is) ∙ ap (λ z. lanes_rows x ∷ lanes_rows z ∷ []) (sym at)
two_of (a ∷ b ∷ c ∷ xs) x y long is at = absurd (omega arith)

pub three_of : (below : List Lanes) (x y z : Lanes) → length below ≡ 3 → x ≡ get_or below 0 x → y ≡ get_or below 1 y → z ≡ get_or below 2 z → lanes_each below ≡ lanes_rows x ∷ lanes_rows y ∷ lanes_rows z ∷ []
three_of [] x y z long is at third = absurd (omega arith)
three_of (a ∷ []) x y z long is at third = absurd (omega arith)
three_of (a ∷ b ∷ []) x y z long is at third = absurd (omega arith)
three_of (a ∷ b ∷ c ∷ []) x y z long is at third =
    ap (λ w. lanes_rows w ∷ lanes_rows b ∷ lanes_rows c ∷ []) (sym is) ∙ ap (λ w. lanes_rows x ∷ lanes_rows w ∷ lanes_rows c ∷ []) (sym at) ∙ ap (λ w. lanes_rows x ∷ lanes_rows y ∷ lanes_rows w ∷ []) (sym third)
three_of (a ∷ b ∷ c ∷ d ∷ xs) x y z long is at third = absurd (omega arith)

-- the type of numbers
pub number_typed : (p : PType) (n : Nullability) → type_of (DType.Primitive p n) ≡ ty (atomic (number p)) (admits_null n)
number_typed p n = search (rules, the_types)

-- the type of floating-point numbers
pub float_typed : (f : FloatType) (n : Nullability) → type_of (DType.Float f n) ≡ ty (atomic (floating f)) (admits_null n)
float_typed f n = search (rules, the_types)

-- results that are found
pub results_found : {E : Type 0} (node : Node) (pair : Pair) (a : Arithmetic) (s : Shape) (m : Bool) (ts : List LogicalType) (r : Result (Option Lanes) E) → function_of node.function.now ≡ binary (computes a) → lanes_each node.below.now ≡ lanes_rows pair.lhs.now ∷ lanes_rows pair.rhs.now ∷ [] → pair.count ≡ node.count →
    types_of node ≡ ty s m ∷ ts → FindsResults a s pair r → FindsAnswer node r
results_found node pair a s m ts (Ok (Some out)) of two counted typed found =
    at_node node (binary (computes a)) (lanes_rows pair.lhs.now ∷ lanes_rows pair.rhs.now ∷ []) pair.count (lanes_rows out) of two counted
    (ap (λ us. node_answer (binary (computes a)) us (rows_of pair.count (lanes_rows pair.lhs.now ∷ lanes_rows pair.rhs.now ∷ []))) typed ∙ computed_given a s m ts pair.count (lanes_rows pair.lhs.now) (lanes_rows pair.rhs.now) (lanes_rows out) found.0 found.1)
results_found node pair a s m ts (Ok None) of two counted typed found = tt
results_found node pair a s m ts (Err e) of two counted typed found = tt

-- the value of one in all rows that are filled in
pub fill_found : {E : Type 0} (node : Node) (pair : Pair) (t : LogicalType) (ts : List LogicalType) (k : ℕ) (d : Datum) (r : Result (Option Lanes) E) → function_of node.function.now ≡ fill_null → lanes_each node.below.now ≡ lanes_rows pair.lhs.now ∷ lanes_rows pair.rhs.now ∷ [] →
    pair.count ≡ node.count → types_of node ≡ t ∷ ts → is_atomic t ≡ true → lanes_rows pair.rhs.now ≡ replicate k d → length (lanes_rows pair.rhs.now) ≡ pair.count → (is_null_datum d ≡ false) × (differs d d ≡ false) →
    Finds (filled_rows pair.count (lanes_rows pair.lhs.now) (lanes_rows pair.rhs.now)) r → FindsAnswer node r
fill_found node pair t ts k d (Ok (Some out)) of two counted typed filled one long good found =
    at_node node fill_null (lanes_rows pair.lhs.now ∷ lanes_rows pair.rhs.now ∷ []) pair.count (lanes_rows out) of two counted
    (ap (λ us. node_answer fill_null us (rows_of pair.count (lanes_rows pair.lhs.now ∷ lanes_rows pair.rhs.now ∷ []))) typed
    ∙ fill_given t ts pair.count k (lanes_rows pair.lhs.now) (lanes_rows pair.rhs.now) (lanes_rows out) d filled one long good.0 good.1 found)
fill_found node pair t ts k d (Ok None) of two counted typed filled one long good found = tt
fill_found node pair t ts k d (Err e) of two counted typed filled one long good found = tt
