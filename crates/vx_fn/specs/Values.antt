-- The value of a function node at one row, from its children's values.
use Rattle.std.specs.Prelude.{◌≡◌, ◌++◌, ℕ, Bool, true, false, ◌&&◌, ◌||◌, ◌==◌, not, List, [], ◌∷◌, Some, None, ℤ, pos, length, nat_eq, ◌^◌, ◌-◌, min, ◌+ℤ◌, ◌-ℤ◌, ◌*ℤ◌, int_div, int_rem, if◌then◌else◌, map, chars}
use Rattle.std.specs.declared.cmp.Ordering.{Ordering}
use Rattle.std.specs.declared.cmp.Ordering.TheVariants.{Equal}
use Rattle.std.specs.Ordering.{is_lt, is_le, is_gt, is_ge, is_eq, is_ne, nat_cmp, int_cmp, bool_cmp}
use Rattle.std.specs.Char.{to_ascii_lowercase}
use Rattle.std.specs.List as lists
use Rattle.std.specs.Cmp.Lexicographic.{slice_cmp}
use Rattle.vx_floats.specs.Floats.{float_order, float_result}
use Rattle.vx_floats.specs.declared.arithmetic.Arithmetic.{Arithmetic}
use Rattle.vx_floats.specs.declared.arithmetic.Arithmetic.TheVariants.{Sum, Difference, Product, Quotient, Remainder}
use Rattle.vx_value.specs.Types.{Name, LogicalType, ty, struct, Datum, null, bool, int, float, utf8, bytes, list_of, struct_of, Data, no_datum, datum, is_null_datum}
use Rattle.vx_value.specs.Equality.{equal_datum}
use Rattle.vx_value.specs.Fields.{field_value, project_values, data_of}
use Rattle.vx_fn.specs.Functions.{Function, case_when, get_item, literal, pack, select, fill_null, zip, binary, logical_not, between, like, is_null, is_not_null, mask, cast, starts_with, byte_length, list_contains, Operation, compares, and_also, or_else, computes, Comparison, equal, not_equal, greater, greater_or_equal, less, less_or_equal, included}
use Rattle.vx_fn.specs.declared.options.FieldSelection.{FieldSelection}

-- whether the value is true
abbrev pub is_true : Datum → Bool
is_true (bool b) = b
is_true _ = false

-- whether the value is false
abbrev pub is_false : Datum → Bool
is_false (bool b) = not b
is_false _ = false

-- ---- Kleene's tables, and orders

-- false where one is false, true where both are true, else null
abbrev pub kleene_and : Datum → Datum → Datum
kleene_and v w = if is_false v || is_false w then bool false else if is_true v && is_true w then bool true else null

-- true where one is true, false where both are false, else null
abbrev pub kleene_or : Datum → Datum → Datum
kleene_or v w = if is_true v || is_true w then bool true else if is_false v && is_false w then bool false else null

-- the other truth value, or null
abbrev pub kleene_not : Datum → Datum
kleene_not (bool b) = bool (not b)
kleene_not _ = null

-- false before true, whole numbers by number, floating-point numbers by IEEE 754's total order, texts and bytes by their bytes
abbrev pub order : Datum → Datum → Ordering
order (bool a) (bool b) = bool_cmp a b
order (int i) (int j) = int_cmp i j
order (float x) (float y) = float_order x y
order (utf8 s) (utf8 t) = slice_cmp nat_cmp s t
order (bytes s) (bytes t) = slice_cmp nat_cmp s t
order _ _ = Equal

-- whether the comparison holds of operands in that order
abbrev pub agrees : Comparison → Ordering → Bool
agrees equal = is_eq
agrees not_equal = is_ne
agrees greater = is_gt
agrees greater_or_equal = is_ge
agrees less = is_lt
agrees less_or_equal = is_le

-- null with a null operand, else whether the comparison holds
abbrev pub compared : Comparison → Datum → Datum → Datum
compared c v w = if is_null_datum v || is_null_datum w then null else bool (agrees c (order v w))

-- the comparison of a bound, strict or not
abbrev pub bound_comparison : Bool → Comparison
bound_comparison strict = if strict then less else less_or_equal

-- the arithmetic on whole numbers: the quotient is cut towards zero, and the remainder has the sign of the first. What both are by zero
-- no row shows, since it faults
abbrev pub whole_result : Arithmetic → ℤ → ℤ → ℤ
whole_result Sum i j = i +ℤ j
whole_result Difference i j = i -ℤ j
whole_result Product i j = i *ℤ j
whole_result Quotient i j = int_div i j
whole_result Remainder i j = int_rem i j

-- what is computed of two numbers, or null
abbrev pub computed : Arithmetic → Datum → Datum → Datum
computed a (int i) (int j) = int (whole_result a i j)
computed a (float x) (float y) = elim (float_result a x y) [ Some z ↦ float z | None ↦ null ]
computed a _ _ = null

-- ---- patterns

-- a part of a pattern: any text, any one character, or just that character
pub data Part : Type 0 where
  any_text : Part
  any_one : Part
  just : ℕ → Part

-- 37 is '%', 95 is '_' and 92 is the backslash
abbrev pub part_of : ℕ → Part
part_of c = if c == 37 then any_text else if c == 95 then any_one else just c

-- the parts that a pattern spells, where `quoted` says that a backslash stands before it
abbrev pub parts : Bool → List ℕ → List Part
parts false [] = []
parts true [] = just 92 ∷ []
parts true (c ∷ cs) = just c ∷ parts false cs
parts false (c ∷ cs) = if c == 92 then parts true cs else part_of c ∷ parts false cs

-- the text is one that the parts spell, each part in its turn
abbrev pub Matches : List Part → List ℕ → Type 0
Matches [] cs = cs ≡ []
Matches (any_text ∷ rest) cs = (front : List ℕ) × (back : List ℕ) × (cs ≡ front ++ back) × Matches rest back
Matches (any_one ∷ rest) cs = (c : ℕ) × (back : List ℕ) × (cs ≡ c ∷ back) × Matches rest back
Matches (just d ∷ rest) cs = (back : List ℕ) × (cs ≡ d ∷ back) × Matches rest back

-- whether the test passes at the text after some front of it
abbrev pub some_rest : (List ℕ → Bool) → List ℕ → Bool
some_rest test [] = test []
some_rest test (c ∷ cs) = test (c ∷ cs) || some_rest test cs

-- whether the parts spell the text: the test that decides `Matches`
abbrev pub matches : List Part → List ℕ → Bool
matches [] [] = true
matches [] (c ∷ cs) = false
matches (any_text ∷ rest) cs = some_rest (matches rest) cs
matches (any_one ∷ rest) [] = false
matches (any_one ∷ rest) (c ∷ cs) = matches rest cs
matches (just d ∷ rest) [] = false
matches (just d ∷ rest) (c ∷ cs) = (c == d) && matches rest cs

-- the text, with the ASCII capitals made small where the case is ignored
abbrev pub folded : Bool → List ℕ → List ℕ
folded ignore_case cs = if ignore_case then map to_ascii_lowercase cs else cs

-- the text is one that the pattern's parts spell
abbrev pub IsLike : Bool → List ℕ → List ℕ → Type 0
IsLike ignore_case t p = Matches (parts false (folded ignore_case (chars p))) (folded ignore_case (chars t))

-- whether it is: the test that decides `IsLike`
abbrev pub is_like : Bool → List ℕ → List ℕ → Bool
is_like ignore_case t p = matches (parts false (folded ignore_case (chars p))) (folded ignore_case (chars t))

-- the answer, turned round where it is negated
abbrev pub flipped : Bool → Bool → Bool
flipped negated b = if negated then not b else b

-- null with a null operand, else whether the text is like the pattern, or unlike it
abbrev pub liked : Bool → Bool → Datum → Datum → Datum
liked negated ignore_case (utf8 t) (utf8 p) = bool (flipped negated (is_like ignore_case t p))
liked negated ignore_case _ _ = null

-- ---- beginnings and lengths

-- whether the text begins with the other, character for character
abbrev pub starts_with_text : List ℕ → List ℕ → Bool
starts_with_text t p = lists.starts_with nat_eq (chars t) (chars p)

-- null with a null operand, else whether the text begins with the other
abbrev pub begun : Datum → Datum → Datum
begun (utf8 t) (utf8 p) = bool (starts_with_text t p)
begun _ _ = null

-- null of null, else the number of the text's bytes: at most the greatest that its type holds, which no text that fits into memory has
abbrev pub counted_bytes : Datum → Datum
counted_bytes (utf8 t) = int (pos (min (length t) (2 ^ 63 - 1)))
counted_bytes _ = null

-- ---- lists

-- whether some element is that value
abbrev pub has_element : Data → Datum → Bool
has_element no_datum v = false
has_element (datum w ws) v = equal_datum w v || has_element ws v

-- whether some element is null
abbrev pub has_null : Data → Bool
has_null no_datum = false
has_null (datum w ws) = is_null_datum w || has_null ws

-- whether the value is one of the elements; null where it is none, but might be one that is null
abbrev pub among : Data → Datum → Datum
among ws v = if has_element ws v then bool true else if has_null ws then null else bool false

-- null for a null list or a null value, else whether the value is among the list's elements
abbrev pub contained : Datum → Datum → Datum
contained (list_of ws) v = if is_null_datum v then null else among ws v
contained _ v = null

-- ---- values at one row

-- of conditions and values in turn, the value beside the first true condition, else the ELSE value, else null
abbrev pub first_true : List Datum → Datum
first_true [] = null
first_true (e ∷ []) = e
first_true (c ∷ v ∷ rest) = if is_true c then v else first_true rest

-- null for a null struct, else the value of the first field of the name
abbrev pub item_value : Name → List LogicalType → Datum → Datum
item_value a (ty (struct fs) n ∷ []) (struct_of vs) = field_value a fs vs
item_value a _ _ = null

-- null for a null struct, else the struct of the included fields
abbrev pub select_value : FieldSelection → List LogicalType → Datum → Datum
select_value sel (ty (struct fs) n ∷ []) (struct_of vs) = struct_of (project_values (included sel fs) fs vs)
select_value sel _ _ = null

-- a function of the value of the one child
abbrev pub at_one : (Datum → Datum) → List Datum → Datum
at_one f (v ∷ []) = f v
at_one f _ = null

-- a function of the values of the two children
abbrev pub at_two : (Datum → Datum → Datum) → List Datum → Datum
at_two f (v ∷ w ∷ []) = f v w
at_two f _ = null

-- a function of the values of the three children
abbrev pub at_three : (Datum → Datum → Datum → Datum) → List Datum → Datum
at_three f (v ∷ w ∷ x ∷ []) = f v w x
at_three f _ = null

-- the value of each binary function
abbrev pub binary_value : Operation → Datum → Datum → Datum
binary_value (compares c) = compared c
binary_value and_also = kleene_and
binary_value or_else = kleene_or
binary_value (computes a) = computed a

-- the value of a function node, from its children's types and values
abbrev pub fn_value : Function → List LogicalType → List Datum → Datum
fn_value (case_when pairs has_else) ts = first_true
fn_value (get_item a) ts = at_one (item_value a ts)
fn_value (literal t v) ts = λ _. v
fn_value (pack names n) ts = λ vs. struct_of (data_of vs)
fn_value (select sel) ts = at_one (select_value sel ts)
fn_value fill_null ts = at_two (λ v w. if is_null_datum v then w else v)
fn_value zip ts = at_three (λ v w m. if is_true m then v else w)
fn_value (binary op) ts = at_two (binary_value op)
fn_value logical_not ts = at_one kleene_not
fn_value (between ls us) ts = at_three (λ v l u. kleene_and (compared (bound_comparison ls) l v) (compared (bound_comparison us) v u))
fn_value (like negated ci) ts = at_two (liked negated ci)
fn_value is_null ts = at_one (λ v. bool (is_null_datum v))
fn_value is_not_null ts = at_one (λ v. bool (not (is_null_datum v)))
fn_value mask ts = at_two (λ v m. if is_true m then v else null)
fn_value (cast t) ts = at_one (λ v. v)
fn_value starts_with ts = at_two begun
fn_value byte_length ts = at_one counted_bytes
fn_value list_contains ts = at_two contained
