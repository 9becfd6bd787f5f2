-- What a pattern tells of texts in a buffer.
use Rattle.std.proofs.Common.{◌≡◌, ℕ, ◌<◌, ◌≤◌, List, map, length, get_or, refl, sym, ap, ◌∙◌, arith, Bool, false, Option, Some, None}
use Rattle.std.specs.Prelude.{if◌then◌else◌, is_some, unwrap_or}
use Rattle.std.proofs.lemmas.List.{length-map, get_or-map, ext_get_or}
use Rattle.vx_value.specs.Types.{Datum, null, bool, utf8}
use Rattle.vx_fn.specs.Values.{liked}
use Rattle.vx_eval_like.specs.Patterns.{compiled}
use Rattle.vx_array.specs.declared.spans.Spans.{Spans}
use Rattle.vx_array.specs.declared.validity.Validity.{Validity}
use Rattle.vx_array.specs.declared.validity.Validity.TheVariants.{Rows}
use Rattle.vx_array.specs.Kinds.{spans_in, text_row}
use Rattle.vx_array.specs.Shown.{masked, shown}
use Rattle.vx_array.proofs.Mapped.{map_same}
use Rattle.vx_array.proofs.Masked.{get_or-shown, length-masked, rows_within}
use Rattle.vx_array_kernels.specs.Likeness.{accepted, truth_datum}
use Rattle.vx_array_kernels.specs.Truths.{truth}
use Rattle.vx_array_kernels.proofs.Chosen.{some_at}

-- so many texts are there
pub texts_there : (v : Validity) (s : Spans) (n : ℕ) → length (shown v (map text_row (spans_in s))) ≡ n → n ≤ length (spans_in s)
texts_there v s n long = (rows_within text_row v (spans_in s) (shown v (map text_row (spans_in s))) n refl (omega arith)).0

-- what is told of each row
pub rows_told : (g : Datum → Datum) (told : List (Option Bool)) (rows : List Datum) (n : ℕ) → length told ≡ n → length rows ≡ n → ((i : ℕ) (x : Option Bool) → i < n → x ≡ get_or told i x → truth_datum x ≡ g (get_or rows i null)) → map truth_datum told ≡ map g rows
rows_told g told rows n long wide each =
    ext_get_or null (map truth_datum told) (map g rows) (length-map told truth_datum ∙ long ∙ sym (length-map rows g ∙ wide))
    (λ k lt. let within : k < length told = omega (arith, length-map told truth_datum) in
    let here = some_at told k within in
    get_or-map truth_datum told k here.0 null within ∙ ap truth_datum (sym here.1) ∙ each k here.0 (omega (arith, long)) here.1 ∙ sym (get_or-map g rows k null null (omega (arith, long, wide))))

-- a truth value by the bit that says it and the one that says whether there is one
by_bits : (t : Option Bool) → truth (is_some t) (unwrap_or t false) ≡ truth_datum t
by_bits (Some b) = refl
by_bits None = refl

-- bits that say what is told, and which of it is valid
pub told_in_bits : (told : List (Option Bool)) (valid bits : List Bool) → length valid ≡ length told → length bits ≡ length told → ((k : ℕ) → k < length told → get_or valid k false ≡ is_some (get_or told k None)) → ((k : ℕ) → k < length told → get_or bits k false ≡ unwrap_or (get_or told k None) false) →
    masked valid (map bool bits) ≡ map truth_datum told
told_in_bits told valid bits many long there sure =
    ext_get_or null (masked valid (map bool bits)) (map truth_datum told) (counted ∙ sym (length-map told truth_datum))
    (λ k lt. let within : k < length told = omega (arith, counted) in
    get_or-shown (Rows valid) (map bool bits) k ∙ ap (λ d. if get_or valid k false then d else null) (get_or-map bool bits k false null (omega (arith, long))) ∙ ap (λ b. truth b (get_or bits k false)) (there k within) ∙ ap (truth (is_some (get_or told k None))) (sure k within)
    ∙ by_bits (get_or told k None) ∙ sym (get_or-map truth_datum told k None null within))
  where
    counted : length (masked valid (map bool bits)) ≡ length told
    counted = length-masked valid (map bool bits) ∙ omega (arith, many, long, length-map bits bool)

-- what a pattern accepts is like it
pub accepted_like : (negated ci : Bool) (p : List ℕ) (v : Datum) → accepted negated (compiled ci p) v ≡ liked negated ci v (utf8 p)
accepted_like negated ci p (utf8 t) = refl
accepted_like negated ci p _ = refl

pub rows_like : (negated ci : Bool) (p : List ℕ) (rows : List Datum) → map (accepted negated (compiled ci p)) rows ≡ map (λ v. liked negated ci v (utf8 p)) rows
rows_like negated ci p rows = map_same (accepted negated (compiled ci p)) (λ v. liked negated ci v (utf8 p)) rows (accepted_like negated ci p)
