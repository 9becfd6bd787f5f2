-- Texts that are told of by the steps of a pattern.
use Rattle.std.proofs.Common.{◌≡◌, ℕ, ◌+◌, ◌-◌, ◌<◌, List, map, length, get_or, take, drop, sym, ap, ◌∙◌, arith, Bool, true, Option, Some, None}
use Rattle.std.specs.Prelude.{IfSome}
use Rattle.vx_array.specs.Shown.{is_valid}
use Rattle.std.specs.List.{range_with_len}
use Rattle.std.specs.Str.{IsAscii}
use Rattle.std.proofs.lemmas.Str.{chars-IsAscii, IsUtf8-from_ascii}
use Rattle.std.proofs.lemmas.List.FromFn.{length-map-range_with_len, get_or-map-range_with_len}
use Rattle.vx_value.specs.Types.{null, bool}
use Rattle.vx_fn.specs.Values.{Part, flipped, folded, matches}
use Rattle.vx_eval_like.specs.Patterns.{Compiled}
use Rattle.vx_array.specs.Kinds.{span_at, spans_in, text_row}
use Rattle.vx_array.proofs.Masked.{row_there}
use Rattle.vx_array.proofs.Reading.{text_read}
use Rattle.vx_array_kernels.specs.declared.likeness.Quick.{Quick}
use Rattle.vx_array_kernels.specs.declared.likeness.Texts.{Texts}
use Rattle.vx_array_kernels.specs.Likeness.{accepted, text_rows, Suits}
use Rattle.vx_array_kernels.specs.Reach.{row, Follows}

-- the bytes of a row
span_is : (offsets bytes : List ℕ) (spans : List (List ℕ)) (k : ℕ) → spans ≡ map (span_at offsets bytes) (range_with_len 0 (length offsets - 1)) → k < length spans → get_or spans k (span_at offsets bytes k) ≡ span_at offsets bytes k
span_is offsets bytes spans k is lt =
    let long : length spans ≡ length offsets - 1 = ap length is ∙ length-map-range_with_len (span_at offsets bytes) 0 (length offsets - 1) in
    ap (λ l. get_or l k (span_at offsets bytes k)) is ∙ get_or-map-range_with_len (span_at offsets bytes) 0 (length offsets - 1) k k (span_at offsets bytes k) (omega (arith, long)) (omega arith)

-- what the steps tell of a text that is all ASCII is what the pattern does
ascii_told : (negated : Bool) (p : Compiled) (t : List ℕ) (told : Bool) → IsAscii t → told ≡ matches p.parts (folded p.ignore_case t) → bool (flipped negated told) ≡ accepted negated p (text_row t)
ascii_told negated p t told ascii is =
    ap (λ b. bool (flipped negated b)) (is ∙ ap (λ cs. matches p.parts (folded p.ignore_case cs)) (sym (chars-IsAscii t ascii))) ∙ ap (accepted negated p) (text_read t (IsUtf8-from_ascii t ascii))

pub quick_told : (negated : Bool) (p : Compiled) (t : Texts) (q : Quick) (k from to : ℕ) (told : Bool) → Suits p t q → k < length (spans_in t.spans.now) → is_valid t.validity.now k ≡ true → from ≡ get_or q.offsets.now k 0 → to ≡ get_or q.offsets.now (k + 1) 0 →
    ((ci : Bool) (bytes : List ℕ) (ps : List Part) → Follows ci bytes ps q.steps → IsAscii (take (to - from) (drop from bytes))) →
    ((ci : Bool) (bytes : List ℕ) (ps : List Part) → Follows ci bytes ps q.steps → told ≡ matches ps (row ci bytes from (to - from))) →
    bool (flipped negated told) ≡ accepted negated p (get_or (text_rows t) k null)
quick_told negated p t q k from to told (bytes, cut, follows) lt valid first last ascii is =
    let span = take (to - from) (drop from bytes) in
    let here : span_at q.offsets.now bytes k ≡ span = ap (λ f. take (get_or q.offsets.now (k + 1) 0 - f) (drop f bytes)) (sym first) ∙ ap (λ g. take (g - from) (drop from bytes)) (sym last) in
    let there : span ≡ get_or (spans_in t.spans.now) k span =
    sym here ∙ sym (span_is q.offsets.now bytes (spans_in t.spans.now) k cut lt) ∙ ap (get_or (spans_in t.spans.now) k) here in
    ascii_told negated p span told (ascii p.ignore_case bytes p.parts follows) (is p.ignore_case bytes p.parts follows)
    ∙ ap (accepted negated p) (row_there text_row t.validity.now (spans_in t.spans.now) k span span lt valid there)

-- what holds of a value that is there by two facts
pub some_both : {A : Type 0} (r : Option A) (P Q R : A → Type 0) → ((x : A) → P x → Q x → R x) → IfSome r P → IfSome r Q → IfSome r R
some_both (Some x) P Q R f one other = f x one other
some_both None P Q R f one other = tt
