use Rattle.std.proofs.Common.{◌≡◌, ap, length, refl, subst, sym, List, [], Result, Ok, Err}
use Rattle.std.specs.Prelude.{IfOk, MatchResult}
use Rattle.vx_value.specs.Types.{Datum, utf8}
use Rattle.vx_array.specs.Kinds.{spans_in}
use Rattle.vx_array.specs.Shown.{masked, shown}
use Rattle.vx_array_kernels.specs.Likeness.{text_rows}
use Rattle.vx_array_kernels.specs.Truths.{TellsNulls}
use Rattle.vx_array_kernels.proofs.ByBytes.{tells_by}
use Rattle.vx_array_kernels.proofs.Chosen.{ok_all}
use Rattle.vx_array_kernels.proofs.NullRows.{tells_nulls}
use Rattle.vx_array_kernels.proofs.text_validity.text_validity.Goals as goal

-- what holds of a value holds of its copy
copied : {A E : Type 0} (P : A → Type 0) (r : Result A E) (x : A) (Q : E → Type 0) → P x → MatchResult r (λ y. y ≡ x) Q → IfOk r P
copied P (Ok y) x Q held is = subst P (sym is) held
copied P (Err e) x Q held is = tt

pub returns-then-are_ascii : goal.returns-then-are_ascii
returns-then-are_ascii c =
    let t = c.args.texts in
    copied (λ v. TellsNulls v (text_rows t)) c.clone.result t.validity.now _ (tells_nulls [] utf8 (λ x. refl) t.validity.now (spans_in t.spans.now) (text_rows t) (ap (shown t.validity.now) (c.are_ascii.ensures c.if-are_ascii.true))) c.clone.ensures.cases

pub returns : goal.returns
returns c =
    let bits = c.in_ok-texts_there.field-0 in
    let n = c.args.texts.count in
    ok_all c.validity_by.result (λ v. (ds : List Datum) → length ds ≡ n → shown v ds ≡ masked bits ds) (λ v. TellsNulls v (text_rows c.args.texts)) (λ v same. tells_by v bits (text_rows c.args.texts) n c.requires.long c.in_ok-texts_there.ensures same) c.validity_by.ensures.shown
