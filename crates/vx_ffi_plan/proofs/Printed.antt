-- The page of a type is that of an equal one.
use Rattle.std.proofs.Common.{◌≡◌, ℕ, Result, subst}
use Rattle.std.specs.Prelude.{IfOk}
use Rattle.std.specs.Global.{Vec}
use Rattle.vx_value.specs.Types.{LogicalType}
use Rattle.vx_command_pages.specs.Pages.{line}
use Rattle.vx_source_types.specs.TypeTexts.{type_source}
use Rattle.vx_ffi_calls.specs.declared.stop.CallError.{CallError}

pub printed : (r : Result (Vec ℕ) CallError) (t s : LogicalType) → t ≡ s → IfOk r (λ page. page.items ≡ line (type_source t)) → IfOk r (λ page. page.items ≡ line (type_source s))
printed r t s same is = subst (λ (u : LogicalType). IfOk r (λ (page : Vec ℕ). page.items ≡ line (type_source u))) same is
