-- What a plan's handle owns.
use Rattle.std.specs.Prelude.{Option, Some, None}
use Rattle.std.specs.Global.{Global}
use Rattle.std.specs.Coded.{Coded, coded_option}
use Rattle.std.specs.Box.Ownership.{box_owns}
use Rattle.std.specs.contracts.impls.GlobalAllocator.TheImpl.{ghosts}
use Rattle.vx_ffi_plan.specs.declared.kept.KeptPlan.{KeptPlan}
use Rattle.vx_ffi_plan.specs.contracts.shared.SharedPlan.{the_row}
use base.Fml.{Fml, feq}
use denote.RawPtr.{Ptr, null_ptr}

-- the plan there, with the right to free its block; where there is none, nothing, and the pointer is null
abbrev pub plan_owns : Global → Ptr → Option KeptPlan → Fml
plan_owns alloc at (Some plan) = box_owns (ghosts.dealloc_token alloc) the_row at plan
plan_owns alloc at None = feq Ptr at null_ptr

-- how a proof tells plans apart
abbrev pub plan_coded : Coded (Option the_row.Denot)
plan_coded = coded_option the_row.coded
