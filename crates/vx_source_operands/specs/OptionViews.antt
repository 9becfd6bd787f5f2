-- The functions that options stand for.
use Rattle.std.specs.Prelude.{Bool, true, false, List}
use Rattle.vx_value.specs.Types.{Name}
use Rattle.vx_value.specs.Views.{admits_null}
use Rattle.vx_fn.specs.declared.options.Operator.{Operator}
use Rattle.vx_fn.specs.declared.options.LikeOptions.{LikeOptions}
use Rattle.vx_fn.specs.declared.options.BetweenOptions.{BetweenOptions}
use Rattle.vx_fn.specs.declared.options.CaseWhenOptions.{CaseWhenOptions}
use Rattle.vx_fn.specs.declared.options.PackOptions.{PackOptions}
use Rattle.vx_fn.specs.declared.options.FieldSelection.{FieldSelection}
use Rattle.vx_fn.specs.declared.options.FieldSelection.TheVariants.{Include, Exclude}
use Rattle.vx_fn.specs.Functions.{Function, binary, like, between, case_when, pack}
use Rattle.vx_fn.specs.Views.{operation_of, is_strict}

abbrev pub binary_of : Operator → Function
binary_of operator = binary (operation_of operator)

abbrev pub like_of : LikeOptions → Function
like_of o = like o.negated o.case_insensitive

abbrev pub between_of : BetweenOptions → Function
between_of o = between (is_strict o.lower_strict) (is_strict o.upper_strict)

abbrev pub case_of : CaseWhenOptions → Function
case_of o = case_when o.num_when_then_pairs o.has_else

abbrev pub pack_of : PackOptions → Function
pack_of o = pack o.names (admits_null o.nullability)

-- the selection of names that are left out or kept
abbrev pub selecting : Bool → List Name → FieldSelection
selecting true names = Exclude names
selecting false names = Include names
