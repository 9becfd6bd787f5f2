-- A test for null whose other value is what it looks at.
use Rattle.std.proofs.Common.{◌≡◌, refl, true, false, Bool, not}
use Rattle.std.specs.Prelude.{Some}
use Rattle.vx_rewrite_rule_laws.specs.StandardGiven.{NullTest, coalesce_given, replaced_null}
use Rattle.vx_rewrite_core.specs.Nodes.{literal_value}
use Rattle.vx_tree.specs.Equality.{equal_bound}
use Rattle.vx_value.specs.Types.{Datum}

equal_if_not_different : (b : Bool) → false ≡ not b → b ≡ true
equal_if_not_different true e = refl
equal_if_not_different false e = cc

-- a literal where it is null replaces the null
pub literal_replaces : (t : NullTest) (c : Datum) → Some c ≡ literal_value t.if_null → false ≡ not (equal_bound t.tested t.if_not) → coalesce_given t ≡ replaced_null t.tested t.if_null c
literal_replaces t c l e = rw (← l, equal_if_not_different (equal_bound t.tested t.if_not) e) refl
