-- What a test for null of the code stands for.
use Rattle.vx_rewrite_rule_laws.specs.StandardGiven.{NullTest}
use Rattle.vx_rewrite_standard.specs.declared.cases.NullTest as code
use Rattle.vx_tree.specs.Views.{bound_of}
use Rattle.vx_tree.specs.declared.bound.BoundExpression.{BoundExpression}

-- the test over three trees
abbrev pub null_test_over : BoundExpression → BoundExpression → BoundExpression → NullTest
null_test_over x y z = record { tested = bound_of x; if_null = bound_of y; if_not = bound_of z }

-- the test over what its references point to
abbrev pub null_test_of : code.NullTest → NullTest
null_test_of t = null_test_over t.tested.now t.if_null.now t.if_not.now
