use Rattle.vx_rewrite_standard.proofs.Coalesces.{literal_replaces}
use Rattle.vx_rewrite_standard.proofs.cases.coalesce_by.Goals as goal
use Rattle.vx_rewrite_standard.specs.Views.{null_test_over}

pub returns : goal.returns
returns c =
    let test = null_test_over c.args.tested.now c.args.if_null.now c.args.if_not.now in
    rw (literal_replaces test c.in-Some.scalar.now.value c.in-Some.ensures c.if-ne.ensures) c.replaced_null.ensures
