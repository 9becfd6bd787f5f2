use Rattle.std.proofs.Common.{◌≡◌, rules, sym}
use Rattle.vx_value.specs.Views.{value_of}
use Rattle.vx_forms.proofs.Rows.{fit_next, seen_next}
use Rattle.vx_forms.proofs.columns.column_of.Goals as goal

pub loop-value-preserved : goal.loop-value-preserved
loop-value-preserved g c =
    let same : g.T.Native.datum c.in-Some.value ≡ value_of c.in_ok-into_value.field-0 = search rules in
    record {
      so_far = seen_next value_of g.T.Native.datum _ _ _ _ _ c.loop-value.invariant.so_far c.in_ok-push.ensures.items (sym same);
      fit = fit_next _ _ _ _ _ c.loop-value.invariant.fit c.in_ok-push.ensures.items same c.in_ok-into_value.ensures.fits;
    }
