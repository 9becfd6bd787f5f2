use Rattle.std.proofs.Common.{Bool, false, ℕ, subst, arith, ⊎_elim}
use Rattle.std.proofs.lemmas.Bool.{or_cases, or_parts}
use Rattle.vx_array_loops.proofs.Filled.{filled_more}
use Rattle.vx_array_loops.proofs.fill.write_flagged.Goals as goal

pub loop-i-preserved : goal.loop-i-preserved
loop-i-preserved g c =
    let i = c.loop-i.i in
    let x = c.f-x.result.0 in
    let over = c.f-x.result.1 in
    let before = c.loop-i.invariant in
    record {
      each = filled_more (λ (k : ℕ) (y : g.row.T.Denot). (raised : Bool) × goal.F-post g c.args.f k (y, raised)) i c.loop-i.rows x (omega arith) before.each (over, c.f-x.ensures);
      clear = λ none. filled_more (λ (k : ℕ) (y : g.row.T.Denot). goal.F-post g c.args.f k (y, false)) i c.loop-i.rows x (omega arith) (before.clear ((or_parts c.loop-i.raised over none).0)) (subst (λ (b : Bool). goal.F-post g c.args.f i (x, b)) ((or_parts c.loop-i.raised over none).1) c.f-x.ensures);
      raised = λ some. ⊎_elim (λ was. let w = before.raised was in (w.0, w.1, omega (arith, w.2), w.3)) (λ here. (i, x, omega arith, subst (λ (b : Bool). goal.F-post g c.args.f i (x, b)) here c.f-x.ensures)) (or_cases c.loop-i.raised over some);
    }
