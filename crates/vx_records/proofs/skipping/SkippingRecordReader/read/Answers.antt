-- What the records' reader gives is handed on, or left out.
use Rattle.std.proofs.Common.{refl, subst, sym, ◌∙◌, ap}
use Rattle.vx_records.specs.Reading.{Refuses}
use Rattle.vx_records.proofs.Skipped.{SkipsTo, skips_on}
use Rattle.vx_records.proofs.skipping.SkippingRecordReader.read.Goals as goal

pub refused-preserved : goal.refused-preserved
refused-preserved g c =
    let leaves = g.R.RecordReader.leaves in
    let refused = subst (Refuses (leaves c.refused.self.records) (leaves c.read.new.self)) c.in-Err-Unexpected.field-0-is c.in-Err-Unexpected.ensures.read in
    let out = skips_on (leaves c.args.self.now.records) (leaves c.refused.self.records) (leaves c.read.new.self) _ refl c.refused.invariant.1 refused in
    (ap g.R.RecordReader.scope c.leave_out.ensures ∙ c.read.ensures.scope ∙ c.refused.invariant.0, subst (λ r. SkipsTo (leaves c.args.self.now.records) (leaves r)) (sym c.leave_out.ensures) out)
