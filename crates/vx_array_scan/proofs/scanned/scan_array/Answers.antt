use Rattle.vx_array_scan.proofs.scanned.scan_array.Goals as goal

pub returns-clause-mismatch : goal.returns-clause-mismatch
returns-clause-mismatch g c = c.scan_to_end.ensures.mismatch

pub returns-clause-evaluated : goal.returns-clause-evaluated
returns-clause-evaluated g c = c.scan_to_end.ensures.evaluated

pub returns-clause-meaning : goal.returns-clause-meaning
returns-clause-meaning g c = c.scan_to_end.ensures.meaning

pub returns-clause-faults : goal.returns-clause-faults
returns-clause-faults g c = c.scan_to_end.ensures.faults

pub returns-clause-typed : goal.returns-clause-typed
returns-clause-typed g c = c.scan_to_end.ensures.typed
