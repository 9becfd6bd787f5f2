use Rattle.std.proofs.Common.{refl, ap, Ok, Err, Some, None, rules}
use Rattle.std.proofs.lemmas.Fn.{called_at}
use Rattle.vx_forms.proofs.replacing.ReplacerNodeRewriter.visit_down.Goals as goal

pub returns-in_err-value-clause-gives : goal.returns-in_err-value-clause-gives
returns-in_err-value-clause-gives g c = record {
  given = Err c.in_err-value.field-0.0;
  step = called_at g.F.FnMut c.in_err-value.ensures refl;
  puts = search rules;
}

pub returns-in-Some-clause-gives : goal.returns-in-Some-clause-gives
returns-in-Some-clause-gives g c = record {
  given = Ok (Some c.in-Some.value);
  step = called_at g.F.FnMut c.in_ok-value.ensures (ap Ok c.in-Some.is);
  puts = refl;
}

pub returns-in-None-clause-gives : goal.returns-in-None-clause-gives
returns-in-None-clause-gives g c = record {
  given = Ok None;
  step = called_at g.F.FnMut c.in_ok-value.ensures (ap Ok c.in-None.is);
  puts = ap Ok c.no.ensures;
}
