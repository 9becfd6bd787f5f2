use Rattle.std.proofs.Common.{sym, arith, inr, rules}
use Rattle.vx_dtype.specs.Views.{type_of, fields_view}
use Rattle.std.proofs.lemmas.Grind.{common_steps}
use Rattle.vx_dtype.proofs.Built.{after_none, projected_next, projected_stops, projected_end}
use Rattle.vx_dtype.proofs.fields.types_of.Goals as goal

pub loop-i-init : goal.loop-i-init
loop-i-init c = rw c.new-found.ensures.items (search rules, sym (after_none _ _))

pub returns-in-None : goal.returns-in-None
returns-in-None c =
    inr (rw c.in_ok-clone-in-None.ensures.cases
    (projected_stops c.args.wanted.now (fields_view c.args.names.now c.args.types.now) c.loop-i.found.items c.loop-i.i c.index-wanted-i.result _
    (omega arith) c.index-wanted-i.is c.in-None.ensures c.loop-i.invariant.1))

pub loop-i-preserved : goal.loop-i-preserved
loop-i-preserved c =
    let pushed = c.in_ok-push-in-Some.ensures.items in
    let count = c.loop-i.invariant.0 in (
      rw pushed (grind (arith, common_steps)),
      projected_next c.args.wanted.now (fields_view c.args.names.now c.args.types.now) c.loop-i.found.items c.push.new.self.items c.loop-i.i c.index-wanted-i.result
          (type_of c.in-Some.t.now) c.in_ok-clone-in-Some.field-0 _ count (omega arith) c.index-wanted-i.is c.in-Some.ensures c.in_ok-clone-in-Some.ensures.cases pushed c.loop-i.invariant.1,
    )

pub returns : goal.returns
returns c =
    projected_end c.args.wanted.now (fields_view c.args.names.now c.args.types.now) c.loop-i.found.items c.loop-i.i _ (omega arith) c.loop-i.invariant.1
