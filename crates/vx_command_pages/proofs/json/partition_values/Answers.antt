use Rattle.std.proofs.Common.{length}
use Rattle.std.proofs.lemmas.Slice.Zip.{zip_turn, zip_end}
use Rattle.vx_command_pages.proofs.Partitions.{next, end}
use Rattle.vx_command_pages.proofs.json.partition_values.Goals as goal

pub loop-name-preserved : goal.loop-name-preserved
loop-name-preserved c =
    let l = c.loop-name in
    let names = c.args.names.now in
    let trees = c.args.trees.now in
    let turn = zip_turn names trees l.yielded c.into_iter-name-iterator.result l.name-iterator c.next.new.self c.next.result (cc) (cc) l.yielded_by _ c.in-Some.is c.next.ensures.steps in
    next l.values.items c.push.new.self.items names trees l.yielded (c.in-Some.name, c.in-Some.tree) c.in_ok-partition_value.field-0
    turn c.in_ok-push.ensures.items c.in_ok-partition_value.ensures l.invariant

pub returns : goal.returns
returns c =
    let l = c.loop-name in
    let names = c.args.names.now in
    let trees = c.args.trees.now in
    end l.values.items names trees (length l.yielded) (zip_end names trees l.yielded c.into_iter-name-iterator.result l.name-iterator c.next.new.self c.next.result (cc) (cc) l.yielded_by c.in-None.is c.next.ensures.steps) l.invariant
