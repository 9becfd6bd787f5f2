use Rattle.std.proofs.Common.{◌≡◌, ◌∷◌, map, rules, sym, ap, ◌∙◌, append_assoc}
use Rattle.vx_partition.proofs.FreeNames.{new_to_set, decides-next, has_names-next}
use Rattle.vx_partition.proofs.Naming.{names_seen}
use Rattle.vx_partition.proofs.names.free_names.Goals as goal

pub loop-annotation-init : goal.loop-annotation-init
loop-annotation-init g c =
    let same = names_seen g.A.PartitionKey.name c.args.groups.now.entries in
    record { decides = search (rules, same); begins = search (rules, same); seen = λ a. search rules }

pub loop-annotation-preserved : goal.loop-annotation-preserved
loop-annotation-preserved g c =
    let so_far = c.loop-annotation.invariant in
    let name = g.A.PartitionKey.name in
    let names = c.loop-annotation.names.items in
    let new = c.push.new.self.items in
    let left = map name c.loop-annotation.annotation-iterator in
    let rest = map name c.next.new.self in
    let a = c.in_ok-name.name in
    let copy = c.in_ok-clone.field-0 in
    let same = c.in_ok-clone.ensures.cases in
    let is = c.in_ok-push.ensures.items in
    let told = c.in_ok-name.ensures in
    let own : a ≡ name c.in-Some.annotation.now = cc in
    let next : left ≡ a ∷ rest = ap (map name) c.in-Some.ensures.steps ∙ ap (λ n. n ∷ rest) (sym own) in
    let free = new_to_set c.loop-annotation.seen names a copy c.in_ok-insert.field-0 so_far.seen same c.in_ok-insert.ensures.added (search rules) in
    record {
      decides = decides-next names new left rest a free is next ∙ so_far.decides;
      begins = rw (is, append_assoc) (rw next at so_far.begins);
      seen = has_names-next c.loop-annotation.seen c.insert.new.self names new a copy so_far.seen same c.in_ok-insert.ensures.updates is;
    }
