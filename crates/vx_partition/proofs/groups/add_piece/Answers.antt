use Rattle.std.proofs.Common.{◌≡◌, ◌∷◌, [], None, length, rules}
use Rattle.std.specs.Map.{lookup}
use Rattle.vx_partition.proofs.Grouping.{pushed, begun, none_there}
use Rattle.vx_partition.proofs.groups.add_piece.Goals as goal

pub returns-in_ok-push-in-Some-clause-added : goal.returns-in_ok-push-in-Some-clause-added
returns-in_ok-push-in-Some-clause-added g c =
    let count : c.len-index.result ≡ length c.index_mut-pieces.result.now.items = search rules in
    pushed g.A.PartialEq.eq g.met.A.Eq.laws c.args.groups.now.entries c.args.annotation.now c.args.piece c.in-Some.group c.len-index.result _ _ c.in-Some.ensures.index c.index_mut-pieces.ensures.value count c.in_ok-push-in-Some.ensures.items

pub returns-in_ok-insert-in-None-clause-added : goal.returns-in_ok-insert-in-None-clause-added
returns-in_ok-insert-in-None-clause-added g c =
    let eq = g.A.PartialEq.eq in
    let es = c.args.groups.now.entries in
    let none : lookup (eq c.args.annotation.now) es ≡ None = none_there _ c.in-None.ensures.found in
    let count : c.len-group.result ≡ length es = search rules in
    let first : c.push-in-None.new.self.items ≡ c.args.piece ∷ [] = search rules in
    λ before s.
    let r = begun eq g.met.A.Eq.laws es c.args.annotation.now c.in_ok-copy-in-None.field-0 c.args.piece c.len-group.result c.push-in-None.new.self c.in-None.ensures.index none c.in_ok-copy-in-None.ensures count first before s in
    (r.0, rw c.in_ok-insert-in-None.ensures.entries r.1)
