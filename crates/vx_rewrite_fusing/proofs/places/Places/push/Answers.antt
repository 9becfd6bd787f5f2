use Rattle.std.proofs.Common.{rules, ◌≡◌, length, subst}
use Rattle.std.specs.Prelude.{Some}
use Rattle.vx_rewrite_fusing.specs.declared.places.Link.{Link}
use Rattle.vx_rewrite_fusing.specs.declared.places.Places.{Places}
use Rattle.vx_rewrite_fusing.specs.Places.{SetsFirst}
use Rattle.vx_rewrite_fusing.proofs.Linking.{pushed_numbered, pushed_other}
use Rattle.vx_rewrite_fusing.proofs.places.Places.push.Goals as goal

pub returns-in_default-clause-linked : goal.returns-in_default-clause-linked
returns-in_default-clause-linked c =
    let new : Places = record { list = c.push.new.self; heads = c.args.self.now.heads } in
    pushed_other c.args.self.now new c.requires (search rules) (search rules)

pub returns-clause-linked : goal.returns-clause-linked
returns-clause-linked c =
    let link : Link = record { number = c.in_ok-number.number; next = c.first-next.result } in
    let new : Places = record { list = c.push-2.new.self; heads = c.set.new.self } in
    let len : c.len.result ≡ length c.args.self.now.list.items = search rules in
    let sets = subst (λ z. SetsFirst c.number.new.self.firsts.items c.set.new.self.firsts.items c.in-Some.range.side c.in_ok-number.number (Some z)) len c.set.ensures.sets in
    pushed_numbered c.args.self.now new c.number.new.self c.in-Some.range link c.requires (search rules) c.in_ok-number.ensures.numbered c.in_ok-number.ensures.keeps c.in_ok-number.ensures.number c.first-next.ensures c.set.ensures.numbers sets
