use Rattle.std.proofs.Common.{rules, ◌≡◌}
use Rattle.std.specs.Prelude.{None, Some}
use Rattle.vx_rewrite_fusing.specs.Places.{opposite, first_at}
use Rattle.vx_rewrite_fusing.proofs.Linking.{early_first, none_first, partner_first}
use Rattle.vx_rewrite_fusing.proofs.places.Places.partner.Goals as goal

pub returns-in_err-first : goal.returns-in_err-first
returns-in_err-first c =
    let none : first_at c.args.self.now.heads.firsts.items (opposite c.in_ok-range.range.side) c.in_ok-range.link.number ≡ None = search rules in
    let same : c.from_residual-in_err-first.result ≡ None = search rules in
    rw same (none_first c.args.self.now c.args.at c.args.from c.index.result.now c.in_ok-range.range c.in_ok-range.link c.requires.linked c.requires.inside c.index.ensures c.in_ok-range.ensures none)

pub returns-then-first-from : goal.returns-then-first-from
returns-then-first-from c =
    let some : first_at c.args.self.now.heads.firsts.items (opposite c.in_ok-range.range.side) c.in_ok-range.link.number ≡ Some c.in_ok-first.first = search rules in
    early_first c.args.self.now c.args.at c.args.from c.index.result.now c.in_ok-range.range c.in_ok-range.link c.requires.linked c.requires.inside c.index.ensures c.in_ok-range.ensures c.in_ok-first.first some (search rules)

pub returns : goal.returns
returns c =
    let some : first_at c.args.self.now.heads.firsts.items (opposite c.in_ok-range.range.side) c.in_ok-range.link.number ≡ Some c.in_ok-first.first = search rules in
    λ p e. (search rules, partner_first c.args.self.now c.args.at c.args.from c.index.result.now c.in_ok-range.range c.in_ok-range.link c.requires.linked c.requires.inside c.index.ensures c.in_ok-range.ensures c.in_ok-first.first some p e)
