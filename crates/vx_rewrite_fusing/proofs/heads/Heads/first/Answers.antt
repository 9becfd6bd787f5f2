use Rattle.std.proofs.Common.{rules, ◌≡◌, sym, ◌∙◌}
use Rattle.std.specs.Prelude.{None}
use Rattle.vx_rewrite_fusing.specs.declared.ranges.Side.TheVariants.{Below, Above}
use Rattle.vx_rewrite_fusing.proofs.Heading.{first_found, first_missing}
use Rattle.vx_rewrite_fusing.proofs.heads.Heads.first.Goals as goal

pub returns-in_err-firsts : goal.returns-in_err-firsts
returns-in_err-firsts c =
    let none : c.from_residual.result ≡ None = search rules in
    none ∙ sym (first_missing c.args.self.now.firsts.items c.deref.result.now c.args.side c.args.number c.deref.ensures.value c.in_err-firsts.ensures.lookup)

pub returns-in-Below : goal.returns-in-Below
returns-in-Below c = rw c.in-Below.is (sym (first_found c.args.self.now.firsts.items c.deref.result.now Below c.args.number c.in_ok-firsts.firsts c.deref.ensures.value c.in_ok-firsts.ensures.lookup))

pub returns-in-Above : goal.returns-in-Above
returns-in-Above c = rw c.in-Above.is (sym (first_found c.args.self.now.firsts.items c.deref.result.now Above c.args.number c.in_ok-firsts.firsts c.deref.ensures.value c.in_ok-firsts.ensures.lookup))
