use Rattle.std.proofs.Common.{◌≡◌, ◌≤◌, ◌+◌, ◌-◌, arith, ap, sym, ◌∙◌, length, subst, not, nat_lt}
use Rattle.std.proofs.lemmas.List.{length-map}
use Rattle.vx_array_kernels.specs.Reach.{AreSteps}
use Rattle.vx_array_kernels.proofs.Along.{ascii_before}
use Rattle.vx_array_kernels.proofs.reach.Steps.accepts.Goals as goal

pub returns-clause-ascii : goal.returns-clause-ascii
returns-clause-ascii c = λ ci bytes ps follows.
    let long : length c.args.self.now.beyond ≡ length bytes = ap length follows.1 ∙ length-map bytes (λ b. not (nat_lt b 128)) in
    let room : c.args.from + (c.args.to - c.args.from) ≤ length bytes = omega (arith, long, c.len.ensures, c.if-to-len.false, c.if-to-from.false) in
    ascii_before bytes c.args.self.now.beyond c.window.result c.args.from (c.args.to - c.args.from) follows.1 room (omega (arith, c.if-to-from-ge64.false)) (omega arith) c.if-window-len.false c.window.ensures

pub returns-clause-told : goal.returns-clause-told
returns-clause-told c = λ ci bytes ps follows.
    let long : length c.args.self.now.beyond ≡ length bytes = ap length follows.1 ∙ length-map bytes (λ b. not (nat_lt b 128)) in
    let room : c.args.from + (c.args.to - c.args.from) ≤ length bytes = omega (arith, long, c.len.ensures, c.if-to-len.false, c.if-to-from.false) in
    c.reaches.ensures ci bytes ps (subst (AreSteps ci bytes ps) (sym c.as_slice.ensures.value) follows.0) room
    (ascii_before bytes c.args.self.now.beyond c.window.result c.args.from (c.args.to - c.args.from) follows.1 room (omega (arith, c.if-to-from-ge64.false)) (omega arith) c.if-window-len.false c.window.ensures)
