-- The brackets hold one character, or two.
use Rattle.std.proofs.Common.{◌≡◌, false, ap, sym, ◌∙◌, rules}
use Rattle.std.specs.Prelude.{◌==◌}
use Rattle.vx_sql_parser.specs.Globs as globs
use Rattle.vx_sql_parser.proofs.GlobParts.{bracket_just, bracket_pair}
use Rattle.vx_sql_parser.proofs.globs.bracketed.Goals as goal

pub returns-then-d-ne93-clause-part : goal.returns-then-d-ne93-clause-part
returns-then-d-ne93-clause-part c =
    let i = c.args.ignores in
    let more : (c.in-Some-split_first.d.now == 93) ≡ false = search rules in
    bracket_pair i c.args.pattern.now c.in-Some.rest.now c.in-Some-split_first.rest.now c.in-Some.c.now c.in-Some-split_first.d.now c.in-Some.ensures.cases.0 c.in-Some-split_first.ensures.cases.0 more
    ∙ ap (λ are. globs.paired i are c.in-Some.c.now c.in-Some-split_first.rest.now) (sym c.is_pair.ensures) ∙ c.paired.ensures.part i

pub returns-else-c-eq94-clause-part : goal.returns-else-c-eq94-clause-part
returns-else-c-eq94-clause-part c =
    let closes : c.in-Some-split_first.d.now ≡ 93 = search rules in
    let other : (c.in-Some.c.now == 94) ≡ false = search rules in
    bracket_just c.args.ignores c.args.pattern.now c.in-Some.rest.now c.in-Some-split_first.rest.now c.in-Some.c.now c.in-Some-split_first.d.now c.in-Some.ensures.cases.0 c.in-Some-split_first.ensures.cases.0 closes other
    ∙ c.just.ensures.part
