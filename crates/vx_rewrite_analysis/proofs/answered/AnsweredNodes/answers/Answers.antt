use Rattle.std.proofs.Common.{◌≡◌, ◌<◌, length, get_or, arith, sym, ap, ◌∙◌}
use Rattle.std.specs.Prelude.{None, Some}
use Rattle.std.specs.Option.{option_map}
use Rattle.std.proofs.lemmas.List.{get_or_default}
use Rattle.vx_rewrite_analysis.proofs.Given.{given-number}
use Rattle.vx_rewrite_analysis.proofs.answered.AnsweredNodes.answers.Goals as goal

pub returns-in-Some : goal.returns-in-Some
returns-in-Some g c =
    let a = c.args.self.now in
    let i = c.args.number in
    let within : i < length a.answers.items = omega (arith, c.requires.within, c.requires.numbered.1) in
    let read = get_or_default a.answers.items i None c.index.result.now within ∙ sym c.index.ensures in
    let is : get_or a.answers.items i None ≡ Some c.in-Some.own = read ∙ c.in-Some.is in
    ap Some c.as_slice.ensures.value ∙ sym (given-number a.nodes.keys a.answers.items i c.requires.numbered.0.1 c.requires.within c.requires.numbered.1 ∙ ap (option_map (λ own. own.items)) is)

pub returns-in-None : goal.returns-in-None
returns-in-None g c =
    let a = c.args.self.now in
    let i = c.args.number in
    let within : i < length a.answers.items = omega (arith, c.requires.within, c.requires.numbered.1) in
    let read = get_or_default a.answers.items i None c.index.result.now within ∙ sym c.index.ensures in
    let is : get_or a.answers.items i None ≡ None = read ∙ c.in-None.is in
    sym (given-number a.nodes.keys a.answers.items i c.requires.numbered.0.1 c.requires.within c.requires.numbered.1 ∙ ap (option_map (λ own. own.items)) is)
