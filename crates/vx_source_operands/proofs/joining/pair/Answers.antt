use Rattle.std.proofs.Common.{◌≡◌, [], ◌∷◌, ◌++◌, Ok, sym, ap, ◌∙◌, arith, rules}
use Rattle.std.proofs.lemmas.Grind.{common_steps}
use Rattle.vx_source_operands.specs.OperandViews.{operand_of}
use Rattle.vx_source_operands.proofs.Chains.{pair_turn, last_turn}
use Rattle.vx_source_operands.proofs.joining.pair.Goals as goal
use Rattle.vx_source_operands.proofs.joining.pair.Goals.{in-Some-next+in_ok-node_between-in-Some-next, in-None}

pub loop-lhs-preserved : goal.loop-lhs-preserved
loop-lhs-preserved c =
    let pushed : c.push.new.self.items ≡ c.loop-lhs.left.items ++ c.match-next-2.push ∷ [] = search rules in
    elim c.match-next-2.branch [
      | in-Some-next+in_ok-node_between-in-Some-next w ↦
          let joins = w.in_ok-node_between-in-Some-next.ensures.reads ∙ ap (λ x. Ok (operand_of x)) (sym w.push-is) in
          pair_turn _ _ _ _ _ _ _ _ _ _ _ c.in-Some.ensures.cases.0 w.in-Some-next.ensures.cases.0 joins pushed c.loop-lhs.invariant
      | in-None w ↦
          let none : c.next.new.self.rest.items ≡ [] = grind (arith, common_steps) in
          let end : c.next-in-Some.new.self.rest.items ≡ [] = grind (arith, common_steps) in
          last_turn _ _ _ _ _ _ _ _ _ c.in-Some.ensures.cases.0 none end (pushed ∙ ap (λ x. c.loop-lhs.left.items ++ x ∷ []) w.push-is) c.loop-lhs.invariant
    ]
