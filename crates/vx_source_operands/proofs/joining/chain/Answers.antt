use Rattle.std.proofs.Common.{◌≡◌, Err, sym, subst, ◌∙◌, arith, rules}
use Rattle.vx_fn.specs.Views.{operation_of}
use Rattle.vx_source_grammar.specs.Joining.{chained, paired}
use Rattle.vx_source_operands.specs.Places.{ReadsUpTo}
use Rattle.vx_source_operands.specs.OperandViews.{operand_of, operands_in, operands_of}
use Rattle.vx_source_operands.proofs.Chains.{chain_turn, chain_refused, chain_end, only_item, no_item, refused_up_to}
use Rattle.vx_source_operands.proofs.joining.chain.Goals as goal

pub returns-in_err-left : goal.returns-in_err-left
returns-in_err-left c =
    let failed : c.from_residual.result ≡ Err c.in_err-left.field-0.0 = search rules in
    let op = operation_of c.args.operator in
    record {
      reads = subst (λ r. ReadsUpTo c.args.context.found.now.at operand_of r (chained op c.args.context.room (operands_of c.args.items.items))) (sym failed)
          (refused_up_to c.args.context.found.now.at operands_in operand_of c.in_err-left.field-0.0 (paired op c.args.context.room (operands_of c.loop-operator.left.items)) (chained op c.args.context.room (operands_of c.args.items.items))
          (λ e is. chain_refused _ _ _ _ e (omega arith) is c.loop-operator.invariant) c.in_err-left.ensures.reads);
    }

pub loop-operator-smaller : goal.loop-operator-smaller
loop-operator-smaller c = (chain_turn _ _ _ _ _ (omega arith) c.in_ok-left.ensures.reads c.loop-operator.invariant).1

pub loop-operator-preserved : goal.loop-operator-preserved
loop-operator-preserved c = (chain_turn _ _ _ _ _ (omega arith) c.in_ok-left.ensures.reads c.loop-operator.invariant).0

pub returns-in-Some : goal.returns-in-Some
returns-in-Some c = record { reads = chain_end _ _ _ _ (omega arith) c.loop-operator.invariant ∙ only_item _ _ _ c.in-Some.ensures.items (omega arith) }

pub returns : goal.returns
returns c =
    record {
      reads = subst (λ x. ReadsUpTo c.args.context.found.now.at operand_of (Err x) (chained (operation_of c.args.operator) c.args.context.room (operands_of c.args.items.items))) (sym c.expected.ensures)
          (omega arith, chain_end _ _ _ _ (omega arith) c.loop-operator.invariant ∙ no_item _ (λ some. let seen = c.in-None.ensures.variant.1 (omega (arith, some)) in (cc)));
    }
