use Rattle.std.proofs.Common.{◌≡◌, ◌∙◌, ap, arith, Ok, [], ◌∷◌}
use Rattle.vx_fn.specs.Functions as functions
use Rattle.vx_fn.specs.Values.{liked}
use Rattle.vx_array.specs.Rows.{lanes_each, lanes_rows}
use Rattle.vx_array.proofs.Found.{found_map}
use Rattle.vx_array_kernels.specs.Truths.{both_rows}
use Rattle.vx_eval.specs.Columns.{node_answer, rows_of}
use Rattle.vx_array_eval.specs.Nodes.{types_of}
use Rattle.vx_array_eval.proofs.Given.{like_given, two_of}
use Rattle.vx_array_eval.proofs.nodes.like_of.Goals as goal

pub returns-in-len2-clause-answer : goal.returns-in-len2-clause-answer
returns-in-len2-clause-answer c =
    let node = c.args.node in
    let n = node.count in
    let o = c.args.options.now in
    let x = lanes_rows c.lhs-item.result in
    let y = lanes_rows c.rhs-item.result in
    let ts = types_of node in
    let f = functions.like o.negated o.case_insensitive in
    let two : lanes_each node.below.now ≡ x ∷ y ∷ [] = two_of node.below.now c.lhs-item.result c.rhs-item.result (omega arith) c.lhs-item.is c.rhs-item.is in
    found_map c.like.result (λ out. lanes_rows out ≡ both_rows n (liked o.negated o.case_insensitive) x y) (λ out. node_answer f ts (rows_of n (lanes_each node.below.now)) ≡ Ok (lanes_rows out))
    (λ out is. ap (λ cs. node_answer f ts (rows_of n cs)) two ∙ like_given o.negated o.case_insensitive ts n x y (lanes_rows out) is) c.like.ensures.answer
