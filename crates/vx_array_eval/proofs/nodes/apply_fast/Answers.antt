use Rattle.std.proofs.Common.{◌≡◌, ap, refl, Ok}
use Rattle.vx_fn.specs.Functions as functions
use Rattle.vx_fn.specs.Views.{function_of}
use Rattle.vx_array.specs.Rows.{lanes_each, lanes_rows}
use Rattle.vx_array.proofs.Found.{found_map}
use Rattle.vx_eval.specs.Columns.{rows_of, node_answer}
use Rattle.vx_array_eval.specs.Nodes.{answer_of, types_of}
use Rattle.vx_array_eval.proofs.Given.{at_node}
use Rattle.vx_array_eval.proofs.Typed.{some_map}
use Rattle.vx_array_eval.proofs.nodes.apply_fast.Goals as goal

pub item_of-requires-clause-typed : goal.item_of-requires-clause-typed
item_of-requires-clause-typed c = rw c.in-GetItem.is at c.requires.typed

pub select_of-requires-clause-typed : goal.select_of-requires-clause-typed
select_of-requires-clause-typed c = rw c.in-Select.is at c.requires.typed

pub returns-in_ok-item_of-in-GetItem-clause-answer : goal.returns-in_ok-item_of-in-GetItem-clause-answer
returns-in_ok-item_of-in-GetItem-clause-answer c =
    let node = c.args.node in
    let cs = lanes_each node.below.now in
    let f = functions.get_item c.in-GetItem.name in
    some_map c.in_ok-item_of-in-GetItem.field-0 (λ out. node_answer f (types_of node) (rows_of node.count cs) ≡ Ok (lanes_rows out)) (λ out. answer_of node ≡ Ok (lanes_rows out))
    (λ out is. at_node node f cs node.count (lanes_rows out) (ap function_of c.in-GetItem.is) refl refl is) c.in_ok-item_of-in-GetItem.ensures

pub returns-in-Select-clause-answer : goal.returns-in-Select-clause-answer
returns-in-Select-clause-answer c =
    let node = c.args.node in
    let cs = lanes_each node.below.now in
    let f = functions.select c.in-Select.selection in
    found_map c.select_of.result (λ out. node_answer f (types_of node) (rows_of node.count cs) ≡ Ok (lanes_rows out)) (λ out. answer_of node ≡ Ok (lanes_rows out))
    (λ out is. at_node node f cs node.count (lanes_rows out) (ap function_of c.in-Select.is) refl refl is) c.select_of.ensures.answer

pub returns-in-Like-clause-answer : goal.returns-in-Like-clause-answer
returns-in-Like-clause-answer c =
    let node = c.args.node in
    let cs = lanes_each node.below.now in
    let f = functions.like c.in-Like.options.negated c.in-Like.options.case_insensitive in
    found_map c.like_of.result (λ out. node_answer f (types_of node) (rows_of node.count cs) ≡ Ok (lanes_rows out)) (λ out. answer_of node ≡ Ok (lanes_rows out))
    (λ out is. at_node node f cs node.count (lanes_rows out) (ap function_of c.in-Like.is) refl refl is) c.like_of.ensures.answer
