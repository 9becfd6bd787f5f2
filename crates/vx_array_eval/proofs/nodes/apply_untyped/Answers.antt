use Rattle.std.proofs.Common.{◌≡◌, ap, refl, Ok}
use Rattle.vx_value.specs.Views.{admits_null}
use Rattle.vx_fn.specs.Views.{function_of}
use Rattle.vx_array.specs.Rows.{lanes_each, lanes_rows}
use Rattle.vx_array.proofs.Found.{found_map}
use Rattle.vx_array_kernels.specs.Choices.{case_rows}
use Rattle.vx_array_eval.specs.Nodes.{answer_of, types_of}
use Rattle.vx_array_eval.proofs.Given.{at_node, case_given, literal_given, pack_given}
use Rattle.vx_array_eval.proofs.nodes.apply_untyped.Goals as goal

pub returns-in_ok-literal-in-Literal : goal.returns-in_ok-literal-in-Literal
returns-in_ok-literal-in-Literal c =
    let node = c.args.node in
    let cs = lanes_each node.below.now in
    let scalar = c.in-Literal.scalar in
    at_node node _ cs node.count _ (ap function_of c.in-Literal.is) refl refl (literal_given scalar.type scalar.value (types_of node) node.count cs (lanes_rows c.in_ok-literal-in-Literal.field-0) c.in_ok-literal-in-Literal.ensures)

pub returns-in_ok-pack-in-Pack : goal.returns-in_ok-pack-in-Pack
returns-in_ok-pack-in-Pack c =
    let node = c.args.node in
    let cs = lanes_each node.below.now in
    at_node node _ cs node.count _ (ap function_of c.in-Pack.is) refl refl (pack_given c.in-Pack.field-0.names (admits_null c.in-Pack.field-0.nullability) (types_of node) node.count cs (lanes_rows c.in_ok-pack-in-Pack.field-0) c.in_ok-pack-in-Pack.ensures)

pub returns-in-CaseWhen : goal.returns-in-CaseWhen
returns-in-CaseWhen c =
    let node = c.args.node in
    let cs = lanes_each node.below.now in
    found_map c.case_of.result (λ out. lanes_rows out ≡ case_rows node.count cs) (λ out. answer_of node ≡ Ok (lanes_rows out))
    (λ out is. at_node node _ cs node.count (lanes_rows out) (ap function_of c.in-CaseWhen.is) refl refl (case_given c.in-CaseWhen.field-0.num_when_then_pairs c.in-CaseWhen.field-0.has_else (types_of node) node.count cs (lanes_rows out) is)) c.case_of.ensures
