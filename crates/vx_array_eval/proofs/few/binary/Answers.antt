use Rattle.std.proofs.Common.{◌≡◌, ap, Ok, [], ◌∷◌}
use Rattle.vx_fn.specs.Values.{compared, kleene_and, kleene_or}
use Rattle.vx_fn.specs.Views.{operation_of}
use Rattle.vx_array.specs.Rows.{lanes_rows}
use Rattle.vx_array_kernels.specs.Asked.{asked}
use Rattle.vx_array_kernels.specs.Truths.{both_rows}
use Rattle.vx_array.proofs.Found.{found_map}
use Rattle.vx_array_eval.proofs.Given.{and_given, at_node, compared_given, or_given}
use Rattle.vx_array_eval.specs.Nodes.{answer_of, types_of}
use Rattle.vx_array_eval.proofs.few.binary.Goals as goal

pub returns-in-And : goal.returns-in-And
returns-in-And c =
    let n = c.args.pair.count in
    let op = operation_of c.args.operator in
    let x = lanes_rows c.args.pair.lhs.now in
    let y = lanes_rows c.args.pair.rhs.now in
    found_map c.connect.result (λ out. lanes_rows out ≡ both_rows n kleene_and x y) (λ out. answer_of c.args.node ≡ Ok (lanes_rows out))
    (λ out is. at_node c.args.node _ (x ∷ y ∷ []) n (lanes_rows out) c.requires.operator c.requires.two c.requires.count (and_given op (types_of c.args.node) n x y (lanes_rows out) (ap operation_of c.in-And.is) is)) c.connect.ensures

pub returns-in-Or : goal.returns-in-Or
returns-in-Or c =
    let n = c.args.pair.count in
    let op = operation_of c.args.operator in
    let x = lanes_rows c.args.pair.lhs.now in
    let y = lanes_rows c.args.pair.rhs.now in
    found_map c.connect-in-Or.result (λ out. lanes_rows out ≡ both_rows n kleene_or x y) (λ out. answer_of c.args.node ≡ Ok (lanes_rows out))
    (λ out is. at_node c.args.node _ (x ∷ y ∷ []) n (lanes_rows out) c.requires.operator c.requires.two c.requires.count (or_given op (types_of c.args.node) n x y (lanes_rows out) (ap operation_of c.in-Or.is) is)) c.connect-in-Or.ensures

pub returns-in-Some : goal.returns-in-Some
returns-in-Some c =
    let n = c.args.pair.count in
    let op = operation_of c.args.operator in
    let x = lanes_rows c.args.pair.lhs.now in
    let y = lanes_rows c.args.pair.rhs.now in
    let comparison = c.in-Some.comparison in
    found_map c.compare.result (λ out. lanes_rows out ≡ both_rows n (compared (asked comparison)) x y) (λ out. answer_of c.args.node ≡ Ok (lanes_rows out))
    (λ out is. at_node c.args.node _ (x ∷ y ∷ []) n (lanes_rows out) c.requires.operator c.requires.two c.requires.count (compared_given op comparison (types_of c.args.node) n x y (lanes_rows out) c.in-Some.ensures is)) c.compare.ensures
