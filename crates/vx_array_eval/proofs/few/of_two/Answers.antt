use Rattle.std.proofs.Common.{◌≡◌, ap, Ok, [], ◌∷◌}
use Rattle.vx_fn.specs.Values.{begun, contained}
use Rattle.vx_fn.specs.Views.{function_of}
use Rattle.vx_array.specs.Rows.{lanes_rows}
use Rattle.vx_array_kernels.specs.Choices.{masked_rows}
use Rattle.vx_array_kernels.specs.Truths.{both_rows}
use Rattle.vx_array.proofs.Found.{found_map}
use Rattle.vx_array_eval.proofs.Given.{at_node, begun_given, contained_given, mask_given}
use Rattle.vx_array_eval.specs.Nodes.{answer_of, types_of}
use Rattle.vx_array_eval.proofs.few.of_two.Goals as goal

pub binary-requires-clause-operator : goal.binary-requires-clause-operator
binary-requires-clause-operator c = ap function_of c.in-Binary.is

pub filled_of-requires-clause-fill : goal.filled_of-requires-clause-fill
filled_of-requires-clause-fill c = ap function_of c.in-FillNull.is

pub returns-in-Mask : goal.returns-in-Mask
returns-in-Mask c =
    let x = lanes_rows c.args.pair.lhs.now in
    let y = lanes_rows c.args.pair.rhs.now in
    let n = c.args.pair.count in
    found_map c.mask.result (λ out. lanes_rows out ≡ masked_rows n x y) (λ out. answer_of c.args.node ≡ Ok (lanes_rows out))
    (λ out is. at_node c.args.node _ (x ∷ y ∷ []) n (lanes_rows out) (ap function_of c.in-Mask.is) c.requires.two c.requires.count (mask_given (types_of c.args.node) n x y (lanes_rows out) is)) c.mask.ensures

pub returns-in-StartsWith : goal.returns-in-StartsWith
returns-in-StartsWith c =
    let x = lanes_rows c.args.pair.lhs.now in
    let y = lanes_rows c.args.pair.rhs.now in
    let n = c.args.pair.count in
    found_map c.starts_with.result (λ out. lanes_rows out ≡ both_rows n begun x y) (λ out. answer_of c.args.node ≡ Ok (lanes_rows out))
    (λ out is. at_node c.args.node _ (x ∷ y ∷ []) n (lanes_rows out) (ap function_of c.in-StartsWith.is) c.requires.two c.requires.count (begun_given (types_of c.args.node) n x y (lanes_rows out) is)) c.starts_with.ensures

pub returns-in-ListContains : goal.returns-in-ListContains
returns-in-ListContains c =
    let x = lanes_rows c.args.pair.lhs.now in
    let y = lanes_rows c.args.pair.rhs.now in
    let n = c.args.pair.count in
    found_map c.list_contains.result (λ out. lanes_rows out ≡ both_rows n contained x y) (λ out. answer_of c.args.node ≡ Ok (lanes_rows out))
    (λ out is. at_node c.args.node _ (x ∷ y ∷ []) n (lanes_rows out) (ap function_of c.in-ListContains.is) c.requires.two c.requires.count (contained_given (types_of c.args.node) n x y (lanes_rows out) is)) c.list_contains.ensures
