use Rattle.std.proofs.Common.{◌≡◌, ap, map, refl, Ok, [], ◌∷◌}
use Rattle.vx_fn.specs.Values.{counted_bytes, kleene_not}
use Rattle.vx_fn.specs.Views.{function_of}
use Rattle.vx_array.specs.Rows.{lanes_rows}
use Rattle.vx_array_kernels.specs.Truths.{null_told, value_told}
use Rattle.vx_array.proofs.Found.{found_map}
use Rattle.vx_array_eval.proofs.Given.{at_node, length_given, not_given, null_given, value_given}
use Rattle.vx_array_eval.specs.Nodes.{answer_of, types_of}
use Rattle.vx_array_eval.proofs.few.of_one.Goals as goal

pub returns-in-Not : goal.returns-in-Not
returns-in-Not c =
    let x = lanes_rows c.args.input.now in
    let n = c.args.node.count in
    found_map c.not.result (λ out. lanes_rows out ≡ map kleene_not x) (λ out. answer_of c.args.node ≡ Ok (lanes_rows out))
    (λ out is. at_node c.args.node _ (x ∷ []) n (lanes_rows out) (ap function_of c.in-Not.is) c.requires.one refl (not_given (types_of c.args.node) n x (lanes_rows out) c.requires.long is)) c.not.ensures

pub returns-in-IsNull : goal.returns-in-IsNull
returns-in-IsNull c =
    let x = lanes_rows c.args.input.now in
    let n = c.args.node.count in
    found_map c.is_null.result (λ out. lanes_rows out ≡ map null_told x) (λ out. answer_of c.args.node ≡ Ok (lanes_rows out))
    (λ out is. at_node c.args.node _ (x ∷ []) n (lanes_rows out) (ap function_of c.in-IsNull.is) c.requires.one refl (null_given (types_of c.args.node) n x (lanes_rows out) c.requires.long is)) c.is_null.ensures

pub returns-in-IsNotNull : goal.returns-in-IsNotNull
returns-in-IsNotNull c =
    let x = lanes_rows c.args.input.now in
    let n = c.args.node.count in
    found_map c.is_not_null.result (λ out. lanes_rows out ≡ map value_told x) (λ out. answer_of c.args.node ≡ Ok (lanes_rows out))
    (λ out is. at_node c.args.node _ (x ∷ []) n (lanes_rows out) (ap function_of c.in-IsNotNull.is) c.requires.one refl (value_given (types_of c.args.node) n x (lanes_rows out) c.requires.long is)) c.is_not_null.ensures

pub returns-in-ByteLength : goal.returns-in-ByteLength
returns-in-ByteLength c =
    let x = lanes_rows c.args.input.now in
    let n = c.args.node.count in
    found_map c.byte_length.result (λ out. lanes_rows out ≡ map counted_bytes x) (λ out. answer_of c.args.node ≡ Ok (lanes_rows out))
    (λ out is. at_node c.args.node _ (x ∷ []) n (lanes_rows out) (ap function_of c.in-ByteLength.is) c.requires.one refl (length_given (types_of c.args.node) n x (lanes_rows out) c.requires.long is)) c.byte_length.ensures
