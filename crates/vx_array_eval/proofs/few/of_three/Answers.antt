use Rattle.std.proofs.Common.{◌≡◌, ap, refl, Ok, [], ◌∷◌}
use Rattle.vx_fn.specs.Values.{compared, kleene_and}
use Rattle.vx_fn.specs.Views.{function_of, is_strict}
use Rattle.vx_array.specs.Rows.{lanes_rows}
use Rattle.vx_array_kernels.specs.Asked.{asked}
use Rattle.vx_array_kernels.specs.Choices.{chosen_rows}
use Rattle.vx_array_kernels.specs.Truths.{both_rows}
use Rattle.vx_array.proofs.Found.{found_map}
use Rattle.vx_array_eval.proofs.Given.{at_node, between_given, zip_given}
use Rattle.vx_array_eval.specs.Nodes.{answer_of, types_of}
use Rattle.vx_array_eval.proofs.few.of_three.Goals as goal

pub returns-in-Between : goal.returns-in-Between
returns-in-Between c =
    let n = c.args.node.count in
    let vs = lanes_rows c.args.below.0.now in
    let ls = lanes_rows c.args.below.1.now in
    let us = lanes_rows c.args.below.2.now in
    let options = c.in-Between.options in
    let lower = c.comparisons.result.0 in
    let upper = c.comparisons.result.1 in
    let above = both_rows n (compared (asked lower)) ls vs in
    let below = both_rows n (compared (asked upper)) vs us in
    found_map c.between.result (λ out. lanes_rows out ≡ both_rows n kleene_and above below) (λ out. answer_of c.args.node ≡ Ok (lanes_rows out))
    (λ out is. at_node c.args.node _ (vs ∷ ls ∷ us ∷ []) n (lanes_rows out) (ap function_of c.in-Between.is) c.requires.three refl
    (between_given (is_strict options.lower_strict) (is_strict options.upper_strict) lower upper (types_of c.args.node) n vs ls us above below (lanes_rows out) c.comparisons.ensures.lower c.comparisons.ensures.upper refl refl is)) c.between.ensures

pub returns-in-Zip : goal.returns-in-Zip
returns-in-Zip c =
    let n = c.args.node.count in
    let v = lanes_rows c.args.below.0.now in
    let w = lanes_rows c.args.below.1.now in
    let m = lanes_rows c.args.below.2.now in
    found_map c.zip_of.result (λ out. lanes_rows out ≡ chosen_rows n m v w) (λ out. answer_of c.args.node ≡ Ok (lanes_rows out))
    (λ out is. at_node c.args.node _ (v ∷ w ∷ m ∷ []) n (lanes_rows out) (ap function_of c.in-Zip.is) c.requires.three refl (zip_given (types_of c.args.node) n v w m (lanes_rows out) is)) c.zip_of.ensures
