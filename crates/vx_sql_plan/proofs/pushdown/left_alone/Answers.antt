use Rattle.std.proofs.Common.{◌≡◌, true, [], ◌∷◌, refl, ap, ◌∙◌, map, string_bytes, rules}
use Rattle.std.proofs.lemmas.List.{map-append}
use Rattle.std.proofs.lemmas.Result.{IfOk-weaker}
use Rattle.vx_fn.specs.Functions.{is_truth}
use Rattle.vx_tree.specs.Trees.{node_type}
use Rattle.vx_tree.specs.Views.{bound_of}
use Rattle.vx_sql_plan.proofs.Left.{taken_texts, taken_left, refused_texts, refused_left}
use Rattle.vx_sql_plan.proofs.pushdown.left_alone.Goals as goal

pub returns-in-Ok-clause-texts : goal.returns-in-Ok-clause-texts
returns-in-Ok-clause-texts c =
    let truth : is_truth (node_type (bound_of c.args.tree.now)) ≡ true = search rules in
    taken_texts c.args.dialect (bound_of c.args.tree.now) (string_bytes c.in-Ok.text) (map string_bytes c.args.texts.now.items) (map string_bytes c.push.new.self.items) c.requires truth c.in-Ok.ensures
    (ap (map string_bytes) c.in_ok-push-in-Ok.ensures.items ∙ map-append string_bytes c.args.texts.now.items (c.in-Ok.text ∷ []))

pub returns-in-Ok-clause-left : goal.returns-in-Ok-clause-left
returns-in-Ok-clause-left c =
    let truth : is_truth (node_type (bound_of c.args.tree.now)) ≡ true = search rules in
    taken_left c.args.dialect (bound_of c.args.tree.now) (string_bytes c.in-Ok.text) c.requires truth c.in-Ok.ensures

pub returns-in-Err-Node-clause-texts : goal.returns-in-Err-Node-clause-texts
returns-in-Err-Node-clause-texts c =
    let refused = rw c.in-Err-Node.field-0-is at c.in-Err-Node.ensures in
    let texts = map string_bytes c.args.texts.now.items in
    IfOk-weaker c.whole-in-Err-Node.result _ _ (λ o e. refused_texts c.args.dialect (bound_of c.args.tree.now) _ texts texts c.requires refused refl) c.whole-in-Err-Node.ensures

pub returns-in-Err-Node-clause-left : goal.returns-in-Err-Node-clause-left
returns-in-Err-Node-clause-left c =
    let refused = rw c.in-Err-Node.field-0-is at c.in-Err-Node.ensures in
    IfOk-weaker c.whole-in-Err-Node.result _ _ (λ o e. e ∙ refused_left c.args.dialect (bound_of c.args.tree.now) (bound_of c.args.tree.now) _ c.requires refused refl) c.whole-in-Err-Node.ensures
