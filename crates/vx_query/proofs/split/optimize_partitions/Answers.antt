use Rattle.std.proofs.Common.{◌≡◌, ◌∙◌, ap, sym, rules, length}
use Rattle.std.specs.Global.{Vec}
use Rattle.vx_dtype.specs.declared.error.VortexError.TheVariants.{OutOfMemory}
use Rattle.vx_rewrite_core.specs.Keeps.{KeepsEach}
use Rattle.vx_partition.proofs.Replacing.{kept_count}
use Rattle.vx_rewrite_rule_laws.specs.Rules.{RuleAt}
use Rattle.vx_tree.specs.declared.bound.BoundExpression.{BoundExpression}
use Rattle.vx_tree.specs.Views.{bounds_of}
use Rattle.vx_query.proofs.Lists.{forms_keep}
use Rattle.vx_query.proofs.split.optimize_partitions.Goals as goal

pub returns-in_err-replace_partitions-clause-memory : goal.returns-in_err-replace_partitions-clause-memory
returns-in_err-replace_partitions-clause-memory c =
    let kept : KeepsEach (bounds_of c.args.split.partitions.items) (bounds_of c.in_ok-forms.forms.items) = rw (← c.as_slice.ensures.value) (forms_keep RuleAt c.in_ok-forms.ensures.forms) in
    let memory : c.in_err-replace_partitions.field-0.0 ≡ OutOfMemory = c.in_err-replace_partitions.ensures.kept kept c.requires.root c.requires.over in
    search (rules, memory)

pub returns-clause-count : goal.returns-clause-count
returns-clause-count c =
    let old = c.args.split.partitions.items in
    let forms = c.in_ok-forms.forms.items in
    let kept : KeepsEach (bounds_of old) (bounds_of forms) = rw (← c.as_slice.ensures.value) (forms_keep RuleAt c.in_ok-forms.ensures.forms) in
    ap length c.in_ok-replace_partitions.ensures.names ∙ c.requires.count ∙ sym (kept_count old forms kept) ∙ ap (λ (v : Vec BoundExpression). length v.items) (sym c.in_ok-replace_partitions.ensures.partitions)
