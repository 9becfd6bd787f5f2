use Rattle.std.proofs.Common.{◌≡◌, ◌∙◌, sym, ap, subst, rules, length, Ok}
use Rattle.vx_dtype.specs.Returns.{ReturnsOrOom}
use Rattle.vx_dtype.specs.declared.error.VortexError.TheVariants.{OutOfMemory}
use Rattle.vx_value.specs.StructColumns.{struct_column}
use Rattle.vx_tree.specs.Trees.{Over}
use Rattle.vx_tree.specs.Views.{bound_of, bounds_of}
use Rattle.vx_query_split.specs.Splits.{part_answers}
use Rattle.vx_query_split.proofs.Joined.{as_many, joins, is_joined, root_answers}
use Rattle.vx_array_scan.proofs.split.evaluate_split_array.Goals as goal

pub struct_of-requires : goal.struct_of-requires
struct_of-requires c =
    let es = c.args.split.now.partitions.items in
    let made : part_answers (bounds_of es) c.args.batch.now ≡ Ok c.in_ok-columns.columns.items = rw (← c.as_slice.ensures.value) c.in_ok-columns.ensures in
    let named : c.in_ok-names.names ≡ c.args.split.now.partition_names = search rules in
    ap length named ∙ c.requires.names ∙ sym (as_many es c.args.batch.now c.in_ok-columns.columns.items made) ∙ ap length (sym c.as_slice-2.ensures.value)

pub returns-in_err-joined : goal.returns-in_err-joined
returns-in_err-joined c =
    let bs = bounds_of c.args.split.now.partitions.items in
    let made : part_answers bs c.args.batch.now ≡ Ok c.in_ok-columns.columns.items = rw (← c.as_slice.ensures.value) c.in_ok-columns.ensures in
    let memory : c.in_err-joined.field-0.0 ≡ OutOfMemory =
    joins c.in_ok-names.names bs c.args.batch.now c.in_ok-columns.columns.items c.requires.partitions c.requires.over made c.in_err-joined.field-0.0
    (rw (← c.len.ensures, ← c.as_slice-2.ensures.value) c.in_err-joined.ensures.structs) in
    search (rules, memory)

pub returns : goal.returns
returns c =
    let names = c.args.split.now.partition_names in
    let bs = bounds_of c.args.split.now.partitions.items in
    let made : part_answers bs c.args.batch.now ≡ Ok c.in_ok-columns.columns.items = rw (← c.as_slice.ensures.value) c.in_ok-columns.ensures in
    let named : c.in_ok-names.names ≡ names = search rules in
    let joined : struct_column names c.in_ok-columns.columns.items (length c.args.batch.now.rows) _ ≡ Ok c.in_ok-joined.joined = rw (← named, ← c.len.ensures, ← c.as_slice-2.ensures.value) c.in_ok-joined.ensures.structs in
    let is = is_joined names bs c.args.batch.now c.in_ok-columns.columns.items c.requires.partitions c.requires.over made c.in_ok-joined.joined joined in
    let over : Over (bound_of c.args.split.now.root) c.in_ok-joined.joined.type = rw is c.requires.joined in
    subst (ReturnsOrOom (λ x. x) c.apply_array.result) (root_answers names bs c.args.batch.now c.in_ok-columns.columns.items c.requires.partitions c.requires.over made (bound_of c.args.split.now.root) c.in_ok-joined.joined joined)
    (c.apply_array.ensures.meaning over)
