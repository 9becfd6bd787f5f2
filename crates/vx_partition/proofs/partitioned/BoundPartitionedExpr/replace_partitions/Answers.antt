use Rattle.std.proofs.Common.{rules, ◌≡◌}
use Rattle.vx_value.specs.Views.{type_of}
use Rattle.vx_dtype.specs.declared.error.VortexError.TheVariants.{OutOfMemory}
use Rattle.vx_tree.specs.Views.{bound_of, bounds_of}
use Rattle.vx_partition_laws.specs.Items.{struct_type}
use Rattle.vx_partition.proofs.Replacing.{kept_count, memory_alone, still}
use Rattle.vx_partition.proofs.partitioned.BoundPartitionedExpr.replace_partitions.Goals as goal

pub returns-then-got-expected-clause-kept : goal.returns-then-got-expected-clause-kept
returns-then-got-expected-clause-kept g c = λ ks w o.
    let same = kept_count c.args.self.now.partitions.items c.args.partitions.items ks in
    search (rules, same)

pub returns-in_err-root-clause-kept : goal.returns-in_err-root-clause-kept
returns-in_err-root-clause-kept g c = λ ks w o.
    let names = c.args.self.now.partition_names in
    let old = bounds_of c.args.self.now.partitions.items in
    let new = bounds_of c.args.partitions.items in
    let over : type_of c.in_ok-scope.scope ≡ struct_type names new = search rules in
    let memory : c.in_err-root.field-0.0 ≡ OutOfMemory = memory_alone names old new (bound_of c.args.self.now.root) (type_of c.in_ok-scope.scope) c.in_err-root.field-0.0 ks w o over c.in_err-root.ensures.typed in
    search (rules, memory)

pub returns-clause-kept : goal.returns-clause-kept
returns-clause-kept g c = λ ks w o.
    let names = c.args.self.now.partition_names in
    let old = bounds_of c.args.self.now.partitions.items in
    let new = bounds_of c.args.partitions.items in
    still names old new (bound_of c.args.self.now.root) _ ks w o (search rules)
