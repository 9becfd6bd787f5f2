use Rattle.std.proofs.Common.{◌≡◌, ◌∙◌, ap, false, map, None, rules, Some, sym, true}
use Rattle.std.specs.Option.{option_copied, option_map}
use Rattle.vx_dtype.specs.declared.error.VortexError.TheVariants.{OutOfMemory}
use Rattle.vx_value.specs.Fields.{field_names}
use Rattle.vx_value.specs.Types.{struct_fields}
use Rattle.vx_value.specs.Views.{fields_of, type_of}
use Rattle.vx_tree.specs.Views.{bound_of}
use Rattle.vx_tree.proofs.Nodes.{length-node_types}
use Rattle.vx_partition.specs.Only.{annotations_met}
use Rattle.vx_query_split.specs.Division.{no_fields, not_covered}
use Rattle.vx_query_split.specs.Reading.{only_field}
use Rattle.vx_query_split.specs.Reads.{IsReadBy}
use Rattle.vx_query_split.proofs.Divided.{covered_so, divided_by_pieces, memory_alone, uncovered}
use Rattle.vx_query_split.proofs.division.split_by_fields.Goals as goal

pub returns-in_default-clause-split : goal.returns-in_default-clause-split
returns-in_default-clause-split c =
    let flat : struct_fields (type_of c.args.scope.now) ≡ None = search rules in
    no_fields (ap (option_map field_names) flat)

pub returns-then-not-reading-clause-split : goal.returns-then-not-reading-clause-split
returns-then-not-reading-clause-split c =
    let names = field_names (fields_of c.in-Some.fields.now) in
    let fields : struct_fields (type_of c.args.scope.now) ≡ Some (fields_of c.in-Some.fields.now) = search rules in
    let told : IsReadBy c.all.result names = search rules in
    let open_root : c.in_ok-reading.reading.is_covered ≡ false = search rules in
    not_covered (ap (option_map field_names) fields) (uncovered names (bound_of c.args.tree.now) c.in_ok-reading.reading.is_covered (c.in_ok-reading.ensures names told).covers open_root)

pub returns-in_err-partition_bound_met-clause-memory : goal.returns-in_err-partition_bound_met-clause-memory
returns-in_err-partition_bound_met-clause-memory c =
    let names = field_names (fields_of c.in-Some.fields.now) in
    let told : IsReadBy c.all.result names = search rules in
    let read = (c.in_ok-reading.ensures names told).met in
    let met : map option_copied c.as_slice-2.result.now ≡ annotations_met (only_field names) (bound_of c.args.tree.now) = search (rules, read) in
    let e = c.in_err-partition_bound_met in
    let memory : e.field-0.0 ≡ OutOfMemory = memory_alone (only_field names) (bound_of c.args.tree.now) e.field-0.0 (e.ensures.names (only_field names) met) in
    search (rules, memory)

pub returns-clause-split : goal.returns-clause-split
returns-clause-split c =
    let names = field_names (fields_of c.in-Some.fields.now) in
    let u = bound_of c.args.tree.now in
    let fields : struct_fields (type_of c.args.scope.now) ≡ Some (fields_of c.in-Some.fields.now) = search rules in
    let told : IsReadBy c.all.result names = search rules in
    let read = (c.in_ok-reading.ensures names told).met in
    let met : map option_copied c.as_slice-2.result.now ≡ annotations_met (only_field names) u = search (rules, read) in
    let covered : c.in_ok-reading.reading.is_covered ≡ true = search rules in
    let p = c.in_ok-partition_bound_met.field-0 in
    let split = c.in_ok-partition_bound_met.ensures.split (only_field names) met in
    let count = c.in_ok-partition_bound_met.ensures.counts.0 in
    divided_by_pieces (type_of c.args.scope.now) u _ (ap (option_map field_names) fields) (covered_so names u c.in_ok-reading.reading.is_covered (c.in_ok-reading.ensures names told).covers covered) (count ∙ sym (length-node_types p.partitions.items)) split
