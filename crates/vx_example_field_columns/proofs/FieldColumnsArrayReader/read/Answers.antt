use Rattle.std.proofs.Common.{◌≡◌, ◌∙◌, ap, sym, length, subst, rules, Ok}
use Rattle.vx_dtype.specs.Returns.{ReturnsOrOom}
use Rattle.vx_dtype.specs.declared.error.VortexError.TheVariants.{OutOfMemory}
use Rattle.vx_value.specs.Paths.{minimal_paths}
use Rattle.vx_example_field_columns.proofs.Reading.{each_named, joins, joined_kept}
use Rattle.vx_example_field_columns.proofs.FieldColumnsArrayReader.read.Goals as goal

pub struct_of-requires : goal.struct_of-requires
struct_of-requires c =
    let r = c.args.self.now in
    each_named (minimal_paths c.args.paths.now) r.names r.columns.items r.rows c.in_ok-names.names c.in_ok-columns.columns.items c.in_ok-names.ensures.cases
    (rw (← c.as_slice.ensures, ← c.as_slice-2.ensures.value) c.in_ok-columns.ensures) r.named
    ∙ ap length (sym c.as_slice-3.ensures.value)

pub returns-in_err-joined : goal.returns-in_err-joined
returns-in_err-joined c =
    let r = c.args.self.now in
    let memory : c.in_err-joined.field-0.0 ≡ OutOfMemory =
    joins (minimal_paths c.args.paths.now) r.names r.columns.items r.rows c.in_ok-names.names c.in_ok-columns.columns.items c.in_ok-names.ensures.cases
    (rw (← c.as_slice.ensures, ← c.as_slice-2.ensures.value) c.in_ok-columns.ensures) r.long c.in_err-joined.field-0.0 (rw c.as_slice-3.ensures.value at c.in_err-joined.ensures.structs) in
    search (rules, memory)

pub returns : goal.returns
returns c =
    let r = c.args.self.now in
    let kept =
    joined_kept (minimal_paths c.args.paths.now) r.names r.columns.items r.rows c.in_ok-names.names c.in_ok-columns.columns.items c.in_ok-names.ensures.cases
    (rw (← c.as_slice.ensures, ← c.as_slice-2.ensures.value) c.in_ok-columns.ensures) r.long c.in_ok-joined.joined (rw c.as_slice-3.ensures.value at c.in_ok-joined.ensures.structs) in
    subst (λ batch. ReturnsOrOom (λ x. x) c.read_referenced_array.result (Ok batch)) kept c.read_referenced_array.ensures
