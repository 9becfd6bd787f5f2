use Rattle.std.proofs.Common.{◌≡◌, [], ap, arith, false, get_or, length, map, pos, refl, replicate, subst, sym, ◌∙◌}
use Rattle.std.specs.List.{range_with_len}
use Rattle.std.proofs.lemmas.List.{length-replicate}
use Rattle.std.proofs.lemmas.List.FromFn.{length-range_with_len}
use Rattle.vx_value.specs.StructColumns.{struct_at}
use Rattle.vx_value.specs.Types.{bool, bytes, float, int}
use Rattle.vx_value.specs.Views.{value_of}
use Rattle.vx_array.specs.Kinds.{bits_in, floats_in, format_in, numbers_in, spans_in, text_row}
use Rattle.vx_array.specs.Rows.{lanes_each, lanes_rows, structs_from}
use Rattle.vx_array.specs.Shown.{shown}
use Rattle.vx_array.proofs.Held.{rows-Same, rows-Bools, rows-Numbers, rows-Floats, rows-Texts, rows-Octets, rows-Structs}
use Rattle.vx_array_build.specs.FloatBits.{float_row}
use Rattle.vx_array_build.specs.Taken.{AreWithin, rows_at}
use Rattle.vx_array_build.proofs.Reals.{rows_of_each}
use Rattle.vx_array_build.proofs.Taking.{among, made_each, made_taken, same_taken, structs_taken}
use Rattle.vx_array_build.proofs.taken.+take.Goals as goal

pub taken-numbers_taken-requires : goal.taken-numbers_taken-requires
taken-numbers_taken-requires t c = among int c.in-Numbers.validity (numbers_in c.in-Numbers.numbers) (lanes_rows c.args.lanes.now) c.args.indices.now (ap lanes_rows c.in-Numbers.is ∙ rows-Numbers c.in-Numbers.numbers c.in-Numbers.validity) (subst (AreWithin c.args.indices.now) c.len.ensures (c.are_within.ensures.0 c.if-not-are_within.false))

pub taken-floats_taken-requires : goal.taken-floats_taken-requires
taken-floats_taken-requires t c = among float c.in-Floats.validity (floats_in c.in-Floats.floats) (lanes_rows c.args.lanes.now) c.args.indices.now (ap lanes_rows c.in-Floats.is ∙ rows-Floats c.in-Floats.floats c.in-Floats.validity) (subst (AreWithin c.args.indices.now) c.len.ensures (c.are_within.ensures.0 c.if-not-are_within.false))

pub taken-spans_taken-requires : goal.taken-spans_taken-requires
taken-spans_taken-requires t c = among text_row c.in-Texts.validity (spans_in c.in-Texts.spans) (lanes_rows c.args.lanes.now) c.args.indices.now (ap lanes_rows c.in-Texts.is ∙ rows-Texts c.in-Texts.spans c.in-Texts.validity) (subst (AreWithin c.args.indices.now) c.len.ensures (c.are_within.ensures.0 c.if-not-are_within.false))

pub taken-spans_taken-requires-in-Octets : goal.taken-spans_taken-requires-in-Octets
taken-spans_taken-requires-in-Octets t c = among bytes c.in-Octets.validity (spans_in c.in-Octets.spans) (lanes_rows c.args.lanes.now) c.args.indices.now (ap lanes_rows c.in-Octets.is ∙ rows-Octets c.in-Octets.spans c.in-Octets.validity) (subst (AreWithin c.args.indices.now) c.len.ensures (c.are_within.ensures.0 c.if-not-are_within.false))

pub taken-shifted-requires : goal.taken-shifted-requires
taken-shifted-requires t c = λ k low.
    let s = c.in-Structs in
    omega (arith, among (struct_at (lanes_each s.fields.value.items)) s.validity (range_with_len s.stretch.from s.stretch.len) (lanes_rows c.args.lanes.now) c.args.indices.now (ap lanes_rows s.is ∙ rows-Structs s.fields s.stretch s.validity) (subst (AreWithin c.args.indices.now) c.len.ensures (c.are_within.ensures.0 c.if-not-are_within.false)) k low, length-range_with_len s.stretch.from s.stretch.len)

pub taken-returns-in_ok-clone-in-Same : goal.taken-returns-in_ok-clone-in-Same
taken-returns-in_ok-clone-in-Same t c =
    let n = c.in-Same.field-1 in
    let one = value_of c.in-Same.value.value in
    let indices = c.args.indices.now in
    let is = ap lanes_rows c.in-Same.is ∙ rows-Same c.in-Same.value n in
    rows-Same c.in_ok-clone-in-Same.field-0 (length indices) ∙ ap (λ u. replicate (length indices) (value_of u)) c.in_ok-clone-in-Same.ensures.cases
    ∙ same_taken n one indices (length indices) refl (λ k low. omega (arith, (subst (AreWithin c.args.indices.now) c.len.ensures (c.are_within.ensures.0 c.if-not-are_within.false)) k low, ap length is, length-replicate n one)) ∙ ap (λ l. rows_at l indices) (sym is)

pub taken-returns-in_ok-validity_taken-in-Bools : goal.taken-returns-in_ok-validity_taken-in-Bools
taken-returns-in_ok-validity_taken-in-Bools t c =
    let s = c.in-Bools in
    let bits = c.in_ok-bits-in-Bools.bits in
    let v = c.in_ok-validity_taken-in-Bools.field-0 in
    let made = c.in_ok-gather_bits-in-Bools.ensures in
    rows-Bools bits v
    ∙ made_taken bool s.validity v s.bits bits c.args.indices.now false (lanes_rows c.args.lanes.now) (ap lanes_rows s.is ∙ rows-Bools s.bits s.validity) (subst (AreWithin c.args.indices.now) c.len.ensures (c.are_within.ensures.0 c.if-not-are_within.false)) c.in_ok-validity_taken-in-Bools.ensures (ap length c.in_ok-bits-in-Bools.ensures ∙ made.long)
    (λ k low. ap (λ l. get_or l k false) c.in_ok-bits-in-Bools.ensures ∙ made.each k low)

pub taken-returns-in_ok-validity_taken-in-Numbers : goal.taken-returns-in_ok-validity_taken-in-Numbers
taken-returns-in_ok-validity_taken-in-Numbers t c =
    let s = c.in-Numbers in
    let v = c.in_ok-validity_taken-in-Numbers.field-0 in
    let ns = c.in_ok-numbers-in-Numbers.numbers in
    rows-Numbers ns v
    ∙ made_each int s.validity v (numbers_in s.numbers) (numbers_in ns) c.args.indices.now (pos 0) (lanes_rows c.args.lanes.now) (ap lanes_rows s.is ∙ rows-Numbers s.numbers s.validity) (subst (AreWithin c.args.indices.now) c.len.ensures (c.are_within.ensures.0 c.if-not-are_within.false)) c.in_ok-validity_taken-in-Numbers.ensures c.in_ok-numbers-in-Numbers.ensures

pub taken-returns-in_ok-validity_taken-in-Floats : goal.taken-returns-in_ok-validity_taken-in-Floats
taken-returns-in_ok-validity_taken-in-Floats t c =
    let s = c.in-Floats in
    let v = c.in_ok-validity_taken-in-Floats.field-0 in
    let fs = c.in_ok-floats-in-Floats.floats in
    let f = format_in s.floats in
    let old = map (λ b. pos b) (bits_in s.floats) in
    let new = map (λ b. pos b) (bits_in fs) in
    rows_of_each f fs v new c.in_ok-floats-in-Floats.ensures.format refl
    ∙ made_each (λ z. float_row f (int z)) s.validity v old new c.args.indices.now (pos 0) (lanes_rows c.args.lanes.now) (ap lanes_rows s.is ∙ rows_of_each f s.floats s.validity old refl refl) (subst (AreWithin c.args.indices.now) c.len.ensures (c.are_within.ensures.0 c.if-not-are_within.false)) c.in_ok-validity_taken-in-Floats.ensures c.in_ok-floats-in-Floats.ensures.bits

pub taken-returns-in_ok-validity_taken-in-Texts : goal.taken-returns-in_ok-validity_taken-in-Texts
taken-returns-in_ok-validity_taken-in-Texts t c =
    let s = c.in-Texts in
    let v = c.in_ok-validity_taken-in-Texts.field-0 in
    let ss = c.in_ok-spans-in-Texts.spans in
    rows-Texts ss v
    ∙ made_each text_row s.validity v (spans_in s.spans) (spans_in ss) c.args.indices.now [] (lanes_rows c.args.lanes.now) (ap lanes_rows s.is ∙ rows-Texts s.spans s.validity) (subst (AreWithin c.args.indices.now) c.len.ensures (c.are_within.ensures.0 c.if-not-are_within.false)) c.in_ok-validity_taken-in-Texts.ensures (c.in_ok-spans-in-Texts.ensures [])

pub taken-returns-in_ok-validity_taken-in-Octets : goal.taken-returns-in_ok-validity_taken-in-Octets
taken-returns-in_ok-validity_taken-in-Octets t c =
    let s = c.in-Octets in
    let v = c.in_ok-validity_taken-in-Octets.field-0 in
    let ss = c.in_ok-spans-in-Octets.spans in
    rows-Octets ss v
    ∙ made_each bytes s.validity v (spans_in s.spans) (spans_in ss) c.args.indices.now [] (lanes_rows c.args.lanes.now) (ap lanes_rows s.is ∙ rows-Octets s.spans s.validity) (subst (AreWithin c.args.indices.now) c.len.ensures (c.are_within.ensures.0 c.if-not-are_within.false)) c.in_ok-validity_taken-in-Octets.ensures (c.in_ok-spans-in-Octets.ensures [])

pub taken-returns-in_ok-new-in-Structs : goal.taken-returns-in_ok-new-in-Structs
taken-returns-in_ok-new-in-Structs t c =
    let s = c.in-Structs in
    let indices = c.args.indices.now in
    let cs = lanes_each s.fields.value.items in
    let ds = lanes_each c.in_ok-fields-in-Structs.fields.items in
    let fs = c.in_ok-new-in-Structs.field-0 in
    let v = c.in_ok-validity-in-Structs.validity in
    let r = c.first-rows.result in
    let shifted = c.in_ok-shifted-in-Structs.shifted.items in
    let same : lanes_each c.as_slice.result.now ≡ cs = ap lanes_each (c.as_slice.ensures.value ∙ ap (λ u. u.items) c.deref.ensures) in
    rows-Structs fs r v ∙ ap (λ u. shown v (structs_from r.from r.len (lanes_each u.items))) c.in_ok-new-in-Structs.ensures.ok ∙ ap (λ a. shown v (structs_from a r.len ds)) c.first-rows.ensures.from
    ∙ structs_taken s.validity v s.stretch.from s.stretch.len r.len cs ds indices shifted (lanes_rows c.args.lanes.now) (ap lanes_rows s.is ∙ rows-Structs s.fields s.stretch s.validity) (subst (AreWithin c.args.indices.now) c.len.ensures (c.are_within.ensures.0 c.if-not-are_within.false)) c.in_ok-validity-in-Structs.ensures c.first-rows.ensures.len c.in_ok-shifted-in-Structs.ensures
    (c.in_ok-fields-in-Structs.ensures ∙ ap (λ l. map (λ rows. rows_at rows l) (lanes_each c.as_slice.result.now)) c.as_slice-in-Structs.ensures.value ∙ ap (map (λ rows. rows_at rows shifted)) same)
