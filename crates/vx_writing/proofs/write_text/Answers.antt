-- One more write goes on where the last one ended.
use Rattle.std.proofs.Common.{◌≡◌, ℕ, ◌+◌, ◌-◌, List, length, take, drop, subst, sym, arith, Option}
use Rattle.std.proofs.lemmas.List.{take_rest}
use Rattle.std.proofs.Math.Seq.{take-add}
use Rattle.std.specs.Io.KnownBytes.{Appends}
use Rattle.std.proofs.KnownBytes.{Appends-trans}
use Rattle.vx_writing.proofs.write_text.Goals as goal

goes_on : (a b c : Option (List ℕ)) (text bytes : List ℕ) (done n : ℕ) → bytes ≡ text → Appends a b (take done text)
    → Appends b c (take n (take (length bytes - done) (drop done bytes))) → Appends a c (take (done + n) text)
goes_on a b c text bytes done n e first second =
    let same = subst (λ s. Appends b c (take n (take (length s - done) (drop done s)))) e second in
    let next = subst (λ s. Appends b c (take n s)) (take_rest text done) same in
    subst (Appends a c) (sym (take-add done n text)) (Appends-trans a b c _ _ first next)

pub loop-written-preserved : goal.loop-written-preserved
loop-written-preserved g c =
    let text = c.args.text.now in
    let done = c.loop-written.written in
    let (within, so_far) = c.loop-written.invariant in (
      search (arith, c.in-Ok.ensures.bound, c.as_bytes-bytes.ensures.value),
      goes_on _ _ _ text _ done c.in-Ok.n c.as_bytes-bytes.ensures.value so_far c.in-Ok.ensures.bytes,
    )
