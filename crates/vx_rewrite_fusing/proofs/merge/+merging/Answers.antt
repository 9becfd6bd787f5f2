use Rattle.std.proofs.Common.{rules, ◌≡◌, ◌<◌, ◌+◌, ◌*◌, Err, refl, arith}
use Rattle.vx_dtype.specs.declared.error.VortexError.TheVariants.{OutOfMemory}
use Rattle.vx_tree.specs.Nodes.{size_of}
use Rattle.vx_tree.specs.Trees.{unbound}
use Rattle.vx_tree.specs.Views.{bound_of}
use Rattle.vx_rewrite_fusing.specs.Finding.{with_pairs, without_pairs}
use Rattle.vx_rewrite_fusing.proofs.Binaries.{left_smaller, right_smaller}
use Rattle.vx_rewrite_fusing.proofs.Found.{none_with_left, none_with_right, right_none}
use Rattle.vx_rewrite_fusing.proofs.Pairing.{first_and_second, second_alone, second_answered}
use Rattle.vx_rewrite_fusing.proofs.Refusals.{failed, spent}
use Rattle.vx_rewrite_fusing.proofs.merge.+merging.Goals as goal

pub merge_pairs-merge_pairs-requires : goal.merge_pairs-merge_pairs-requires
merge_pairs-merge_pairs-requires t c =
    let smaller : size_of (unbound (bound_of c.in-Some.first.now)) < size_of (unbound (bound_of c.args.r.now)) = left_smaller c.in-Some.ensures in
    let twice : 2 * size_of (unbound (bound_of c.in-Some.first.now)) < 2 * size_of (unbound (bound_of c.args.r.now)) = omega arith in
    search rules

pub merge_pairs-returns-in_err-merged : goal.merge_pairs-returns-in_err-merged
merge_pairs-returns-in_err-merged t c =
    let p = c.in_err-merged.ensures in
    let same : c.from_residual.result ≡ Err c.in_err-merged.field-0.0 = search rules in
    failed _ _ same p.1 (λ n. p.0 (none_with_left _ c.in-Some.ensures n))

pub merge_pairs-merge_second-requires : goal.merge_pairs-merge_second-requires
merge_pairs-merge_second-requires t c =
    let smaller : size_of (unbound (bound_of c.in-Some.second.now)) < size_of (unbound (bound_of c.args.r.now)) = right_smaller c.in-Some.ensures in
    let twice : 2 * size_of (unbound (bound_of c.in-Some.second.now)) + 1 < 2 * size_of (unbound (bound_of c.args.r.now)) = omega arith in
    search rules

pub merge_pairs-returns-in_err-merge_second-in-Some-2 : goal.merge_pairs-returns-in_err-merge_second-in-Some-2
merge_pairs-returns-in_err-merge_second-in-Some-2 t c =
    let p = rw c.in-Some-2.is at c.in_ok-merged.ensures in
    let same : c.from_residual-in_err-merge_second-in-Some-2.result ≡ Err OutOfMemory = search rules in
    spent _ _ same (λ n. p.0 (none_with_left _ c.in-Some.ensures n))

pub merge_pairs-merge_pairs-requires-in-None : goal.merge_pairs-merge_pairs-requires-in-None
merge_pairs-merge_pairs-requires-in-None t c =
    let smaller : size_of (unbound (bound_of c.in-Some.second.now)) < size_of (unbound (bound_of c.args.r.now)) = right_smaller c.in-Some.ensures in
    let twice : 2 * size_of (unbound (bound_of c.in-Some.second.now)) < 2 * size_of (unbound (bound_of c.args.r.now)) = omega arith in
    search rules

pub merge_pairs-returns-in_err-merged-in-None : goal.merge_pairs-returns-in_err-merged-in-None
merge_pairs-returns-in_err-merged-in-None t c =
    let p = c.in_err-merged-in-None.ensures in
    let same : c.from_residual-in_err-merged-in-None.result ≡ Err c.in_err-merged-in-None.field-0.0 = search rules in
    failed _ _ same p.1 (λ n. p.0 (none_with_right _ c.in-Some.ensures n))

pub merge_pairs-returns-in_err-behind-in-Some-3 : goal.merge_pairs-returns-in_err-behind-in-Some-3
merge_pairs-returns-in_err-behind-in-Some-3 t c =
    let p = rw c.in-Some-3.is at c.in_ok-merged-in-None.ensures in
    let same : c.from_residual-in_err-behind-in-Some-3.result ≡ Err OutOfMemory = search rules in
    spent _ _ same (λ n. p.0 (none_with_right _ c.in-Some.ensures n))

pub merge_pairs-returns-in_ok-merge_second-in-Some-2 : goal.merge_pairs-returns-in_ok-merge_second-in-Some-2
merge_pairs-returns-in_ok-merge_second-in-Some-2 t c =
    let p = rw c.in-Some-2.is at c.in_ok-merged.ensures in
    (λ n. p.0 (none_with_left _ c.in-Some.ensures n), first_and_second c.in-Some.ensures p.1 c.in_ok-merge_second-in-Some-2.ensures.merged)

pub merge_pairs-returns-in_ok-behind-in-Some-3 : goal.merge_pairs-returns-in_ok-behind-in-Some-3
merge_pairs-returns-in_ok-behind-in-Some-3 t c =
    let none = rw c.in-None.is at c.in_ok-merged.ensures in
    let p = rw c.in-Some-3.is at c.in_ok-merged-in-None.ensures in (
      λ n. p.0 (none_with_right _ c.in-Some.ensures n),
      rw (c.in_ok-behind-in-Some-3.ensures.left, c.in_ok-behind-in-Some-3.ensures.right) (second_alone c.in-Some.ensures none p.1),
    )

pub merge_pairs-returns-in-None-2 : goal.merge_pairs-returns-in-None-2
merge_pairs-returns-in-None-2 t c =
    right_none (bound_of c.args.l.now) c.in-Some.ensures (rw c.in-None.is at c.in_ok-merged.ensures) (rw c.in-None-2.is at c.in_ok-merged-in-None.ensures)

pub merge_second-returns-in-Ok-Some-clause-merged : goal.merge_second-returns-in-Ok-Some-clause-merged
merge_second-returns-in-Ok-Some-clause-merged t c =
    let p = rw (c.in-Ok-Some.field-0-is, c.deref.ensures) at c.in-Ok-Some.ensures in
    second_answered c.rejoined.result c.rejoined.ensures.left c.rejoined.ensures.right (with_pairs p.1)

pub merge_second-returns-in-Ok-None-clause-merged : goal.merge_second-returns-in-Ok-None-clause-merged
merge_second-returns-in-Ok-None-clause-merged t c =
    let none = rw (c.in-Ok-None.field-0-is, c.deref.ensures) at c.in-Ok-None.ensures in
    second_answered c.in_front.result c.in_front.ensures.left c.in_front.ensures.right (without_pairs refl none)
