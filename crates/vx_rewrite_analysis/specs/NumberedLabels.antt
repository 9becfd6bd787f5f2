-- Labels of numbered nodes. No public contract names this file.
use Rattle.std.specs.Prelude.{◌≡◌, ◌+◌, ℕ, List, Some, slice_get}
use Rattle.vx_tree.specs.Trees.{BoundTree}
use Rattle.vx_rewrite_analysis.specs.Labels.{label}
use Rattle.vx_rewrite_analysis.specs.Numbers.{tree_at}
use Rattle.vx_rewrite_analysis.specs.declared.numbers.NumberedNode.{NumberedNode}

-- each label is that of the node whose number is its place
abbrev pub HasLabels : {L : Type 0} → (BoundTree → L) → (L → L → L) → List NumberedNode → List L → Type 0
HasLabels {L} own merge ns ls = (i : ℕ) (l : L) → slice_get ls i ≡ Some l → l ≡ label own merge (tree_at ns i)

-- each label is that of the node whose number is so many places on
abbrev pub HasLabelsFrom : {L : Type 0} → (BoundTree → L) → (L → L → L) → List NumberedNode → ℕ → List L → Type 0
HasLabelsFrom {L} own merge ns n ls = (i : ℕ) (l : L) → slice_get ls i ≡ Some l → l ≡ label own merge (tree_at ns (n + i))
