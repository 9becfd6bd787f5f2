-- What is written of one part after another.
use Rattle.std.proofs.Common.{◌≡◌, ◌<◌, ◌≤◌, ◌+◌, ◌++◌, ℕ, List, [], length, take, Option, Some, None, sym, subst, ap, ◌∙◌, append_assoc, arith}
use Rattle.std.proofs.KnownBytes.{Appends-trans}
use Rattle.std.proofs.lemmas.List.{append-nil, length-append}
use Rattle.std.proofs.Math.Seq.{take-append-add}
use Rattle.std.specs.Io.KnownBytes.{Appends}
use Rattle.vx_value.specs.Types.{LogicalType, Datum}
use Rattle.vx_tree.specs.Trees.{BoundTree, Tree, unbound}
use Rattle.vx_records.specs.Outcomes.{Breaks, Gains, UnlessFaulting}
use Rattle.vx_records.specs.Records.{Record, kept_lines, meanings}
use Rattle.vx_records.proofs.Faulting.{unless_on}
use Rattle.vx_records.proofs.Keeping.{kept-append}
use Rattle.vx_records.proofs.Meaning.{meanings-append}

pub gains_none : (held : Option (List Datum)) → Gains held held []
gains_none None = tt
gains_none (Some us) = sym (append-nil us)

pub gains_trans : (a b c : Option (List Datum)) (us vs : List Datum) → Gains a b us → Gains b c vs → Gains a c (us ++ vs)
gains_trans None b c us vs p q = tt
gains_trans (Some x) None c us vs p q = absurd p
gains_trans (Some x) (Some y) None us vs p q = absurd q
gains_trans (Some x) (Some y) (Some z) us vs p q = q ∙ ap (λ l. l ++ vs) p ∙ append_assoc x us vs

-- the meanings of one part after another
pub gains_on : (e : Tree) (s : LogicalType) (a b c : Option (List Datum)) (xs ys : List Record) → Gains a b (meanings e s xs) → Gains b c (meanings e s ys) → Gains a c (meanings e s (xs ++ ys))
gains_on e s a b c xs ys first second = subst (Gains a c) (sym (meanings-append e s xs ys)) (gains_trans a b c _ _ first second)

-- the lines of one part after another, behind the heading
joined : (head : List ℕ) (e : Tree) (s : LogicalType) (xs ys : List Record) → (head ++ kept_lines e s xs) ++ kept_lines e s ys ≡ head ++ kept_lines e s (xs ++ ys)
joined head e s xs ys = append_assoc head (kept_lines e s xs) (kept_lines e s ys) ∙ ap (λ l. head ++ l) (sym (kept-append e s xs ys))

pub appends_on : (head : List ℕ) (e : Tree) (s : LogicalType) (a b c : Option (List ℕ)) (xs ys : List Record) → Appends a b (head ++ kept_lines e s xs) → Appends b c (kept_lines e s ys) → Appends a c (head ++ kept_lines e s (xs ++ ys))
appends_on head e s a b c xs ys first second = subst (Appends a c) (joined head e s xs ys) (Appends-trans a b c _ _ first second)

-- a beginning behind what is written
pub breaks_behind : (a b c : Option (List ℕ)) (bs cs : List ℕ) → Appends a b bs → Breaks b c cs → Breaks a c (bs ++ cs)
breaks_behind a b c bs cs first (n, short, second) = (length bs + n, subst (λ l. length bs + n < l) (sym (length-append bs cs)) (search (arith, short)), subst (Appends a c) (sym (take-append-add bs cs n)) (Appends-trans a b c bs (take n cs) first second))

pub breaks_on : (head : List ℕ) (e : Tree) (s : LogicalType) (a b c : Option (List ℕ)) (xs ys : List Record) → Appends a b (head ++ kept_lines e s xs) → Breaks b c (kept_lines e s ys) → Breaks a c (head ++ kept_lines e s (xs ++ ys))
breaks_on head e s a b c xs ys first second = subst (Breaks a c) (joined head e s xs ys) (breaks_behind a b c _ _ first second)

-- the lines of one part and then of a chunk, unless the tree faults on some of them
pub chunk_appends : (head : List ℕ) (n m : ℕ) (b : BoundTree) (s t : LogicalType) (a c d : Option (List ℕ)) (xs ys : List Record) → m ≤ n → t ≡ s
    → UnlessFaulting n b (λ rs. Appends a c (head ++ kept_lines (unbound b) s rs)) xs → UnlessFaulting m b (λ rs. Appends c d (kept_lines (unbound b) t rs)) ys
    → UnlessFaulting n b (λ rs. Appends a d (head ++ kept_lines (unbound b) s rs)) (xs ++ ys)
chunk_appends head n m b s t a c d xs ys less same first second =
    unless_on n m b (λ rs. Appends a c (head ++ kept_lines (unbound b) s rs)) (λ rs. Appends c d (kept_lines (unbound b) t rs)) (λ rs. Appends a d (head ++ kept_lines (unbound b) s rs)) xs ys less
    (λ f g. appends_on head (unbound b) s a c d xs ys f (subst (λ t. Appends c d (kept_lines (unbound b) t ys)) same g)) first second

pub chunk_breaks : (head : List ℕ) (n m : ℕ) (b : BoundTree) (s t : LogicalType) (a c d : Option (List ℕ)) (xs ys : List Record) → m ≤ n → t ≡ s
    → UnlessFaulting n b (λ rs. Appends a c (head ++ kept_lines (unbound b) s rs)) xs → UnlessFaulting m b (λ rs. Breaks c d (kept_lines (unbound b) t rs)) ys
    → UnlessFaulting n b (λ rs. Breaks a d (head ++ kept_lines (unbound b) s rs)) (xs ++ ys)
chunk_breaks head n m b s t a c d xs ys less same first second =
    unless_on n m b (λ rs. Appends a c (head ++ kept_lines (unbound b) s rs)) (λ rs. Breaks c d (kept_lines (unbound b) t rs)) (λ rs. Breaks a d (head ++ kept_lines (unbound b) s rs)) xs ys less
    (λ f g. breaks_on head (unbound b) s a c d xs ys f (subst (λ t. Breaks c d (kept_lines (unbound b) t ys)) same g)) first second
