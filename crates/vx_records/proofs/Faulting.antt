-- Records on which a tree never faults, and their parts.
use Rattle.std.proofs.Common.{◌≤◌, ℕ, List, [], ◌++◌, length, sym, ap, ◌∙◌, append_assoc, arith}
use Rattle.std.proofs.lemmas.List.{append-nil}
use Rattle.vx_tree.specs.Faults.{HasNoFault}
use Rattle.vx_tree.specs.Trees.{BoundTree}
use Rattle.vx_records.specs.Outcomes.{NeverFaults, UnlessFaulting}
use Rattle.vx_records.specs.Records.{Record, rows}

-- nor does it on those before some
pub never_before : (n : ℕ) (b : BoundTree) (xs ys : List Record) → NeverFaults n b (xs ++ ys) → NeverFaults n b xs
never_before n b xs ys never us vs ws cut few =
    never us vs (ws ++ ys) (ap (λ l. l ++ ys) cut ∙ append_assoc us (vs ++ ws) ys ∙ ap (λ l. us ++ l) (append_assoc vs ws ys)) few

-- nor on those behind some, where fewer are taken together
pub never_behind : (n m : ℕ) (b : BoundTree) (xs ys : List Record) → m ≤ n → NeverFaults n b (xs ++ ys) → NeverFaults m b ys
never_behind n m b xs ys less never us vs ws cut few =
    never (xs ++ us) vs ws (ap (λ l. xs ++ l) cut ∙ sym (append_assoc xs us (vs ++ ws))) (search (arith, few, less))

-- nor on all of them together, where they are few enough
pub never_together : (n : ℕ) (b : BoundTree) (rs : List Record) → length rs ≤ n → NeverFaults n b rs → HasNoFault b (rows rs)
never_together n b rs few never = never [] rs [] (sym (append-nil rs)) few

-- what is said of some records and of those behind them, said of all
pub unless_on : (n m : ℕ) (b : BoundTree) (First Second Both : List Record → Type 0) (xs ys : List Record) → m ≤ n
    → (First xs → Second ys → Both (xs ++ ys)) → UnlessFaulting n b First xs → UnlessFaulting m b Second ys → UnlessFaulting n b Both (xs ++ ys)
unless_on n m b First Second Both xs ys less join first second never = join (first (never_before n b xs ys never)) (second (never_behind n m b xs ys less never))
