-- What is pushed and left of a tree that is no And.
use Rattle.std.proofs.Common.{◌≡◌, ℕ, Bool, true, false, ◌&&◌, List, [], ◌∷◌, ◌++◌, Option, Some, None, refl, sym, ap, ◌∙◌, map, append-nil}
use Rattle.std.specs.Prelude.{IsFalse, Ok, Err}
use Rattle.std.specs.Option.{is_none}
use Rattle.vx_fn.specs.Functions.{is_truth}
use Rattle.vx_tree.specs.Trees.{BoundTree, node_type}
use Rattle.vx_rewrite_fusing.specs.Conjuncts.{is_and}
use Rattle.vx_sql.specs.declared.dialect.Dialect.{Dialect}
use Rattle.vx_sql.specs.SqlTexts.{sql}
use Rattle.vx_sql.specs.Unsupported.{Refused, first_unsupported, text_or, sql_text}
use Rattle.vx_sql_plan.specs.Pushdown.{is_pushed, pushed, residual}
use Rattle.vx_sql_plan.proofs.Induction.{alone, kept_alone, dropped_alone, none_left, all_left}

-- it is pushed where it is a truth value with a text
is_taken : (d : Dialect) (b : BoundTree) (text : List ℕ) → is_truth (node_type b) ≡ true → sql_text d b ≡ Ok text → (is_pushed d b ≡ true) × (text ≡ sql d b)
is_taken d b text e h = by (first_unsupported d b) refl where
  by : (o : Option Refused) → first_unsupported d b ≡ o → (is_pushed d b ≡ true) × (text ≡ sql d b)
  by None k = (ap (λ t. t && is_none (first_unsupported d b)) e ∙ ap is_none k, given (sym (ap (text_or (sql d b)) k) ∙ h)) where
    given : text_or (sql d b) None ≡ Ok text → text ≡ sql d b
    given g = cc
  by (Some refused) k = absurd (never (sym (ap (text_or (sql d b)) k) ∙ h)) where
    never : text_or (sql d b) (Some refused) ≡ Ok text → ⊥
    never g = cc

is_refused : (d : Dialect) (b : BoundTree) (refused : Refused) → sql_text d b ≡ Err refused → is_pushed d b ≡ false
is_refused d b refused h = by (first_unsupported d b) refl where
  both_false : (a : Bool) → (a && false) ≡ false
  both_false true = refl
  both_false false = refl

  by : (o : Option Refused) → first_unsupported d b ≡ o → is_pushed d b ≡ false
  by None k = absurd (never (sym (ap (text_or (sql d b)) k) ∙ h)) where
    never : text_or (sql d b) None ≡ Err refused → ⊥
    never g = cc
  by (Some other) k = ap (λ o. is_truth (node_type b) && is_none o) k ∙ both_false (is_truth (node_type b))

is_no_truth : (d : Dialect) (b : BoundTree) → is_truth (node_type b) ≡ false → is_pushed d b ≡ false
is_no_truth d b e = ap (λ t. t && is_none (first_unsupported d b)) e

pub taken_texts : (d : Dialect) (b : BoundTree) (text : List ℕ) (old new : List (List ℕ)) → IsFalse (is_and b) → is_truth (node_type b) ≡ true → sql_text d b ≡ Ok text → new ≡ old ++ text ∷ [] → new ≡ old ++ map (sql d) (pushed d b)
taken_texts d b text old new a e h is =
    let t = is_taken d b text e h in is ∙ ap (λ x. old ++ x ∷ []) t.1 ∙ ap (λ cs. old ++ map (sql d) cs) (sym (kept_alone (is_pushed d) b (alone b a) t.0))

pub taken_left : (d : Dialect) (b : BoundTree) (text : List ℕ) → IsFalse (is_and b) → is_truth (node_type b) ≡ true → sql_text d b ≡ Ok text → None ≡ residual d b
taken_left d b text a e h = sym (none_left (is_pushed d) b (alone b a) (is_taken d b text e h).0)

stays_texts : (d : Dialect) (b : BoundTree) (old new : List (List ℕ)) → IsFalse (is_and b) → is_pushed d b ≡ false → new ≡ old → new ≡ old ++ map (sql d) (pushed d b)
stays_texts d b old new a e is = is ∙ sym (append-nil old) ∙ ap (λ cs. old ++ map (sql d) cs) (sym (dropped_alone (is_pushed d) b (alone b a) e))

-- a tree that is no truth value, or has no text, stays
pub other_texts : (d : Dialect) (b : BoundTree) (old new : List (List ℕ)) → IsFalse (is_and b) → is_truth (node_type b) ≡ false → new ≡ old → new ≡ old ++ map (sql d) (pushed d b)
other_texts d b old new a e is = stays_texts d b old new a (is_no_truth d b e) is

pub other_left : (d : Dialect) (b u : BoundTree) → IsFalse (is_and b) → is_truth (node_type b) ≡ false → u ≡ b → Some u ≡ residual d b
other_left d b u a e is = ap Some is ∙ sym (all_left (is_pushed d) b (alone b a) (is_no_truth d b e))

pub refused_texts : (d : Dialect) (b : BoundTree) (refused : Refused) (old new : List (List ℕ)) → IsFalse (is_and b) → sql_text d b ≡ Err refused → new ≡ old → new ≡ old ++ map (sql d) (pushed d b)
refused_texts d b refused old new a h is = stays_texts d b old new a (is_refused d b refused h) is

pub refused_left : (d : Dialect) (b u : BoundTree) (refused : Refused) → IsFalse (is_and b) → sql_text d b ≡ Err refused → u ≡ b → Some u ≡ residual d b
refused_left d b u refused a h is = ap Some is ∙ sym (all_left (is_pushed d) b (alone b a) (is_refused d b refused h))
