-- What a text of SQL is read as.
use Rattle.std.specs.Prelude.{◌≡◌, ℕ, List, Result, Ok, Err, MatchResult}
use Rattle.std.specs.Str.{IsCharBoundary}
use Rattle.vx_value.specs.Types.{LogicalType}
use Rattle.vx_tree.specs.Trees.{Tree}
use Rattle.vx_source_over.specs.Reading.{ReadsAlone, ReadsOver, RefusesOver}
use Rattle.vx_source_over.specs.declared.error.OverError.{OverError}
use Rattle.vx_source_over.specs.declared.error.OverError.TheVariants as over
use Rattle.vx_sql.specs.declared.dialect.Dialect.{Dialect}
use Rattle.vx_sql_parser.specs.declared.error.SqlError.{SqlError}
use Rattle.vx_sql_parser.specs.declared.error.SqlError.TheVariants.{OutOfMemory, Unread, Source}
use Rattle.vx_sql_parser.specs.declared.step.Stop.{Stop}
use Rattle.vx_sql_parser.specs.declared.step.Stop.TheVariants as stops
use Rattle.vx_sql_parser.specs.Rules.{sql_source}

-- a text of SQL is read as that tree: the source text is that it is written as
abbrev pub ReadsSql : Dialect → List ℕ → Tree → Type 0
ReadsSql d text e = (s : List ℕ) × (sql_source d text ≡ Ok s) × ReadsAlone 200 s e

-- the same over a scope of type t
abbrev pub ReadsSqlOver : Dialect → List ℕ → LogicalType → Tree → Type 0
ReadsSqlOver d text t e = (s : List ℕ) × (sql_source d text ≡ Ok s) × ReadsOver 200 s t e

-- memory ran out, or the text has something that isn't read, for that reason
abbrev pub IsUnread : Dialect → List ℕ → SqlError → Type 0
IsUnread d text OutOfMemory = Unit {0}
IsUnread d text (Unread at r) = sql_source d text ≡ Err r
IsUnread d text (Source x) = ⊥

-- the same, or its source text is no expression
abbrev pub RefusesSql : Dialect → List ℕ → SqlError → Type 0
RefusesSql d text OutOfMemory = Unit {0}
RefusesSql d text (Unread at r) = sql_source d text ≡ Err r
RefusesSql d text (Source x) = (s : List ℕ) × (sql_source d text ≡ Ok s) × ((e : Tree) → ReadsAlone 200 s e → ⊥)

-- the same over a scope of type t
abbrev pub RefusesSqlOver : Dialect → List ℕ → LogicalType → SqlError → Type 0
RefusesSqlOver d text t OutOfMemory = Unit {0}
RefusesSqlOver d text t (Unread at r) = sql_source d text ≡ Err r
RefusesSqlOver d text t (Source x) = (s : List ℕ) × (sql_source d text ≡ Ok s) × RefusesOver 200 s t x

-- the call gave that, seen by view, unless memory ran out
abbrev pub GivesSql : {A B : Type 0} → (A → B) → Result A SqlError → B → Type 0
GivesSql view result said = MatchResult result (λ x. view x ≡ said) (λ e. e ≡ OutOfMemory)

-- the error's places are in the text, where characters begin or at its end
abbrev pub IsOverPlacedIn : List ℕ → OverError → Type 0
IsOverPlacedIn text over.OutOfMemory = Unit {0}
IsOverPlacedIn text (over.Unexpected at x) = IsCharBoundary text at
IsOverPlacedIn text (over.Misfit start end v t) = IsCharBoundary text start × IsCharBoundary text end

abbrev pub IsPlacedIn : List ℕ → SqlError → Type 0
IsPlacedIn text OutOfMemory = Unit {0}
IsPlacedIn text (Unread at r) = IsCharBoundary text at
IsPlacedIn text (Source x) = IsOverPlacedIn text x

-- the error is the other one but for its places
abbrev pub SameOver : OverError → OverError → Type 0
SameOver (over.Unexpected at x) (over.Unexpected place y) = x ≡ y
SameOver (over.Misfit start end v t) (over.Misfit from to w u) = (v ≡ w) × (t ≡ u)
SameOver x y = x ≡ y

abbrev pub IsMoved : OverError → SqlError → Type 0
IsMoved over.OutOfMemory e = e ≡ OutOfMemory
IsMoved x (Source y) = SameOver x y
IsMoved x e = ⊥

-- what isn't written as source text is refused for the same reason, unless memory ran out
abbrev pub IsRefusal : Stop → SqlError → Type 0
IsRefusal stops.OutOfMemory e = e ≡ OutOfMemory
IsRefusal (stops.Unread r) OutOfMemory = Unit {0}
IsRefusal (stops.Unread r) (Unread at q) = q ≡ r
IsRefusal (stops.Unread r) (Source x) = ⊥
