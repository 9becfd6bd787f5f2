-- The lines of what is kept, made one after another, and of one part after another.
use Rattle.std.proofs.Common.{◌≡◌, ℕ, zero, suc, ◌<◌, ◌≤◌, ◌++◌, List, [], ◌∷◌, length, take, get_or, refl, sym, subst, ap, ◌∙◌, true, false, Bool, arith, if◌then◌else◌}
use Rattle.std.specs.Global.{Vec}
use Rattle.std.specs.List.{filter, flat_map}
use Rattle.std.proofs.Math.Seq.{take-suc, take-length}
use Rattle.std.proofs.lemmas.List.{append-nil, get_or-map, length-map}
use Rattle.std.proofs.lemmas.List.Elements.{filter-append}
use Rattle.std.proofs.lemmas.Grind.{flat_map-append}
use Rattle.vx_value.specs.Types.{LogicalType, Datum, null}
use Rattle.vx_fn.specs.Values.{is_true}
use Rattle.vx_tree.specs.Meaning.{mean}
use Rattle.vx_tree.specs.Trees.{Tree}
use Rattle.vx_records.specs.Chunks.{texts_in, true_lines, line_if_true}
use Rattle.vx_records.specs.Records.{Record, record_as, texts, meanings, kept_lines, holds, record_line}

-- of one part after another
pub kept-append : (e : Tree) (s : LogicalType) (xs ys : List Record) → kept_lines e s (xs ++ ys) ≡ kept_lines e s xs ++ kept_lines e s ys
kept-append e s xs ys = ap (flat_map record_line) (filter-append (holds e s) xs ys) ∙ flat_map-append record_line (filter (holds e s) xs) (filter (holds e s) ys)

one_if : (b : Bool) (v : Datum) (r : Record) → is_true v ≡ b → line_if_true v r.text ≡ flat_map record_line (if b then r ∷ [] else [])
one_if true v r h = subst (λ c. (if c then r.text ++ 10 ∷ [] else []) ≡ flat_map record_line (r ∷ [])) (sym h) (sym (append-nil (record_line r)))
one_if false v r h = subst (λ c. (if c then r.text ++ 10 ∷ [] else []) ≡ flat_map record_line []) (sym h) refl

-- of one record
pub kept_one : (e : Tree) (s : LogicalType) (r : Record) → kept_lines e s (r ∷ []) ≡ line_if_true (mean e s r.row) r.text
kept_one e s r = sym (one_if (is_true (mean e s r.row)) (mean e s r.row) r refl)

none : Record
none = record_as [] null

kept_upto : (e : Tree) (s : LogicalType) (rs : List Record) (i : ℕ) → i ≤ length rs → true_lines (texts rs) (meanings e s rs) i ≡ kept_lines e s (take i rs)
kept_upto e s rs zero h = refl
kept_upto e s rs (suc i) h =
    let below : i < length rs = search (arith, h) in
    let r = get_or rs i none in
    let value : get_or (meanings e s rs) i null ≡ mean e s r.row = get_or-map (λ (r : Record). mean e s r.row) rs i none null below in
    let text : get_or (texts rs) i [] ≡ r.text = get_or-map (λ (r : Record). r.text) rs i none [] below in
    let line : line_if_true (get_or (meanings e s rs) i null) (get_or (texts rs) i []) ≡ kept_lines e s (r ∷ []) =
    ap (λ v. line_if_true v (get_or (texts rs) i [])) value ∙ ap (line_if_true (mean e s r.row)) text ∙ sym (kept_one e s r) in
    let before = kept_upto e s rs i (search (arith, h)) in
    ap (λ ls. ls ++ line_if_true (get_or (meanings e s rs) i null) (get_or (texts rs) i [])) before
    ∙ ap (λ l. kept_lines e s (take i rs) ++ l) line
    ∙ sym (kept-append e s (take i rs) (r ∷ []))
    ∙ ap (kept_lines e s) (sym (take-suc rs i none below))

-- made one after another
pub kept_all : (e : Tree) (s : LogicalType) (rs : List Record) → true_lines (texts rs) (meanings e s rs) (length rs) ≡ kept_lines e s rs
kept_all e s rs = kept_upto e s rs (length rs) (search arith) ∙ ap (kept_lines e s) (take-length rs)

-- of what was read
pub kept_read : (e : Tree) (s : LogicalType) (rs : List Record) (ts : List (List ℕ)) (vs : List Datum) (n : ℕ) (ls : List ℕ) → ls ≡ true_lines ts vs n → ts ≡ texts rs → vs ≡ meanings e s rs → n ≡ length rs → ls ≡ kept_lines e s rs
kept_read e s rs ts vs n ls made read meant count = made ∙ ap (λ ts. true_lines ts vs n) read ∙ ap (λ vs. true_lines (texts rs) vs n) meant ∙ ap (true_lines (texts rs) (meanings e s rs)) count ∙ kept_all e s rs

-- as many texts as records
pub count_of : (rs : List Record) (ts : List (Vec ℕ)) → texts_in ts ≡ texts rs → length ts ≡ length rs
count_of rs ts same = sym (length-map ts (λ (t : Vec ℕ). t.items)) ∙ ap length same ∙ length-map rs (λ (r : Record). r.text)
