-- The program's ends and values.
use Rattle.std.proofs.Common.{◌≡◌, List, ℕ, refl, sym, ap, ◌∙◌, rules, Vec, Global, Bool, true, false, ◌&&◌}
use Rattle.std.specs.Prelude.{Option, Some, None, is_none, option_map, string_bytes, if◌then◌else◌}
use Rattle.std.specs.declared.string.String.{String}
use Rattle.vx_value.specs.declared.value.Value.{Value, Utf8, Binary, the_lemmas}
use Rattle.vx_value.specs.Types.{Datum, is_null_datum, utf8, bytes}
use Rattle.vx_value.specs.Views.{value_of}
use Rattle.vx_prune_bounds.specs.declared.bounds.Bounds as program
use Rattle.vx_prune_bounds.specs.declared.endpoint.Endpoint.{Endpoint}
use Rattle.vx_prune_bounds.specs.Order.{at_most, comparable}
use Rattle.vx_prune_bounds.specs.Bounds.{is_from, is_up_to, contains}
use Rattle.vx_prune_bounds.specs.Views.{endpoint_value, bounds_view}
use Rattle.vx_prune_bounds.proofs.Ordered.{at_most-left, at_most-right}
use Rattle.vx_prune_bounds.proofs.Contained.{contains-value}

pub value_of-Utf8 : (v : Value) (t : String Global) (s : List ℕ) → v ≡ Utf8 t → s ≡ string_bytes t → value_of v ≡ utf8 s
value_of-Utf8 v t s e f = rw (e, f) (search (rules, the_lemmas))

pub value_of-Binary : (v : Value) (t : Vec ℕ Global) (s : List ℕ) → v ≡ Binary t → s ≡ t.items → value_of v ≡ bytes s
value_of-Binary v t s e f = rw (e, f) (search (rules, the_lemmas))

-- ---- a value that can't be compared

alone : (v : Datum) → None ≡ comparable v → at_most v v ≡ false
alone v e = go (at_most v v) refl e
  where
    go : (b : Bool) → at_most v v ≡ b → None ≡ (if b then Some v else None) → at_most v v ≡ false
    go true h q = cc
    go false h q = h

open_from : (l : Option Endpoint) (v : Datum) → at_most v v ≡ false → is_none l ≡ is_from (option_map endpoint_value l) v
open_from None v e = refl
open_from (Some l) v e = go (at_most (endpoint_value l) v) refl
  where
    go : (b : Bool) → at_most (endpoint_value l) v ≡ b → false ≡ b
    go true h = let q : at_most v v ≡ true = at_most-right (endpoint_value l) v h in cc
    go false h = refl

open_up_to : (g : Option Endpoint) (v : Datum) → at_most v v ≡ false → is_none g ≡ is_up_to (option_map endpoint_value g) v
open_up_to None v e = refl
open_up_to (Some g) v e = go (at_most v (endpoint_value g)) refl
  where
    go : (b : Bool) → at_most v (endpoint_value g) ≡ b → false ≡ b
    go true h = let q : at_most v v ≡ true = at_most-left v (endpoint_value g) h in cc
    go false h = refl

pub contains_alone : (b : program.Bounds) (v : Datum) (r : Bool) → is_null_datum v ≡ false → None ≡ comparable v →
    r ≡ (b.value && (is_none b.least && is_none b.greatest)) → r ≡ contains (bounds_view b) v
contains_alone b v r n e f =
    let a = alone v e in
    f ∙ ap (λ x. b.value && (x && is_none b.greatest)) (open_from b.least v a) ∙ ap (λ x. b.value && (is_from (option_map endpoint_value b.least) v && x)) (open_up_to b.greatest v a)
    ∙ sym (contains-value (bounds_view b) v n)
