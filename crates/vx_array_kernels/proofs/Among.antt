-- Which rows of lanes are among the elements of one list.
use Rattle.std.proofs.Common.{◌≡◌, ℕ, ℤ, pos, List, [], map, length, take, refl, sym, subst, Bool, true, false, rules, Vec}
use Rattle.std.specs.Prelude.{if◌then◌else◌}
use Rattle.std.specs.Str.{is_utf8}
use Rattle.std.specs.declared.alloc.Global.{Global}
use Rattle.vx_value.specs.declared.value.Value.{Value, List as ListOf, the_lemmas}
use Rattle.vx_value.specs.Types.{Data, Datum, null, int, list_of, utf8, is_null_datum}
use Rattle.vx_value.specs.Views.{data_view, value_of}
use Rattle.vx_fn.specs.Values.{has_element}
use Rattle.vx_array.specs.declared.validity.Validity.{Validity}
use Rattle.vx_array.specs.Kinds.{text_row}
use Rattle.vx_array.specs.Shown.{shown, HasRows}
use Rattle.vx_array_kernels.specs.Members.{TellsMembers}
use Rattle.vx_array_kernels.specs.Truths.{TellsNulls}
use Rattle.vx_array_kernels.proofs.Members.{members_told}
use Rattle.vx_array_kernels.proofs.NullRows.{tells_nulls}

-- a list as a value
pub value_of-List : (v : Vec Value Global) → value_of (ListOf v) ≡ list_of (data_view v.items)
value_of-List v = search (rules, the_lemmas)

-- as many rows are valid or not as bits tell of
pub told_there : (ws : Data) (v : Validity) (told : List Bool) (rows : List Datum) → TellsNulls v rows → TellsMembers ws told rows → HasRows v (length told)
told_there ws v told rows nulls tells = subst (HasRows v) (sym tells.0) nulls.0

-- of numbers
pub numbers_null : (v w : Validity) (ns : List ℤ) → w ≡ v → TellsNulls w (shown v (map int ns))
numbers_null v w ns same = subst (λ u. TellsNulls u (shown v (map int ns))) (sym same) (tells_nulls (pos 0) int (λ x. refl) v ns (shown v (map int ns)) refl)

pub numbers_members : (ws : Data) (v : Validity) (ns : List ℤ) (n : ℕ) (told : List Bool) → length (shown v (map int ns)) ≡ n → told ≡ map (λ i. has_element ws (int i)) (take n ns) → TellsMembers ws told (shown v (map int ns))
numbers_members ws v ns n told long are = members_told (pos 0) int int ws v ns n told (shown v (map int ns)) (λ x some. refl) refl long are

-- of texts
text_alike : (bs : List ℕ) → is_null_datum (text_row bs) ≡ false → text_row bs ≡ utf8 bs
text_alike bs some = go (is_utf8 bs) some
  where
    go : (b : Bool) → is_null_datum (if b then utf8 bs else null) ≡ false → (if b then utf8 bs else null) ≡ utf8 bs
    go true some = refl
    go false some = cc

pub texts_members : (ws : Data) (v : Validity) (spans : List (List ℕ)) (n : ℕ) (told : List Bool) → length (shown v (map text_row spans)) ≡ n → told ≡ map (λ bs. has_element ws (utf8 bs)) (take n spans) → TellsMembers ws told (shown v (map text_row spans))
texts_members ws v spans n told long are = members_told [] text_row utf8 ws v spans n told (shown v (map text_row spans)) text_alike refl long are
