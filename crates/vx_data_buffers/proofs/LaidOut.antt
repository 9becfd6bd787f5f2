-- Columns that are written at once.
use Rattle.std.proofs.Common.{◌≡◌, ℕ, ◌+◌, ◌<◌, List, [], ◌∷◌, length, get_or, map, refl, sym, ap, ◌∙◌, subst, arith, Bool, true, false, ℤ, pos}
use Rattle.std.specs.Global.{Vec}
use Rattle.std.specs.Prelude.{Result, Ok, Err, IfOk, IfSome, Option, Some, None}
use Rattle.std.proofs.lemmas.List.{get_or-map, length-map}
use Rattle.vx_dtype.specs.declared.dtype.PType.{PType}
use Rattle.vx_dtype.specs.declared.float_type.FloatType.{FloatType}
use Rattle.vx_value.specs.Types.{Datum, ty, Shape, atomic, truth, number, floating, decimals, date, timestamp, text, octets, list, fixed, struct, null, bool, int, float}
use Rattle.vx_value.specs.Columns.{Batch, batch, first_misfit}
use Rattle.vx_array.specs.declared.floats.Floats.{Floats}
use Rattle.vx_array.specs.declared.validity.Validity.{Validity}
use Rattle.vx_array.specs.Kinds.{bits_in, float_of, floats_in, format_in}
use Rattle.vx_array.specs.Shown as shown
use Rattle.vx_array.specs.Shown.{shown_count}
use Rattle.vx_array_build.specs.FloatBits.{float_row}
use Rattle.vx_array_build.specs.Lanes.{lane_of}
use Rattle.vx_data_buffers.specs.Results.{and_so}
use Rattle.vx_data_buffers.specs.Layout.{buffer_count, found, present_at}
use Rattle.vx_data_buffers.specs.Rows.{column_said}
use Rattle.vx_data_buffers.specs.Arrays.{AreNumbers, IsColumn, Tells}
use Rattle.vx_data_buffers.specs.Bytes.{bits_type}
use Rattle.vx_data_buffers.specs.Laid.{AreBuffersOf, HaveFloats, HaveTruths, HaveValues, SayValid, lists_in, packed_bytes}
use Rattle.vx_data_buffers.proofs.ByteBits.{packed_are}
use Rattle.vx_data_buffers.proofs.Columns.{bits_read, column_read, lane_read, said_whole}

-- the two buffers of truth values
pub have_truths : {E : Type 0} (r : Result (Vec (Vec ℕ)) E) (valid values : List ℕ) (bits : List Bool) (v : Validity) → IfOk r (λ b. lists_in b.items ≡ valid ∷ values ∷ []) → SayValid valid (length bits) v → values ≡ packed_bytes bits
    → IfOk r (λ b. HaveTruths bits v (lists_in b.items))
have_truths (Ok b) valid values bits v are say packed = (valid, values, are, say, rw packed (packed_are bits))
have_truths (Err e) valid values bits v are say packed = tt

-- a column whose values are read from two buffers
laid : (array : Batch) (s : Shape) (n : Bool) (ds : List Datum) (v : Validity) (valid values : List ℕ) → buffer_count (ty s n) ≡ 2 → array.type ≡ ty s n → array.rows ≡ shown.shown v ds → first_misfit array.type array.rows ≡ None
    → shown_count v (length ds) ≡ length ds → SayValid valid (length ds) v → ((i : ℕ) → i < length ds → present_at (valid ∷ values ∷ []) s 1 i ≡ Ok (get_or ds i null)) → AreBuffersOf array (valid ∷ values ∷ [])
laid array s n ds v valid values two typed rows fit all say each =
    let buffers = valid ∷ values ∷ [] in
    let tells : Tells buffers 0 (length ds) true v = record { count = all; each = say; full = λ no. cc } in
    let read : IsColumn buffers (ty s true) 0 (length ds) (batch (ty s true) (shown.shown v ds)) = column_read buffers s 0 (length ds) true v ds tells refl each in
    let column : IsColumn buffers (ty s n) 0 (length ds) array = record { type = typed; count = ap length rows ∙ read.count; each = λ i h. read.each i h ∙ ap (λ rs. Ok (get_or rs i null)) (sym rows) } in
    let said = said_whole buffers (ty s n) (length ds) array (sym two) fit column in
    subst (λ t. column_said buffers t (length array.rows) ≡ Ok array) (sym typed) (ap (column_said buffers (ty s n)) column.count ∙ said)

pub laid_truths : (array : Batch) (n : Bool) (bits : List Bool) (v : Validity) (buffers : List (List ℕ)) → array.type ≡ ty (atomic truth) n → array.rows ≡ shown.shown v (map bool bits) → first_misfit array.type array.rows ≡ None
    → shown_count v (length bits) ≡ length bits → HaveTruths bits v buffers → AreBuffersOf array buffers
laid_truths array n bits v buffers typed rows fit all (valid, values, is, say, are) =
    let long : length (map bool bits) ≡ length bits = length-map bits bool in
    rw is (laid array (atomic truth) n (map bool bits) v valid values refl typed rows fit (rw long all) (rw long say)
    (λ i h. let low : i < length bits = subst (λ m. i < m) long h in ap (λ r. and_so (found 1 r) bool) (are.1 i low) ∙ ap Ok (sym (get_or-map bool bits i false null low))))

-- how many buffers a type has whose rows lie in buffers of numbers
lane_buffers : (s : Shape) (p : PType) (n : Bool) → lane_of s ≡ Some p → buffer_count (ty s n) ≡ 2
lane_buffers (atomic (number q)) p n is = refl
lane_buffers (atomic date) p n is = refl
lane_buffers (atomic (timestamp u z)) p n is = refl
lane_buffers (atomic truth) p n is = cc
lane_buffers (atomic (floating f)) p n is = cc
lane_buffers (atomic (decimals q r)) p n is = cc
lane_buffers (atomic text) p n is = cc
lane_buffers (atomic octets) p n is = cc
lane_buffers (list t) p n is = cc
lane_buffers (fixed t k) p n is = cc
lane_buffers (struct fs) p n is = cc

pub laid_values : (array : Batch) (s : Shape) (n : Bool) (ns : List ℤ) (v : Validity) (buffers : List (List ℕ)) → array.type ≡ ty s n → array.rows ≡ shown.shown v (map int ns) → first_misfit array.type array.rows ≡ None
    → shown_count v (length ns) ≡ length ns → HaveValues s ns v buffers → AreBuffersOf array buffers
laid_values array s n ns v buffers typed rows fit all (valid, values, is, say, (p, lane, are)) =
    let long : length (map int ns) ≡ length ns = length-map ns int in
    rw is (laid array s n (map int ns) v valid values (lane_buffers s p n lane) typed rows fit (rw long all) (rw long say)
    (λ i h. let low : i < length ns = subst (λ m. i < m) long h in
    lane_read (valid ∷ values ∷ []) s p 1 i lane ∙ ap (λ r. and_so (found 1 r) int) (are.1 i low) ∙ ap Ok (sym (get_or-map int ns i (pos 0) null low))))

-- the two buffers of floating-point numbers
pub have_floats : (s : Shape) (fs : Floats) (f : FloatType) (p : PType) (ns : List ℤ) (valid values : List ℕ) (v : Validity) (m : ℕ) (buffers : List (List ℕ)) → s ≡ atomic (floating f) → format_in fs ≡ f → p ≡ bits_type f → ns ≡ map (λ b. pos b) (bits_in fs) → buffers ≡ valid ∷ values ∷ [] → m ≡ length (floats_in fs) → SayValid valid m v
    → AreNumbers p values (length ns) ns → HaveFloats s fs v buffers
have_floats s fs f p ns valid values v m buffers shape format width bits are long say spelled =
    let counted : length ns ≡ length (floats_in fs) = ap length bits ∙ length-map (bits_in fs) (λ b. pos b) ∙ sym (length-map (bits_in fs) (float_of (format_in fs))) in (
      shape ∙ ap (λ g. atomic (floating g)) (sym format),
      valid,
      values,
      are,
      subst (λ k. SayValid valid k v) long say,
      subst (λ q. AreNumbers q values (length (floats_in fs)) (map (λ b. pos b) (bits_in fs))) (width ∙ ap bits_type (sym format)) (subst (λ k. AreNumbers p values k (map (λ b. pos b) (bits_in fs))) counted (subst (λ l. AreNumbers p values (length ns) l) bits spelled)),
    )

-- the row of a floating-point number, by the number that has its bits
row_of_bits : (f : FloatType) (bs : List ℕ) (i : ℕ) → i < length bs → get_or (map float (map (float_of f) bs)) i null ≡ float_row f (int (get_or (map (λ b. pos b) bs) i (pos 0)))
row_of_bits f bs i h =
    get_or-map float (map (float_of f) bs) i (float_of f 0) null (omega (arith, h, length-map bs (float_of f))) ∙ ap float (get_or-map (float_of f) bs i 0 (float_of f 0) h)
    ∙ ap (λ z. float_row f (int z)) (sym (get_or-map (λ b. pos b) bs i 0 (pos 0) h))

pub laid_floats : (array : Batch) (s : Shape) (n : Bool) (fs : Floats) (v : Validity) (buffers : List (List ℕ)) → array.type ≡ ty s n → array.rows ≡ shown.shown v (map float (floats_in fs)) → first_misfit array.type array.rows ≡ None
    → shown_count v (length (floats_in fs)) ≡ length (floats_in fs) → HaveFloats s fs v buffers → AreBuffersOf array buffers
laid_floats array s n fs v buffers typed rows fit all (shape, valid, values, is, say, are) =
    let f = format_in fs in
    let long : length (map float (floats_in fs)) ≡ length (floats_in fs) = length-map (floats_in fs) float in
    rw is (laid array (atomic (floating f)) n (map float (floats_in fs)) v valid values refl (typed ∙ ap (λ u. ty u n) shape) rows fit (rw long all) (rw long say)
    (λ i h. let low : i < length (floats_in fs) = subst (λ m. i < m) long h in
    let (x, read, told) = bits_read f values i (get_or (map (λ b. pos b) (bits_in fs)) i (pos 0)) (are.1 i low) in
    ap (λ r. and_so (found 1 r) float) read ∙ ap Ok (told ∙ sym (row_of_bits f (bits_in fs) i (omega (arith, low, length-map (bits_in fs) (float_of f)))))))

-- what there is is as well what follows of it
pub some_laid : {A E : Type 0} {P Q : A → Type 0} (r : Result (Option A) E) → ((a : A) → P a → Q a) → IfOk r (λ found. IfSome found P) → IfOk r (λ found. IfSome found Q)
some_laid (Ok (Some a)) f h = f a h
some_laid (Ok None) f h = h
some_laid (Err e) f h = h
