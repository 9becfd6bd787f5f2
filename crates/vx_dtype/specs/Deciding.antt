-- Scaffolding: proofs that the tests of `Equality` decide `≡`, and that what is equal is hashed alike. The laws of `PartialEq`,
-- `Eq` and `Hash` cite them, and no contract.
use Rattle.std.specs.Prelude.{◌≡◌, Bool, true, false, Option, Some, None, refl}
use Rattle.std.specs.Bool.{Decides}
use Rattle.std.specs.Cmp.{IsEquivalence, booleans_Decides}
use Rattle.std.specs.Cmp.Lexicographic.{pointwise}
use Rattle.std.specs.Hash.{Alike, slice, str, items_Alike, same_Alike}
use Rattle.std.specs.Str.{bytes_eq}
use Rattle.std.proofs.Common.{ap, sym, true≢false}
use Rattle.std.proofs.lemmas.Slice.Eq.{bytes_eq-Decides}
use Rattle.std.proofs.lemmas.Bool.Decides.{Decides-eqb, Decides-and, Decides-like, same_from_decides}
use Rattle.vx_dtype.specs.declared.dtype.PType.{PType}
use Rattle.vx_dtype.specs.declared.dtype.PType.TheVariants.{U8, U16, U32, U64, I8, I16, I32, I64}
use Rattle.vx_dtype.specs.declared.float_type.FloatType.{FloatType}
use Rattle.vx_dtype.specs.declared.float_type.FloatType.TheVariants.{F32, F64}
use Rattle.vx_dtype.specs.declared.timestamp_type.TimeUnit.{TimeUnit}
use Rattle.vx_dtype.specs.declared.timestamp_type.TimeUnit.TheVariants.{Seconds, Milliseconds, Microseconds, Nanoseconds}
use Rattle.vx_dtype.specs.Types.{Name, same_ptype, same_float_type, same_unit, same_zone, Atomic, truth, number, floating, decimals, date, timestamp, text, octets, same_atomic, LogicalType, ty, Shape, atomic, list, fixed, struct, Fields, no_field, field}
use Rattle.vx_dtype.specs.Equality.{equal_type, equal_shape, equal_fields}
use Rattle.vx_dtype.specs.Hashes.{type_fed, fields_fed}

-- ---- tests that decide `≡`

-- false decides what can't be
pub apart : {A : Type 0} {x y : A} → (x ≡ y → ⊥) → Decides false (x ≡ y)
apart h = (λ e. absurd (true≢false (sym e)), λ e. absurd (h e))

-- true decides that a thing is itself
pub itself : {A : Type 0} {x : A} → Decides true (x ≡ x)
itself = (λ e. refl, λ e. refl)

-- a test that decides `≡` is an equivalence
pub equivalence_of : {A : Type 0} {E : A → A → Bool} → ((x y : A) → Decides (E x y) (x ≡ y)) → IsEquivalence E
equivalence_of d = record {
  refl = λ x. (d x x).1 refl;
  symm = λ x y. same_from_decides _ _ (d x y) (Decides-like _ sym sym (d y x));
  congr = λ x y z h. let e = (d x y).0 h in cc;
}

-- the test says whether two number types are the same
pub same_ptype-Decides : (p q : PType) → Decides (same_ptype p q) (p ≡ q)
same_ptype-Decides U8 U8 = itself
same_ptype-Decides U16 U16 = itself
same_ptype-Decides U32 U32 = itself
same_ptype-Decides U64 U64 = itself
same_ptype-Decides I8 I8 = itself
same_ptype-Decides I16 I16 = itself
same_ptype-Decides I32 I32 = itself
same_ptype-Decides I64 I64 = itself
same_ptype-Decides _ _ = apart (λ e. cc)

-- the test says whether two formats are the same
pub same_float_type-Decides : (f g : FloatType) → Decides (same_float_type f g) (f ≡ g)
same_float_type-Decides F32 F32 = itself
same_float_type-Decides F64 F64 = itself
same_float_type-Decides _ _ = apart (λ e. cc)

-- the test says whether two units are the same
pub same_unit-Decides : (u v : TimeUnit) → Decides (same_unit u v) (u ≡ v)
same_unit-Decides Seconds Seconds = itself
same_unit-Decides Milliseconds Milliseconds = itself
same_unit-Decides Microseconds Microseconds = itself
same_unit-Decides Nanoseconds Nanoseconds = itself
same_unit-Decides _ _ = apart (λ e. cc)

-- the test says whether two zones are the same
pub same_zone-Decides : (z y : Option Name) → Decides (same_zone z y) (z ≡ y)
same_zone-Decides None None = itself
same_zone-Decides (Some a) (Some b) = Decides-like _ (λ e. ap Some e) (λ e. cc) (bytes_eq-Decides a b)
same_zone-Decides None (Some b) = apart (λ e. cc)
same_zone-Decides (Some a) None = apart (λ e. cc)

-- the test says whether two such kinds are the same
pub same_atomic-Decides : (p q : Atomic) → Decides (same_atomic p q) (p ≡ q)
same_atomic-Decides truth truth = itself
same_atomic-Decides (number p) (number q) = Decides-like _ (λ e. ap number e) (λ e. cc) (same_ptype-Decides p q)
same_atomic-Decides (floating f) (floating g) = Decides-like _ (λ e. ap floating e) (λ e. cc) (same_float_type-Decides f g)
same_atomic-Decides (decimals p s) (decimals q r) = Decides-like _ (λ e. cc) (λ e. (cc, cc)) (Decides-and _ _ (Decides-eqb p q) (Decides-eqb s r))
same_atomic-Decides date date = itself
same_atomic-Decides (timestamp u z) (timestamp v y) = Decides-like _ (λ e. cc) (λ e. (cc, cc)) (Decides-and _ _ (same_unit-Decides u v) (same_zone-Decides z y))
same_atomic-Decides text text = itself
same_atomic-Decides octets octets = itself
same_atomic-Decides _ _ = apart (λ e. cc)

-- the test says whether two types are the same
mutual
  pub equal_type-Decides : (t u : LogicalType) → Decides (equal_type t u) (t ≡ u)
  equal_type-Decides (ty s n) (ty r m) = Decides-like _ (λ e. cc) (λ e. (cc, cc)) (Decides-and _ _ (booleans_Decides n m) (equal_shape-Decides s r))

  -- the test says whether two shapes are the same
  pub equal_shape-Decides : (s r : Shape) → Decides (equal_shape s r) (s ≡ r)
  equal_shape-Decides (atomic p) (atomic q) = Decides-like _ (λ e. ap atomic e) (λ e. cc) (same_atomic-Decides p q)
  equal_shape-Decides (list t) (list u) = Decides-like _ (λ e. ap list e) (λ e. cc) (equal_type-Decides t u)
  equal_shape-Decides (fixed t k) (fixed u l) = Decides-like _ (λ e. cc) (λ e. (cc, cc)) (Decides-and _ _ (Decides-eqb k l) (equal_type-Decides t u))
  equal_shape-Decides (struct fs) (struct gs) = Decides-like _ (λ e. ap struct e) (λ e. cc) (equal_fields-Decides fs gs)
  equal_shape-Decides _ _ = apart (λ e. cc)

  -- the test says whether the fields of two structs are the same
  pub equal_fields-Decides : (fs gs : Fields) → Decides (equal_fields fs gs) (fs ≡ gs)
  equal_fields-Decides no_field no_field = itself
  equal_fields-Decides (field a t fs) (field b u gs) =
      Decides-like _ (λ e. cc) (λ e. (cc, (cc, cc))) (Decides-and _ _ (bytes_eq-Decides a b) (Decides-and _ _ (equal_type-Decides t u) (equal_fields-Decides fs gs)))
  equal_fields-Decides _ _ = apart (λ e. cc)

-- the test of types is an equivalence
pub equal_type_equiv : IsEquivalence equal_type
equal_type_equiv = equivalence_of equal_type-Decides

-- the test of fields is an equivalence
pub equal_fields_equiv : IsEquivalence equal_fields
equal_fields_equiv = equivalence_of equal_fields-Decides

-- equal types are hashed alike
pub type_alike : Alike equal_type type_fed
type_alike = same_Alike type_fed equal_type-Decides

-- equal fields are hashed alike
pub fields_alike : Alike equal_fields fields_fed
fields_alike = same_Alike fields_fed equal_fields-Decides

-- lists of equal names are hashed alike
pub names_alike : Alike (pointwise bytes_eq) (slice str)
names_alike = items_Alike (same_Alike str bytes_eq-Decides)
