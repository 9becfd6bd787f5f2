-- Scaffolding, as for types: proofs that tests decide `≡`, and that what is equal is hashed alike, which laws cite.
use Rattle.std.specs.Prelude.{◌≡◌, List, [], ◌∷◌, refl}
use Rattle.std.specs.Bool.{Decides}
use Rattle.std.specs.Cmp.{IsEquivalence, booleans_Decides}
use Rattle.std.specs.Cmp.Lexicographic.{lists_equiv, nat_list_eq_equiv}
use Rattle.std.specs.Hash.{Alike, str, same_Alike}
use Rattle.std.specs.Str.{bytes_eq}
use Rattle.std.proofs.Common.{ap}
use Rattle.std.proofs.lemmas.Slice.Eq.{bytes_eq-Decides}
use Rattle.std.proofs.lemmas.Bool.Decides.{Decides-int_eq, Decides-and, Decides-like}
use Rattle.vx_value.specs.Columns.{Constant, constant, equal_constant, constant_fed, Batch, batch, equal_batch}
use Rattle.vx_value.specs.Equality.{equal_datum, equal_data}
use Rattle.vx_value.specs.Fields.{data_of}
use Rattle.vx_value.specs.Hashes.{datum_fed}
use Rattle.vx_value.specs.Paths.{equal_path}
use Rattle.vx_floats.specs.Deciding.{same_float-Decides}
use Rattle.vx_value.specs.Values.{Datum, null, bool, int, float, utf8, bytes, list_of, struct_of, Data, no_datum, datum}
pub use Rattle.vx_dtype.specs.Deciding.{apart, itself, equivalence_of, same_ptype-Decides, same_atomic-Decides, equal_type-Decides, equal_shape-Decides, equal_fields-Decides, equal_type_equiv, equal_fields_equiv, type_alike, fields_alike, names_alike}

-- the test says whether two values are the same
mutual
  pub equal_datum-Decides : (v w : Datum) → Decides (equal_datum v w) (v ≡ w)
  equal_datum-Decides null null = itself
  equal_datum-Decides (bool a) (bool b) = Decides-like _ (λ e. ap bool e) (λ e. cc) (booleans_Decides a b)
  equal_datum-Decides (int i) (int j) = Decides-like _ (λ e. ap int e) (λ e. cc) (Decides-int_eq i j)
  equal_datum-Decides (float x) (float y) = Decides-like _ (λ e. ap float e) (λ e. cc) (same_float-Decides x y)
  equal_datum-Decides (utf8 a) (utf8 b) = Decides-like _ (λ e. ap utf8 e) (λ e. cc) (bytes_eq-Decides a b)
  equal_datum-Decides (bytes a) (bytes b) = Decides-like _ (λ e. ap bytes e) (λ e. cc) (bytes_eq-Decides a b)
  equal_datum-Decides (list_of vs) (list_of ws) = Decides-like _ (λ e. ap list_of e) (λ e. cc) (equal_data-Decides vs ws)
  equal_datum-Decides (struct_of vs) (struct_of ws) = Decides-like _ (λ e. ap struct_of e) (λ e. cc) (equal_data-Decides vs ws)
  equal_datum-Decides _ _ = apart (λ e. cc)

  -- the test says whether two lists of values are the same
  pub equal_data-Decides : (vs ws : Data) → Decides (equal_data vs ws) (vs ≡ ws)
  equal_data-Decides no_datum no_datum = itself
  equal_data-Decides (datum v vs) (datum w ws) = Decides-like _ (λ e. cc) (λ e. (cc, cc)) (Decides-and _ _ (equal_datum-Decides v w) (equal_data-Decides vs ws))
  equal_data-Decides _ _ = apart (λ e. cc)

-- the test of values is an equivalence
pub equal_datum_equiv : IsEquivalence equal_datum
equal_datum_equiv = equivalence_of equal_datum-Decides

-- equal values are hashed alike
pub datum_alike : Alike equal_datum datum_fed
datum_alike = same_Alike datum_fed equal_datum-Decides

-- what is made of the same two things is the same
two : {A B C : Type 0} (f : A → B → C) {x y : A} {z w : B} → (x ≡ y) × (z ≡ w) → f x z ≡ f y w
two f e = cc

-- the test says whether two scalars are the same
pub equal_constant-Decides : (a b : Constant) → Decides (equal_constant a b) (a ≡ b)
equal_constant-Decides a b =
    Decides-like _ (two (λ t v. constant t v)) (λ e. (ap (λ c. c.type) e, ap (λ c. c.value) e)) (Decides-and _ _ (equal_type-Decides a.type b.type) (equal_datum-Decides a.value b.value))

-- the test is an equivalence
pub equal_constant_equiv : IsEquivalence equal_constant
equal_constant_equiv = equivalence_of equal_constant-Decides

-- equal scalars are hashed alike
pub constant_alike : Alike equal_constant constant_fed
constant_alike = same_Alike constant_fed equal_constant-Decides

-- values that are the same one after another are the same list
data_of-injective : (vs ws : List Datum) → data_of vs ≡ data_of ws → vs ≡ ws
data_of-injective [] [] e = refl
data_of-injective (v ∷ vs) (w ∷ ws) e = let h : vs ≡ ws = data_of-injective vs ws cc in cc
data_of-injective _ _ e = cc

-- the test says whether two columns are the same
pub equal_batch-Decides : (a b : Batch) → Decides (equal_batch a b) (a ≡ b)
equal_batch-Decides a b =
    Decides-like _ (λ e. two (λ t rows. batch t rows) (e.0, data_of-injective a.rows b.rows e.1)) (λ e. (ap (λ c. c.type) e, ap (λ c. data_of c.rows) e))
    (Decides-and _ _ (equal_type-Decides a.type b.type) (equal_data-Decides (data_of a.rows) (data_of b.rows)))

-- the test is an equivalence
pub equal_batch_equiv : IsEquivalence equal_batch
equal_batch_equiv = equivalence_of equal_batch-Decides

-- being the same name, and the same path, are equivalences
pub name_equiv : IsEquivalence bytes_eq
name_equiv = nat_list_eq_equiv

pub equal_path_equiv : IsEquivalence equal_path
equal_path_equiv = lists_equiv name_equiv

-- equal names are hashed alike
pub name_alike : Alike bytes_eq str
name_alike = same_Alike str bytes_eq-Decides
