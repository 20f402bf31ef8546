-- Fields and methods of an assembled class meet the checks of members.
use Rattle.std.proofs.Common.{◌≡◌, ℕ, ℤ, zero, suc, ◌<◌, List, [], ◌∷◌, ◌++◌, length, Bool, true, false, not, ◌==◌, ◌&&◌, ◌||◌, Option, Some, None, is_some, ◌⊎◌, inl, inr, refl, sym, ap, subst, ◌∙◌, append_assoc, append-nil, codes}
use Rattle.std.proofs.lemmas.Bool.{and_parts, and_from, or_left, or_right, or_parts, or_from}
use Rattle.std.proofs.lemmas.Slice.Eq.{bytes_eq-Decides}
use Rattle.std.specs.List.{list_any, AllByRecursion, AllZip}
use Rattle.std.specs.Str.{bytes_eq}
use Rattle.vx_pool.specs.declared.pool.Entry.TheVariants as entry
use Rattle.vx_pool.specs.declared.pool.Pool.{Pool}
use Rattle.vx_desc.specs.declared.java_type.Base.{Base}
use Rattle.vx_desc.specs.declared.java_type.Base.TheVariants as base
use Rattle.vx_desc.specs.declared.java_type.JavaType.{JavaType}
use Rattle.vx_desc.specs.Names.{is_class_name}
use Rattle.vx_desc.specs.Descriptors.{element_at, type_at, field_of, field_type}
use Rattle.vx_pool.specs.Entries.{where_read}
use Rattle.vx_pool.specs.Lookups as lookups
use Rattle.vx_pool.specs.Lookups.{text, class_text, is_array}
use Rattle.vx_class.specs.File.{EachBehind, IsInterfaceAt, IsClassAt}
use Rattle.vx_class.specs.Members as members
use Rattle.vx_class.specs.Members.{has, INTERFACE, STATIC, fits_type, is_constant_for}
use Rattle.vx_writer.specs.Written.{HasName, MayHaveConstant}
use Rattle.vx_source.specs.declared.statement.Value.{Value}
use Rattle.vx_source.specs.declared.statement.Value.TheVariants as value
use Rattle.vx_class_parts.specs.Constants.{places, in_file, in_file_or_zero, pool_of}
use Rattle.vx_class_parts.specs.Rules.{is_int_base, is_long_base, is_value_for, may_have_value, is_nothing}
use Rattle.vx_class_parts.specs.declared.constants.Constant.{Constant}
use Rattle.vx_class_parts.specs.declared.constants.Constant.TheVariants as constant
use Rattle.vx_asm.specs.Parts.{is_text_value, constant_of_value}
use Rattle.vx_asm.specs.Signatures.{is_taken}
use Rattle.vx_asm.specs.declared.signature_table.Signature.{Signature}
use Rattle.vx_assembled.proofs.Entries.{IsClassName, text_there, class_there}
use Rattle.vx_assembled.proofs.Pools.{Has, IsHeld, IsNeeded, placed}

-- ---- lists

pub each_more : {A : Type 0} (P : List A → A → Type 0) (front xs : List A) (x : A) → EachBehind P front xs → P (front ++ xs) x → EachBehind P front (xs ++ x ∷ [])
each_more {A = A} P front [] x each this = (subst (λ (f : List A). P f x) (append-nil front) this, tt)
each_more {A = A} P front (y ∷ ys) x each this =
    (each.0, each_more P (front ++ y ∷ []) ys x each.1 (subst (λ (f : List A). P f x) (sym (append_assoc front (y ∷ []) ys)) this))

pub all_push : {A : Type 0} (P : A → Type 0) (xs : List A) (x : A) → AllByRecursion P xs → P x → AllByRecursion P (xs ++ x ∷ [])
all_push P [] x all this = (this, tt)
all_push P (y ∷ ys) x all this = (all.0, all_push P ys x all.1 this)

pub zip_push : {A B : Type 0} (R : A → B → Type 0) (xs : List A) (ys : List B) (x : A) (y : B) → AllZip R xs ys → R x y → AllZip R (xs ++ x ∷ []) (ys ++ y ∷ [])
zip_push R [] [] x y all this = (this, tt)
zip_push R [] (b ∷ bs) x y all this = absurd all
zip_push R (a ∷ xs) [] x y all this = absurd all
zip_push R (a ∷ xs) (b ∷ bs) x y all this = (all.0, zip_push R xs bs x y all.1 this)

-- ---- texts and classes by their index

pub text_at : (pool : List Constant) (t : List ℕ) → places pool < 65536 → length t < 65536 → Has pool (constant.Text t) → text (pool_of pool) (in_file pool (constant.Text t)) ≡ Some t
text_at pool t few short has = ap lookups.utf8 (text_there pool t few short has)

pub interface_at : (pool : List Constant) (name : List ℕ) → places pool < 65536 → IsHeld pool (constant.Class name) → IsInterfaceAt (pool_of pool) (in_file pool (constant.Class name))
interface_at pool name few held = ap (λ o. is_some (lookups.class o)) (class_there pool name few held.0)

class_met : (pool : Pool) (i j : ℕ) (name : List ℕ) → lookups.entry_of pool i ≡ Some (entry.Class j) → lookups.entry_of pool j ≡ Some (entry.Utf8 name) → not (is_array name) ≡ true
    → where_read (λ n. not (is_array n)) (class_text pool i) ≡ true
class_met pool i j name e f plain = rw (e, f, plain) refl

pub class_at : (pool : List Constant) (name : List ℕ) → places pool < 65536 → IsHeld pool (constant.Class name) → IsClassName name → not (is_array name) ≡ true → IsClassAt (pool_of pool) (in_file pool (constant.Class name))
class_at pool name few held is plain = (
  interface_at pool name few held,
  class_met (pool_of pool) (in_file pool (constant.Class name)) (in_file pool (constant.Text name)) name (class_there pool name few held.0) (text_there pool name few is.short held.1) plain,
)

-- the name of an attribute
pub has_name : (pool : List Constant) (t : List ℕ) → places pool < 65536 → length t < 65536 → Has pool (constant.Text t) → HasName (pool_of pool) t
has_name pool t few short has = (
  in_file pool (constant.Text t),
  ap (members.is_given t) (text_at pool t few short has) ∙ (bytes_eq-Decides t t).1 refl,
)

-- ---- members that are told apart

-- a member has the name and the descriptor of a signature
pub record IsSigned (pool : Pool) (n d : ℕ) (s : Signature) : Type 0 where
  pub name : text pool n ≡ Some s.name
  pub descriptor : text pool d ≡ Some s.descriptor

pub none_same : {A : Type 0} (pool : Pool) (n d : A → ℕ) (xs : List A) (signatures : List Signature) (name descriptor : List ℕ) → AllZip (λ x s. IsSigned pool (n x) (d x) s) xs signatures
    → is_taken signatures name descriptor ≡ false → list_any (λ x. members.is_same pool (n x) (d x) name descriptor) xs ≡ false
none_same pool n d [] [] name descriptor all h = refl
none_same pool n d [] (s ∷ ss) name descriptor all h = absurd all
none_same pool n d (x ∷ xs) [] name descriptor all h = absurd all
none_same pool n d (x ∷ xs) (s ∷ ss) name descriptor all h =
    let one : members.is_same pool (n x) (d x) name descriptor ≡ (bytes_eq s.name name && bytes_eq s.descriptor descriptor) = same (text pool (n x)) (text pool (d x)) all.0.name all.0.descriptor in
    let p = or_parts (bytes_eq s.name name && bytes_eq s.descriptor descriptor) (is_taken ss name descriptor) h in
    or_from (members.is_same pool (n x) (d x) name descriptor) (list_any (λ y. members.is_same pool (n y) (d y) name descriptor) xs) (one ∙ p.0) (none_same pool n d xs ss name descriptor all.1 p.1)
  where
    same : (a b : Option (List ℕ)) → a ≡ Some s.name → b ≡ Some s.descriptor → (members.is_given name a && members.is_given descriptor b) ≡ (bytes_eq s.name name && bytes_eq s.descriptor descriptor)
    same a b e f = ap (λ o. members.is_given name o && members.is_given descriptor b) e ∙ ap (λ o. bytes_eq s.name name && members.is_given descriptor o) f

-- ---- the value of a field

int_kind : (b : Base) (n : ℤ) → is_int_base b ≡ true → members.is_number_for b (Some (entry.Integer n)) ≡ true
int_kind base.Int n h = refl
int_kind base.Short n h = refl
int_kind base.Char n h = refl
int_kind base.Byte n h = refl
int_kind base.Bool n h = refl
int_kind base.Long n h = absurd cc
int_kind base.Float n h = absurd cc
int_kind base.Double n h = absurd cc
int_kind base.Class n h = absurd cc

long_kind : (b : Base) (n : ℤ) → is_long_base b ≡ true → members.is_number_for b (Some (entry.Long n)) ≡ true
long_kind base.Long n h = refl
long_kind base.Int n h = absurd cc
long_kind base.Short n h = absurd cc
long_kind base.Char n h = absurd cc
long_kind base.Byte n h = absurd cc
long_kind base.Bool n h = absurd cc
long_kind base.Float n h = absurd cc
long_kind base.Double n h = absurd cc
long_kind base.Class n h = absurd cc

impossible : {A : Type 0} → false ≡ true → A
impossible h = absurd cc

int_fits : (descriptor : List ℕ) (n : ℤ) → is_value_for descriptor (value.Int n) ≡ true → is_constant_for descriptor (Some (entry.Integer n)) ≡ true
int_fits descriptor n h = by_type (field_type descriptor) refl
  where
    by_type : (o : Option JavaType) → field_type descriptor ≡ o → fits_type descriptor (Some (entry.Integer n)) o ≡ true
    by_type None e = impossible (rw e at h)
    by_type (Some t) e =
        let p = and_parts (t.dimensions == 0) (is_int_base t.base) (rw e at h) in
        or_left (t.dimensions == 0 && members.is_number_for t.base (Some (entry.Integer n))) (false && bytes_eq descriptor (codes "Ljava/lang/String;"))
        (and_from (t.dimensions == 0) (members.is_number_for t.base (Some (entry.Integer n))) p.0 (int_kind t.base n p.1))

long_fits : (descriptor : List ℕ) (n : ℤ) → is_value_for descriptor (value.Long n) ≡ true → is_constant_for descriptor (Some (entry.Long n)) ≡ true
long_fits descriptor n h = by_type (field_type descriptor) refl
  where
    by_type : (o : Option JavaType) → field_type descriptor ≡ o → fits_type descriptor (Some (entry.Long n)) o ≡ true
    by_type None e = impossible (rw e at h)
    by_type (Some t) e =
        let p = and_parts (t.dimensions == 0) (is_long_base t.base) (rw e at h) in
        or_left (t.dimensions == 0 && members.is_number_for t.base (Some (entry.Long n))) (false && bytes_eq descriptor (codes "Ljava/lang/String;"))
        (and_from (t.dimensions == 0) (members.is_number_for t.base (Some (entry.Long n))) p.0 (long_kind t.base n p.1))

string_fits : (i : ℕ) → is_constant_for (codes "Ljava/lang/String;") (Some (entry.Text i)) ≡ true
unfolding field_of type_at element_at is_class_name
string_fits i = refl

text_fits : (descriptor text : List ℕ) (i : ℕ) → is_value_for descriptor (value.Text (Some text)) ≡ true → is_constant_for descriptor (Some (entry.Text i)) ≡ true
text_fits descriptor text i h =
    subst (λ (d : List ℕ). is_constant_for d (Some (entry.Text i)) ≡ true) (sym ((bytes_eq-Decides descriptor (codes "Ljava/lang/String;")).0 h)) (string_fits i)

-- the constant of a field has the kind that its descriptor says
pub constant_fits : (pool : List Constant) (descriptor : List ℕ) (v : Value) → places pool < 65536 → IsNeeded pool (constant_of_value v) → is_text_value v ≡ true → is_value_for descriptor v ≡ true
    → (in_file_or_zero pool (constant_of_value v) == 0 || is_constant_for descriptor (lookups.entry_of (pool_of pool) (in_file_or_zero pool (constant_of_value v)))) ≡ true
constant_fits pool descriptor value.Nothing few held text h = refl
constant_fits pool descriptor (value.Int n) few held text h =
    or_right (in_file pool (constant.Integer n) == 0) (is_constant_for descriptor (lookups.entry_of (pool_of pool) (in_file pool (constant.Integer n))))
    (ap (is_constant_for descriptor) (placed pool (constant.Integer n) few held).there ∙ int_fits descriptor n h)
constant_fits pool descriptor (value.Long n) few held text h =
    or_right (in_file pool (constant.Long n) == 0) (is_constant_for descriptor (lookups.entry_of (pool_of pool) (in_file pool (constant.Long n))))
    (ap (is_constant_for descriptor) (placed pool (constant.Long n) few held).there ∙ long_fits descriptor n h)
constant_fits pool descriptor (value.Text None) few held text h = impossible text
constant_fits pool descriptor (value.Text (Some t)) few held text h =
    or_right (in_file pool (constant.Literal t) == 0) (is_constant_for descriptor (lookups.entry_of (pool_of pool) (in_file pool (constant.Literal t))))
    (ap (is_constant_for descriptor) (placed pool (constant.Literal t) few held.0).there ∙ text_fits descriptor t (in_file pool (constant.Text t)) h)

may_have : (pool : Pool) (static : Bool) (n : ℕ) → static ≡ true → HasName pool (codes "ConstantValue") → MayHaveConstant pool static n
may_have pool static zero is name = tt
may_have pool static (suc n) is name = (is, name)

-- and a field that has one is static, and the name of the attribute is there
pub constant_named : (pool : List Constant) (class_flags flags : ℕ) (v : Value) → (is_nothing v || has class_flags INTERFACE || has flags STATIC) ≡ true → HasName (pool_of pool) (codes "ConstantValue") ⊎ (constant_of_value v ≡ None)
    → MayHaveConstant (pool_of pool) (has class_flags INTERFACE || has flags STATIC) (in_file_or_zero pool (constant_of_value v))
constant_named pool class_flags flags v h (inr none) = rw none tt
constant_named pool class_flags flags value.Nothing h (inl name) = tt
constant_named pool class_flags flags (value.Int n) h (inl name) = may_have (pool_of pool) (has class_flags INTERFACE || has flags STATIC) (in_file pool (constant.Integer n)) h name
constant_named pool class_flags flags (value.Long n) h (inl name) = may_have (pool_of pool) (has class_flags INTERFACE || has flags STATIC) (in_file pool (constant.Long n)) h name
constant_named pool class_flags flags (value.Text None) h (inl name) = tt
constant_named pool class_flags flags (value.Text (Some t)) h (inl name) = may_have (pool_of pool) (has class_flags INTERFACE || has flags STATIC) (in_file pool (constant.Literal t)) h name

-- the parts of the rule on values
pub value_parts : (class_flags flags : ℕ) (descriptor : List ℕ) (v : Value) → may_have_value class_flags flags descriptor v ≡ true
    → ((is_nothing v || has class_flags INTERFACE || has flags STATIC) ≡ true) × (is_value_for descriptor v ≡ true)
unfolding may_have_value
value_parts class_flags flags descriptor v h = and_parts (is_nothing v || has class_flags INTERFACE || has flags STATIC) (is_value_for descriptor v) h
