-- The one spelling of a class spells it.
use Rattle.std.specs.Prelude.{◌≡◌, ℕ, zero, suc, ◌+◌, ◌*◌, ◌<◌, ◌^◌, List, [], ◌∷◌, ◌++◌, length, filter, is_some, Bool, true, false, not, ◌&&◌, ◌||◌, Option, Some, None, codes, refl}
use Rattle.std.specs.List.{flat_map, slice_get, position_or_len, AllByRecursion}
use Rattle.std.proofs.Common.{ap, subst, ◌∙◌, arith, cond, length-append}
use Rattle.std.proofs.lemmas.Bool.{lt-ltb}
use Rattle.std.proofs.lemmas.List.Concat.{flat_map-cons}
use Rattle.vx_pool.specs.declared.pool.Entry.{Entry}
use Rattle.vx_pool.specs.declared.pool.Entry.TheVariants as entry
use Rattle.vx_pool.specs.declared.pool.Pool.{Pool}
use Rattle.vx_class.specs.declared.class_file.ClassFile.{ClassFile}
use Rattle.vx_class.specs.declared.class_file.Field.{Field}
use Rattle.vx_class.specs.declared.class_file.Method.{Method}
use Rattle.vx_class.specs.declared.class_file.Code.{Code}
use Rattle.vx_pool.specs.Lookups.{text, utf8}
use Rattle.vx_class.specs.declared.class_file.Catch.{Catch}
use Rattle.vx_class.specs.Members.{has, INTERFACE, STATIC, is_given, is_text_of, slots_of, takes_code}
use Rattle.vx_class.specs.Spelling.{u2, u4, Attribute, catch_bytes, code_bytes, IsAttribute, AreAttributes, One, IsOneAmong, constant_of, IsConstant, is_constant, IsCode, is_code, FieldSpells, MethodSpells, AllSpell, Spells}
use Rattle.vx_class.specs.File.{File, Holds, CodeIs, CodeHolds, EachBehind, MethodHolds}
use Rattle.vx_writer.specs.Written.{HasName, MayHaveConstant, MayHaveCode, IsNamedField, IsNamedMethod, IsNamed, is_text_entry, least_place, constant_attributes, field_bytes, code_attribute, code_attributes, method_bytes, head_bytes, members_bytes, spelling}

-- ---- the least place of a text

-- the first item that passes, where one does
first_passes : {A : Type 0} (p : A → Bool) (xs : List A) (i : ℕ) (x : A) → slice_get xs i ≡ Some x → p x ≡ true
    → (position_or_len p xs < length xs) × (y : A) × (slice_get xs (position_or_len p xs) ≡ Some y) × (p y ≡ true)
first_passes p [] i x e t = absurd cc
first_passes p (z ∷ zs) zero x e t =
    let same : z ≡ x = cc in
    let passes : p z ≡ true = ap p same ∙ t in
    rw passes (omega arith, z, refl, passes)
first_passes {A = A} p (z ∷ zs) (suc i) x e t = by_test (first_passes p zs i x e t) (p z) refl
  where
    by_test : ((position_or_len p zs < length zs) × (y : A) × (slice_get zs (position_or_len p zs) ≡ Some y) × (p y ≡ true)) → (b : Bool) → p z ≡ b
        → (cond (not b) (1 + position_or_len p zs) 0 < length (z ∷ zs)) × (y : A) × (slice_get (z ∷ zs) (cond (not b) (1 + position_or_len p zs) 0) ≡ Some y) × (p y ≡ true)
    by_test others true f = (omega arith, z, refl, f)
    by_test others false f =
        let k : 1 + position_or_len p zs ≡ suc (position_or_len p zs) = omega arith in
        rw k (omega (arith, others.0), others.1, others.2, others.3)

-- an entry is a text where the text that an index names is that text
given_is : (expected : List ℕ) (e : Option Entry) → is_given expected (utf8 e) ≡ true → (x : Entry) × (e ≡ Some x) × (is_text_entry expected x ≡ true)
given_is expected None t = absurd cc
given_is expected (Some (entry.Utf8 text)) t = (entry.Utf8 text, refl, t)
given_is expected (Some _) t = absurd cc

is_given_back : (expected : List ℕ) (x : Entry) → is_text_entry expected x ≡ true → is_given expected (utf8 (Some x)) ≡ true
is_given_back expected (entry.Utf8 text) t = t
is_given_back expected _ t = absurd cc

-- the least place of a text that the pool has is a place of it
pub least_is : (pool : Pool) (expected : List ℕ) (i : ℕ) → is_text_of pool i expected ≡ true → is_text_of pool (least_place pool expected) expected ≡ true
least_is pool expected i t =
    let found = given_is expected (slice_get pool.entries i) t in
    let first = first_passes (is_text_entry expected) pool.entries i found.0 found.1 found.2 in
    rw (lt-ltb _ _ first.0) (rw first.2 (is_given_back expected first.1 first.3))

-- ---- members

and_first : (a b : Bool) → (a && b) ≡ true → a ≡ true
and_first true b e = refl
and_first false b e = absurd cc

and_second : (a b : Bool) → (a && b) ≡ true → b ≡ true
and_second true b e = e
and_second false b e = absurd cc

and_both : (a b : Bool) → a ≡ true → b ≡ true → (a && b) ≡ true
and_both true b e f = f
and_both false b e f = absurd cc

-- where one attribute of a kind is found, there is one
some_mine : {B : Type 0} (P : Attribute → Type 0) (mine : Attribute → Bool) (Holds : B → List ℕ → Type 0) (attributes : List Attribute) (b : B) → AllByRecursion P attributes
    → IsOneAmong mine Holds attributes (Some b) → (a : Attribute) × (mine a ≡ true) × Holds b a.content × P a
some_mine P mine Holds [] b all one = absurd one
some_mine {B = B} P mine Holds (a ∷ attributes) b all one = by_test (λ h. some_mine P mine Holds attributes b all.1 h) (mine a) refl one
  where
    by_test : (IsOneAmong mine Holds attributes (Some b) → (a : Attribute) × (mine a ≡ true) × Holds b a.content × P a) → (t : Bool) → mine a ≡ t
        → One Holds (cond t (a ∷ filter mine attributes) (filter mine attributes)) (Some b) → (a : Attribute) × (mine a ≡ true) × Holds b a.content × P a
    by_test others true e one = (a, e, only (filter mine attributes) one, all.0)
      where
        only : (others : List Attribute) → One Holds (a ∷ others) (Some b) → Holds b a.content
        only [] h = h
        only (x ∷ xs) h = absurd h
    by_test others false e one = others one

-- an attribute that stands alone
alone : {B : Type 0} (mine : Attribute → Bool) (Holds : B → List ℕ → Type 0) (a : Attribute) (b : B) → mine a ≡ true → Holds b a.content → IsOneAmong mine Holds (a ∷ []) (Some b)
alone mine Holds a b e h = rw e h

is_named : (pool : Pool) (i : ℕ) (expected : List ℕ) → is_text_of pool i expected ≡ true → is_some (text pool i) ≡ true
is_named pool i expected t = given (text pool i) t
  where
    given : (o : Option (List ℕ)) → is_given expected o ≡ true → is_some o ≡ true
    given None t = absurd cc
    given (Some x) t = refl

none_there : (pool : Pool) → AreAttributes pool []
none_there pool = record { few = omega arith; each = tt }

one_there : (pool : Pool) (a : Attribute) → IsAttribute pool a → AreAttributes pool (a ∷ [])
one_there pool a h = record { few = omega arith; each = (h, tt) }

abbrev ConstantSpells : Pool → Bool → ℕ → List Attribute → Type 0
ConstantSpells pool static n attributes = AreAttributes pool attributes × IsOneAmong (is_constant pool static) IsConstant attributes (constant_of n)

-- the least place of a name that the pool has
least_named : (pool : Pool) (expected : List ℕ) → HasName pool expected → is_text_of pool (least_place pool expected) expected ≡ true
least_named pool expected h = least_is pool expected h.0 h.1

constant_spelled : (pool : Pool) (static : Bool) (n : ℕ) → MayHaveConstant pool static n → ConstantSpells pool static n (constant_attributes pool n)
constant_spelled pool static zero h = (none_there pool, tt)
constant_spelled pool static (suc n) h =
    let place = least_named pool (codes "ConstantValue") h.1 in
    let mine = and_both static (is_text_of pool (least_place pool (codes "ConstantValue")) (codes "ConstantValue")) h.0 place in (
      one_there pool (record { name = least_place pool (codes "ConstantValue"); content = u2 (suc n) }) (is_named pool (least_place pool (codes "ConstantValue")) (codes "ConstantValue") place, omega arith),
      alone (is_constant pool static) IsConstant (record { name = least_place pool (codes "ConstantValue"); content = u2 (suc n) }) (suc n) mine refl,
    )

-- the attributes of a field whose bytes are there
constant_named : (pool : Pool) (static : Bool) (n : ℕ) (attributes : List Attribute) → AreAttributes pool attributes → IsOneAmong (is_constant pool static) IsConstant attributes (constant_of n)
    → MayHaveConstant pool static n
constant_named pool static zero attributes are one = tt
constant_named pool static (suc n) attributes are one =
    let found = some_mine (IsAttribute pool) (is_constant pool static) IsConstant attributes (suc n) are.each one in (
      and_first static (is_text_of pool found.0.name (codes "ConstantValue")) found.1,
      (found.0.name, and_second static (is_text_of pool found.0.name (codes "ConstantValue")) found.1),
    )

field_spelled : (pool : Pool) (interface : Bool) (f : Field) → IsNamedField pool interface f → FieldSpells pool interface f (field_bytes pool f)
field_spelled pool interface f h =
    let constant = constant_spelled pool (interface || has f.flags STATIC) f.constant h in
    (constant_attributes pool f.constant, refl, constant.0, constant.1)

fields_spelled : (pool : Pool) (interface : Bool) (fs : List Field) → AllByRecursion (IsNamedField pool interface) fs → AllSpell (FieldSpells pool interface) fs (flat_map (field_bytes pool) fs)
fields_spelled pool interface [] h = refl
fields_spelled pool interface (f ∷ fs) h = (
  field_bytes pool f,
  flat_map (field_bytes pool) fs,
  flat_map-cons (field_bytes pool) f fs,
  field_spelled pool interface f h.0,
  fields_spelled pool interface fs h.1,
)

fields_named : (pool : Pool) (interface : Bool) (fs : List Field) (bytes : List ℕ) → AllSpell (FieldSpells pool interface) fs bytes → AllByRecursion (IsNamedField pool interface) fs
fields_named pool interface [] bytes h = tt
fields_named pool interface (f ∷ fs) bytes h =
    let field = h.3 in
    (constant_named pool (interface || has f.flags STATIC) f.constant field.0 field.2 field.3, fields_named pool interface fs h.1 h.4)

-- ---- code

-- code with no attributes of its own takes no more bytes than with some
bare_is_short : (code : Code) (skipped : List Attribute) (content : List ℕ) (n : ℕ) → content ≡ code_bytes code skipped → length content < n → length (code_bytes code []) < n
bare_is_short code skipped content n e lt =
    let whole : length (code_bytes code skipped) < n = subst (λ (c : List ℕ). length c < n) e lt in
    let long = simp (length-append {A = ℕ}) at whole in
    simp (length-append {A = ℕ}) (omega (arith, long))

row_length : (row : Catch) → length (catch_bytes row) ≡ 8
row_length row = refl

rows_length : (rows : List Catch) → length (flat_map catch_bytes rows) ≡ 8 * length rows
rows_length [] = refl
rows_length (row ∷ rows) =
    let one = row_length row in
    let others = rows_length rows in
    let whole = ap (length {A = ℕ}) (flat_map-cons catch_bytes row rows) ∙ length-append (catch_bytes row) (flat_map catch_bytes rows) in
    omega (arith, one, others, whole)

-- code that meets the checks is short enough for an attribute
few_is_short : (code : Code) → length code.bytes < 65536 → length code.catches < 256 ^ 2 → length (code_bytes code []) < 256 ^ 4
few_is_short code few few_rows =
    let rows = rows_length code.catches in
    simp (length-append {A = ℕ}) (omega (arith, few, few_rows, rows))

abbrev IsShortCode : Option Code → Type 0
IsShortCode None = Unit {0}
IsShortCode (Some code) = length (code_bytes code []) < 256 ^ 4

abbrev CodeSpells : Pool → Option Code → List Attribute → Type 0
CodeSpells pool code attributes = AreAttributes pool attributes × IsOneAmong (is_code pool) (IsCode pool) attributes code

code_spelled : (pool : Pool) (code : Option Code) → MayHaveCode pool code → IsShortCode code → CodeSpells pool code (code_attributes pool code)
unfolding code_attribute
code_spelled pool None h short = (none_there pool, tt)
code_spelled pool (Some code) h short =
    let place = least_named pool (codes "Code") h in (
      one_there pool (code_attribute pool code) (is_named pool (least_place pool (codes "Code")) (codes "Code") place, short),
      alone (is_code pool) (IsCode pool) (code_attribute pool code) code place ([], none_there pool, refl),
    )

-- the attributes of a method whose bytes are there
code_named : (pool : Pool) (code : Option Code) (attributes : List Attribute) → AreAttributes pool attributes → IsOneAmong (is_code pool) (IsCode pool) attributes code
    → MayHaveCode pool code × IsShortCode code
code_named pool None attributes are one = (tt, tt)
code_named pool (Some code) attributes are one =
    let found = some_mine (IsAttribute pool) (is_code pool) (IsCode pool) attributes code are.each one in
    ((found.0.name, found.1), bare_is_short code found.2.0 found.0.content (256 ^ 4) found.2.2 found.3.1)

method_spelled : (pool : Pool) (m : Method) → IsNamedMethod pool m → IsShortCode m.code → MethodSpells pool m (method_bytes pool m)
method_spelled pool m h short = let code = code_spelled pool m.code h short in (code_attributes pool m.code, refl, code.0, code.1)

abbrev IsShort : Method → Type 0
IsShort m = IsShortCode m.code

methods_spelled : (pool : Pool) (ms : List Method) → AllByRecursion (IsNamedMethod pool) ms → AllByRecursion IsShort ms → AllSpell (MethodSpells pool) ms (flat_map (method_bytes pool) ms)
methods_spelled pool [] h short = refl
methods_spelled pool (m ∷ ms) h short = (
  method_bytes pool m,
  flat_map (method_bytes pool) ms,
  flat_map-cons (method_bytes pool) m ms,
  method_spelled pool m h.0 short.0,
  methods_spelled pool ms h.1 short.1,
)

methods_named : (pool : Pool) (ms : List Method) (bytes : List ℕ) → AllSpell (MethodSpells pool) ms bytes → AllByRecursion (IsNamedMethod pool) ms × AllByRecursion IsShort ms
methods_named pool [] bytes h = (tt, tt)
methods_named pool (m ∷ ms) bytes h =
    let method = h.3 in
    let code = code_named pool m.code method.0 method.2 method.3 in
    let others = methods_named pool ms h.1 h.4 in
    ((code.0, others.0), (code.1, others.1))

-- methods that meet the checks have short code
code_is_short : (pool : Pool) (major slots : ℕ) (takes : Bool) (code : Option Code) → CodeIs pool major slots takes code → IsShortCode code
code_is_short pool major slots takes None h = tt
code_is_short pool major slots takes (Some code) h = let code_holds = h.1 in few_is_short code code_holds.few code_holds.few_rows

methods_are_short : (pool : Pool) (major : ℕ) (front ms : List Method) → EachBehind (MethodHolds pool major) front ms → AllByRecursion IsShort ms
methods_are_short pool major front [] h = tt
methods_are_short pool major front (m ∷ ms) h =
    let first = h.0 in
    (code_is_short pool major (slots_of m.flags first.name first.descriptor) (takes_code m.flags first.name) m.code first.code, methods_are_short pool major (front ++ m ∷ []) ms h.1)

-- ---- the class

-- where the pool has the names of its attributes, the one spelling of a class spells it
spelling_spells : (c : ClassFile) → IsNamed c → AllByRecursion IsShort c.methods → Spells (spelling c) c
unfolding head_bytes members_bytes
spelling_spells c named short = record {
  fields = flat_map (field_bytes c.pool) c.fields;
  methods = flat_map (method_bytes c.pool) c.methods;
  skipped = [];
  are_skipped = none_there c.pool;
  are_fields = fields_spelled c.pool (has c.flags INTERFACE) c.fields named.fields;
  are_methods = methods_spelled c.pool c.methods named.methods short;
  parts = refl;
}

-- where a file holds a class, its one spelling holds it
pub spelling_holds : (file : List ℕ) (c : ClassFile) → File file c → File (spelling c) c
spelling_holds file c h =
    let fields = fields_named c.pool (has c.flags INTERFACE) c.fields h.spelled.fields h.spelled.are_fields in
    let methods = methods_named c.pool c.methods h.spelled.methods h.spelled.are_methods in
    record { spelled = spelling_spells c (record { fields = fields; methods = methods.0 }) methods.1; holds = h.holds }

-- where a class meets every check, and its pool has the names of its attributes, its one spelling holds it
pub holds_spelled : (c : ClassFile) → Holds c → IsNamed c → File (spelling c) c
holds_spelled c h named = record { spelled = spelling_spells c named (methods_are_short c.pool c.major [] c.methods h.methods); holds = h }
