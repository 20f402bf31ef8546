-- Bytes that hold a class are read as that class.
use Rattle.std.proofs.Common.{◌≡◌, ℕ, zero, suc, ◌+◌, ◌<◌, ◌≤◌, ◌^◌, List, [], ◌∷◌, ◌++◌, length, filter, Bool, true, false, cond, Option, Some, None, Ok, refl, sym, ap, subst, ◌∙◌, append_assoc, arith, ◌&&◌, ◌||◌}
use Rattle.std.specs.Prelude.{is_none, is_some, unwrap_or, codes, not, ◌==◌, nat_le, IsTrue, if◌then◌else◌}
use Rattle.std.proofs.lemmas.List.{append-nil}
use Rattle.std.proofs.lemmas.Bool.{le-leb, ne_eqb}
use Rattle.std.specs.List.{flat_map, list_any, AllByRecursion}
use Rattle.std.specs.Str.{bytes_eq}
use Rattle.vx_pool.specs.Place.{Place, place, start}
use Rattle.vx_pool.specs.Reading.{Read, ◌>>=◌, check, number, steps, behind}
use Rattle.vx_pool.specs.ReadingAgain.{Reads, number_reads, reads_then, reads_last, check_passes}
use Rattle.vx_pool.specs.declared.pool.Entry.{Entry}
use Rattle.vx_pool.specs.declared.pool.Entry.TheVariants as entry
use Rattle.vx_pool.specs.declared.pool.Pool.{Pool}
use Rattle.vx_pool.specs.Pool.{size, pool_at}
use Rattle.vx_pool.specs.Spelling.{pool_bytes, IsPool}
use Rattle.vx_pool.specs.Again.{pool_reads}
use Rattle.vx_desc.specs.declared.java_type.Base.{Base}
use Rattle.vx_desc.specs.declared.java_type.Base.TheVariants as base
use Rattle.vx_desc.specs.declared.java_type.JavaType.{JavaType}
use Rattle.vx_desc.specs.Names.{is_field_name, is_method_name}
use Rattle.vx_desc.specs.Descriptors.{is_field_descriptor, is_method_descriptor, field_type}
use Rattle.vx_pool.specs.Lookups.{entry_of, is_usable, class, class_text, text, is_array}
use Rattle.vx_pool.specs.Checks.{first_failing, all_hold}
use Rattle.vx_pool.specs.Entries.{where_read, usable, checks_of, entries_checked}
use Rattle.vx_pool.specs.Holding.{none_fails-from, each_holds-from}
use Rattle.vx_class.specs.declared.class_file.ClassFile.{ClassFile}
use Rattle.vx_class.specs.declared.class_file.Field.{Field}
use Rattle.vx_class.specs.declared.class_file.Method.{Method}
use Rattle.vx_class.specs.declared.class_file.Code.{Code}
use Rattle.vx_class.specs.declared.reading.Head.{Head}
use Rattle.vx_class.specs.Code.{content_at, code_at, all_skipped_at, utf8_at}
use Rattle.vx_class.specs.Members.{has, STATIC, INTERFACE, is_number_for, is_literal, fits_type, is_constant_for, constant_at, field_attribute_at, constant_among, lawful_at, is_given, is_same, field_at, fields_at, method_attribute_at, code_among, takes_code, slots_of, is_lawful_initialiser, method_at, methods_at}
use Rattle.vx_class.specs.Class.{versions_at, checked_pool_at, interface_at, class_at, interfaces_at, head_at, file_at, class_of}
use Rattle.vx_class.specs.Spelling.{u2, u4, MAGIC, Attribute, attribute_bytes, attributes_bytes, IsAttribute, AreAttributes, One, IsOneAmong, is_constant, IsConstant, is_code, IsCode, constant_of, FieldSpells, MethodSpells, AllSpell}
use Rattle.vx_class.specs.File.{CodeHolds, CodeIs, EachBehind, FieldHolds, MethodHolds, IsInterfaceAt, IsClassAt, Holds, File}
use Rattle.vx_class.proofs.Among.{From}
use Rattle.vx_class.proofs.CodeReads.{index_fits, class_usable, utf8_reads, content_reads, some_there, at_cons, at_nil, all_skipped_reads, counted_reads, code_reads}

-- ---- the one attribute of a kind

-- a clause of the one attribute gets a further part
one_both : {B : Type 0} (H : B → List ℕ → Type 0) (P : B → Type 0) (attributes : List Attribute) (found : Option B) → One H attributes found → ((b : B) → found ≡ Some b → P b)
    → One (λ b c. H b c × P b) attributes found
one_both H P [] None h p = tt
one_both H P [] (Some b) h p = h
one_both H P (a ∷ []) None h p = h
one_both H P (a ∷ []) (Some b) h p = (h, p b refl)
one_both H P (a ∷ c ∷ others) None h p = h
one_both H P (a ∷ c ∷ others) (Some b) h p = h

-- the first attribute of a kind is the one
first_is : {B : Type 0} (H : B → List ℕ → Type 0) (a : Attribute) (others : List Attribute) (last : Option B) → One H (a ∷ others) last → (b : B) × (last ≡ Some b) × (others ≡ []) × H b a.content
first_is H a [] None h = absurd h
first_is H a [] (Some b) h = (b, refl, refl, h)
first_is H a (c ∷ others) None h = absurd h
first_is H a (c ∷ others) (Some b) h = absurd h

not_nil : {A : Type 0} (x : A) (xs : List A) → x ∷ xs ≡ [] → ⊥
not_nil x xs e = cc

-- attributes among which one step makes the one of a kind, and passes over the others
among_reads : {B : Type 0} (Named : Attribute → Type 0) (mine : Attribute → Bool) (H : B → List ℕ → Type 0) (step : Option B → Place → Read (Option B))
    → ((a : Attribute) (b : B) → Named a → mine a ≡ true → H b a.content → Reads (step None) (attribute_bytes a) (Some b))
    → ((a : Attribute) (found : Option B) → Named a → mine a ≡ false → Reads (step found) (attribute_bytes a) found)
    → (attributes : List Attribute) (found last : Option B) → AllByRecursion Named attributes → From mine H found attributes last
    → Reads (λ s. steps step found (length attributes) s) (flat_map attribute_bytes attributes) last
unfolding steps
among_reads Named mine H step makes passes [] None None all from at rest = at_nil None at rest
among_reads Named mine H step makes passes [] None (Some b) all from at rest = absurd from
among_reads Named mine H step makes passes [] (Some b) last all from at rest = ap (λ o. Ok (o, place at rest)) (sym from.1) ∙ at_nil last at rest
among_reads {B = B} Named mine H step makes passes (a ∷ others) found last all from at rest =
    at_cons (λ s. steps step found (length (a ∷ others)) s) last attribute_bytes a others at rest
    (by_test (λ next f. among_reads Named mine H step makes passes others next last all.1 f (at + length (attribute_bytes a)) rest) (mine a) refl)
  where
    Others : Type 0
    Others = (next : Option B) → From mine H next others last → steps step next (length others) (place (at + length (attribute_bytes a)) (flat_map attribute_bytes others ++ rest)) ≡ Ok (last, place (at + length (attribute_bytes a) + length (flat_map attribute_bytes others)) rest)

    Read_so : Type 0
    Read_so = (step found (place at ((attribute_bytes a ++ flat_map attribute_bytes others) ++ rest)) >>= λ y. steps step y.0 (length others) y.1) ≡ Ok (last, place (at + length (attribute_bytes a ++ flat_map attribute_bytes others)) rest)

    goes_on : Others → (next : Option B) → Reads (step found) (attribute_bytes a) next → From mine H next others last → Read_so
    goes_on rests next reads f = reads_then (step found) (λ y. steps step y.0 (length others) y.1) (attribute_bytes a) (flat_map attribute_bytes others) next last at rest reads (rests next f)

    mine_first : Others → (f : Option B) → f ≡ found → mine a ≡ true → From mine H f (a ∷ others) last → Read_so
    mine_first rests None same t g =
        let first = first_is H a (filter mine others) last (subst (λ (b : Bool). One H (cond b (a ∷ filter mine others) (filter mine others)) last) t g) in
        goes_on rests (Some first.0) (subst (λ (o : Option B). Reads (step o) (attribute_bytes a) (Some first.0)) same (makes a first.0 all.0 t first.3)) (first.2, first.1)
    mine_first rests (Some b) same t g = absurd (not_nil a (filter mine others) (subst (λ (b : Bool). cond b (a ∷ filter mine others) (filter mine others) ≡ []) t g.0))

    other : (f : Option B) → mine a ≡ false → From mine H f (a ∷ others) last → From mine H f others last
    other None t g = subst (λ (b : Bool). One H (cond b (a ∷ filter mine others) (filter mine others)) last) t g
    other (Some b) t g = (subst (λ (b : Bool). cond b (a ∷ filter mine others) (filter mine others) ≡ []) t g.0, g.1)

    by_test : Others → (b : Bool) → mine a ≡ b → Read_so
    by_test rests true t = mine_first rests found refl t from
    by_test rests false t = goes_on rests found (passes a found all.0 t) (other found t from)

-- the attributes behind their number
attributes_read : {B : Type 0} (pool : Pool) (mine : Attribute → Bool) (H : B → List ℕ → Type 0) (step : Option B → Place → Read (Option B))
    → ((a : Attribute) (b : B) → IsAttribute pool a → mine a ≡ true → H b a.content → Reads (step None) (attribute_bytes a) (Some b))
    → ((a : Attribute) (found : Option B) → IsAttribute pool a → mine a ≡ false → Reads (step found) (attribute_bytes a) found)
    → (attributes : List Attribute) (last : Option B) → AreAttributes pool attributes → IsOneAmong mine H attributes last
    → Reads (λ s. number 2 s >>= λ count. steps step None count.0 count.1) (attributes_bytes attributes) last
attributes_read pool mine H step makes passes attributes last are one at rest =
    reads_then (number 2) (λ count. steps step None count.0 count.1) (u2 (length attributes)) (flat_map attribute_bytes attributes) (length attributes) last at rest (number_reads 2 (length attributes) are.few)
    (among_reads (IsAttribute pool) mine H step makes passes attributes None last are.each one (at + length (u2 (length attributes))) rest)

if_true : {A : Type 0} (b : Bool) (x y z : A) → b ≡ true → x ≡ z → cond b x y ≡ z
if_true true x y z e h = h
if_true false x y z e h = absurd cc

if_false : {A : Type 0} (b : Bool) (x y z : A) → b ≡ false → y ≡ z → cond b x y ≡ z
if_false true x y z e h = absurd cc
if_false false x y z e h = h

-- an attribute that is passed over
pass_reads : {B : Type 0} (pool : Pool) (found : Option B) (a : Attribute) (test : List ℕ → Bool) (mine : ℕ → ℕ × List ℕ → Place → Read (Option B)) → length pool.entries < 256 ^ 2 → IsAttribute pool a
    → ((t : List ℕ) → text pool a.name ≡ Some t → test t ≡ false)
    → Reads (λ s. utf8_at pool s >>= λ name. if test name.0.1 then mine s.at name.0 name.1 else (content_at name.1 >>= λ c. Ok (found, c.1))) (attribute_bytes a) found
pass_reads pool found a test mine few is not_mine at rest =
    let t = some_there (text pool a.name) is.0 in
    reads_then (utf8_at pool) (λ name. if test name.0.1 then mine at name.0 name.1 else (content_at name.1 >>= λ c. Ok (found, c.1))) (u2 a.name) (u4 (length a.content) ++ a.content) (a.name, t.0) found at rest (utf8_reads pool a.name t.0 few t.1)
    (if_false (test t.0) _ _ _ (not_mine t.0 t.1)
    (reads_last content_at (λ c. Ok (found, c.1)) (u4 (length a.content) ++ a.content) a.content found (at + length (u2 a.name)) rest (content_reads a.content is.1) refl))

-- ---- constants

no_number : (b : Base) → is_number_for b None ≡ false
no_number base.Bool = refl
no_number base.Byte = refl
no_number base.Char = refl
no_number base.Double = refl
no_number base.Float = refl
no_number base.Int = refl
no_number base.Long = refl
no_number base.Short = refl
no_number base.Class = refl

no_number_there : (b : Base) → is_number_for b (Some entry.Unusable) ≡ false
no_number_there base.Bool = refl
no_number_there base.Byte = refl
no_number_there base.Char = refl
no_number_there base.Double = refl
no_number_there base.Float = refl
no_number_there base.Int = refl
no_number_there base.Long = refl
no_number_there base.Short = refl
no_number_there base.Class = refl

and_false : (a : Bool) → (a && false) ≡ false
and_false true = refl
and_false false = refl

no_constant : (d : List ℕ) (o : Option Entry) (t : Option JavaType) → ((b : Base) → is_number_for b o ≡ false) → is_literal o ≡ false → fits_type d o t ≡ true → ⊥
no_constant d o None number literal e = cc
no_constant d o (Some t) number literal e =
    let none : fits_type d o (Some t) ≡ false = rw (number t.base, literal, and_false (t.dimensions == 0)) refl in
    cc

constant_usable : (d : List ℕ) (o : Option Entry) → is_constant_for d o ≡ true → is_usable o ≡ true
constant_usable d None e = absurd (no_constant d None (field_type d) no_number refl e)
constant_usable d (Some entry.Unusable) e = absurd (no_constant d (Some entry.Unusable) (field_type d) no_number_there refl e)
constant_usable d (Some (entry.Utf8 x)) e = refl
constant_usable d (Some (entry.Integer x)) e = refl
constant_usable d (Some (entry.Float x)) e = refl
constant_usable d (Some (entry.Long x)) e = refl
constant_usable d (Some (entry.Double x)) e = refl
constant_usable d (Some (entry.Class x)) e = refl
constant_usable d (Some (entry.Text x)) e = refl
constant_usable d (Some (entry.Field x y)) e = refl
constant_usable d (Some (entry.Method x y)) e = refl
constant_usable d (Some (entry.InterfaceMethod x y)) e = refl
constant_usable d (Some (entry.NameAndType x y)) e = refl
constant_usable d (Some (entry.MethodHandle x y)) e = refl
constant_usable d (Some (entry.MethodType x)) e = refl
constant_usable d (Some (entry.InvokeDynamic x y)) e = refl

abbrev Suits : Pool → List ℕ → ℕ → Type 0
Suits pool descriptor constant = is_constant_for descriptor (entry_of pool constant) ≡ true

constant_reads : (pool : Pool) (d : List ℕ) (k name : ℕ) → length pool.entries < 256 ^ 2 → Suits pool d k → Reads (constant_at pool d None name) (u4 (length (u2 k)) ++ u2 k) (Some k)
unfolding constant_at
constant_reads pool d k name few suits at rest =
    let is_there = constant_usable d (entry_of pool k) suits in
    reads_then (number 4) _ (u4 2) (u2 k) 2 (Some k) at rest (number_reads 4 2 (omega arith))
    (reads_last (number 2) _ (u2 k) k (Some k) (at + length (u4 2)) rest (number_reads 2 k (index_fits pool k few is_there))
    (check_passes (usable pool k) (at + length (u4 2)) 5 _ _ is_there (check_passes (is_constant_for d (entry_of pool k)) (at + length (u4 2)) 6 _ _ suits refl)))

-- the constant of a field, if it isn't 0
suits_of : (pool : Pool) (d : List ℕ) (constant k : ℕ) → (constant == 0 || is_constant_for d (entry_of pool constant)) ≡ true → constant_of constant ≡ Some k → Suits pool d k
suits_of pool d zero k e is = absurd cc
suits_of pool d (suc n) k e is =
    let same : suc n ≡ k = cc in
    let some : (suc n == 0) ≡ false = ne_eqb (suc n) 0 (λ h. absurd (omega (arith, h))) in
    subst (Suits pool d) same (subst (λ (b : Bool). (b || is_constant_for d (entry_of pool (suc n))) ≡ true) some e)

unwrapped : (n : ℕ) → unwrap_or (constant_of n) 0 ≡ n
unwrapped zero = refl
unwrapped (suc n) = refl

static_name : (static : Bool) (a : Attribute) (pool : Pool) (t : List ℕ) → text pool a.name ≡ Some t → is_constant pool static a ≡ (static && bytes_eq t (codes "ConstantValue"))
static_name static a pool t is = ap (λ (o : Option (List ℕ)). static && is_given (codes "ConstantValue") o) is

field_attribute_makes : (pool : Pool) (static : Bool) (d : List ℕ) (a : Attribute) (k : ℕ) → length pool.entries < 256 ^ 2 → IsAttribute pool a → is_constant pool static a ≡ true → IsConstant k a.content × Suits pool d k
    → Reads (field_attribute_at pool static d None) (attribute_bytes a) (Some k)
unfolding field_attribute_at
field_attribute_makes pool static d a k few is mine holds at rest =
    let t = some_there (text pool a.name) is.0 in
    let content : Reads (constant_at pool d None at) (u4 (length a.content) ++ a.content) (Some k) = subst (λ (c : List ℕ). Reads (constant_at pool d None at) (u4 (length c) ++ c) (Some k)) (sym holds.0) (constant_reads pool d k at few holds.1) in
    reads_then (utf8_at pool) _ (u2 a.name) (u4 (length a.content) ++ a.content) (a.name, t.0) (Some k) at rest (utf8_reads pool a.name t.0 few t.1)
    (if_true (static && bytes_eq t.0 (codes "ConstantValue")) _ _ _ (sym (static_name static a pool t.0 t.1) ∙ mine) (content (at + length (u2 a.name)) rest))

field_attribute_passes : (pool : Pool) (static : Bool) (d : List ℕ) (a : Attribute) (found : Option ℕ) → length pool.entries < 256 ^ 2 → IsAttribute pool a → is_constant pool static a ≡ false
    → Reads (field_attribute_at pool static d found) (attribute_bytes a) found
unfolding field_attribute_at
field_attribute_passes pool static d a found few is not_mine =
    pass_reads pool found a (λ t. static && bytes_eq t (codes "ConstantValue")) (λ at name s. constant_at pool d found at s) few is (λ t e. sym (static_name static a pool t e) ∙ not_mine)

-- ---- the code of a method

code_name : (a : Attribute) (pool : Pool) (t : List ℕ) → text pool a.name ≡ Some t → is_code pool a ≡ bytes_eq t (codes "Code")
code_name a pool t is = ap (is_given (codes "Code")) is

abbrev pub TakesCode : Pool → ℕ → ℕ → Bool → Code → Type 0
TakesCode pool major slots takes code = (takes ≡ true) × CodeHolds pool major slots code

method_attribute_makes : (pool : Pool) (major slots : ℕ) (takes : Bool) (a : Attribute) (code : Code) → length pool.entries < 256 ^ 2 → IsAttribute pool a → is_code pool a ≡ true
    → IsCode pool code a.content × TakesCode pool major slots takes code → Reads (method_attribute_at pool major slots takes None) (attribute_bytes a) (Some code)
unfolding method_attribute_at
method_attribute_makes pool major slots takes a code few is mine holds at rest =
    let t = some_there (text pool a.name) is.0 in
    let may : (takes && true) ≡ true = rw holds.1.0 refl in
    let content : Reads (code_at pool major slots at) (u4 (length a.content) ++ a.content) code = code_reads pool major slots at code a.content few holds.0 is.1 holds.1.1 in
    reads_then (utf8_at pool) _ (u2 a.name) (u4 (length a.content) ++ a.content) (a.name, t.0) (Some code) at rest (utf8_reads pool a.name t.0 few t.1)
    (if_true (bytes_eq t.0 (codes "Code")) _ _ _ (sym (code_name a pool t.0 t.1) ∙ mine)
    (check_passes (takes && true) at 12 _ _ may
    (reads_last (code_at pool major slots at) (λ c. Ok (Some c.0, c.1)) (u4 (length a.content) ++ a.content) code (Some code) (at + length (u2 a.name)) rest content refl)))

method_attribute_passes : (pool : Pool) (major slots : ℕ) (takes : Bool) (a : Attribute) (found : Option Code) → length pool.entries < 256 ^ 2 → IsAttribute pool a → is_code pool a ≡ false
    → Reads (method_attribute_at pool major slots takes found) (attribute_bytes a) found
unfolding method_attribute_at
method_attribute_passes pool major slots takes a found few is not_mine =
    pass_reads pool found a (λ t. bytes_eq t (codes "Code")) (λ at name s. check (takes && is_none found) at 12 (code_at pool major slots at s >>= λ c. Ok (Some c.0, c.1))) few is (λ t e. sym (code_name a pool t e) ∙ not_mine)

-- ---- members

lawful_reads : (test : List ℕ → Bool) (reason : ℕ) (pool : Pool) (i : ℕ) (t : List ℕ) → length pool.entries < 256 ^ 2 → text pool i ≡ Some t → test t ≡ true → Reads (lawful_at test reason pool) (u2 i) (i, t)
unfolding lawful_at
lawful_reads test reason pool i t few is good at rest =
    reads_last (utf8_at pool) _ (u2 i) (i, t) (i, t) at rest (utf8_reads pool i t few is) (check_passes (test t) at reason _ _ good refl)

field_reads : (pool : Pool) (interface : Bool) (front : List Field) (f : Field) (text : List ℕ) → length pool.entries < 256 ^ 2 → FieldHolds pool front f → FieldSpells pool interface f text
    → Reads (field_at pool interface front) text f
unfolding field_at constant_among
field_reads pool interface front f text few holds spells at rest =
    let attributes = spells.0 in
    let d = holds.descriptor in
    let static = interface || has f.flags STATIC in
    let tail = attributes_bytes attributes in
    let a1 = at + length (u2 f.flags) in
    let a2 = a1 + length (u2 f.name) in
    let a3 = a2 + length (u2 f.descriptor) in
    let among = one_both IsConstant (Suits pool d) (filter (is_constant pool static) attributes) (constant_of f.constant) spells.3 (λ k e. suits_of pool d f.constant k holds.constant e) in
    let read = attributes_read pool (is_constant pool static) (λ k c. IsConstant k c × Suits pool d k) (field_attribute_at pool static d)
    (λ a k is mine h. field_attribute_makes pool static d a k few is mine h) (λ a found is mine. field_attribute_passes pool static d a found few is mine) attributes (constant_of f.constant) spells.2 among in
    subst (λ (t : List ℕ). field_at pool interface front (place at (t ++ rest)) ≡ Ok (f, place (at + length t) rest)) (sym spells.1)
    (reads_then (number 2) _ (u2 f.flags) (u2 f.name ++ (u2 f.descriptor ++ tail)) f.flags f at rest (number_reads 2 f.flags holds.flags)
    (reads_then (lawful_at is_field_name 7 pool) _ (u2 f.name) (u2 f.descriptor ++ tail) (f.name, holds.name) f a1 rest (lawful_reads is_field_name 7 pool f.name holds.name few holds.is_name holds.lawful_name)
    (reads_then (lawful_at is_field_descriptor 8 pool) _ (u2 f.descriptor) tail (f.descriptor, d) f a2 rest (lawful_reads is_field_descriptor 8 pool f.descriptor d few holds.is_descriptor holds.lawful_descriptor)
    (check_passes (not (list_any (λ g. is_same pool g.name g.descriptor holds.name d) front)) at 12 _ _ holds.new
    (reads_last (λ s. number 2 s >>= λ count. steps (field_attribute_at pool static d) None count.0 count.1) _ tail (constant_of f.constant) f a3 rest read
    (ap (λ (k : ℕ). Ok (field_of f k, place (a3 + length tail) rest)) (unwrapped f.constant)))))))
  where
    field_of : Field → ℕ → Field
    field_of g k = record { flags = g.flags; name = g.name; descriptor = g.descriptor; constant = k }

takes_of : (pool : Pool) (major slots : ℕ) (takes : Bool) (found : Option Code) (code : Code) → CodeIs pool major slots takes found → found ≡ Some code → TakesCode pool major slots takes code
takes_of pool major slots takes None code is e = absurd cc
takes_of pool major slots takes (Some c) code is e = let same : c ≡ code = cc in subst (TakesCode pool major slots takes) same is

has_code : (pool : Pool) (major slots : ℕ) (takes : Bool) (found : Option Code) → CodeIs pool major slots takes found → (not takes || is_some found) ≡ true
has_code pool major slots takes None is = rw is refl
has_code pool major slots true (Some c) is = refl
has_code pool major slots false (Some c) is = refl

method_reads : (pool : Pool) (major : ℕ) (front : List Method) (m : Method) (text : List ℕ) → length pool.entries < 256 ^ 2 → MethodHolds pool major front m → MethodSpells pool m text
    → Reads (method_at pool major front) text m
unfolding method_at code_among
method_reads pool major front m text few holds spells at rest =
    let attributes = spells.0 in
    let n = holds.name in
    let d = holds.descriptor in
    let slots = slots_of m.flags n d in
    let takes = takes_code m.flags n in
    let tail = attributes_bytes attributes in
    let a1 = at + length (u2 m.flags) in
    let a2 = a1 + length (u2 m.name) in
    let a3 = a2 + length (u2 m.descriptor) in
    let among = one_both (IsCode pool) (TakesCode pool major slots takes) (filter (is_code pool) attributes) m.code spells.3 (λ c e. takes_of pool major slots takes m.code c holds.code e) in
    let read = attributes_read pool (is_code pool) (λ c t. IsCode pool c t × TakesCode pool major slots takes c) (method_attribute_at pool major slots takes)
    (λ a c is mine h. method_attribute_makes pool major slots takes a c few is mine h) (λ a found is mine. method_attribute_passes pool major slots takes a found few is mine) attributes m.code spells.2 among in
    subst (λ (t : List ℕ). method_at pool major front (place at (t ++ rest)) ≡ Ok (m, place (at + length t) rest)) (sym spells.1)
    (reads_then (number 2) _ (u2 m.flags) (u2 m.name ++ (u2 m.descriptor ++ tail)) m.flags m at rest (number_reads 2 m.flags holds.flags)
    (reads_then (lawful_at is_method_name 7 pool) _ (u2 m.name) (u2 m.descriptor ++ tail) (m.name, n) m a1 rest (lawful_reads is_method_name 7 pool m.name n few holds.is_name holds.lawful_name)
    (reads_then (lawful_at is_method_descriptor 8 pool) _ (u2 m.descriptor) tail (m.descriptor, d) m a2 rest (lawful_reads is_method_descriptor 8 pool m.descriptor d few holds.is_descriptor holds.lawful_descriptor)
    (check_passes (not (list_any (λ g. is_same pool g.name g.descriptor n d) front)) at 12 _ _ holds.new
    (check_passes (is_lawful_initialiser n d) a2 8 _ _ holds.initialiser
    (reads_last (λ s. number 2 s >>= λ count. steps (method_attribute_at pool major slots takes) None count.0 count.1) _ tail m.code m a3 rest read
    (check_passes (not takes || is_some m.code) at 12 _ _ (has_code pool major slots takes m.code holds.code) refl)))))))

behind_reads : {A : Type 0} (item : List A → Place → Read A) (Means : A → List ℕ → Type 0) (P : List A → A → Type 0)
    → ((front : List A) (x : A) (text : List ℕ) → P front x → Means x text → Reads (item front) text x)
    → (front new : List A) (text : List ℕ) → AllSpell Means new text → EachBehind P front new → Reads (λ s. steps (behind item) front (length new) s) text (front ++ new)
unfolding steps
behind_reads {A = A} item Means P reads front [] text spells holds at rest =
    subst (λ (t : List ℕ). (let done : List A × Place → Read (List A) = λ z. Ok z in done (front, place at (t ++ rest)) ≡ done (front ++ [], place (at + length t) rest))) (sym spells)
    (ap (λ (ys : List A). Ok (ys, place at rest)) (sym (append-nil front)) ∙ at_nil (front ++ []) at rest)
behind_reads {A = A} item Means P reads front (x ∷ new) text spells holds at rest =
    let first = spells.0 in
    let others = spells.1 in
    subst (λ (t : List ℕ). steps (behind item) front (length (x ∷ new)) (place at (t ++ rest)) ≡ Ok (front ++ (x ∷ new), place (at + length t) rest)) (sym spells.2)
    (reads_then (behind item front) (λ y. steps (behind item) y.0 (length new) y.1) first others (front ++ x ∷ []) (front ++ (x ∷ new)) at rest
    (λ at rest. reads_last (item front) _ first x (front ++ x ∷ []) at rest (reads front x first holds.0 spells.3) refl)
    (behind_reads item Means P reads (front ++ x ∷ []) new others spells.4 holds.1 (at + length first) rest
    ∙ ap (λ (ys : List A). Ok (ys, place (at + length first + length others) rest)) (append_assoc front (x ∷ []) new)))

counted_behind_reads : {A : Type 0} (item : List A → Place → Read A) (Means : A → List ℕ → Type 0) (P : List A → A → Type 0)
    → ((front : List A) (x : A) (text : List ℕ) → P front x → Means x text → Reads (item front) text x)
    → (xs : List A) (text : List ℕ) → length xs < 256 ^ 2 → AllSpell Means xs text → EachBehind P [] xs → Reads (λ s. number 2 s >>= λ count. steps (behind item) [] count.0 count.1) (u2 (length xs) ++ text) xs
counted_behind_reads item Means P reads xs text few spells holds at rest =
    reads_then (number 2) (λ count. steps (behind item) [] count.0 count.1) (u2 (length xs)) text (length xs) xs at rest (number_reads 2 (length xs) few)
    (behind_reads item Means P reads [] xs text spells holds (at + length (u2 (length xs))) rest)

-- ---- the class

interface_reads : (pool : Pool) (i : ℕ) → length pool.entries < 256 ^ 2 → IsInterfaceAt pool i → Reads (interface_at pool) (u2 i) i
unfolding interface_at
interface_reads pool i few is at rest =
    let is_there = class_usable pool i is in
    reads_last (number 2) _ (u2 i) i i at rest (number_reads 2 i (index_fits pool i few is_there))
    (check_passes (usable pool i) at 5 _ _ is_there (check_passes (is_some (class (entry_of pool i))) at 6 _ _ is refl))

interfaces_all : (pool : Pool) (is : List ℕ) → length pool.entries < 256 ^ 2 → AllByRecursion (IsInterfaceAt pool) is → AllByRecursion (λ i. Reads (interface_at pool) (u2 i) i) is
interfaces_all pool [] few all = tt
interfaces_all pool (i ∷ is) few all = (interface_reads pool i few all.0, interfaces_all pool is few all.1)

class_reads : (pool : Pool) (i : ℕ) → length pool.entries < 256 ^ 2 → IsClassAt pool i → Reads (class_at pool) (u2 i) i
unfolding class_at
class_reads pool i few is at rest =
    reads_last (interface_at pool) _ (u2 i) i i at rest (interface_reads pool i few is.0) (check_passes (where_read (λ name. not (is_array name)) (class_text pool i)) at 6 _ _ is.1 refl)

versions_read : (minor major : ℕ) → minor < 256 ^ 2 → 45 ≤ major → major ≤ 52 → Reads versions_at (u4 MAGIC ++ (u2 minor ++ u2 major)) (minor, major)
unfolding versions_at
versions_read minor major small old new at rest =
    let known : (nat_le 45 major && nat_le major 52) ≡ true = rw (le-leb 45 major old, le-leb major 52 new) refl in
    reads_then (number 4) _ (u4 MAGIC) (u2 minor ++ u2 major) MAGIC (minor, major) at rest (number_reads 4 MAGIC (omega arith))
    (reads_then (number 2) _ (u2 minor) (u2 major) minor (minor, major) (at + length (u4 MAGIC)) rest (number_reads 2 minor small)
    (reads_last (number 2) _ (u2 major) major (minor, major) (at + length (u4 MAGIC) + length (u2 minor)) rest (number_reads 2 major (omega (arith, new)))
    (check_passes (nat_le 45 major && nat_le major 52) (at + length (u4 MAGIC) + length (u2 minor)) 2 _ _ known refl)))

checked_pool_reads : (p : Pool) → IsPool p → AllByRecursion (λ e. IsTrue (all_hold (checks_of p e))) p.entries → Reads checked_pool_at (pool_bytes p) p
unfolding checked_pool_at
checked_pool_reads p is hold at rest =
    let passes : entries_checked p p.entries (at + 2) ≡ Ok tt = each_holds-from (λ e at. first_failing at (checks_of p e)) size (λ e. IsTrue (all_hold (checks_of p e))) (λ e at h. none_fails-from at (checks_of p e) h) p.entries (at + 2) hold in
    reads_last pool_at _ (pool_bytes p) p p at rest (pool_reads p is) (rw passes refl)

abbrev head_of : ClassFile → Head
head_of c = record { minor = c.minor; major = c.major; pool = c.pool; flags = c.flags; this_class = c.this_class; super_class = c.super_class }

abbrev head_text : ClassFile → List ℕ
head_text c = (u4 MAGIC ++ (u2 c.minor ++ u2 c.major)) ++ (pool_bytes c.pool ++ (u2 c.flags ++ (u2 c.this_class ++ u2 c.super_class)))

head_reads : (c : ClassFile) → Holds c → Reads head_at (head_text c) (head_of c)
unfolding head_at
head_reads c h at rest =
    let few = h.pool.few in
    let classes = u2 c.this_class ++ u2 c.super_class in
    let a1 = at + length (u4 MAGIC ++ (u2 c.minor ++ u2 c.major)) in
    let a2 = a1 + length (pool_bytes c.pool) in
    let a3 = a2 + length (u2 c.flags) in
    let a4 = a3 + length (u2 c.this_class) in
    reads_then versions_at _ (u4 MAGIC ++ (u2 c.minor ++ u2 c.major)) (pool_bytes c.pool ++ (u2 c.flags ++ classes)) (c.minor, c.major) (head_of c) at rest (versions_read c.minor c.major h.minor h.old h.new)
    (reads_then checked_pool_at _ (pool_bytes c.pool) (u2 c.flags ++ classes) c.pool (head_of c) a1 rest (checked_pool_reads c.pool h.pool h.entries)
    (reads_then (number 2) _ (u2 c.flags) classes c.flags (head_of c) a2 rest (number_reads 2 c.flags h.flags)
    (reads_then (class_at c.pool) _ (u2 c.this_class) (u2 c.super_class) c.this_class (head_of c) a3 rest (class_reads c.pool c.this_class few h.this_class)
    (reads_last (class_at c.pool) _ (u2 c.super_class) c.super_class (head_of c) a4 rest (class_reads c.pool c.super_class few h.super_class) refl))))

-- all of a file, behind which nothing stands
file_reads : (c : ClassFile) (text : List ℕ) → File text c → file_at (place 0 (text ++ [])) ≡ Ok (c, place (0 + length text) [])
unfolding file_at fields_at methods_at interfaces_at
file_reads c text f =
    let h = f.holds in
    let s = f.spelled in
    let p = c.pool in
    let few = h.pool.few in
    let is_interface = has c.flags INTERFACE in
    let one = u2 (length c.interfaces) ++ flat_map u2 c.interfaces in
    let two = u2 (length c.fields) ++ s.fields in
    let three = u2 (length c.methods) ++ s.methods in
    let four = attributes_bytes s.skipped in
    let a1 = 0 + length (head_text c) in
    let a2 = a1 + length one in
    let a3 = a2 + length two in
    let a4 = a3 + length three in
    subst (λ (t : List ℕ). file_at (place 0 (t ++ [])) ≡ Ok (c, place (0 + length t) [])) (sym s.parts)
    (reads_then head_at _ (head_text c) (one ++ (two ++ (three ++ four))) (head_of c) c 0 [] (head_reads c h)
    (reads_then (interfaces_of p) _ one (two ++ (three ++ four)) c.interfaces c a1 [] (counted_reads (interface_at p) u2 c.interfaces h.few_interfaces (interfaces_all p c.interfaces few h.interfaces))
    (reads_then (fields_of p is_interface) _ two (three ++ four) c.fields c a2 [] (counted_behind_reads (field_at p is_interface) (FieldSpells p is_interface) (FieldHolds p) (λ front x text holds spells. field_reads p is_interface front x text few holds spells) c.fields s.fields h.few_fields s.are_fields h.fields)
    (reads_then (methods_of p c.major) _ three four c.methods c a3 [] (counted_behind_reads (method_at p c.major) (MethodSpells p) (MethodHolds p c.major) (λ front x text holds spells. method_reads p c.major front x text few holds spells) c.methods s.methods h.few_methods s.are_methods h.methods)
    (reads_last (all_skipped_at p) _ four tt c a4 [] (all_skipped_reads p s.skipped few s.are_skipped) refl)))))
  where
    interfaces_of : Pool → Place → Read (List ℕ)
    interfaces_of pool s = interfaces_at pool s

    fields_of : Pool → Bool → Place → Read (List Field)
    fields_of pool interface s = fields_at pool interface s

    methods_of : Pool → ℕ → Place → Read (List Method)
    methods_of pool major s = methods_at pool major s

-- The bytes that hold a class are read as that class.
pub class_reads_all : (bytes : List ℕ) (c : ClassFile) → File bytes c → class_of bytes ≡ Ok c
unfolding class_of
class_reads_all bytes c f =
    let read : file_at (start bytes) ≡ Ok (c, place (0 + length bytes) []) = ap (λ (t : List ℕ). file_at (place 0 t)) (sym (append-nil bytes)) ∙ file_reads c bytes f in
    rw read refl
