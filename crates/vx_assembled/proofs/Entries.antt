-- The entries of an assembled pool meet their checks.
use Rattle.std.proofs.Common.{◌≡◌, ℕ, ◌^◌, ◌<◌, List, [], ◌∷◌, ◌++◌, length, Bool, true, false, not, ◌==◌, ◌&&◌, ◌||◌, Some, if◌then◌else◌, IsTrue, FitsSigned, ◌⊎◌, inl, inr, refl, sym, ap, subst, ◌∙◌, arith, mod-lt, codes}
use Rattle.std.proofs.lemmas.Bool.{and_parts, and_from, or_cases, or_left, or_right, lt-ltb, ltb-true}
use Rattle.std.proofs.lemmas.List.Concat.{flat_map-cons, length-flat_map}
use Rattle.std.specs.Int.{w32, w64}
use Rattle.std.specs.List.{list_all, flat_map, sum_by, AllByRecursion}
use Rattle.std.proofs.lemmas.Slice.Eq.{bytes_eq-Decides}
use Rattle.vx_pool.specs.declared.pool.Entry.{Entry}
use Rattle.vx_pool.specs.declared.pool.Entry.TheVariants as entry
use Rattle.vx_pool.specs.declared.pool.Pool.{Pool}
use Rattle.vx_pool.specs.Spelling.{ArePlaced, IsPool}
use Rattle.vx_pool.specs.Text.{is_text}
use Rattle.vx_desc.specs.Names.{is_unqualified_byte, is_plain_byte, is_init, is_clinit, is_field_name, is_method_name}
use Rattle.vx_desc.specs.Descriptors.{is_field_descriptor, is_method_descriptor}
use Rattle.vx_pool.specs.Checks.{all_hold}
use Rattle.vx_pool.specs.Entries.{checks_of, member_checks}
use Rattle.vx_pool.specs.Lookups as lookups
use Rattle.vx_pool.specs.Lookups.{is_class_text}
use Rattle.vx_class_parts.specs.Constants.{places, in_file, width, entry_of, entries_of, pool_of}
use Rattle.vx_class_parts.specs.Rules.{is_short, is_lawful_class, is_lawful_field, is_lawful_method}
use Rattle.vx_class_parts.specs.declared.constants.Constant.{Constant}
use Rattle.vx_class_parts.specs.declared.constants.Constant.TheVariants as constant
use Rattle.vx_class_parts.specs.declared.constants.Kind.{Kind}
use Rattle.vx_class_parts.specs.declared.constants.Kind.TheVariants as kind
use Rattle.vx_assembled.proofs.Pools.{Has, IsHeld, HoldsOf, placed, one_length}

-- ---- the rules of names

pub record IsClassName (name : List ℕ) : Type 0 where
  pub short : length name < 65536
  pub lawful : is_class_text name ≡ true

pub class_name : (name : List ℕ) → is_lawful_class name ≡ true → IsClassName name
unfolding is_lawful_class
class_name name h =
    let p = and_parts (is_short name) (is_class_text name) h in
    record { short = ltb-true (length name) 65536 p.0; lawful = p.1 }

pub record IsMember (is_name is_descriptor : List ℕ → Bool) (n d : List ℕ) : Type 0 where
  pub short_name : length n < 65536
  pub short_descriptor : length d < 65536
  pub name : is_name n ≡ true
  pub descriptor : is_descriptor d ≡ true

member_of : (is_name is_descriptor : List ℕ → Bool) (name descriptor : List ℕ) → (is_short name && is_short descriptor && is_name name && is_descriptor descriptor) ≡ true
    → IsMember is_name is_descriptor name descriptor
member_of is_name is_descriptor name descriptor h =
    let p = and_parts (is_short name && is_short descriptor && is_name name) (is_descriptor descriptor) h in
    let q = and_parts (is_short name && is_short descriptor) (is_name name) p.0 in
    let r = and_parts (is_short name) (is_short descriptor) q.0 in
    record { short_name = ltb-true (length name) 65536 r.0; short_descriptor = ltb-true (length descriptor) 65536 r.1; name = q.1; descriptor = p.1 }

pub field_member : (name descriptor : List ℕ) → is_lawful_field name descriptor ≡ true → IsMember is_field_name is_field_descriptor name descriptor
unfolding is_lawful_field
field_member name descriptor h = member_of is_field_name is_field_descriptor name descriptor h

pub method_member : (name descriptor : List ℕ) → is_lawful_method name descriptor ≡ true → IsMember is_method_name is_method_descriptor name descriptor
unfolding is_lawful_method
method_member name descriptor h = member_of is_method_name is_method_descriptor name descriptor h

plain_unqualified : (bytes : List ℕ) → list_all is_plain_byte bytes ≡ true → list_all is_unqualified_byte bytes ≡ true
plain_unqualified [] h = refl
plain_unqualified (b ∷ bs) h =
    let p = and_parts (is_plain_byte b) (list_all is_plain_byte bs) h in
    let q = and_parts (is_unqualified_byte b) (not (b == 60 || b == 62)) p.0 in
    and_from (is_unqualified_byte b) (list_all is_unqualified_byte bs) q.0 (plain_unqualified bs p.1)

-- the name of a method is one that a name and type may have
pub method_name_unqualified : (name : List ℕ) → is_method_name name ≡ true → is_field_name name ≡ true
unfolding is_method_name is_field_name
method_name_unqualified name h = by_all (or_cases (is_init name || is_clinit name) (not (length name == 0) && list_all is_plain_byte name) h)
  where
    at_text : (text : List ℕ) → name ≡ text → (not (length text == 0) && list_all is_unqualified_byte text) ≡ true → (not (length name == 0) && list_all is_unqualified_byte name) ≡ true
    at_text text e holds = subst (λ (n : List ℕ). (not (length n == 0) && list_all is_unqualified_byte n) ≡ true) (sym e) holds

    by_initialiser : (is_init name ≡ true) ⊎ (is_clinit name ≡ true) → (not (length name == 0) && list_all is_unqualified_byte name) ≡ true
    by_initialiser (inl e) = at_text (codes "<init>") ((bytes_eq-Decides name (codes "<init>")).0 e) refl
    by_initialiser (inr e) = at_text (codes "<clinit>") ((bytes_eq-Decides name (codes "<clinit>")).0 e) refl

    by_all : ((is_init name || is_clinit name) ≡ true) ⊎ ((not (length name == 0) && list_all is_plain_byte name) ≡ true) → (not (length name == 0) && list_all is_unqualified_byte name) ≡ true
    by_all (inl e) = by_initialiser (or_cases (is_init name) (is_clinit name) e)
    by_all (inr e) =
        let p = and_parts (not (length name == 0)) (list_all is_plain_byte name) e in
        and_from (not (length name == 0)) (list_all is_unqualified_byte name) p.0 (plain_unqualified name p.1)

-- ---- constants of a source

-- a constant by itself
abbrev pub IsLawful : Constant → Type 0
IsLawful (constant.Text t) = (is_text t ≡ true) × (length t < 65536)
IsLawful (constant.Integer n) = FitsSigned w32 n
IsLawful (constant.Long n) = FitsSigned w64 n
IsLawful (constant.Class name) = IsClassName name
IsLawful (constant.Literal t) = length t < 65536
IsLawful (constant.NameAndType name descriptor) = IsMember is_field_name (λ t. is_field_descriptor t || is_method_descriptor t) name descriptor
IsLawful (constant.Member kind.Field class name descriptor) = IsClassName class × IsMember is_field_name is_field_descriptor name descriptor
IsLawful (constant.Member kind.Method class name descriptor) = IsClassName class × IsMember is_method_name is_method_descriptor name descriptor
IsLawful (constant.Member kind.InterfaceMethod class name descriptor) = IsClassName class × IsMember is_method_name is_method_descriptor name descriptor

-- a constant of a pool, and all that it refers to
pub record IsGood (pool : List Constant) (c : Constant) : Type 0 where
  pub lawful : IsLawful c
  pub held : IsHeld pool c

pub class_good : (pool : List Constant) (name : List ℕ) → is_text name ≡ true → IsClassName name → IsHeld pool (constant.Class name) → HoldsOf (IsGood pool) (constant.Class name)
class_good pool name text is held = (record { lawful = is; held = held }, record { lawful = (text, is.short); held = held.1 })

pub text_good : (pool : List Constant) (t : List ℕ) → is_text t ≡ true → length t < 65536 → Has pool (constant.Text t) → IsGood pool (constant.Text t)
text_good pool t text short has = record { lawful = (text, short); held = has }

pub literal_good : (pool : List Constant) (t : List ℕ) → is_text t ≡ true → length t < 65536 → IsHeld pool (constant.Literal t) → HoldsOf (IsGood pool) (constant.Literal t)
literal_good pool t text short held = (record { lawful = short; held = held }, text_good pool t text short held.1)

name_and_type_good : (pool : List Constant) (is_name is_descriptor : List ℕ → Bool) (name descriptor : List ℕ) → is_text name ≡ true → is_text descriptor ≡ true
    → IsMember is_name is_descriptor name descriptor → is_field_name name ≡ true → (is_field_descriptor descriptor || is_method_descriptor descriptor) ≡ true
    → IsHeld pool (constant.NameAndType name descriptor) → HoldsOf (IsGood pool) (constant.NameAndType name descriptor)
name_and_type_good pool is_name is_descriptor name descriptor text_name text_descriptor is lawful_name lawful_descriptor held = (
  record { lawful = record { short_name = is.short_name; short_descriptor = is.short_descriptor; name = lawful_name; descriptor = lawful_descriptor }; held = held },
  text_good pool name text_name is.short_name held.1,
  text_good pool descriptor text_descriptor is.short_descriptor held.2,
)

-- a member by its kind
abbrev pub IsMemberOf : Kind → List ℕ → List ℕ → Type 0
IsMemberOf kind.Field name descriptor = IsMember is_field_name is_field_descriptor name descriptor
IsMemberOf kind.Method name descriptor = IsMember is_method_name is_method_descriptor name descriptor
IsMemberOf kind.InterfaceMethod name descriptor = IsMember is_method_name is_method_descriptor name descriptor

pub member_good : (pool : List Constant) (k : Kind) (class name descriptor : List ℕ) → is_text class ≡ true → is_text name ≡ true → is_text descriptor ≡ true → IsClassName class
    → IsMemberOf k name descriptor → IsHeld pool (constant.Member k class name descriptor) → HoldsOf (IsGood pool) (constant.Member k class name descriptor)
member_good pool kind.Field class name descriptor tc tn td is_class is held = (
  record { lawful = (is_class, is); held = held },
  class_good pool class tc is_class held.1,
  name_and_type_good pool is_field_name is_field_descriptor name descriptor tn td is is.name (or_left (is_field_descriptor descriptor) (is_method_descriptor descriptor) is.descriptor) held.2,
)
member_good pool kind.Method class name descriptor tc tn td is_class is held = (
  record { lawful = (is_class, is); held = held },
  class_good pool class tc is_class held.1,
  name_and_type_good pool is_method_name is_method_descriptor name descriptor tn td is (method_name_unqualified name is.name)
      (or_right (is_field_descriptor descriptor) (is_method_descriptor descriptor) is.descriptor) held.2,
)
member_good pool kind.InterfaceMethod class name descriptor tc tn td is_class is held = (
  record { lawful = (is_class, is); held = held },
  class_good pool class tc is_class held.1,
  name_and_type_good pool is_method_name is_method_descriptor name descriptor tn td is (method_name_unqualified name is.name)
      (or_right (is_field_descriptor descriptor) (is_method_descriptor descriptor) is.descriptor) held.2,
)

-- ---- what the entries of constants that are there say

pub text_there : (pool : List Constant) (t : List ℕ) → places pool < 65536 → length t < 65536 → Has pool (constant.Text t)
    → lookups.entry_of (pool_of pool) (in_file pool (constant.Text t)) ≡ Some (entry.Utf8 t)
text_there pool t few short has =
    (placed pool (constant.Text t) few has).there ∙ ap (λ (b : Bool). Some (if b then entry.Utf8 t else entry.Unusable)) (lt-ltb (length t) 65536 short)

pub class_there : (pool : List Constant) (name : List ℕ) → places pool < 65536 → Has pool (constant.Class name)
    → lookups.entry_of (pool_of pool) (in_file pool (constant.Class name)) ≡ Some (entry.Class (in_file pool (constant.Text name)))
class_there pool name few has = (placed pool (constant.Class name) few has).there

pub name_and_type_there : (pool : List Constant) (name descriptor : List ℕ) → places pool < 65536 → Has pool (constant.NameAndType name descriptor)
    → lookups.entry_of (pool_of pool) (in_file pool (constant.NameAndType name descriptor)) ≡ Some (entry.NameAndType (in_file pool (constant.Text name)) (in_file pool (constant.Text descriptor)))
name_and_type_there pool name descriptor few has = (placed pool (constant.NameAndType name descriptor) few has).there

-- ---- the checks of each kind of entry, over any pool

text_met : (pool : Pool) (i : ℕ) (t : List ℕ) → lookups.entry_of pool i ≡ Some (entry.Utf8 t) → all_hold (checks_of pool (entry.Text i)) ≡ true
text_met pool i t e = rw e refl

class_met : (pool : Pool) (i : ℕ) (name : List ℕ) → lookups.entry_of pool i ≡ Some (entry.Utf8 name) → is_class_text name ≡ true → all_hold (checks_of pool (entry.Class i)) ≡ true
class_met pool i name e lawful = rw (e, lawful) refl

name_and_type_met : (pool : Pool) (i j : ℕ) (name descriptor : List ℕ) → lookups.entry_of pool i ≡ Some (entry.Utf8 name) → lookups.entry_of pool j ≡ Some (entry.Utf8 descriptor)
    → is_field_name name ≡ true → (is_field_descriptor descriptor || is_method_descriptor descriptor) ≡ true → all_hold (checks_of pool (entry.NameAndType i j)) ≡ true
name_and_type_met pool i j name descriptor e f lawful_name lawful_descriptor = rw (e, f, lawful_name, lawful_descriptor) refl

member_met : (is_name is_descriptor : List ℕ → Bool) (pool : Pool) (c n k i j : ℕ) (name descriptor : List ℕ) → lookups.entry_of pool c ≡ Some (entry.Class k)
    → lookups.entry_of pool n ≡ Some (entry.NameAndType i j) → lookups.entry_of pool i ≡ Some (entry.Utf8 name) → lookups.entry_of pool j ≡ Some (entry.Utf8 descriptor)
    → is_name name ≡ true → is_descriptor descriptor ≡ true → all_hold (member_checks is_name is_descriptor pool c n) ≡ true
member_met is_name is_descriptor pool c n k i j name descriptor e f g h lawful_name lawful_descriptor = simp (e, f, g, h, lawful_name, lawful_descriptor) refl

member_checked : (pool : List Constant) (is_name is_descriptor : List ℕ → Bool) (class name descriptor : List ℕ) → places pool < 65536 → IsMember is_name is_descriptor name descriptor
    → IsHeld pool (constant.Class class) → IsHeld pool (constant.NameAndType name descriptor)
    → all_hold (member_checks is_name is_descriptor (pool_of pool) (in_file pool (constant.Class class)) (in_file pool (constant.NameAndType name descriptor))) ≡ true
member_checked pool is_name is_descriptor class name descriptor few is held_class held =
    member_met is_name is_descriptor (pool_of pool) (in_file pool (constant.Class class)) (in_file pool (constant.NameAndType name descriptor))
    (in_file pool (constant.Text class)) (in_file pool (constant.Text name)) (in_file pool (constant.Text descriptor)) name descriptor
    (class_there pool class few held_class.0) (name_and_type_there pool name descriptor few held.0) (text_there pool name few is.short_name held.1)
    (text_there pool descriptor few is.short_descriptor held.2) is.name is.descriptor

-- the entry of a constant
pub entry_checked : (pool : List Constant) (c : Constant) → places pool < 65536 → IsGood pool c → all_hold (checks_of (pool_of pool) (entry_of pool c)) ≡ true
entry_checked pool (constant.Text t) few g = ap (λ (b : Bool). all_hold (checks_of (pool_of pool) (if b then entry.Utf8 t else entry.Unusable))) (lt-ltb (length t) 65536 g.lawful.1)
entry_checked pool (constant.Integer n) few g = refl
entry_checked pool (constant.Long n) few g = refl
entry_checked pool (constant.Class name) few g = class_met (pool_of pool) (in_file pool (constant.Text name)) name (text_there pool name few g.lawful.short g.held.1) g.lawful.lawful
entry_checked pool (constant.Literal t) few g = text_met (pool_of pool) (in_file pool (constant.Text t)) t (text_there pool t few g.lawful g.held.1)
entry_checked pool (constant.NameAndType name descriptor) few g =
    name_and_type_met (pool_of pool) (in_file pool (constant.Text name)) (in_file pool (constant.Text descriptor)) name descriptor
    (text_there pool name few g.lawful.short_name g.held.1) (text_there pool descriptor few g.lawful.short_descriptor g.held.2) g.lawful.name g.lawful.descriptor
entry_checked pool (constant.Member kind.Field class name descriptor) few g = member_checked pool is_field_name is_field_descriptor class name descriptor few g.lawful.1 g.held.1 g.held.2
entry_checked pool (constant.Member kind.Method class name descriptor) few g = member_checked pool is_method_name is_method_descriptor class name descriptor few g.lawful.1 g.held.1 g.held.2
entry_checked pool (constant.Member kind.InterfaceMethod class name descriptor) few g =
    member_checked pool is_method_name is_method_descriptor class name descriptor few g.lawful.1 g.held.1 g.held.2

-- ---- all entries

abbrev pub IsChecked : Pool → Entry → Type 0
IsChecked pool e = IsTrue (all_hold (checks_of pool e))

-- entries from an index on, none of which is the second of a wide entry
record AreEntries (pool : Pool) (es : List Entry) : Type 0 where
  placed : ArePlaced es false
  checked : AllByRecursion (IsChecked pool) es

index_fits : (pool : List Constant) (c : Constant) → in_file pool c < 256 ^ 2
index_fits pool c = mod-lt _ (omega arith)

-- the places of a constant, before others
entries_more : (pool : List Constant) (c : Constant) (others : List Entry) → places pool < 65536 → IsGood pool c → AreEntries (pool_of pool) others → AreEntries (pool_of pool) (entries_of pool c ++ others)
entries_more pool (constant.Long n) others few g all = record { placed = (g.lawful, (refl, all.placed)); checked = (refl, (refl, all.checked)) }
entries_more pool (constant.Text t) others few g all = record {
  placed = subst (λ (b : Bool). ArePlaced ((if b then entry.Utf8 t else entry.Unusable) ∷ others) false) (sym (lt-ltb (length t) 65536 g.lawful.1)) (g.lawful, all.placed);
  checked = (entry_checked pool (constant.Text t) few g, all.checked);
}
entries_more pool (constant.Integer n) others few g all = record { placed = (g.lawful, all.placed); checked = (refl, all.checked) }
entries_more pool (constant.Class name) others few g all =
    record { placed = (index_fits pool (constant.Text name), all.placed); checked = (entry_checked pool (constant.Class name) few g, all.checked) }
entries_more pool (constant.Literal t) others few g all =
    record { placed = (index_fits pool (constant.Text t), all.placed); checked = (entry_checked pool (constant.Literal t) few g, all.checked) }
entries_more pool (constant.NameAndType name descriptor) others few g all = record {
  placed = ((index_fits pool (constant.Text name), index_fits pool (constant.Text descriptor)), all.placed);
  checked = (entry_checked pool (constant.NameAndType name descriptor) few g, all.checked);
}
entries_more pool (constant.Member kind.Field class name descriptor) others few g all = record {
  placed = ((index_fits pool (constant.Class class), index_fits pool (constant.NameAndType name descriptor)), all.placed);
  checked = (entry_checked pool (constant.Member kind.Field class name descriptor) few g, all.checked);
}
entries_more pool (constant.Member kind.Method class name descriptor) others few g all = record {
  placed = ((index_fits pool (constant.Class class), index_fits pool (constant.NameAndType name descriptor)), all.placed);
  checked = (entry_checked pool (constant.Member kind.Method class name descriptor) few g, all.checked);
}
entries_more pool (constant.Member kind.InterfaceMethod class name descriptor) others few g all = record {
  placed = ((index_fits pool (constant.Class class), index_fits pool (constant.NameAndType name descriptor)), all.placed);
  checked = (entry_checked pool (constant.Member kind.InterfaceMethod class name descriptor) few g, all.checked);
}

some_entries : (pool cs : List Constant) → places pool < 65536 → AllByRecursion (IsGood pool) cs → AreEntries (pool_of pool) (flat_map (entries_of pool) cs)
some_entries pool [] few all = record { placed = refl; checked = tt }
some_entries pool (c ∷ cs) few all =
    subst (AreEntries (pool_of pool)) (sym (flat_map-cons (entries_of pool) c cs)) (entries_more pool c (flat_map (entries_of pool) cs) few all.0 (some_entries pool cs few all.1))

count_is : (pool : List Constant) → length (flat_map (entries_of pool) pool) ≡ sum_by width pool
count_is pool = length-flat_map (entries_of pool) pool ∙ (λ i. sum_by (λ (c : Constant). one_length pool c i) pool)

-- a pool that a reading can give, each entry of which meets its checks
pub record IsReadable (pool : Pool) : Type 0 where
  pub is : IsPool pool
  pub entries : AllByRecursion (IsChecked pool) pool.entries

pub pool_readable : (pool : List Constant) → places pool < 65536 → AllByRecursion (IsGood pool) pool → IsReadable (pool_of pool)
pool_readable pool few all =
    let es = some_entries pool pool few all in
    record {
      is = record {
        entries = flat_map (entries_of pool) pool;
        are = refl;
        placed = es.placed;
        few = let n = count_is pool in omega (arith, few, n);
      };
      entries = (refl, es.checked);
    }
