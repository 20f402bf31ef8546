-- The pool of Main: what stands where, and that its entries meet their checks.
use Prim.Native.String.{String}
use Rattle.std.proofs.Common.{Bool, List, Some, [], ap, append_assoc, append-nil, arith, codes, false, length, length-append, map, not, refl, subst, sym, take, true, zero, suc, ℕ, ◌&&◌, ◌*◌, ◌++◌, ◌+◌, ◌≤◌, ◌∙◌, ◌∷◌, ◌≡◌}
use Rattle.std.proofs.lemmas.List.{length-map}
use Rattle.std.proofs.lemmas.List.Folds.{list_all-append, list_any-append}
use Rattle.std.specs.Cmp.Derive.{both_true}
use Rattle.std.specs.List.{flat_map, list_all, list_any, slice_get}
use Rattle.std.specs.Prelude.{bytes_eq, ◌||◌}
use Rattle.vx_class.specs.File.{EachBehind, FieldHolds}
use Rattle.vx_class.specs.Members.{is_same}
use Rattle.vx_class.specs.declared.class_file.Field.{Field}
use Rattle.vx_pool.specs.Holding.{and_true}
use Rattle.vx_pool.specs.Lookups.{text, utf8}
use Rattle.vx_desc.specs.Descriptors.{element_at, field_of, method_of, method_slots, result_at, type_at, types_at}
use Rattle.vx_desc.specs.Names.{is_class_name, is_field_name, is_method_name}
use Rattle.vx_work_laws.proofs.References.{AreChecked, all_checked, all_plain, are_held, is_good, is_held, is_plain, placed, pool_with, reference_stands, six}
use Rattle.vx_work_laws.proofs.Stands.{Stands, all_append, first_stands, item_there, rest_stands}
use Rattle.vx_gen.specs.Workload.{fixed_references, main_class, names_of, option_field, option_names, option_reference}
use Rattle.vx_link.specs.Written.{Reference, entries_of_reference, field_entries, field_files, methods_at, reference_entries, references_at, utf8_entry, written_pool}
use Rattle.vx_pool.specs.Spelling.{IsPool}
use Rattle.vx_pool.specs.declared.pool.Entry.{Entry}
use Rattle.vx_pool.specs.declared.pool.Entry.TheVariants as entry

-- ---- names of options

-- no name equals one before it
abbrev pub are_apart : (before names : List String) → Bool
are_apart before [] = true
are_apart before (n ∷ names) = not (list_any (λ b. bytes_eq (codes b) (codes n)) before) && are_apart (before ++ n ∷ []) names

abbrev pub is_good_name : String → Bool
is_good_name name = is_good (option_reference name)

pub record AreGood (names : List String) : Type 0 where
  pub each : list_all is_good_name names ≡ true
  pub apart : are_apart [] names ≡ true
  pub few : length names ≤ 64

first_good : (test : String → Bool) (names : List String) (count : ℕ) → list_all test names ≡ true → list_all test (take count names) ≡ true
first_good test [] zero all = refl
first_good test [] (suc count) all = refl
first_good test (n ∷ names) zero all = refl
first_good test (n ∷ names) (suc count) all = both_true (and_true _ _ all).0 (first_good test names count (and_true _ _ all).1)

first_apart : (before names : List String) (count : ℕ) → are_apart before names ≡ true → are_apart before (take count names) ≡ true
first_apart before [] zero all = refl
first_apart before [] (suc count) all = refl
first_apart before (n ∷ names) zero all = refl
first_apart before (n ∷ names) (suc count) all = both_true (and_true _ _ all).0 (first_apart (before ++ n ∷ []) names count (and_true _ _ all).1)

first_few : (names : List String) (count bound : ℕ) → length names ≤ bound → length (take count names) ≤ bound
first_few [] zero bound few = few
first_few [] (suc count) bound few = few
first_few (n ∷ names) zero bound few = omega arith
first_few (n ∷ names) (suc count) zero few = absurd (omega (arith, few))
first_few (n ∷ names) (suc count) (suc bound) few = let less = first_few names count bound (omega (arith, few)) in omega (arith, less)

all_are_good : list_all is_good_name option_names ≡ true
unfolding is_field_name is_class_name field_of type_at element_at
all_are_good = refl

all_are_apart : are_apart [] option_names ≡ true
all_are_apart = refl

pub are_good : (count : ℕ) → AreGood (names_of count)
are_good count = record {
  each = first_good is_good_name option_names count all_are_good;
  apart = first_apart [] option_names count all_are_apart;
  few = first_few option_names count 64 (omega arith);
}

-- ---- the parts of the pool

abbrev pub code_entry : List Entry
code_entry = utf8_entry "Code" ∷ []

abbrev pub main_pool : List String → List Entry
main_pool names = written_pool (main_class 0 names) ++ code_entry

abbrev head : List Entry
head = entry.Unusable ∷ entry.Class 2 ∷ entry.Utf8 (codes "Main") ∷ entry.Class 4 ∷ entry.Utf8 (codes "java/lang/Object") ∷ []

abbrev pub field_part : List String → List Entry
field_part names = flat_map field_entries (map option_field names)

abbrev method_part : List Entry
method_part = entry.Utf8 (codes "main") ∷ entry.Utf8 (codes "([Ljava/lang/String;)V") ∷ []

-- where main's name and where the references stand
abbrev pub main_name_at : List String → ℕ
main_name_at names = methods_at (main_class 0 names)

abbrev pub main_references_at : List String → ℕ
main_references_at names = references_at (main_class 0 names)

abbrev pub main_references : List String → List Reference
main_references names = fixed_references ++ map option_reference names

abbrev reference_part : List String → List Entry
reference_part names = reference_entries (main_references_at names) (main_references names)

length_fields : (names : List String) → length (field_part names) ≡ 2 * length names
length_fields [] = refl
length_fields (n ∷ names) = let rest = length_fields names in omega (arith, rest)

pub name_at_is : (names : List String) → main_name_at names ≡ 5 + 2 * length names
name_at_is names = let count = length-map names option_field in omega (arith, count)

pub references_at_is : (names : List String) → main_references_at names ≡ 7 + 2 * length names
references_at_is names = let count = length-map names option_field in omega (arith, count)

whole : (names : List String) → main_pool names ≡ head ++ (field_part names ++ (method_part ++ (reference_part names ++ code_entry)))
whole names = ap (λ rest. head ++ rest) (append_assoc (field_part names) (method_part ++ reference_part names) code_entry)

all_stands : (names : List String) → Stands (main_pool names) 0 (head ++ (field_part names ++ (method_part ++ (reference_part names ++ code_entry))))
all_stands names = record { before = []; after = []; is = whole names ∙ sym (append-nil _); count = refl }

behind_head : (names : List String) → Stands (main_pool names) 5 (field_part names ++ (method_part ++ (reference_part names ++ code_entry)))
behind_head names = rest_stands (main_pool names) 0 5 head (field_part names ++ (method_part ++ (reference_part names ++ code_entry))) (all_stands names) refl

pub fields_stand : (names : List String) → Stands (main_pool names) 5 (field_part names)
fields_stand names = first_stands (main_pool names) 5 (field_part names) (method_part ++ (reference_part names ++ code_entry)) (behind_head names)

behind_fields : (names : List String) → Stands (main_pool names) (main_name_at names) (method_part ++ (reference_part names ++ code_entry))
behind_fields names =
    let count = length_fields names in
    let place = name_at_is names in
    rest_stands (main_pool names) 5 (main_name_at names) (field_part names) (method_part ++ (reference_part names ++ code_entry)) (behind_head names) (omega (arith, count, place))

method_stands : (names : List String) → Stands (main_pool names) (main_name_at names) method_part
method_stands names = first_stands (main_pool names) (main_name_at names) method_part (reference_part names ++ code_entry) (behind_fields names)

behind_method : (names : List String) → Stands (main_pool names) (main_references_at names) (reference_part names ++ code_entry)
behind_method names =
    let name = name_at_is names in
    let place = references_at_is names in
    rest_stands (main_pool names) (main_name_at names) (main_references_at names) method_part (reference_part names ++ code_entry) (behind_fields names) (omega (arith, name, place))

references_stand : (names : List String) → Stands (main_pool names) (main_references_at names) (reference_part names)
references_stand names = first_stands (main_pool names) (main_references_at names) (reference_part names) code_entry (behind_method names)

length_references : (at : ℕ) (references : List Reference) → length (reference_entries at references) ≡ 6 * length references
length_references at [] = refl
length_references at (r ∷ rest) =
    let both = length-append (entries_of_reference at r) (reference_entries (at + 6) rest) in
    let first = six at r in
    let others = length_references (at + 6) rest in
    omega (arith, both, first, others)

-- where the name of the attribute stands
abbrev pub code_name_at : List String → ℕ
code_name_at names = main_references_at names + 6 * length (main_references names)

code_stands : (names : List String) → Stands (main_pool names) (code_name_at names) code_entry
code_stands names =
    let count = length_references (main_references_at names) (main_references names) in
    rest_stands (main_pool names) (main_references_at names) (code_name_at names) (reference_part names) code_entry (behind_method names) (omega (arith, count))

-- ---- texts

pub main_name : (names : List String) → text (pool_with (main_pool names)) (main_name_at names) ≡ Some (codes "main")
main_name names = ap utf8 (item_there (main_pool names) (main_name_at names) method_part (method_stands names) 0 (main_name_at names) (omega arith))

pub main_descriptor : (names : List String) → text (pool_with (main_pool names)) (main_name_at names + 1) ≡ Some (codes "([Ljava/lang/String;)V")
main_descriptor names = ap utf8 (item_there (main_pool names) (main_name_at names) method_part (method_stands names) 1 (main_name_at names + 1) refl)

pub code_name : (names : List String) → text (pool_with (main_pool names)) (code_name_at names) ≡ Some (codes "Code")
code_name names = ap utf8 (item_there (main_pool names) (code_name_at names) code_entry (code_stands names) 0 (code_name_at names) (omega arith))

-- a reference by its number and its index
pub main_reference : (names : List String) (number index : ℕ) (r : Reference) → slice_get (main_references names) number ≡ Some r → index ≡ main_references_at names + 6 * number
    → Stands (main_pool names) index (entries_of_reference index r)
main_reference names number index r there is = reference_stands (main_pool names) (main_references_at names) (main_references names) number index r (references_stand names) there is

-- ---- the whole pool

fixed_are_good : list_all is_good fixed_references ≡ true
unfolding is_field_name is_method_name is_class_name field_of type_at element_at method_slots method_of types_at result_at
fixed_are_good = refl

options_are_good : (names : List String) → list_all is_good_name names ≡ true → list_all is_good (map option_reference names) ≡ true
options_are_good [] all = refl
options_are_good (n ∷ names) all = both_true (and_true _ _ all).0 (options_are_good names (and_true _ _ all).1)

references_are_good : (names : List String) → AreGood names → list_all is_good (main_references names) ≡ true
references_are_good names are =
    list_all-append is_good fixed_references (map option_reference names) ∙ both_true fixed_are_good (options_are_good names are.each)

-- names and descriptors of fields, which are checked where they are named
fields_checked : (pool : List Entry) (names : List String) → AreChecked pool (field_part names)
fields_checked pool [] = tt
fields_checked pool (n ∷ names) = (refl, (refl, fields_checked pool names))

held_name : (name : String) → is_good_name name ≡ true → is_plain (entry.Utf8 (codes name)) ≡ true
held_name name good =
    let held = and_true (are_held (codes "Main") (codes name) (codes "Z")) _ good in
    let behind = and_true (is_held (codes "Main")) (is_held (codes name) && is_held (codes "Z")) held.0 in
    (and_true (is_held (codes name)) (is_held (codes "Z")) behind.1).0

fields_plain : (names : List String) → list_all is_good_name names ≡ true → list_all is_plain (field_part names) ≡ true
fields_plain [] all = refl
fields_plain (n ∷ names) all = both_true (held_name n (and_true _ _ all).0) (fields_plain names (and_true _ _ all).1)

references_few : (names : List String) → AreGood names → main_references_at names + 6 * length (main_references names) ≤ 600
references_few names are =
    let place = references_at_is names in
    let count = length-map names option_reference in
    let few = are.few in
    omega (arith, place, count, few)

-- what stands behind the first, unusable entry
abbrev behind_first : List String → List Entry
behind_first names = entry.Class 2 ∷ entry.Utf8 (codes "Main") ∷ entry.Class 4 ∷ entry.Utf8 (codes "java/lang/Object") ∷ (field_part names ++ (method_part ++ (reference_part names ++ code_entry)))

all_are_plain : (names : List String) → AreGood names → list_all is_plain (behind_first names) ≡ true
all_are_plain names are =
    let few = references_few names are in
    let references = all_plain (main_references_at names) (main_references names) (omega (arith, few)) (references_are_good names are) in
    list_all-append is_plain (field_part names) (method_part ++ (reference_part names ++ code_entry))
    ∙ both_true (fields_plain names are.each) (list_all-append is_plain (reference_part names) code_entry ∙ both_true references refl)

pub pool_is : (names : List String) → AreGood names → IsPool (pool_with (main_pool names))
pool_is names are = record {
  entries = behind_first names;
  are = whole names;
  placed = placed (behind_first names) (all_are_plain names are);
  few =
      let same = ap (length {A = Entry}) (whole names) in
      let first = length-append (field_part names) (method_part ++ (reference_part names ++ code_entry)) in
      let last = length-append (reference_part names) code_entry in
      let fields = length_fields names in
      let references = length_references (main_references_at names) (main_references names) in
      let bound = references_few names are in
      let few = are.few in
      omega (arith, same, first, last, fields, references, bound, few);
}

pub all_are_checked : (names : List String) → AreGood names → AreChecked (main_pool names) (main_pool names)
unfolding is_class_name
all_are_checked names are =
    let pool = main_pool names in
    let references = all_checked pool (main_references_at names) (main_references names) (references_stand names) (references_are_good names are) in
    let behind = all_append _ (reference_part names) code_entry references (refl, tt) in
    let members = all_append _ (field_part names) (method_part ++ (reference_part names ++ code_entry)) (fields_checked pool names) (refl, (refl, behind)) in
    let all : AreChecked pool (head ++ (field_part names ++ (method_part ++ (reference_part names ++ code_entry)))) = (refl, (refl, (refl, (refl, (refl, members))))) in
    subst (AreChecked pool) (sym (whole names)) all

-- ---- the fields

-- what is no name before is no field before
abbrev OnlyThese : (pool : List Entry) → List Field → List String → Type 0
OnlyThese pool front before =
    (name descriptor : List ℕ) → list_any (λ b. bytes_eq (codes b) name) before ≡ false → list_any (λ g. is_same (pool_with pool) g.name g.descriptor name descriptor) front ≡ false

either_false : (a b : Bool) → (a || b) ≡ false → (a ≡ false) × (b ≡ false)
either_false true b e = cc
either_false false b e = (refl, e)

or_false : (b : Bool) → (b || false) ≡ false → b ≡ false
or_false true e = cc
or_false false e = refl

abbrev field_at : ℕ → Field
field_at at = record { flags = 0x0009; name = at; descriptor = at + 1; constant = 0 }

one_more : (pool : List Entry) (front : List Field) (before : List String) (at : ℕ) (n : String) → OnlyThese pool front before → text (pool_with pool) at ≡ Some (codes n)
    → OnlyThese pool (front ++ field_at at ∷ []) (before ++ n ∷ [])
one_more pool front before at n only named name descriptor other =
    let split = either_false _ _ (sym (list_any-append (λ b. bytes_eq (codes b) name) before (n ∷ [])) ∙ other) in
    let last : is_same (pool_with pool) at (at + 1) name descriptor ≡ false = rw (named, or_false (bytes_eq (codes n) name) split.1) refl in
    list_any-append (λ g. is_same (pool_with pool) g.name g.descriptor name descriptor) front (field_at at ∷ [])
    ∙ rw (only name descriptor split.0, last) refl

not_true : (b : Bool) → not b ≡ true → b ≡ false
not_true true e = cc
not_true false e = refl

field_holds : (pool : List Entry) (front : List Field) (before : List String) (at : ℕ) (n : String) → OnlyThese pool front before → text (pool_with pool) at ≡ Some (codes n)
    → text (pool_with pool) (at + 1) ≡ Some (codes "Z") → is_good_name n ≡ true → list_any (λ b. bytes_eq (codes b) (codes n)) before ≡ false
    → FieldHolds (pool_with pool) front (field_at at)
unfolding field_of type_at element_at
field_holds pool front before at n only named typed good new = record {
  name = codes n;
  descriptor = codes "Z";
  is_name = named;
  is_descriptor = typed;
  flags = omega arith;
  lawful_name = (and_true _ _ (and_true _ _ (and_true _ _ good).1).1).0;
  lawful_descriptor = refl;
  new = ap not (only (codes n) (codes "Z") new);
  constant = refl;
}

each_holds : (pool : List Entry) (names : List String) (at : ℕ) (front : List Field) (before : List String) → Stands pool at (field_part names) → list_all is_good_name names ≡ true
    → are_apart before names ≡ true → OnlyThese pool front before → EachBehind (FieldHolds (pool_with pool)) front (field_files at (map option_field names))
each_holds pool [] at front before s good apart only = tt
each_holds pool (n ∷ names) at front before s good apart only =
    let part : List Entry = entry.Utf8 (codes n) ∷ entry.Utf8 (codes "Z") ∷ [] in
    let named : text (pool_with pool) at ≡ Some (codes n) = ap utf8 (item_there pool at (field_part (n ∷ names)) s 0 at (omega arith)) in
    let typed : text (pool_with pool) (at + 1) ≡ Some (codes "Z") = ap utf8 (item_there pool at (field_part (n ∷ names)) s 1 (at + 1) refl) in (
      field_holds pool front before at n only named typed (and_true _ _ good).0 (not_true _ (and_true _ _ apart).0),
      each_holds pool names (at + 2) (front ++ field_at at ∷ []) (before ++ n ∷ []) (rest_stands pool at (at + 2) part (field_part names) s refl) (and_true _ _ good).1 (and_true _ _ apart).1
          (one_more pool front before at n only named),
    )

pub fields_hold : (names : List String) → AreGood names → EachBehind (FieldHolds (pool_with (main_pool names))) [] (field_files 5 (map option_field names))
fields_hold names are = each_holds (main_pool names) names 5 [] [] (fields_stand names) are.each are.apart (λ name descriptor other. refl)

-- the name and the descriptor of an option's field
pub named_fields : (pool : List Entry) (names : List String) (at : ℕ) → Stands pool at (field_part names) → (P : List Field → List String → Type 0) → P [] []
    → ((n : String) (names : List String) (at : ℕ) → text (pool_with pool) at ≡ Some (codes n) → text (pool_with pool) (at + 1) ≡ Some (codes "Z") → P (field_files (at + 2) (map option_field names)) names
    → P (field_files at (map option_field (n ∷ names))) (n ∷ names))
    → P (field_files at (map option_field names)) names
named_fields pool [] at s P none more = none
named_fields pool (n ∷ names) at s P none more =
    let part : List Entry = entry.Utf8 (codes n) ∷ entry.Utf8 (codes "Z") ∷ [] in
    more n names at (ap utf8 (item_there pool at (field_part (n ∷ names)) s 0 at (omega arith))) (ap utf8 (item_there pool at (field_part (n ∷ names)) s 1 (at + 1) refl))
    (named_fields pool names (at + 2) (rest_stands pool at (at + 2) part (field_part names) s refl) P none more)
