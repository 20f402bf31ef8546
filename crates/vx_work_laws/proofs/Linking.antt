-- The class files of the workload link: there is no fault.
use Prim.Native.String.{String}
use Rattle.std.proofs.Common.{List, None, Ok, Option, Some, [], ap, codes, false, map, refl, subst, suc, true, unwrap_or, zero, ℕ, ◌&&◌, ◌++◌, ◌+◌, ◌∙◌, ◌∷◌, ◌≡◌, ◌||◌}
use Rattle.std.proofs.Math.Bool.{or-true}
use Rattle.std.proofs.lemmas.Option.{same_Some}
use Rattle.std.proofs.lemmas.Slice.Eq.{bytes_eq-Decides}
use Rattle.std.specs.List.{list_any, slice_get}
use Rattle.std.specs.Option.{option_or}
use Rattle.std.specs.Prelude.{bytes_eq}
use Rattle.vx_class.specs.declared.class_file.ClassFile.{ClassFile}
use Rattle.vx_class.specs.declared.class_file.Field.{Field}
use Rattle.vx_pool.specs.Lookups.{text}
use Rattle.vx_work_laws.proofs.MainPool.{fields_stand, main_descriptor, main_name, main_pool, named_fields}
use Rattle.vx_work_laws.proofs.References.{pool_with}
use Rattle.vx_gen.specs.Workload.{main_class, option_field, work_file, work_files, work_model, work_option, work_program}
use Rattle.vx_link.specs.CoreFiles.{core_files}
use Rattle.vx_link.specs.Faults.{bad_super, cycle, is_option_field, link_fault, no_main, no_option, twice}
use Rattle.vx_link.specs.Linked.{linked_program, unless_fault}
use Rattle.vx_link.specs.declared.fault.LinkFault.{LinkFault}
use Rattle.vx_link.specs.declared.fault.LinkFault.TheVariants.{NoMain}
use Rattle.vx_link.specs.Written.{field_files}

abbrev main_file : (seed : ℕ) → List String → ClassFile
main_file seed names = work_file (main_class seed names)

-- ---- what doesn't depend on the options

none_twice : (seed : ℕ) (names : List String) → twice core_files (work_files seed names) ≡ None
none_twice seed names = refl

supers_fit : (seed : ℕ) (names : List String) → bad_super (work_files seed names ++ core_files) (work_files seed names) ≡ None
supers_fit seed names = refl

no_cycle : (seed : ℕ) (names : List String) → cycle (work_files seed names ++ core_files) (work_files seed names) ≡ None
no_cycle seed names = refl

-- ---- options

same_text : (a : List ℕ) → bytes_eq a a ≡ true
same_text a = (bytes_eq-Decides a a).1 refl

option_here : (seed : ℕ) (all : List String) (n : String) (at : ℕ) → text (pool_with (main_pool all)) at ≡ Some (codes n) → text (pool_with (main_pool all)) (at + 1) ≡ Some (codes "Z")
    → is_option_field (main_file seed all) (codes n) (record { flags = 0x0009; name = at; descriptor = at + 1; constant = 0 }) ≡ true
option_here seed all n at named typed = rw (named, typed, same_text (codes n)) refl

-- each of the names is that of a field
abbrev HaveFields : (seed : ℕ) (all : List String) → List Field → List String → Type 0
HaveFields seed all fields names = (k : ℕ) (n : String) → slice_get names k ≡ Some n → list_any (is_option_field (main_file seed all) (codes n)) fields ≡ true

one_more : (seed : ℕ) (all : List String) (n : String) (names : List String) (at : ℕ) → text (pool_with (main_pool all)) at ≡ Some (codes n) → text (pool_with (main_pool all)) (at + 1) ≡ Some (codes "Z")
    → HaveFields seed all (field_files (at + 2) (map option_field names)) names → HaveFields seed all (field_files at (map option_field (n ∷ names))) (n ∷ names)
one_more seed all n names at named typed rest zero m there =
    let same : n ≡ m = same_Some n m there in
    subst (λ (o : String). list_any (is_option_field (main_file seed all) (codes o)) (field_files at (map option_field (n ∷ names))) ≡ true) same
    (ap (λ t. t || list_any (is_option_field (main_file seed all) (codes n)) (field_files (at + 2) (map option_field names))) (option_here seed all n at named typed))
one_more seed all n names at named typed rest (suc k) m there =
    ap (λ t. is_option_field (main_file seed all) (codes m) (record { flags = 0x0009; name = at; descriptor = at + 1; constant = 0 }) || t) (rest k m there)
    ∙ or-true (is_option_field (main_file seed all) (codes m) (record { flags = 0x0009; name = at; descriptor = at + 1; constant = 0 }))

have_fields : (seed : ℕ) (names : List String) → HaveFields seed names (field_files 5 (map option_field names)) names
have_fields seed names =
    named_fields (main_pool names) names 5 (fields_stand names) (HaveFields seed names) (λ k n there. cc) (λ n rest at named typed later. one_more seed names n rest at named typed later)

-- those that are left
options_there : (seed : ℕ) (names left : List String) → ((k : ℕ) (n : String) → slice_get left k ≡ Some n → list_any (is_option_field (main_file seed names) (codes n)) (field_files 5 (map option_field names)) ≡ true)
    → no_option (work_files seed names) (map work_option left) ≡ None
options_there seed names [] there = refl
options_there seed names (n ∷ left) there =
    rw (there 0 n refl) (options_there seed names left (λ k m found. there (suc k) m found))

-- ---- main

-- the fault where the only method of its class has this name and this descriptor
abbrev main_fault : (name descriptor : Option (List ℕ)) → Option LinkFault
main_fault name descriptor =
    elim ((bytes_eq (unwrap_or name []) (codes "main") && (bytes_eq (unwrap_or descriptor []) (codes "([Ljava/lang/String;)V") && true)) || false) [ true ↦ None | false ↦ Some NoMain ]

main_is : (seed : ℕ) (names : List String) → no_main (work_files seed names) (codes "Main") ≡ None
main_is seed names = λ i. main_fault (main_name names i) (main_descriptor names i)

-- ---- the whole

pub no_fault : (seed : ℕ) (names : List String) → link_fault (work_files seed names) core_files (work_model names).options (codes "Main") ≡ None
no_fault seed names =
    (λ i. option_or (none_twice seed names i) (option_or (supers_fit seed names i) (option_or (no_cycle seed names i)
    (option_or (options_there seed names names (have_fields seed names) i) (main_is seed names i)))))

pub links : (seed : ℕ) (names : List String) → linked_program (work_files seed names) (work_model names).options (codes "Main") ≡ Ok (work_program seed names)
links seed names = ap (λ fault. unless_fault fault (work_program seed names)) (no_fault seed names)
