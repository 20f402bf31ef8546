-- The program of class files that are named is named.
use Rattle.std.proofs.Common.{All, Bool, List, Ok, Some, [], ap, append_assoc, arith, false, if◌then◌else◌, is_some, length, refl, slice_get, subst, suc, sym, true, unwrap_or, ℕ, ◌++◌, ◌+◌, ◌∙◌, ◌∷◌, ◌≡◌}
use Rattle.std.proofs.lemmas.Grind.{common_steps}
use Rattle.std.proofs.lemmas.List.Folds.{list_all-append}
use Rattle.std.specs.Cmp.Derive.{both_true}
use Rattle.std.specs.List.{list_all}
use Rattle.vx_class.specs.File.{Holds}
use Rattle.vx_class.specs.declared.class_file.ClassFile.{ClassFile}
use Rattle.vx_class.specs.declared.class_file.Method.{Method}
use Rattle.vx_pool.specs.Holding.{and_true}
use Rattle.vx_jump_targets.proofs.Lists.{all_pass}
use Rattle.vx_jump_targets.proofs.WellPlaced.{made_is}
use Rattle.vx_link.specs.Faults.{link_fault}
use Rattle.vx_link.specs.Linked.{empty_clinit, linked_class, linked_classes, linked_methods, method_count, methods_from, methods_of_class, own_clinit, program_of, unless_fault}
use Rattle.vx_link.specs.Parts.{no_class}
use Rattle.vx_link.specs.Tables.{names_of}
use Rattle.vx_link.specs.declared.program.LinkedClass.{LinkedClass}
use Rattle.vx_link.specs.declared.program.LinkedMethod.{LinkedMethod}
use Rattle.vx_link.specs.declared.program.Program.{Program}
use Rattle.vx_list.specs.Places.{item_or}
use Rattle.vx_model.specs.declared.model.OptionField.{OptionField}
use Rattle.vx_opcode.specs.Decode.{instruction_at, shaped_at}
use Rattle.vx_pool.specs.declared.pool.Pool.{Pool}
use Rattle.vx_named_classes.specs.Named.{IsNamed, is_given, is_named_code}
use Rattle.vx_named_classes.proofs.NamedFiles.{file_named, is_named_file}

-- ---- names

names_given : (names : List (List ℕ)) (files : List ClassFile) (methods fields : ℕ) → list_all is_named_file files ≡ true
    → list_all (λ c. is_given c.name) (linked_classes names files methods fields) ≡ true
names_given names [] methods fields h = refl
names_given names (c ∷ files) methods fields h =
    both_true (and_true _ _ (and_true _ _ h).0).0 (names_given names files (methods + method_count c) (fields + length c.fields) (and_true _ _ h).1)

-- ---- the pools of classes by their numbers

-- the classes from a number on have the pools of class files
abbrev HavePools : List LinkedClass → ℕ → List ClassFile → Type 0
HavePools classes from [] = Unit {0}
HavePools classes from (c ∷ files) = ((item_or classes from no_class).pool ≡ c.pool) × HavePools classes (suc from) files

item_behind : (front : List LinkedClass) (c : LinkedClass) (rest : List LinkedClass) → slice_get (front ++ c ∷ rest) (length front) ≡ Some c
item_behind [] c rest = refl
item_behind (d ∷ front) c rest = item_behind front c rest

pools_behind : (names : List (List ℕ)) (front : List LinkedClass) (files : List ClassFile) (methods fields from : ℕ) → from ≡ length front → HavePools (front ++ linked_classes names files methods fields) from files
pools_behind names front [] methods fields from is = tt
pools_behind names front (c ∷ files) methods fields from is =
    let first = linked_class names c methods fields in
    let rest = linked_classes names files (methods + method_count c) (fields + length c.fields) in
    let here : item_or (front ++ first ∷ rest) from no_class ≡ first = rw is (ap (λ o. unwrap_or o no_class) (item_behind front first rest)) in
    let longer : suc from ≡ length (front ++ first ∷ []) = rw is (grown front first) in (
      ap (λ k. k.pool) here,
      subst (λ classes. HavePools classes (suc from) files) (append_assoc front (first ∷ []) rest) (pools_behind names (front ++ first ∷ []) files (methods + method_count c) (fields + length c.fields) (suc from) longer),
    )
  where
    grown : (xs : List LinkedClass) (x : LinkedClass) → suc (length xs) ≡ length (xs ++ x ∷ [])
    grown xs x = grind (arith, common_steps)

pools_of_first : (classes : List LinkedClass) (from : ℕ) (files others : List ClassFile) → HavePools classes from (files ++ others) → HavePools classes from files
pools_of_first classes from [] others h = tt
pools_of_first classes from (c ∷ files) others h = (h.0, pools_of_first classes (suc from) files others h.1)

pools_of_others : (classes : List LinkedClass) (from to : ℕ) (files others : List ClassFile) → to ≡ from + length files → HavePools classes from (files ++ others) → HavePools classes to others
pools_of_others classes from to [] others is h =
    let same : from ≡ to = omega arith in
    subst (λ (n : ℕ). HavePools classes n others) same h
pools_of_others classes from to (c ∷ files) others is h =
    let next : to ≡ suc from + length files = omega arith in
    pools_of_others classes (suc from) to files others next h.1

-- ---- methods

abbrev is_named_in : List LinkedClass → LinkedMethod → Bool
is_named_in classes m = is_named_code (item_or classes m.class.0 no_class).pool m.code

named_there : (classes : List LinkedClass) (class : ℕ) (pool : Pool) (m : Method) → (item_or classes class no_class).pool ≡ pool → is_named_code pool m.code ≡ true → is_named_code (item_or classes class no_class).pool m.code ≡ true
named_there classes class pool m is h = subst (λ (q : Pool). is_named_code q m.code ≡ true) (sym is) h

methods_named : (classes : List LinkedClass) (class : ℕ) (pool : Pool) (methods : List Method) (numbers : List ℕ) → (item_or classes class no_class).pool ≡ pool
    → list_all (λ m. is_named_code pool m.code) methods ≡ true → list_all (is_named_in classes) (linked_methods class pool methods numbers) ≡ true
methods_named classes class pool [] numbers is h = refl
methods_named classes class pool (m ∷ methods) [] is h =
    both_true (named_there classes class pool m is (and_true _ _ h).0) (methods_named classes class pool methods [] is (and_true _ _ h).1)
methods_named classes class pool (m ∷ methods) (n ∷ numbers) is h =
    both_true (named_there classes class pool m is (and_true _ _ h).0) (methods_named classes class pool methods numbers is (and_true _ _ h).1)

clinit_named : (classes : List LinkedClass) (class : ℕ) (own : Bool) → list_all (is_named_in classes) (if own then [] else empty_clinit class ∷ []) ≡ true
unfolding instruction_at shaped_at
clinit_named classes class true = refl
clinit_named classes class false = refl

methods_named_in : (classes : List LinkedClass) (class : ℕ) (c : ClassFile) (numbers : List ℕ) → (item_or classes class no_class).pool ≡ c.pool → is_named_file c ≡ true → list_all (is_named_in classes) (methods_of_class class c numbers) ≡ true
methods_named_in classes class c numbers is h =
    list_all-append (is_named_in classes) (linked_methods class c.pool c.methods numbers) (if is_some (own_clinit c) then [] else empty_clinit class ∷ [])
    ∙ both_true (methods_named classes class c.pool c.methods numbers is (and_true _ _ h).1) (clinit_named classes class (is_some (own_clinit c)))

all_methods_named : (classes : List LinkedClass) (class : ℕ) (files : List ClassFile) (numbers : List (List ℕ)) → HavePools classes class files → list_all is_named_file files ≡ true
    → list_all (is_named_in classes) (methods_from class files numbers) ≡ true
all_methods_named classes class [] numbers have h = refl
all_methods_named classes class (c ∷ files) [] have h =
    list_all-append (is_named_in classes) (methods_of_class class c []) (methods_from (suc class) files [])
    ∙ both_true (methods_named_in classes class c [] have.0 (and_true _ _ h).0) (all_methods_named classes (suc class) files [] have.1 (and_true _ _ h).1)
all_methods_named classes class (c ∷ files) (ns ∷ numbers) have h =
    list_all-append (is_named_in classes) (methods_of_class class c ns) (methods_from (suc class) files numbers)
    ∙ both_true (methods_named_in classes class c ns have.0 (and_true _ _ h).0) (all_methods_named classes (suc class) files numbers have.1 (and_true _ _ h).1)

-- ---- the whole, with any core classes that are named

pub program_named : (core : List ClassFile) (numbers : List (List ℕ)) → list_all is_named_file core ≡ true
    → (classes : List ClassFile) (options : List OptionField) (main : List ℕ) (p : Program) → All Holds classes
    → unless_fault (link_fault classes core options main) (program_of classes core numbers options main) ≡ Ok p → IsNamed p
program_named core numbers core_named classes options main p holds is =
    let all = classes ++ core in
    let linked = linked_classes (names_of all) all 0 0 in
    let have : HavePools linked 0 all = pools_behind (names_of all) [] all 0 0 0 refl in
    let files : list_all is_named_file classes ≡ true = all_pass Holds is_named_file file_named classes holds in
    let both : list_all is_named_file all ≡ true = list_all-append is_named_file classes core ∙ both_true files core_named in
    let placed : length classes ≡ 0 + length classes = omega arith in
    subst IsNamed (made_is (link_fault classes core options main) (program_of classes core numbers options main) p is)
    (record {
      classes = names_given (names_of all) all 0 0 both;
      codes =
          list_all-append (is_named_in linked) (methods_from 0 classes []) (methods_from (length classes) core numbers)
          ∙ both_true
          (all_methods_named linked 0 classes [] (pools_of_first linked 0 classes core have) files)
          (all_methods_named linked (length classes) core numbers (pools_of_others linked 0 (length classes) classes core placed have) core_named);
    })
