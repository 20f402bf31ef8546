-- What is begun is given what it takes: initialisers nothing, and main an array of Strings.
use Rattle.std.proofs.Common.{All, Bool, List, None, Option, Some, [], ap, arith, codes, cond, false, length, refl, slice_get, sym, true, unwrap_or, ℕ, ◌++◌, ◌-◌, ◌<◌, ◌∙◌, ◌∷◌, ◌≡◌}
use Rattle.std.proofs.lemmas.Slice.Eq.{bytes_eq-Decides}
use Rattle.std.specs.List.{find, list_all}
use Rattle.std.proofs.lemmas.Bool.Decides.{nat_tests}
use Rattle.std.specs.Prelude.{nat_lt, not}
use Rattle.vx_class.specs.File.{Holds}
use Rattle.vx_class.specs.Members.{STATIC, has as has_flag}
use Rattle.vx_class.specs.declared.class_file.ClassFile.{ClassFile}
use Rattle.vx_pool.specs.Holding.{and_true}
use Rattle.vx_desc.specs.Descriptors.{element_at, field_of, method_of, result_at, type_at, types_at}
use Rattle.vx_desc.specs.Names.{is_class_name}
use Rattle.vx_jump_targets.proofs.Lists.{all_pass}
use Rattle.vx_link.specs.ClassNames.{array_class, class_element, class_of_name, core_class}
use Rattle.vx_link.specs.Faults.{is_interface_file, link_fault}
use Rattle.vx_link.specs.Linked.{is_main_method, linked_classes, methods_from, methods_named, program_of}
use Rattle.vx_link.specs.Parts.{class_at, class_count, method_at, no_method}
use Rattle.vx_link.specs.Tables.{names_of}
use Rattle.vx_link.specs.declared.program.LinkedMethod.{LinkedMethod}
use Rattle.vx_link.specs.declared.program.Program.{Program}
use Rattle.vx_model.specs.declared.model.OptionField.{OptionField}
use Rattle.vx_program_bounds.proofs.Bounded.{main_declared}
use Rattle.vx_program_bounds.proofs.MainRoom.{HasMain, main_among}
use Rattle.vx_sound.proofs.ClassNumbers.{named_below}
use Rattle.vx_sound.proofs.ClassTypes.{references_type, type_there}
use Rattle.vx_sound.specs.Sound.{HasForms, named_classes}
use Rattle.vx_sound.specs.Values.{type_of_class}
use Rattle.vx_sound_classes.proofs.CoreFacts.{IsCore, is_class_file_in}
use Rattle.vx_sound_classes.proofs.Hierarchy.{file_of}
use Rattle.vx_sound_classes.proofs.Initialisers.{begun_file, all_begin, is_begun, is_initialiser}
use Rattle.vx_sound_classes.proofs.Linked.{Passes, passing, place_is}
use Rattle.vx_sound_classes.proofs.Programs.{IsLinked, all_at, kept, linked_of}
use Rattle.vx_types.specs.Types.{element_found, element_named, element_of_class}
use Rattle.vx_types.specs.declared.types.VerType.TheVariants.{Ref}
use Rattle.vx_verify.specs.Typing.{argument_locals, receiver_locals, values_given}

-- ---- what a method is given by its flags and its descriptor

given_is : (p : Program) (m : ℕ) (descriptor : List ℕ) → has_flag (method_at p m).flags.0 STATIC ≡ true → (method_at p m).descriptor ≡ descriptor → values_given p m ≡ argument_locals p descriptor
given_is p m descriptor static is =
    ap (λ b. receiver_locals p m b ++ argument_locals p (method_at p m).descriptor) static ∙ ap (argument_locals p) is

nothing_given : (p : Program) → argument_locals p (codes "()V") ≡ []
unfolding element_at field_of is_class_name method_of result_at type_at types_at
nothing_given p = refl

strings_given : (p : Program) → argument_locals p (codes "([Ljava/lang/String;)V") ≡ Ref 1 (element_named p (codes "java/lang/String")) ∷ []
unfolding element_at field_of is_class_name method_of result_at type_at types_at
strings_given p = refl

bare_given : (p : Program) (m : ℕ) → is_initialiser (method_at p m) ≡ true → values_given p m ≡ []
bare_given p m is =
    let parts = and_true _ _ is in
    given_is p m (codes "()V") parts.0 ((bytes_eq-Decides (method_at p m).descriptor (codes "()V")).0 parts.1) ∙ nothing_given p

-- ---- the type of an array of Strings

strings_type : (p : Program) (c : ℕ) → class_of_name p (codes "java/lang/String") ≡ Some c
    → Ref 1 (element_named p (codes "java/lang/String")) ≡ type_of_class p (array_class p 1 (class_element (core_class p "java/lang/String")))
strings_type p c is =
    let core : core_class p "java/lang/String" ≡ c = ap (λ o. unwrap_or o 0) is in
    let below = named_below p (codes "java/lang/String") c is in
    let same : c ≡ class_element c - 8 = omega arith in
    ap (λ o. Ref 1 (element_found p (codes "java/lang/String") o)) is
    ∙ ap (λ c. Ref 1 (element_of_class p c)) same
    ∙ sym
    (ap (λ c. type_of_class p (array_class p 1 (class_element c))) core
    ∙ type_there p 1 (class_element c) (omega arith) (omega (arith, below))
    ∙ references_type p 1 (class_element c) (high c))
  where
    high : (c : ℕ) → nat_lt (class_element c) 8 ≡ false
    high c = grind (arith, nat_tests)

-- ---- main

find_passes : {A : Type 0} (test : A → Bool) (xs : List A) (x : A) → find test xs ≡ Some x → test x ≡ true
find_passes test [] x is = cc
find_passes test (y ∷ ys) x is = by (test y) refl is (find_passes test ys x)
  where
    by : (b : Bool) → test y ≡ b → cond b (Some y) (find test ys) ≡ Some x → (find test ys ≡ Some x → test x ≡ true) → test x ≡ true
    by true so is later = ap test (sym (same y x is)) ∙ so
      where
        same : {A : Type 0} (a b : A) → Some a ≡ Some b → a ≡ b
        same a b e = cc
    by false other is later = later is

main_descriptor : (o : Option LinkedMethod) → is_main_method o ≡ true → (unwrap_or o no_method).descriptor ≡ codes "([Ljava/lang/String;)V"
main_descriptor None is = cc
main_descriptor (Some m) is = (bytes_eq-Decides m.descriptor (codes "([Ljava/lang/String;)V")).0 (and_true _ _ is).1

main_given : (p : Program) (numbers : List ℕ) → HasMain p.methods numbers → p.main.0 ≡ unwrap_or (find (λ m. is_main_method (slice_get p.methods m)) numbers) 0
    → values_given p p.main.0 ≡ Ref 1 (element_named p (codes "java/lang/String")) ∷ []
main_given p numbers has is =
    let same : p.main.0 ≡ has.number = is ∙ ap (λ o. unwrap_or o 0) has.found in
    ap (values_given p) same
    ∙ given_is p has.number (codes "([Ljava/lang/String;)V") has.static
    (main_descriptor (slice_get p.methods has.number) (find_passes (λ m. is_main_method (slice_get p.methods m)) numbers has.number has.found))
    ∙ strings_given p

-- ---- the whole

string_in : (core : List ClassFile) → IsCore core → is_class_file_in core (codes "java/lang/String") ≡ true
string_in core is = all_at (λ name. is_class_file_in core (codes name)) named_classes 1 "java/lang/String" is.classes refl

pub forms : (core : List ClassFile) (numbers : List (List ℕ)) → IsCore core → list_all is_begun core ≡ true → (classes : List ClassFile) (options : List OptionField) (main : List ℕ) → All Holds classes
    → link_fault classes core options main ≡ None → HasForms (program_of classes core numbers options main)
forms core numbers is begun classes options main holds none =
    record {
      initialisers = initialisers;
      main =
          main_given p (methods_named (linked_classes (names_of all) all 0 0) main)
          (main_among (names_of all) core main p.methods classes 0 0 0 [] (methods_from (length classes) core numbers) refl refl holds (main_declared classes core options main none))
          refl
          ∙ ap (λ t. t ∷ []) (strings_type p string.found.at (place_is p all known.of (codes "java/lang/String") ∙ string.found.place));
    }
  where
    all : List ClassFile
    all = classes ++ core

    p : Program
    p = program_of classes core numbers options main

    known : IsLinked p classes core
    known = linked_of core is numbers classes options main holds none

    string : Passes all (λ c. not (is_interface_file c)) (codes "java/lang/String")
    string = passing all (λ c. not (is_interface_file c)) (codes "java/lang/String") (kept classes core known.once (λ c. not (is_interface_file c)) (codes "java/lang/String") (string_in core is))

    initialisers : (c : ℕ) → c < class_count p → values_given p (class_at p c).initialiser.0 ≡ []
    initialisers c less =
        let file = file_of p all known.of c less in
        let begins = all_begin (names_of all) classes core numbers (length classes) 0 0 0 c file.0 (all_pass Holds is_begun begun_file classes holds) begun file.1 in
        let place : (class_at p c).initialiser.0 ≡ begins.place = (let same = begins.is in omega (arith, same)) in
        ap (values_given p) place ∙ bare_given p begins.place begins.passes
